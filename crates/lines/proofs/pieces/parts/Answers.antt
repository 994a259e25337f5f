use Rattle.lines.specs.TokenLines.{all_shown}
use Rattle.lines.specs.Laws.Wrote.{wrote_none, wrote_then}
use Rattle.lines.proofs.pieces.parts.Goals as goal

pub returns : goal.returns
unfolding all_shown
returns c =
    wrote_then c.shown-at.ensures
    (wrote_then c.shown-at-2.ensures (wrote_then c.shown-at-3.ensures (wrote_then c.shown.ensures wrote_none)))
