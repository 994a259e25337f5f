use Rattle.lines.specs.Explain.{at_line}
use Rattle.rom.specs.Words.{letters_of}
use Rattle.lines.specs.Laws.Wrote.{wrote_then}
use Rattle.lines.proofs.explain.at_line.Goals as goal

pub returns : goal.returns
unfolding at_line letters_of
returns c = wrote_then c.say-at.ensures (wrote_then c.end_line-at.ensures c.piece_line-told.ensures.0)
