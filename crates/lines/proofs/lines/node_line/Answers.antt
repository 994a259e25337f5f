use Rattle.rom.specs.Words.{letters_of}
use Rattle.lines.specs.Lines.{node_line}
use Rattle.lines.specs.Laws.Wrote.{wrote_then}
use Rattle.lines.proofs.lines.node_line.Goals as goal

pub returns : goal.returns
unfolding node_line letters_of
returns c =
    wrote_then c.say-at.ensures
    (wrote_then c.decimal-at.ensures
    (wrote_then c.say-at-2.ensures (wrote_then c.decimal-at-2.ensures c.letter.ensures)))
