use Rattle.rom.specs.Words.{letters_of}
use Rattle.lines.specs.Lines.{refused_line}
use Rattle.lines.specs.Laws.Wrote.{wrote_then}
use Rattle.lines.proofs.lines.refused_line.Goals as goal

pub returns : goal.returns
unfolding refused_line letters_of
returns c = wrote_then c.say-at.ensures (wrote_then c.decimal-at.ensures c.letter.ensures)
