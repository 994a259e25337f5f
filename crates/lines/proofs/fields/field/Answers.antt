use Rattle.rom.specs.Words.{letters_of}
use Rattle.lines.specs.Fields.{field}
use Rattle.lines.specs.Laws.Wrote.{wrote_then}
use Rattle.lines.proofs.fields.field.Goals as goal

pub returns : goal.returns
unfolding field letters_of
returns c = wrote_then c.letter-at.ensures (wrote_then c.doubled-at.ensures c.letter.ensures)
