use Rattle.lines.specs.Laws.Wrote.{wrote_then}
use Rattle.lines.proofs.digits.hex_byte.Goals as goal

pub returns : goal.returns
returns c = rw (← c.hex_digit-2.ensures, ← c.hex_digit.ensures) (wrote_then c.letter-at.ensures c.letter.ensures)
