use Rattle.lines.specs.Digits.{hex_of}
use Rattle.lines.specs.TokenLines.{place_text}
use Rattle.lines.specs.Laws.Wrote.{wrote_then}
use Rattle.lines.proofs.pieces.place_digits.Goals as goal

pub returns : goal.returns
unfolding place_text hex_of
returns c = wrote_then c.high_digits-at.ensures (wrote_then c.hex_byte-at.ensures c.hex_byte.ensures)
