use Rattle.std.proofs.Common.{lt-ltb, le-ltb}
use Rattle.lines.specs.Digits.{hex_of}
use Rattle.lines.specs.Laws.Wrote.{wrote_none, wrote_then}
use Rattle.lines.proofs.pieces.high_digits.Goals as goal

pub returns-then-place-lt65536 : goal.returns-then-place-lt65536
unfolding hex_of
returns-then-place-lt65536 c = rw (lt-ltb _ _ c.if-place-lt65536.true) wrote_none

pub returns : goal.returns
unfolding hex_of
returns c = rw (le-ltb _ _ c.if-place-lt65536.false) (wrote_then c.hex_byte-at.ensures c.hex_byte.ensures)
