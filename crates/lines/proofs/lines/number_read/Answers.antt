use Rattle.std.proofs.Common.{eq-eqb, ne_eqb}
use Rattle.lines.specs.Laws.Wrote.{wrote_none, wrote_then}
use Rattle.lines.proofs.lines.number_read.Goals as goal

pub returns-then-value-ne4 : goal.returns-then-value-ne4
returns-then-value-ne4 c = rw (ne_eqb _ _ c.if-value-ne4.true) wrote_none

pub returns : goal.returns
returns c = rw (eq-eqb _ _ c.if-value-ne4.false, ← c.word32.ensures) (wrote_then c.letter-at.ensures c.decimal.ensures)
