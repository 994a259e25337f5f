use Rattle.std.proofs.Common.{arith, ne_eqb}
use Rattle.lines.specs.Laws.Wrote.{wrote_none}
use Rattle.lines.proofs.lines.own_line.Goals as goal

pub returns-then-owner-node : goal.returns-then-owner-node
returns-then-owner-node c = let a = c.args in rw (ne_eqb a.owner a.node (λ e. omega arith)) wrote_none
