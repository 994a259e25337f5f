use Rattle.std.proofs.Common.{◌+◌, ◌-◌, ◌≤◌, ◌≡◌}
use Rattle.tree.specs.Rows.{count_from}
use Rattle.tree.proofs.rows.count_of.Given as goal

-- what is left to count, with the count, is the whole
abbrev pub invariant-loop-i : goal.invariant-loop-i
invariant-loop-i l = (l.count ≤ l.i) × (l.count + count_from l.owners l.node (l.held - l.i) l.i ≡ count_from l.owners l.node l.held 0)
