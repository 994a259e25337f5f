use Rattle.std.proofs.Common.{◌-◌, ◌≡◌}
use Rattle.tree.specs.Path.{child_from, child_named}
use Rattle.tree.proofs.lookup.child_named.Given as goal

-- the child from here on is the child
abbrev pub invariant-loop-k : goal.invariant-loop-k
invariant-loop-k l = child_from l.tree l.store l.node l.part (l.tree.nodes - l.k) l.k ≡ child_named l.tree l.store l.node l.part
