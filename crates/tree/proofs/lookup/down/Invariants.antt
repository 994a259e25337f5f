use Rattle.std.proofs.Common.{◌-◌, ◌≤◌, ◌≡◌, length, drop}
use Rattle.tree.specs.Path.{split_of, down_from}
use Rattle.tree.proofs.lookup.down.Given as goal

-- the node from here down is the node
abbrev pub invariant-loop-child : goal.invariant-loop-child
invariant-loop-child l = (l.at ≤ length l.path) × (down_from l.tree l.store l.node (split_of (drop l.at l.path)) ≡ down_from l.tree l.store
    0 (split_of (drop l.from l.path)))

abbrev pub decreases-loop-child : goal.decreases-loop-child
decreases-loop-child l = length l.path - l.at
