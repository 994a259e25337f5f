use Rattle.std.proofs.Common.{◌+◌, ◌≤◌, ◌≡◌, length, drop}
use Rattle.tree.specs.Laws.Path.{part_end}
use Rattle.tree.proofs.lookup.part_end.Given as goal

-- the end from here on is the end
abbrev pub invariant-loop-end : goal.invariant-loop-end
invariant-loop-end l = (l.at ≤ l.end) × (l.end ≤ length l.path)
    × (l.end + part_end (drop l.end l.path) ≡ l.at + part_end (drop l.at l.path))
