use Rattle.std.proofs.Common.{◌-◌, ◌≤◌, ◌≡◌, length, drop}
use Rattle.tree.specs.Held.{same_bytes}
use Rattle.tree.proofs.property.same_words.Given as goal

-- what is left to compare says what the whole says
abbrev pub invariant-loop-k : goal.invariant-loop-k
invariant-loop-k l = (l.k ≤ length l.a) × (same_bytes (drop l.k l.a) (drop l.k l.b) ≡ same_bytes l.a l.b)

abbrev pub decreases-loop-k : goal.decreases-loop-k
decreases-loop-k l = l.last - l.k
