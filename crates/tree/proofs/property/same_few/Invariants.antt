use Rattle.std.proofs.Common.{◌≡◌, drop}
use Rattle.tree.specs.Held.{same_bytes}
use Rattle.tree.proofs.property.same_few.Given as goal

-- what is left to compare says what the whole says
abbrev pub invariant-loop-k : goal.invariant-loop-k
invariant-loop-k l = same_bytes (drop l.k l.a) (drop l.k l.b) ≡ same_bytes l.a l.b
