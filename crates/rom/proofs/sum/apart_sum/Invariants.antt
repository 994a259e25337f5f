use Rattle.std.proofs.Common.{◌≡◌, ◌-◌, ◌%◌, ◌^◌, ◌≤◌}
use Rattle.rom.specs.Joints.Sum.{apart_sum}
use Rattle.rom.proofs.sum.apart_sum.Given as goal

abbrev pub invariant-loop-k : goal.invariant-loop-k
invariant-loop-k l = (8 ≤ l.k) × (l.k ≤ l.end) × (l.sum ≡ apart_sum l.apart l.rom (l.k - 8) % 2 ^ 16)
