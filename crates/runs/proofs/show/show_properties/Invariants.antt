-- A property's name and value are less than 2 ^ 32 bytes each, and there are few properties.
use Rattle.std.proofs.Common.{◌*◌, ◌≤◌}
use Rattle.runs.proofs.show.show_properties.Given as goal

abbrev pub invariant-loop-k : goal.invariant-loop-k
invariant-loop-k g l = l.at ≤ l.k * 8589934592
