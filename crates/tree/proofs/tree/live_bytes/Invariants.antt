use Rattle.std.proofs.Common.{◌+◌, ◌-◌, ◌*◌, ◌≤◌, ◌≡◌}
use Rattle.tree.specs.Held.{live_among}
use Rattle.tree.proofs.tree.live_bytes.Given as goal

-- what is left to sum, with the sum, is the whole
abbrev pub invariant-loop-i : goal.invariant-loop-i
invariant-loop-i l = (l.i ≤ l.held) × (l.sum ≤ l.i * 8589934592)
    × (l.sum + live_among l.name_sizes l.value_sizes (l.held - l.i) l.i ≡ live_among l.name_sizes l.value_sizes l.held 0)
