use Rattle.std.proofs.Common.{◌≡◌, ℕ, Bool, List}
use Rattle.state.specs.Numbers.{numbers_on, kind_at}
use Rattle.state.specs.declared.state.Numbers.{Numbers}
use Rattle.state.specs.Joints.Tables.{slots_past, table_past}
use Rattle.acts.proofs.tables.fill_tables.Given as goal

abbrev pub Past : List ℕ → List ℕ → Numbers → ℕ → Type 0
Past slots known ns i = (slots ≡ slots_past ns i) × (known ≡ table_past (kind_at ns) ns i)

abbrev pub invariant-loop-i : goal.invariant-loop-i
invariant-loop-i l = (values : List ℕ) (ways : List Bool) → Past l.slots l.known (numbers_on l.names l.kinds values ways l.held) l.i
