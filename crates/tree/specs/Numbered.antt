-- What a write and a lookup answer, as document 01 numbers it: done, the node, where the value lies and how many bytes it has; or the
-- refusal. Assumes nothing.
use Rattle.std.specs.Prelude.{[], ◌∷◌, Err, Ok, Result, ℕ}
use Rattle.cells.specs.Numbered.{Numbered, gives, refuses}
use Rattle.tree.specs.Sought.{ValueSought, Value, Unfound}

-- ---- a write
abbrev pub outcome_says : Result (Unit {0}) ℕ → Numbered
outcome_says (Ok tt) = gives []
outcome_says (Err why) = refuses why

-- ---- a lookup
abbrev pub node_says : Result ℕ ℕ → Numbered
node_says (Ok k) = gives (k ∷ [])
node_says (Err why) = refuses why

abbrev pub value_says : ValueSought → Numbered
value_says (Value at size) = gives (at ∷ size ∷ [])
value_says (Unfound why) = refuses why
