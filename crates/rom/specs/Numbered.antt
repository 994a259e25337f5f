-- Where a branch leads, as document 01 numbers it: 19, "taken branch to outside 8..length-1", or the place. Assumes nothing.
use Rattle.std.specs.Prelude.{[], ◌∷◌, None, Option, Some, ℕ}
use Rattle.cells.specs.Numbered.{Numbered, gives, refuses}

abbrev pub aim_says : Option ℕ → Numbered
aim_says (Some to) = gives (to ∷ [])
aim_says None = refuses 19
