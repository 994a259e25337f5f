-- The one cell that a token gives, by its number and what it sees. Assumes nothing.
use Rattle.std.specs.Prelude.{ℕ, ◌≡◌, [], ◌∷◌}
use Rattle.tokens.specs.Row.{Seen}
use Rattle.tokens.specs.Table.{row_of}
use Rattle.tokens.specs.Code.{code_of}
use Rattle.state.specs.Stacks.{reckoned_of}

-- a token that takes and gives as another does
abbrev pub Like : ℕ → ℕ → Type 0
Like n m = code_of n ≡ code_of m

abbrev pub OfNone : ℕ → ℕ → ℕ → Type 0
OfNone n h r = (s : Seen) → s.height ≡ h → reckoned_of (row_of n).results s ≡ r ∷ []

abbrev pub OfOne : ℕ → ℕ → ℕ → Type 0
OfOne n a r = (s : Seen) → s.cell 0 ≡ a → reckoned_of (row_of n).results s ≡ r ∷ []

abbrev pub OfTwo : ℕ → ℕ → ℕ → ℕ → Type 0
OfTwo n b a r = (s : Seen) → s.cell 1 ≡ b → s.cell 0 ≡ a → reckoned_of (row_of n).results s ≡ r ∷ []

abbrev pub OfThree : ℕ → ℕ → ℕ → ℕ → ℕ → Type 0
OfThree n c b a r = (s : Seen) → s.cell 2 ≡ c → s.cell 1 ≡ b → s.cell 0 ≡ a → reckoned_of (row_of n).results s ≡ r ∷ []
