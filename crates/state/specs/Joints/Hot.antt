-- Which tokens are done in place and which by value: the code's own choice, which no meaning hangs on. Assumes nothing.
use Rattle.std.specs.Prelude.{ℕ, ◌≡◌, Bool, false, List, [], ◌∷◌}
use Rattle.tokens.specs.Family.{plain, always, choice, divide, pick_up, roll_up, maybe}
use Rattle.tokens.specs.Code.{code_of, family_in}
use Rattle.tokens.specs.Decode.{number_of}
use Rattle.cells.specs.Choice.{among}

-- the families whose tokens are done in place
abbrev pub hot_families : List ℕ
hot_families = plain ∷ always ∷ choice ∷ divide ∷ pick_up ∷ roll_up ∷ maybe ∷ []

abbrev pub hot_family : ℕ → Bool
hot_family f = among f hot_families

-- a token that is not done in place
abbrev pub Cold : List ℕ → ℕ → Type 0
Cold rom place = hot_family (family_in (code_of (number_of rom place))) ≡ false
