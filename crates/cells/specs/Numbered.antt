-- An answer as document 01 numbers it: "Where an answer is an enum, a definition sets out this paper's number and values for each of its
-- cases. The promises use that definition." The number is the refusal's, or 0 where nothing is refused; the values are what the case holds
-- besides. Each crate sets out its own enums in a module of this name; here that of u/mod. Assumes nothing.
use Rattle.std.specs.Prelude.{ℕ, List, [], ◌∷◌}
use Rattle.cells.specs.Arithmetic.{Divided}
use Rattle.cells.specs.Arithmetic.{ByZero, Parts}

pub record Numbered : Type 0 where
  pub number : ℕ
  pub values : List ℕ

-- nothing is refused, and this is handed back; and a refusal, which hands back nothing else
abbrev pub gives : List ℕ → Numbered
gives values = record { number = 0; values = values }

abbrev pub refuses : ℕ → Numbered
refuses why = record { number = why; values = [] }

-- ---- u/mod: 21, "divisor zero", or the remainder, which stands under the quotient, and the quotient
abbrev pub divided_says : Divided → Numbered
divided_says ByZero = refuses 21
divided_says (Parts remainder quotient) = gives (remainder ∷ quotient ∷ [])
