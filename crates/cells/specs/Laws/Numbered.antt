-- What the enums of this crate say is what the definitions compute. Assumes nothing.
use Rattle.std.specs.Prelude.{◌≡◌, ℕ, Bool, true, false, [], ◌∷◌, ◌==◌, refl}
use Rattle.cells.specs.Choice.{pick}
use Rattle.cells.specs.Arithmetic.{remainder_of, quotient_of, divided_of}
use Rattle.cells.specs.Arithmetic.{ByZero, Parts}
use Rattle.cells.specs.Numbered.{gives, refuses, divided_says}

-- for laws: what is said of a choice by a test is the choice of what is said
pub pick_says {ℓ ℓ'} : {X : Type ℓ} {Y : Type ℓ'} (f : X → Y) (b : Bool) (x y : X) → f (pick b x y) ≡ pick b (f x) (f y)
pick_says f true x y = refl
pick_says f false x y = refl

-- it says 21 exactly where the divisor is 0
pub divided_says_lem : (a b : ℕ) → divided_says (divided_of a b) ≡ pick (b == 0) (refuses 21)
    (gives (remainder_of a b ∷ quotient_of a b ∷ []))
divided_says_lem a b = pick_says divided_says (b == 0) ByZero (Parts (remainder_of a b) (quotient_of a b))
