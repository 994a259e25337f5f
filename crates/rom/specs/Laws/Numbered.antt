-- What the enums of this crate say is what the definitions compute. Assumes nothing.
use Rattle.std.specs.Prelude.{◌≡◌, ℕ, Bool, false, ◌&&◌, List, ℤ, pos, negsuc, nat_le, nat_lt, refl, None, Some}
use Rattle.cells.specs.Choice.{pick}
use Rattle.rom.specs.Sizes.{first_place}
use Rattle.rom.specs.Branch.{destination_of, landing, aim_of}
use Rattle.cells.specs.Laws.Numbered.{pick_says}
use Rattle.rom.specs.Numbered.{aim_says}

-- whether a place that an offset leads to lies in 8..length-1
abbrev pub lands_in : ℕ → ℤ → Bool
lands_in length (pos to) = nat_le first_place to && nat_lt to length
lands_in length (negsuc n) = false

-- a branch says 19 exactly where its offset leads to outside 8..length-1
landing_says : (length : ℕ) (to : ℤ) → (aim_says (landing length to)).number ≡ pick (lands_in length to) 0 19
landing_says length (pos to) = pick_says (λ a. (aim_says a).number) (nat_le first_place to && nat_lt to length) (Some to) None
landing_says length (negsuc n) = refl

pub aim_says_lem : (rom : List ℕ) (length : ℕ) (wide : Bool) (at : ℕ)
    → (aim_says (aim_of rom length wide at)).number ≡ pick (lands_in length (destination_of rom wide at)) 0 19
unfolding aim_of
aim_says_lem rom length wide at = landing_says length (destination_of rom wide at)
