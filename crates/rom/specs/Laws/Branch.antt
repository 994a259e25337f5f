-- An aim as a number loses nothing: no branch leads inside to 0. Assumes nothing.
use Rattle.std.specs.Prelude.{◌≡◌, ℕ, ◌-◌, ◌/◌, ◌<◌, ◌≤◌, Bool, ◌&&◌, List, ℤ, pos, negsuc, ◌+ℤ◌, ◌≢◌, nat_le, nat_lt, refl, None, Option}
use Rattle.std.specs.Prelude.{Some}
use Rattle.std.proofs.Common.{sym, ap, arith}
use Rattle.cells.specs.Laws.Tests.{tests, pick_is}
use Rattle.cells.specs.Laws.Facts.{both_hold}
use Rattle.rom.specs.Sizes.{first_place}
use Rattle.rom.specs.Branch.{landing, destination_of, aim_of, place_in}
use Rattle.cells.specs.Choice.{pick}

-- an aim inside is a place of the program
abbrev pub AimFits : ℕ → Option ℕ → Type 0
AimFits size (Some to) = (8 ≤ to) × (to < size)
AimFits size None = Unit {0}

landed : (size : ℕ) (z : ℤ) → AimFits size (landing size z)
landed size (pos to) =
    pick_is (AimFits size) (nat_le first_place to && nat_lt to size) (Some to) None
    (λ t.
    let b = both_hold (nat_le first_place to) (nat_lt to size) t in
    let x = b.0 in
    let y = b.1 in
    (omega (arith, tests), omega (arith, tests)))
    (λ t. tt)
landed size (negsuc n) = tt

module _ (rom : List ℕ) (size : ℕ) (wide : Bool) (at : ℕ) where
  pub aim_fits : AimFits size (aim_of rom size wide at)
  unfolding aim_of
  aim_fits = landed size (destination_of rom wide at)

  pub aim_outside : place_in (aim_of rom size wide at) ≡ 0 → aim_of rom size wide at ≡ None
  aim_outside = none (aim_of rom size wide at) aim_fits
    where
      none : (a : Option ℕ) → AimFits size a → place_in a ≡ 0 → a ≡ None
      none (Some to) f e = let l = f.0 in absurd (omega arith)
      none None f e = refl

  pub aim_inside : (to : ℕ) → to ≡ place_in (aim_of rom size wide at) → (to ≢ 0) → aim_of rom size wide at ≡ Some to
  aim_inside to e n = some (aim_of rom size wide at) e
    where
      some : (a : Option ℕ) → to ≡ place_in a → a ≡ Some to
      some (Some k) e = ap Some (sym e)
      some None e = absurd (n e)

-- for the code's own steps: the place that an offset of `range` values leads to, the upper half of them negative, which is `destination_of`
-- for either width
abbrev pub shifted : ℕ → ℕ → ℕ → ℤ
shifted at range bits = pos at +ℤ pick (nat_lt bits (range / 2)) (pos bits) (negsuc (range - 1 - bits))
