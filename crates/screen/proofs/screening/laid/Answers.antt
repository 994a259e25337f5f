use Rattle.std.proofs.Common.{ℕ, ◌≡◌, refl, sym, List, [], ◌∷◌, ⊎_elim, arith, take, length-take-le}
use borrow.Enum.Refused.{opened}
use types.Run.{OneOf}
use denote.Enum.Declared.{tag_of}
use Rattle.rom.specs.contracts.spread.Spread.{the_type}
use Rattle.rom.specs.declared.spread.Spread.{Spread}
use Rattle.rom.specs.declared.spread.Spread.TheVariants.{One, Two, Four}
use Rattle.screen.specs.Laws.Code.Spread.{judged_bytes}
use Rattle.screen.proofs.screening.laid.Goals as goal

-- a spread ROM is judged by the room
by_room : (s : Spread) (rom room : List ℕ) (n : ℕ) → OneOf (1 ∷ 2 ∷ []) (tag_of the_type s) → take n room ≡ judged_bytes s rom n room
by_room One rom room n h = absurd (⊎_elim (λ e. omega arith) (λ e. omega arith) h)
by_room Two rom room n h = refl
by_room Four rom room n h = refl

pub slice_bounds-result-end : goal.slice_bounds-result-end
slice_bounds-result-end c = sym (length-take-le _ _ c.requires)

pub returns-in_default : goal.returns-in_default
returns-in_default c =
    let a = c.args in
    by_room a.spread a.rom.now a.room.now a.count (opened c.in_default.in_default-own.keys2)
