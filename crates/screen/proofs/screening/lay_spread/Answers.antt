use Rattle.std.proofs.Common.{ℕ, ◌≡◌, sym, List, [], ◌∷◌, ◌++◌, ⊎_elim, arith, take, drop, length-take-le}
use borrow.Enum.Refused.{opened}
use types.Run.{OneOf}
use denote.Enum.Declared.{tag_of}
use Rattle.rom.specs.Spread.{view_of, laid_on}
use Rattle.rom.specs.contracts.spread.Spread.{the_type}
use Rattle.rom.specs.declared.spread.Spread.{Spread}
use Rattle.rom.specs.declared.spread.Spread.TheVariants.{One, Two, Four}
use Rattle.screen.specs.Laws.Code.Spread.{room_with}
use Rattle.screen.proofs.screening.lay_spread.Goals as goal

-- a spread ROM's bytes are in the front of the room
in_front : (s : Spread) (rom room front : List ℕ) (n : ℕ) → OneOf (1 ∷ 2 ∷ []) (tag_of the_type s)
    → front ≡ laid_on (take n room) (view_of s rom) → front ++ drop n room ≡ room_with s rom n room
in_front One rom room front n h e = absurd (⊎_elim (λ e. omega arith) (λ e. omega arith) h)
in_front Two rom room front n h e = rw e
in_front Four rom room front n h e = rw e

pub slice_bounds-lay_fcode-end-in_default : goal.slice_bounds-lay_fcode-end-in_default
slice_bounds-lay_fcode-end-in_default c = sym (length-take-le _ _ c.requires)

pub returns-in_default : goal.returns-in_default
returns-in_default c =
    let a = c.args in
    in_front a.spread a.rom.now a.room.now _ _ (opened c.in_default.in_default-own.keys2) c.lay_fcode.ensures
