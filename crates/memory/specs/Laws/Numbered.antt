-- What the enums of this crate say is what the definitions compute. Assumes nothing.
use Rattle.std.specs.Prelude.{ℕ, List, [], ◌∷◌, ◌≡◌, refl, Err, Ok}
use Rattle.std.proofs.Math.Path.{ap}
use Rattle.std.proofs.Common.{◌∙◌}
use Rattle.cells.specs.Choice.{pick}
use Rattle.cells.specs.Numbered.{gives, refuses}
use Rattle.rom.specs.Bytes.{byte_of, word32_of}
use Rattle.memory.specs.Window.{is_nowhere, bad_range, resolve_of}
use Rattle.memory.specs.Cells.{uneven, fetch_cell_of, fetch_byte_of}
use Rattle.cells.specs.Laws.Numbered.{pick_says}
use Rattle.memory.specs.declared.window.Window.{Window}
use Rattle.memory.specs.declared.window.Window.TheVariants.{Rom, Work, Nowhere}
use Rattle.memory.specs.Numbered.{window_says, fetched_says}

-- a range says 22 exactly where it is in no window
pub window_says_lem : (w : Window) → (window_says w).number ≡ pick (is_nowhere w) 22 0
window_says_lem (Rom k) = refl
window_says_lem (Work k) = refl
window_says_lem Nowhere = refl

module _ (rom work : List ℕ) (size address : ℕ) where
  -- a cell that is fetched: 22 in no window, then 23 at an uneven address, else the cell alone
  pub cell_says : fetched_says (fetch_cell_of rom work size address)
      ≡ pick (bad_range rom work size address 4) (refuses 22)
      (pick (uneven address) (refuses 23) (gives (word32_of (resolve_of rom work size address 4) 0 ∷ [])))
  unfolding fetch_cell_of
  cell_says =
      let fetched = Ok (word32_of (resolve_of rom work size address 4) 0) in
      let even = pick (uneven address) (Err 23) fetched in
      pick_says fetched_says (bad_range rom work size address 4) (Err 22) even
      ∙ ap (pick (bad_range rom work size address 4) (refuses 22)) (pick_says fetched_says (uneven address) (Err 23) fetched)

  -- a byte: 22 in no window, else the byte alone
  pub byte_says : fetched_says (fetch_byte_of rom work size address)
      ≡ pick (bad_range rom work size address 1) (refuses 22) (gives (byte_of (resolve_of rom work size address 1) 0 ∷ []))
  unfolding fetch_byte_of
  byte_says = pick_says fetched_says (bad_range rom work size address 1) (Err 22)
      (Ok (byte_of (resolve_of rom work size address 1) 0))
