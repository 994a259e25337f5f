-- A place's cell: the heights that a token is met with, as one number. Only this file and src/cell.rt know how it is packed; any other goes
-- by the laws here. Assumes nothing.
use Rattle.std.specs.Prelude.{ℕ, suc, ◌+◌, ◌-◌, ◌*◌, ◌/◌, ◌%◌, ◌≤◌, ◌≡◌, refl, Bool, true, not, ◌&&◌, ◌≢◌, eqb}
use Rattle.std.proofs.Common.{arith, sym, ap, ◌∙◌, ne_eqb}
use Rattle.rom.specs.Sizes.{data_most, return_most}

-- ---- a cell
-- the data height and the return height that a token is met with
pub record TokenHeights : Type 0 where
  pub height : ℕ
  pub back : ℕ

abbrev pub heights : ℕ → ℕ → TokenHeights
heights height back = record { height = height; back = back }

-- 0 where no token was met, else one more than the data height, and 256 times the return height
unfoldable pub cell_with : TokenHeights → ℕ
cell_with h = suc h.height + 256 * h.back

unfoldable pub heights_in : ℕ → TokenHeights
heights_in cell = heights (cell % 256 - 1) (cell / 256)

abbrev pub height_in : ℕ → ℕ
height_in cell = (heights_in cell).height

abbrev pub back_in : ℕ → ℕ
back_in cell = (heights_in cell).back

-- the low byte is the mark
unfoldable pub mark_in : ℕ → ℕ
mark_in cell = cell % 256

-- a token start of a body that is being walked, not met so far
abbrev pub unmet : ℕ
unmet = 0x8000

-- a place's cell is that of a token which was met
abbrev pub is_met : ℕ → Bool
is_met cell = not (eqb cell 0) && not (eqb cell unmet)

-- with the data height so much higher, and then so much lower
unfoldable pub moved_cell : ℕ → ℕ → ℕ → ℕ
moved_cell up down cell = cell + up - down

-- ---- a body is walked from 64, so that it can reach as far down and rise as high as any can that is entered at its need
abbrev pub entered : ℕ
entered = data_most

abbrev pub body_most : ℕ
body_most = entered + data_most

-- the cells that a body and a program start with
abbrev pub entry_cell : ℕ
entry_cell = cell_with (heights entered 0)

abbrev pub first_cell : ℕ
first_cell = cell_with (heights 0 0)

-- no cell is above that of the highest heights
abbrev pub cell_most : ℕ
cell_most = 8321

-- ---- the law of the code, and what follows from it
-- a cell says the heights that it was made of
pub cell_heights : (h : TokenHeights) → h.height ≤ 254 → heights_in (cell_with h) ≡ h
unfolding cell_with heights_in
cell_heights h l =
    let a : (suc h.height + 256 * h.back) % 256 - 1 ≡ h.height = omega arith in
    let b : (suc h.height + 256 * h.back) / 256 ≡ h.back = omega arith in
    rw (a, b) refl

pub height_in_lem : (k r : ℕ) → k ≤ 254 → height_in (cell_with (heights k r)) ≡ k
height_in_lem k r l = ap (λ (h : TokenHeights). h.height) (cell_heights (heights k r) l)

pub back_in_lem : (k r : ℕ) → k ≤ 254 → back_in (cell_with (heights k r)) ≡ r
back_in_lem k r l = ap (λ (h : TokenHeights). h.back) (cell_heights (heights k r) l)

-- the same heights are one cell
pub same_cell : {h k r s : ℕ} → h ≡ k → r ≡ s → cell_with (heights h r) ≡ cell_with (heights k s)
same_cell e f = rw (e, f)

-- two cells are one only where the heights are
pub same_heights : (h k : TokenHeights) → h.height ≤ 254 → k.height ≤ 254 → cell_with h ≡ cell_with k → h ≡ k
same_heights h k l m e = sym (cell_heights h l) ∙ ap heights_in e ∙ cell_heights k m

-- it is not the cell of a place where no token was met
pub cell_some : (h : TokenHeights) → cell_with h ≢ 0
unfolding cell_with
cell_some h = omega arith

-- nor that of a token start of a body which was not met
pub cell_met : (h : TokenHeights) → h.height ≤ body_most → h.back ≤ return_most → cell_with h ≢ unmet
unfolding cell_with
cell_met h l m = omega arith

-- so that the place was met
pub is_met_lem : (h : TokenHeights) → h.height ≤ body_most → h.back ≤ return_most → is_met (cell_with h) ≡ true
is_met_lem h l m = rw (ne_eqb (cell_with h) 0 (cell_some h), ne_eqb (cell_with h) unmet (cell_met h l m))

-- the cells that the code starts with
pub entry_cell_lem : 65 ≡ entry_cell
unfolding cell_with
entry_cell_lem = refl

pub first_cell_lem : 1 ≡ first_cell
unfolding cell_with
first_cell_lem = refl

-- ---- its mark
pub cell_mark : (h : TokenHeights) → h.height ≤ 254 → mark_in (cell_with h) ≡ suc h.height
unfolding cell_with mark_in
cell_mark h l = omega arith

pub mark_none : mark_in 0 ≡ 0
unfolding mark_in
mark_none = refl

pub mark_unmet : mark_in unmet ≡ 0
unfolding mark_in
mark_unmet = refl

-- ---- how large it is
pub cell_most_lem : (h : TokenHeights) → h.height ≤ body_most → h.back ≤ return_most → cell_with h ≤ cell_most
unfolding cell_with
cell_most_lem h l m = omega arith

pub height_low : (cell : ℕ) → height_in cell ≤ 254
unfolding heights_in
height_low cell = omega arith

-- a lower one is no larger
pub lower_cell : (cell n : ℕ) → cell_with (heights (height_in cell - n) (back_in cell)) ≤ cell + 1
unfolding cell_with heights_in
lower_cell cell n = omega arith

-- one of heights within a cap
pub record Bound (cap cell : ℕ) : Type 0 where
  pub height : ℕ
  pub back : ℕ
  pub is : cell ≡ cell_with (heights height back)
  pub low : height ≤ cap
  pub few : back ≤ return_most

-- ---- a cell that is moved
pub moved_cell_lem : (up down : ℕ) (h : TokenHeights) → down ≤ h.height + up
    → moved_cell up down (cell_with h) ≡ cell_with (heights (h.height + up - down) h.back)
unfolding cell_with moved_cell
moved_cell_lem up down h l = omega arith

pub moved_most : (up down cell most : ℕ) → cell ≤ most → moved_cell up down cell ≤ most + (up - down)
unfolding moved_cell
moved_most up down cell most l = omega arith
