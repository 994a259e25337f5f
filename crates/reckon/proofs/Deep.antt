-- u/mod, pick, roll and ?dup: a law for each way out of the code, and for a turn of roll's loop. Assumes nothing.
use Prim.Native.Nat.{ℕ, zero, suc, ◌+◌, ◌-◌, ◌/◌, ◌%◌, ◌≤◌, ◌<◌}
use mathlib.Core.Path.{◌≡◌, refl, sym, ap, ◌∙◌}
use mathlib.Core.Bool.{Bool, true, false}
use mathlib.Core.List.{List, [], ◌∷◌, ◌++◌}
use native.Mathlib.Omega.{arith}
use lib.Dec.{eqb}
use lib.ListN.{get_or, set}
use lib.Seq.{get_or-set_other}
use borrow.Author.Tests.{lt-ltb, le-ltb, ne_eqb}
use Rattle.cells.specs.Choice.{pick}
use Rattle.cells.specs.Arithmetic.{divided_of}
use Rattle.cells.specs.Arithmetic.{Divided}
use Rattle.cells.specs.Arithmetic.{ByZero, Parts}
use Rattle.tokens.specs.Table.{ends, lows, highs, doubles, table, row_of}
use Rattle.tokens.specs.Code.{code_of}
use Rattle.state.specs.Stacks.{stacks, left_of, cells_from, plain_of, turned_of}
use Rattle.reckon.proofs.Made.{Works}
use Rattle.state.specs.Joints.Reckoning.{reckoned_as, divide_of, pick_up_of, roll_up_of, maybe_of}
use Rattle.rom.specs.Sizes.{data_most}

-- ---- what u/mod's answer says
abbrev undivided : Divided → Bool
undivided ByZero = true
undivided (Parts r q) = false

abbrev under : Divided → ℕ
under ByZero = 0
under (Parts r q) = r

abbrev over : Divided → ℕ
over ByZero = 0
over (Parts r q) = q

undivided_told : (t : Bool) (r q : ℕ) → undivided (pick t ByZero (Parts r q)) ≡ t
undivided_told true r q = refl
undivided_told false r q = refl

module _ (x y : ℕ) where
  pub by_zero : ByZero ≡ divided_of x y → eqb y 0 ≡ true
  by_zero e = sym (undivided_told (eqb y 0) (x % y) (x / y)) ∙ sym (ap undivided e)

  pub parted : (r q : ℕ) → Parts r q ≡ divided_of x y → (eqb y 0 ≡ false) × (r ≡ x % y) × (q ≡ x / y)
  parted r q e =
      let z : eqb y 0 ≡ false = sym (undivided_told (eqb y 0) (x % y) (x / y)) ∙ sym (ap undivided e) in
      let d : Parts r q ≡ Parts (x % y) (x / y) = rw z at e in
      (z, ap under d, ap over d)

-- ---- the ways out
module _ (h b : ℕ) (c : List ℕ) (t : h ≤ data_most) where
  pub divide_low : h < 2 → Works divide_of c h b 14 h c
  divide_low l = (t, λ k. rw (lt-ltb _ _ l))

  module _ (l : 2 ≤ h) where
    pub divide_zero : eqb (get_or c (h - 1) 0) 0 ≡ true → Works divide_of c h b 21 h c
    divide_zero z = let y : h - 1 - 0 ≡ h - 1 = omega arith in (t, λ k. simp (le-ltb _ _ l, y, z))

    divide_left : (k : List ℕ)
        → reckoned_as 0 (stacks (set (set c (h - 2) (get_or c (h - 2) 0 % get_or c (h - 1) 0)) (h - 1)
        (get_or c (h - 2) 0 / get_or c (h - 1) 0)) h k
        b) ≡ reckoned_as 0 (plain_of 0x2B 0 (stacks c h k b))
    unfolding plain_of left_of code_of row_of table ends lows highs doubles
    divide_left k =
        let y : h - 1 - 0 ≡ h - 1 = omega arith in
        let x : h - 1 - 1 ≡ h - 2 = omega arith in
        let w : h - 2 + 1 ≡ h - 1 = omega arith in
        let v : h - 2 + 2 ≡ h = omega arith in
        let u : b - 0 + 0 ≡ b = omega arith in
        simp (x, y, w, v, u)

    pub divide_fine : (r q : ℕ) → eqb (get_or c (h - 1) 0) 0 ≡ false → r ≡ get_or c (h - 2) 0 % get_or c (h - 1) 0
        → q ≡ get_or c (h - 2) 0 / get_or c (h - 1) 0
        → Works divide_of c h b 0 h (set (set c (h - 2) r) (h - 1) q)
    divide_fine r q z d e =
        let y : h - 1 - 0 ≡ h - 1 = omega arith in
        (t, λ k. rw (d, e) (divide_left k ∙ simp (le-ltb _ _ l, y, z)))

  -- pick and roll, by the count
  pub pick_low : h < 1 → Works pick_up_of c h b 14 h c
  pick_low l = (t, λ k. rw (lt-ltb _ _ l))

  pub roll_low : h < 1 → Works roll_up_of c h b 14 h c
  roll_low l = (t, λ k. rw (lt-ltb _ _ l))

  module _ (n : ℕ) (e : n ≡ get_or c (h - 1) 0) (l : 1 ≤ h) where
    counted : get_or c (h - 1 - 0) 0 ≡ n
    counted = let y : h - 1 - 0 ≡ h - 1 = omega arith in rw (y, e)

    pub pick_deep : h < n + 2 → Works pick_up_of c h b 14 h c
    pick_deep m = (t, λ k. simp (le-ltb _ _ l, counted, lt-ltb _ _ m))

    pub roll_deep : h < n + 2 → Works roll_up_of c h b 14 h c
    roll_deep m = (t, λ k. simp (le-ltb _ _ l, counted, lt-ltb _ _ m))

    pub pick_fine : n + 2 ≤ h → Works pick_up_of c h b 0 h (set c (h - 1) (get_or c (h - 2 - n) 0))
    pick_fine m =
        let y : h - 1 - (n + 1) ≡ h - 2 - n = omega arith in
        (t, λ k. simp (le-ltb _ _ l, counted, le-ltb _ _ m, y))

    pub roll_fine : n + 2 ≤ h → (d : List ℕ) → d ≡ turned_of c (h - 2 - n) n → Works roll_up_of c h b 0 (h - 1) d
    roll_fine m d x = (omega arith, λ k. rw x (simp (le-ltb _ _ l, counted, le-ltb _ _ m)))

  -- ?dup
  pub maybe_low : h < 1 → Works maybe_of c h b 14 h c
  maybe_low l = (t, λ k. rw (lt-ltb _ _ l))

  module _ (l : 1 ≤ h) where
    at_top : get_or c (h - 1 - 0) 0 ≡ get_or c (h - 1) 0
    at_top = let y : h - 1 - 0 ≡ h - 1 = omega arith in rw y

    pub maybe_zero : get_or c (h - 1) 0 ≡ 0 → Works maybe_of c h b 0 h c
    maybe_zero z = (t, λ k. simp (le-ltb _ _ l, at_top, z))

    module _ (z : get_or c (h - 1) 0 ≡ 0 → ⊥) where
      pub maybe_high : data_most ≤ h → Works maybe_of c h b 15 h c
      maybe_high m = let x : data_most < h + 1 = omega arith in (t, λ k. simp (le-ltb _ _ l, at_top, ne_eqb _ _ z, lt-ltb _ _ x))

      pub maybe_fine : h < data_most → Works maybe_of c h b 0 (h + 1) (set c h (get_or c (h - 1) 0))
      maybe_fine m = let x : h + 1 ≤ data_most = omega arith in (x, λ k. simp (le-ltb _ _ l, at_top, ne_eqb _ _ z, le-ltb _ _ x))

-- ---- roll's loop: what is left to be moved, from a place up to an end, and then the cell that goes to the top
abbrev pub left_to_turn : List ℕ → ℕ → ℕ → ℕ → List ℕ
left_to_turn c at end first = left_of c at (cells_from c (at + 1) (end - at) ++ (first ∷ []))

cells_above : (c : List ℕ) (at v p k : ℕ) → at < p → cells_from (set c at v) p k ≡ cells_from c p k
unfolding cells_from
cells_above c at v p zero l = refl
cells_above c at v p (suc k) l = rw (get_or-set_other c at p v 0 (λ e. omega arith), cells_above c at v (p + 1) k (omega arith))

pub turns : (c : List ℕ) (at end first : ℕ) → at < end
    → left_to_turn (set c at (get_or c (at + 1) 0)) (at + 1) end first ≡ left_to_turn c at end first
unfolding left_of cells_from
turns c at end first l =
    let i : end - at ≡ suc (end - (at + 1)) = omega arith in
    rw (i, cells_above c at (get_or c (at + 1) 0) (at + 1 + 1) (end - (at + 1)) (omega arith))

pub turned : (c : List ℕ) (at end first : ℕ) → at ≡ end → set c end first ≡ left_to_turn c at end first
unfolding left_of cells_from
turned c at end first e = let i : end - at ≡ 0 = omega arith in rw (i, e)

pub turn_starts : (c : List ℕ) (start count : ℕ) → left_to_turn c start (start + count) (get_or c start 0) ≡ turned_of c start count
turn_starts c start count = let i : start + count - start ≡ count = omega arith in rw i
