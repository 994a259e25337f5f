-- What the next layer goes by: no token's work on the stacks leaves their sizes, and a token that only reckons gives what its row says.
-- Assumes nothing.
use Rattle.std.specs.Prelude.{ℕ, zero, suc, ◌+◌, ◌-◌, ◌≤◌, ◌<◌, ◌≡◌, refl, Bool, true, false, not, ◌||◌, List, [], ◌∷◌, length, get_or, set}
use Rattle.std.specs.Prelude.{take, drop, T, ltb, eqb}
use Rattle.std.proofs.Common.{ap, ◌∙◌, arith, length-set, drop-cons}
use Rattle.cells.specs.Laws.Tests.{tests, pick_is}
use Rattle.tokens.specs.Table.{ends, lows, highs, doubles, table, row_of}
use Rattle.tokens.specs.Code.{code_of, return_takes_in, return_gives_in}
use Rattle.state.specs.Stacks.{Stacks, left_of, cells_from, top_of, plain_of, back_trouble, too_deep}
use Rattle.state.specs.Stacks.{picked_of, rolled_of, doubled_of}
use Rattle.state.specs.Joints.Reckoning.{Reckoned, reckoned_as, too_low, too_high, reckon_of, divide_of, pick_up_of, roll_up_of, maybe_of}
use Rattle.rom.specs.Sizes.{data_most, return_most}

pub length_left : (vs c : List ℕ) (base : ℕ) → length (left_of c base vs) ≡ length c
unfolding left_of
length_left [] c base = refl
length_left (v ∷ vs) c base = length_left vs (set c base v) (base + 1) ∙ length-set c base v

-- where they all are, they are those of the list
pub cells_from_is : (c : List ℕ) (place k : ℕ) → place + k ≤ length c → cells_from c place k ≡ take k (drop place c)
unfolding cells_from
cells_from_is c place zero l = refl
cells_from_is c place (suc k) l =
    let i : suc place ≡ place + 1 = omega arith in
    let j : place < length c = omega arith in
    rw (drop-cons c place 0 j, i) (ap {B = List ℕ} (λ r. get_or c place 0 ∷ r) (cells_from_is c (place + 1) k (omega arith)))

-- the heights are within the house sizes, and the return stack is not below its frame's base
abbrev pub Sound : ℕ → Stacks → Type 0
Sound base s = (s.height ≤ data_most) × (s.returns ≤ return_most) × (base ≤ s.returns)

-- what a token leaves of such stacks: such stacks, of as many cells
abbrev pub Keeps : ℕ → Stacks → Reckoned → Type 0
Keeps base s o =
    Sound base o.stacks × (length o.stacks.cells ≡ length s.cells) × (length o.stacks.back ≡ length s.back)

neither : (a b : Bool) → T (not (a || b)) → T (not a) × T (not b)
neither true b h = absurd h
neither false b h = (tt, h)

divided_code : code_of 0x2B ≡ 0x0700_0022
unfolding code_of row_of table ends lows highs doubles
divided_code = refl

module _ (base : ℕ) (s : Stacks) (w : Sound base s) where
  same : (why : ℕ) → Keeps base s (reckoned_as why s)
  same why = (w, refl, refl)

  pub plain_keeps : (n operand : ℕ) → T (not (back_trouble (code_of n) s.returns base)) → T (not (too_high (code_of n) s.height))
      → Keeps base s (reckoned_as 0 (plain_of n operand s))
  unfolding plain_of
  plain_keeps n operand u v =
      let k = code_of n in
      let q = neither (ltb (s.returns - base) (return_takes_in k)) (ltb return_most (s.returns - return_takes_in k + return_gives_in k)) u
      in
      let a = q.0 in
      let b = q.1 in
      let p = w.2 in
      ((omega (arith, tests), omega (arith, tests), omega (arith, tests)), length_left _ s.cells _, length_left _ s.back _)

  pub reckon_keeps : (n operand : ℕ) → Keeps base s (reckon_of n operand s base)
  unfolding reckon_of
  reckon_keeps n operand =
      pick_is (Keeps base s) (too_low (code_of n) s.height) (reckoned_as 14 s) _ (λ t. same 14)
      (λ t. pick_is (Keeps base s) (back_trouble (code_of n) s.returns base) (reckoned_as 16 s) _ (λ u. same 16)
      (λ u. pick_is (Keeps base s) (too_high (code_of n) s.height) (reckoned_as 15 s) (reckoned_as 0 (plain_of n operand s)) (λ v. same 15)
      (λ v. plain_keeps n operand u v)))

  pub divide_keeps : Keeps base s (divide_of s)
  unfolding plain_of
  divide_keeps =
      let p = w.2 in
      pick_is (Keeps base s) (ltb s.height 2) (reckoned_as 14 s) _ (λ t. same 14)
      (λ t. pick_is (Keeps base s) (eqb (top_of s.cells s.height 0) 0) (reckoned_as 21 s) (reckoned_as 0 (plain_of 0x2B 0 s))
      (λ u. same 21)
      (λ u. (
        (rw divided_code (omega (arith, tests)), rw divided_code (omega arith), rw divided_code (omega arith)),
        length_left _ s.cells _,
        length_left _ s.back _,
      )))

  pub pick_up_keeps : Keeps base s (pick_up_of s)
  pick_up_keeps =
      pick_is (Keeps base s) (too_deep s) (reckoned_as 14 s) (reckoned_as 0 (picked_of s)) (λ t. same 14)
      (λ t. (w, length-set s.cells _ _, refl))

  pub roll_up_keeps : Keeps base s (roll_up_of s)
  roll_up_keeps =
      let p = w.2 in
      pick_is (Keeps base s) (too_deep s) (reckoned_as 14 s) (reckoned_as 0 (rolled_of s)) (λ t. same 14)
      (λ t. ((omega arith, w.1, w.2), length_left _ s.cells _, refl))

  pub maybe_keeps : Keeps base s (maybe_of s)
  maybe_keeps =
      pick_is (Keeps base s) (ltb s.height 1) (reckoned_as 14 s) _ (λ t. same 14)
      (λ t. pick_is (Keeps base s) (eqb (top_of s.cells s.height 0) 0) (reckoned_as 0 s) _ (λ u. same 0)
      (λ u. pick_is (Keeps base s) (ltb data_most (s.height + 1)) (reckoned_as 15 s) (reckoned_as 0 (doubled_of s)) (λ v. same 15)
      (λ v. ((omega (arith, tests), w.1, w.2), length-set s.cells _ _, refl))))
