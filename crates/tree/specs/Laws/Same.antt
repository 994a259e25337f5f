-- Names compared several bytes at a time, as the code goes. Assumes nothing.
use Prim.Native.Nat.{ℕ, zero, suc, ◌+◌, ◌-◌, ◌≤◌, ◌<◌}
use Rattle.std.proofs.Common.{add-zero, zero-add, sym, ◌∙◌}
use Rattle.std.proofs.Math.Nat.{add-suc}
use native.Mathlib.Omega.{arith}
use Rattle.std.specs.Prelude.{Bool, true, false, ◌&&◌, List, ◌≡◌, drop, get_or, eqb}
use Rattle.std.proofs.Math.Bool.{and_assoc, and-true, and-false}
use Rattle.std.proofs.Math.ListN.{length}
use Rattle.std.proofs.Math.Seq.{drop-cons}
use Rattle.cells.specs.Laws.Facts.{and_second}
use Rattle.tree.specs.Held.{same_bytes}
use Rattle.tree.specs.Whole.{every_below}
use Rattle.tree.specs.Laws.Trees.{same_end}

-- whether they are the same at one byte, so many behind a place
abbrev pub alike_from : List ℕ → List ℕ → ℕ → ℕ → Bool
alike_from a b k i = eqb (get_or a (k + i) 0) (get_or b (k + i) 0)

-- of two tests, where the first needs the second, the second a third, and the third the first, the second says what the first says
between : (x y p q r : Bool) → x ≡ p && y → y ≡ q && r → r ≡ x → y ≡ x
between x y p q true e f g = and_second p y (sym e ∙ sym g) ∙ g
between x y p q false e f g = f ∙ and-false q ∙ g

module _ (a b : List ℕ) where
  -- so many bytes from a place on, and then what is behind them
  pub same_many : (k n : ℕ) → k + n ≤ length a → k + n ≤ length b
      → same_bytes (drop k a) (drop k b) ≡ every_below n (alike_from a b k) && same_bytes (drop (k + n) a) (drop (k + n) b)
  unfolding same_bytes every_below
  same_many k zero h g = rw (add-zero k)
  same_many k (suc n) h g =
      let i : k + n < length a = omega arith in
      let j : k + n < length b = omega arith in
      same_many k n (omega arith) (omega arith)
      ∙ rw (drop-cons a (k + n) 0 i, drop-cons b (k + n) 0 j, add-suc k n)
      (sym (and_assoc (every_below n (alike_from a b k)) (alike_from a b k n) (same_bytes (drop (suc (k + n)) a) (drop (suc (k + n)) b))))

  -- what is left from a place on says what the whole says, so it does from any place before
  pub same_before : (j k : ℕ) → j ≤ k → k ≤ length a → k ≤ length b → same_bytes (drop k a) (drop k b) ≡ same_bytes a b
      → same_bytes (drop j a) (drop j b) ≡ same_bytes a b
  same_before j k h g i e =
      let f : j + (k - j) ≡ k = omega arith in
      between (same_bytes a b) (same_bytes (drop j a) (drop j b)) (every_below j (alike_from a b 0))
      (every_below (k - j) (alike_from a b j))
      (same_bytes (drop k a) (drop k b)) (rw (zero-add j) at (same_many 0 j (omega arith) (omega arith)))
      (rw f at (same_many j (k - j) (omega arith) (omega arith))) e

  -- the answer for so many bytes: more are left, one differs, or they are the last
  module _ (k n : ℕ) (h : k + n ≤ length a) (g : k + n ≤ length b) (r : Bool) (e : r ≡ every_below n (alike_from a b k)) where
    pub many_more : r ≡ true → same_bytes (drop (k + n) a) (drop (k + n) b) ≡ same_bytes (drop k a) (drop k b)
    many_more t = rw (same_many k n h g, ← e, t)

    pub many_differ : r ≡ false → same_bytes (drop k a) (drop k b) ≡ false
    many_differ t = rw (same_many k n h g, ← e, t)

    pub many_last : length a ≤ k + n → length b ≤ k + n → r ≡ same_bytes (drop k a) (drop k b)
    many_last i j = rw (same_many k n h g, ← e, same_end a b (k + n) i j) (sym (and-true r))
