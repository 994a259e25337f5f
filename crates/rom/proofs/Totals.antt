-- Sums of bytes, from the last one down, some more at a time. Assumes nothing.
use Rattle.std.proofs.Common.{◌≡◌, ℕ, zero, suc, ◌+◌, ◌-◌, ◌%◌, ◌^◌, ◌<◌, ◌≤◌, min, List, [], ◌∷◌, length, take, drop, refl, sym}
use Rattle.std.proofs.Common.{◌∙◌, arith, length-drop, take_all}
use native.Mathlib.Decide.{dec_le}
use Rattle.std.specs.List.{fold}
use Rattle.rom.specs.Joints.Sum.{sum_with}
use Rattle.rom.specs.Sum.{total, program_of, sum_of}

-- the sum of a front and of what is behind it is that of all
total_split : (k : ℕ) (bytes : List ℕ) → total (take k bytes) + total (drop k bytes) ≡ total bytes
total_split zero bytes = omega arith
total_split (suc k) [] = refl
total_split (suc k) (b ∷ bs) = let e = total_split k bs in omega arith

-- bytes added one at a time
pub folded : (bytes : List ℕ) (sum : ℕ) → sum < 2 ^ 16 → fold (λ n b. (n + b) % 2 ^ 16) sum bytes ≡ sum_with sum bytes
folded [] sum h = omega arith
folded (b ∷ bs) sum h = folded bs ((sum + b) % 2 ^ 16) (omega arith) ∙ omega arith

module _ (sum : ℕ) (bytes front back : List ℕ) (k : ℕ) (f : front ≡ take k bytes) (b : back ≡ drop k bytes) where
  -- the bytes behind a place are in the sum, and those before it are left
  pub one_taken : (n : ℕ) → n ≡ sum_with sum back → sum_with n front ≡ sum_with sum bytes
  one_taken n e =
      let t = total_split k bytes in
      rw (e, f, b) (omega arith)

  -- the same of 128 bytes as two of 64
  pub block_taken : (n m : ℕ) → length back ≡ 128 → n ≡ sum_with sum (take 64 back) → m ≡ sum_with n (take 64 (drop 64 back))
      → sum_with m front ≡ sum_with sum bytes
  block_taken n m l e g =
      let t = total_split k bytes in
      let u = total_split 64 back in
      let d = length-drop 64 back in
      let a = take_all 64 (drop 64 back) (omega arith) in
      one_taken m (rw (g, a, e) (omega arith))

-- what a ROM does not have adds nothing
pub program_within : (rom : List ℕ) (len : ℕ) → program_of rom len ≡ take (min len (length rom) - 8) (drop 8 rom)
program_within rom len = elim (dec_le len (length rom)) [ yes h ↦ near h | no h ↦ far h ]
  where
    near : len ≤ length rom → program_of rom len ≡ take (min len (length rom) - 8) (drop 8 rom)
    near h = let e : min len (length rom) - 8 ≡ len - 8 = omega arith in rw e

    far : ¬ (len ≤ length rom) → program_of rom len ≡ take (min len (length rom) - 8) (drop 8 rom)
    far h =
        let d = length-drop 8 rom in
        take_all (len - 8) (drop 8 rom) (omega (arith, d)) ∙ sym (take_all (min len (length rom) - 8) (drop 8 rom) (omega (arith, d)))

pub sum_none : (rom : List ℕ) (len end : ℕ) → end ≡ min len (length rom) → end ≤ 8 → 0 ≡ sum_of rom len
unfolding sum_of
sum_none rom len end e h =
    let z : min len (length rom) - 8 ≡ 0 = omega arith in
    rw (program_within rom len, z)

pub sum_some : (rom : List ℕ) (len end : ℕ) → end ≡ min len (length rom) → total (take (end - 8) (drop 8 rom)) % 2 ^ 16 ≡ sum_of rom len
unfolding sum_of
sum_some rom len end e = rw (program_within rom len, e)
