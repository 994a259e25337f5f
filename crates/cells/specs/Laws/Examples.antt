-- The definitions at the examples of documents 01 and 02: antt computes each. (`and`, `or` and `xor` do not compute at numbers of this
-- size.) Assumes nothing.
use Rattle.std.specs.Prelude.{◌≡◌, ℕ, List, [], ◌∷◌, ℤ, pos, negsuc, refl}
use Rattle.cells.specs.Arithmetic.{minus_of, times_of, lshift_of, rshift_of, ashift_of, negate_of, abs_of, min_of, max_of, half_of}
use Rattle.cells.specs.Arithmetic.{u_half_of}
use Rattle.cells.specs.Arithmetic.{divided_of}
use Rattle.cells.specs.Comparison.{less_of, u_less_of, zero_less_of, between_of, within_of}
use Rattle.cells.specs.Signed.{signed_in, signed, cell}
use Rattle.cells.specs.Arithmetic.{Divided}
use Rattle.cells.specs.Arithmetic.{ByZero, Parts}

-- the ends of the range
ends_of_32 : ◌≡◌ {A = ℤ × ℤ × ℤ × ℤ} (signed 0, signed 0x7FFF_FFFF, signed 0x8000_0000, signed 0xFFFF_FFFF)
    (pos 0, pos 2147483647, negsuc 2147483647, negsuc 0)
ends_of_32 = refl

ends_of_8 : ◌≡◌ {A = ℤ × ℤ × ℤ} (signed_in 8 127, signed_in 8 128, signed_in 8 255) (pos 127, negsuc 127, negsuc 0)
ends_of_8 = refl

ends_of_16 : ◌≡◌ {A = ℤ × ℤ × ℤ} (signed_in 16 0x7FFF, signed_in 16 0x8000, signed_in 16 0xFFFF) (pos 32767, negsuc 32767, negsuc 0)
ends_of_16 = refl

wraps : ◌≡◌ {A = ℕ × ℕ × ℕ} (cell (negsuc 0), cell (pos 4294967296), cell (negsuc 4294967295)) (0xFFFF_FFFF, 0, 0)
wraps = refl

-- "A4 A6 29 leaves -1. 5 5 5 within is false." Document 02: "add n=5, min=3, max=-3 (true, was false)"; between stays signed
bench : ◌≡◌ {A = List ℕ}
    (ashift_of 0xFFFF_FFFF 1 ∷ within_of 5 5 5 ∷ between_of 5 5 5 ∷ within_of 5 3 0xFFFF_FFFD ∷ between_of 5 3 0xFFFF_FFFD ∷ [])
    (0xFFFF_FFFF ∷ 0 ∷ 0xFFFF_FFFF ∷ 0xFFFF_FFFF ∷ 0 ∷ [])
unfolding ashift_of
bench = refl

-- "Negate and abs of 80000000 give 80000000", and the other signed words at the ends of the range
ends : ◌≡◌ {A = List ℕ}
    (negate_of 0x8000_0000 ∷ abs_of 0x8000_0000 ∷ negate_of 1 ∷ abs_of 0xFFFF_FFFF ∷ min_of 0x8000_0000 0x7FFF_FFFF ∷ max_of 0x8000_0000
    0x7FFF_FFFF ∷
    half_of 0x8000_0001 ∷ u_half_of 0x8000_0001 ∷ less_of 0x8000_0000 0 ∷ u_less_of 0x8000_0000 0 ∷ zero_less_of 0x8000_0000 ∷ [])
    (0x8000_0000 ∷ 0x8000_0000 ∷ 0xFFFF_FFFF ∷ 1 ∷ 0x8000_0000 ∷ 0x7FFF_FFFF ∷ 0xC000_0000 ∷ 0x4000_0000 ∷ 0xFFFF_FFFF ∷ 0 ∷ 0xFFFF_FFFF ∷
    [])
ends = refl

-- "shift counts of 32 or more give 0, for >>a copies of the sign"
far_shifts : ◌≡◌ {A = List ℕ}
    (lshift_of 1 31 ∷ lshift_of 1 32 ∷ rshift_of 0x8000_0000 31 ∷ rshift_of 0x8000_0000 0xFFFF_FFFF ∷ ashift_of 0x8000_0000 31 ∷ ashift_of
    0x8000_0000 0xFFFF_FFFF ∷ ashift_of 1 32 ∷ [])
    (0x8000_0000 ∷ 0 ∷ 1 ∷ 0 ∷ 0xFFFF_FFFF ∷ 0xFFFF_FFFF ∷ 0 ∷ [])
unfolding lshift_of rshift_of ashift_of
far_shifts = refl

-- "u/mod (remainder under quotient)", and arithmetic that wraps
parts : ◌≡◌ {A = List Divided} (divided_of 0xFFFF_FFFF 10 ∷ divided_of 7 0 ∷ []) (Parts 5 0x1999_9999 ∷ ByZero ∷ [])
parts = refl

wrapped : ◌≡◌ {A = List ℕ} (minus_of 0 1 ∷ times_of 0x8000_0001 2 ∷ []) (0xFFFF_FFFF ∷ 2 ∷ [])
wrapped = refl
