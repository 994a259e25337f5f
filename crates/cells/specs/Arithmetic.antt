-- The arithmetic tokens of document 01 on 32-bit cells, wrapped: "1E + 1F - 20 * 23 and 24 or 25 xor 26 invert 27 lshift 28 rshift
-- 29 >>a 2B u/mod (remainder under quotient) 2C negate 2D abs 2E min 2F max 57 2/ 58 u2/ 59 2*". In a token of two cells a is the lower
-- one and b the upper; in a shift n is the count, the upper one. Assumes nothing.
use Rattle.std.specs.Prelude.{ℕ, ◌+◌, ◌-◌, ◌*◌, ◌/◌, ◌%◌, ◌^◌, true, false, pos, neg_ℤ, ◌==◌, bit_and, bit_or, bit_xor, int_lt, nat_lt}
use Rattle.std.specs.Prelude.{unsigned_abs, Option, Some, None}
use Rattle.std.specs.Int.Signed.{shr_z}
use Rattle.cells.specs.Choice.{pick}
use Rattle.cells.specs.Signed.{signed, cell, flag, negative}
use Rattle.cells.specs.declared.Divided.{Divided as DividedSaid}

abbrev pub plus_of : ℕ → ℕ → ℕ
plus_of a b = (a + b) % 2 ^ 32

abbrev pub minus_of : ℕ → ℕ → ℕ
minus_of a b = (a + 2 ^ 32 - b) % 2 ^ 32

abbrev pub times_of : ℕ → ℕ → ℕ
times_of a b = (a * b) % 2 ^ 32

abbrev pub and_of : ℕ → ℕ → ℕ
and_of a b = bit_and a b

abbrev pub or_of : ℕ → ℕ → ℕ
or_of a b = bit_or a b

abbrev pub xor_of : ℕ → ℕ → ℕ
xor_of a b = bit_xor a b

-- every bit turned
abbrev pub invert_of : ℕ → ℕ
invert_of a = 2 ^ 32 - 1 - a

-- "House: shift counts of 32 or more give 0, for >>a copies of the sign." (`elim` waits, so that 2 ^ n is not computed for them.)
unfoldable pub lshift_of : ℕ → ℕ → ℕ
lshift_of a n = elim (nat_lt n 32) [ true ↦ (a * 2 ^ n) % 2 ^ 32 | false ↦ 0 ]

unfoldable pub rshift_of : ℕ → ℕ → ℕ
rshift_of a n = elim (nat_lt n 32) [ true ↦ a / 2 ^ n | false ↦ 0 ]

-- `shr_z` divides by 2 ^ n and rounds down, which copies the sign into the bits that come free
unfoldable pub ashift_of : ℕ → ℕ → ℕ
ashift_of a n = elim (nat_lt n 32) [ true ↦ cell (shr_z (signed a) (2 ^ n)) | false ↦ flag (negative a) ]

-- u/mod of a by b, both unsigned: a divisor of zero has no parts
abbrev pub remainder_of : ℕ → ℕ → ℕ
remainder_of a b = a % b

abbrev pub quotient_of : ℕ → ℕ → ℕ
quotient_of a b = a / b

-- what u/mod gives: nothing where the divisor is zero, else the remainder and the quotient
pub data Divided : Type 0 where
  ByZero : Divided
  Parts : (remainder quotient : ℕ) → Divided

-- and what the code hands back of it
abbrev pub divided_in : Option DividedSaid → Divided
divided_in None = ByZero
divided_in (Some d) = Parts d.remainder d.quotient

abbrev pub divided_of : ℕ → ℕ → Divided
divided_of a b = pick (b == 0) ByZero (Parts (remainder_of a b) (quotient_of a b))

-- "Negate and abs of 80000000 give 80000000": 2 ^ 31 is the cell that holds it
abbrev pub negate_of : ℕ → ℕ
negate_of a = cell (neg_ℤ (signed a))

abbrev pub abs_of : ℕ → ℕ
abs_of a = cell (pos (unsigned_abs (signed a)))

-- as signed numbers
abbrev pub min_of : ℕ → ℕ → ℕ
min_of a b = pick (int_lt (signed b) (signed a)) b a

abbrev pub max_of : ℕ → ℕ → ℕ
max_of a b = pick (int_lt (signed b) (signed a)) a b

-- 2/ keeps the sign, u2/ does not
abbrev pub half_of : ℕ → ℕ
half_of a = cell (shr_z (signed a) 2)

abbrev pub u_half_of : ℕ → ℕ
u_half_of a = a / 2

abbrev pub double_of : ℕ → ℕ
double_of a = (a * 2) % 2 ^ 32
