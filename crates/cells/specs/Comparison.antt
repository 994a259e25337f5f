-- The comparisons of document 01: "34 0= 35 0<> 36 0< 37 0<= 38 0> 39 0>= 3A < 3B > 3C = 3D <> 3E u> 3F u<= 40 u< 41 u>= 42 >= 43 <=
-- 44 between 45 within. Those without u are signed. between: min ≤ n ≤ max"; what 45 within means is document 02's to say. a is the lower
-- of two cells and b the upper; of three n is the lowest, then min, then max. Each gives a flag. Assumes nothing.
use Rattle.std.specs.Prelude.{ℕ, not, ◌&&◌, pos, ◌==◌, int_le, int_lt, nat_le, nat_lt}
use Rattle.cells.specs.Signed.{signed, flag}
use Rattle.cells.specs.Arithmetic.{minus_of}

abbrev pub zero_equal_of : ℕ → ℕ
zero_equal_of a = flag (a == 0)

abbrev pub zero_unequal_of : ℕ → ℕ
zero_unequal_of a = flag (not (a == 0))

abbrev pub zero_less_of : ℕ → ℕ
zero_less_of a = flag (int_lt (signed a) (pos 0))

abbrev pub zero_at_most_of : ℕ → ℕ
zero_at_most_of a = flag (int_le (signed a) (pos 0))

abbrev pub zero_greater_of : ℕ → ℕ
zero_greater_of a = flag (int_lt (pos 0) (signed a))

abbrev pub zero_at_least_of : ℕ → ℕ
zero_at_least_of a = flag (int_le (pos 0) (signed a))

abbrev pub less_of : ℕ → ℕ → ℕ
less_of a b = flag (int_lt (signed a) (signed b))

abbrev pub greater_of : ℕ → ℕ → ℕ
greater_of a b = flag (int_lt (signed b) (signed a))

abbrev pub equal_of : ℕ → ℕ → ℕ
equal_of a b = flag (a == b)

abbrev pub unequal_of : ℕ → ℕ → ℕ
unequal_of a b = flag (not (a == b))

abbrev pub u_greater_of : ℕ → ℕ → ℕ
u_greater_of a b = flag (nat_lt b a)

abbrev pub u_at_most_of : ℕ → ℕ → ℕ
u_at_most_of a b = flag (nat_le a b)

abbrev pub u_less_of : ℕ → ℕ → ℕ
u_less_of a b = flag (nat_lt a b)

abbrev pub u_at_least_of : ℕ → ℕ → ℕ
u_at_least_of a b = flag (nat_le b a)

abbrev pub at_least_of : ℕ → ℕ → ℕ
at_least_of a b = flag (int_le (signed b) (signed a))

abbrev pub at_most_of : ℕ → ℕ → ℕ
at_most_of a b = flag (int_le (signed a) (signed b))

abbrev pub between_of : ℕ → ℕ → ℕ → ℕ
between_of n min max = flag (int_le (signed min) (signed n) && int_le (signed n) (signed max))

-- Document 02, (iv): "with all differences wrapped, n is within when n-min is below max-min as unsigned"
abbrev pub within_of : ℕ → ℕ → ℕ → ℕ
within_of n min max = u_less_of (minus_of n min) (minus_of max min)
