-- What bits say as a signed number, in two's complement, and the cell that holds a number. The words of document 01 that are "signed"
-- go by these. Assumes nothing.
use Rattle.std.specs.Prelude.{ℕ, ◌-◌, ◌%◌, ◌^◌, Bool, true, false, not, ℤ, pos, negsuc, nat_lt}
use Rattle.std.specs.Int.Signed.{non_neg}
use Rattle.cells.specs.Choice.{pick}

-- what n says in k bits: itself in the lower half of their range, and n - 2 ^ k in the upper half (`negsuc m` is -(m + 1))
abbrev pub signed_in : ℕ → ℕ → ℤ
signed_in k n = pick (nat_lt n (2 ^ (k - 1))) (pos n) (negsuc (2 ^ k - 1 - n))

-- what a cell says as a signed number
abbrev pub signed : ℕ → ℤ
signed a = signed_in 32 a

-- the cell that holds a number, wrapped: its remainder modulo 2 ^ 32, from 0 up
abbrev pub cell : ℤ → ℕ
cell (pos n) = n % 2 ^ 32
cell (negsuc n) = 2 ^ 32 - 1 - n % 2 ^ 32

-- "true is all ones, false is 0"
abbrev pub flag : Bool → ℕ
flag true = 0xFFFF_FFFF
flag false = 0

-- the sign of a cell
abbrev pub negative : ℕ → Bool
negative a = not (non_neg (signed a))
