-- Numbers in the listing: counts and numbers in decimal, "steps 7", and the bytes of a value as two upper-case hexadecimal digits each,
-- "00000003". Assumes nothing.
use Rattle.std.specs.Prelude.{ℕ, zero, suc, ◌+◌, ◌/◌, ◌%◌, true, false, List, [], ◌∷◌, ◌++◌, ltb}
use Rattle.cells.specs.Choice.{pick}

abbrev pub digit : ℕ → ℕ
digit n = 0x30 + n

-- the decimal digits of a number that has at most so many, with no zero in front
unfoldable pub decimal_from : ℕ → ℕ → List ℕ
decimal_from zero n = []
decimal_from (suc k) n = elim (ltb n 10) [ true ↦ digit n ∷ [] | false ↦ decimal_from k (n / 10) ++ (digit (n % 10) ∷ []) ]

-- a number of 32 bits has at most ten
abbrev pub decimal_of : ℕ → List ℕ
decimal_of n = decimal_from 10 n

-- 0 to 9, A to F
abbrev pub hex_digit : ℕ → ℕ
hex_digit n = pick (ltb n 10) (0x30 + n) (0x37 + n)

-- a byte's two digits, and a word's four
abbrev pub hex_pair : ℕ → List ℕ
hex_pair b = hex_digit (b / 16) ∷ hex_digit (b % 16) ∷ []

unfoldable pub hex_word : ℕ → List ℕ
hex_word w = hex_pair (w / 256) ++ hex_pair (w % 256)

unfoldable pub hex_of : List ℕ → List ℕ
hex_of [] = []
hex_of (b ∷ bs) = hex_digit (b / 16) ∷ hex_digit (b % 16) ∷ hex_of bs
