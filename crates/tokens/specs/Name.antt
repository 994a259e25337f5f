-- The names of the list as letters, and packed into two numbers for the code: eight letters in the first and what is left in the second,
-- the last letter lowest. Assumes nothing.
use Rattle.std.specs.Prelude.{ℕ, ◌+◌, ◌*◌, List, [], ◌∷◌, take, drop}
use Rattle.rom.specs.Words.{letters_of}
use Rattle.tokens.specs.Table.{row_of}

-- the name that the list has for a number; what is not in it has none
unfoldable pub name_of : ℕ → List ℕ
name_of n = letters_of (row_of n).name

unfoldable pub packed_from : ℕ → List ℕ → ℕ
packed_from so [] = so
packed_from so (c ∷ cs) = packed_from (so * 256 + c) cs

unfoldable pub front_of : ℕ → ℕ
front_of n = packed_from 0 (take 8 (name_of n))

unfoldable pub rest_of : ℕ → ℕ
rest_of n = packed_from 0 (drop 8 (name_of n))
