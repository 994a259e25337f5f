-- The checksum of document 01: "the sum of bytes 8 to length-1, modulo 65,536. Bytes past the length are ignored." Assumes nothing.
use Rattle.std.specs.Prelude.{ℕ, ◌+◌, ◌-◌, ◌%◌, ◌^◌, List, [], ◌∷◌, take, drop}
use Rattle.rom.specs.Sizes.{first_place}

abbrev pub total : List ℕ → ℕ
total [] = 0
total (b ∷ bs) = b + total bs

-- bytes 8 to length-1
abbrev pub program_of : List ℕ → ℕ → List ℕ
program_of rom length = take (length - first_place) (drop first_place rom)

unfoldable pub sum_of : List ℕ → ℕ → ℕ
sum_of rom length = total (program_of rom length) % 2 ^ 16
