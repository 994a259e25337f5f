-- What stands in a ROM: its bytes, and numbers of two and of four bytes, big-endian. Past the end every byte is 0. Assumes nothing.
use Rattle.std.specs.Prelude.{ℕ, ◌+◌, ◌*◌, List, slice_index}

-- byte k
abbrev pub byte_of : List ℕ → ℕ → ℕ
byte_of rom k = slice_index rom k

abbrev pub word16_of : List ℕ → ℕ → ℕ
word16_of rom at = byte_of rom at * 256 + byte_of rom (at + 1)

abbrev pub word32_of : List ℕ → ℕ → ℕ
word32_of rom at = byte_of rom at * 16777216 + byte_of rom (at + 1) * 65536 + byte_of rom (at + 2) * 256 + byte_of rom (at + 3)
