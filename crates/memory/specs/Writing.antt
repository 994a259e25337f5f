-- What is written into memory: bytes from a place on, what lies past the end left out. Assumes nothing.
use Rattle.std.specs.Prelude.{ℕ, ◌+◌, ◌-◌, ◌/◌, ◌%◌, List, [], ◌∷◌, length, replicate, set}
use Rattle.memory.specs.Window.{part_of}

unfoldable pub written_of : List ℕ → ℕ → List ℕ → List ℕ
written_of memory at [] = memory
written_of memory at (b ∷ bs) = written_of (set memory at b) (at + 1) bs

-- "Cells are big-endian (house)."
abbrev pub bytes_of : ℕ → List ℕ
bytes_of cell = (cell / 16777216 % 256) ∷ (cell / 65536 % 256) ∷ (cell / 256 % 256) ∷ (cell % 256) ∷ []

-- bytes copied from one place of a memory to another, as they were before
abbrev pub moved_of : List ℕ → ℕ → ℕ → ℕ → List ℕ
moved_of memory start to count = written_of memory to (part_of memory start count)

-- zeros from a place on to the end
abbrev pub cleared_of : List ℕ → ℕ → List ℕ
cleared_of memory at = written_of memory at (replicate (length memory - at) 0)
