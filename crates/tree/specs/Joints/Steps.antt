-- The same by numbers, as the code goes: a walk over the records with a running place, the test for room, and the stores. Laws shows that
-- they come to what Property says. Assumes nothing.
use Rattle.std.specs.Prelude.{ℕ, ◌+◌, ◌-◌, Bool, ◌||◌, List, length, replicate, ltb, leb, eqb}
use Rattle.cells.specs.Choice.{pick}
use Rattle.rom.specs.Sizes.{properties_most, store_size}
use Rattle.memory.specs.Writing.{written_of, moved_of, cleared_of}
use Rattle.tree.specs.Held.{name_size, value_size, found_from}
use Rattle.tree.specs.declared.tree.Tree.{Tree}
use Rattle.tree.specs.declared.property.Found.{Found}

abbrev pub found_of : Tree → List ℕ → ℕ → List ℕ → Found
found_of t store node name = found_from t store node name t.held 0 0

abbrev pub size_of : ℕ → Bool → ℕ
size_of count null = pick null (count + 1) count

-- too many records, or live bytes, of which there are so many before
abbrev pub full_with : Tree → ℕ → ℕ → ℕ → ℕ → Bool
full_with t live i name value =
    pick (eqb i t.held) (leb properties_most i || ltb store_size (live + name + value)) (ltb (store_size + value_size t i) (live + value))

-- zeros from a place on, up to another where that lies further
abbrev pub zeroed_of : List ℕ → ℕ → ℕ → List ℕ
zeroed_of memory at end = written_of memory at (replicate (end - at) 0)

abbrev pub appended_of : List ℕ → ℕ → List ℕ → List ℕ → List ℕ
appended_of store live name value =
    cleared_of (written_of (written_of store live name) (live + length name) value) (live + length name + length value)

abbrev pub replaced_of : List ℕ → ℕ → ℕ → ℕ → List ℕ → List ℕ
replaced_of store live at old value =
    cleared_of (written_of (moved_of store (at + old) (at + length value) (live - (at + old))) at value)
    (at + length value + (live - (at + old)))

-- the store with a value whose record stands at an index, its name's bytes at a place
abbrev pub laid_with : Tree → List ℕ → ℕ → ℕ → ℕ → List ℕ → List ℕ → List ℕ
laid_with t store live i at name value =
    pick (eqb i t.held) (appended_of store live name value) (replaced_of store live (at + name_size t i) (value_size t i) value)
