-- Lookups and the node table of a state: "Lookups test 6, 7, 29, 30", and of the table "32 rows or refusal 6, unused rows zero; 6, then 7,
-- write none". 7 is here all that damages a state, `damaged_of`; the tree's own calls (tree/specs/Path.antt, tree/specs/Rows.antt) know the
-- tree alone. Assumes nothing.
use Rattle.std.specs.Prelude.{ℕ, Bool, not, ◌&&◌, List, [], length, eqb, Err, Ok, Result}
use Rattle.cells.specs.Choice.{pick}
use Rattle.rom.specs.Sizes.{nodes_most, store_size}
use Rattle.tree.specs.Held.{held_of}
use Rattle.tree.specs.Path.{parts_of, malformed, value_in, down_from, behind_slash, named_place, bytes_or}
use Rattle.tree.specs.Sought.{ValueSought, Unfound}
use Rattle.state.specs.Whole.{damaged_of}
use Rattle.state.specs.declared.state.State.{State}

-- "Lookups test 6, 7, 29, 30": the node of a path, from the root down
unfoldable pub find_node_in : State → List ℕ → List ℕ → Result ℕ ℕ
find_node_in st store path =
    pick (not (eqb (length store) store_size)) (Err 6)
    (pick (damaged_of st) (Err 7)
    (pick (malformed path) (Err 29)
    (down_from st.tree store 0 (parts_of (behind_slash path)))))

-- where the value of the property of a path and a name lies, whose name is not judged
unfoldable pub find_property_in : State → List ℕ → List ℕ → List ℕ → ValueSought
find_property_in st store path name =
    elim (find_node_in st store path) [ Ok k ↦ named_place st.tree store k name | Err why ↦ Unfound why ]

-- its bytes; none where it is refused
unfoldable pub property_value_in : State → List ℕ → List ℕ → List ℕ → List ℕ
property_value_in st store path name =
    elim (find_node_in st store path) [ Ok k ↦ bytes_or (value_in (held_of st.tree store) k name) | Err why ↦ [] ]

-- the table's refusals, "32 rows or refusal 6", then 7: by whether what is lent has its size, of two columns, and of so many rows
abbrev pub table_tests : Bool → State → ℕ
table_tests sized st = pick (not sized) 6 (pick (damaged_of st) 7 0)

unfoldable pub table_refusal_in : State → List ℕ → List ℕ → ℕ
table_refusal_in st parents counts = table_tests (eqb (length parents) nodes_most && eqb (length counts) nodes_most) st

unfoldable pub rows_refusal_in : State → ℕ → ℕ
rows_refusal_in st size = table_tests (eqb size nodes_most) st
