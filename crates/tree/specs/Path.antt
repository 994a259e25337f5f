-- Lookups: "A path is "/" or "/a/b"; each part is matched with a child's "name" value less one final null, the oldest match at each level,
-- no going back. Any other form, empty parts included, gives 29. Lookups test 6, 7, 29, 30." 29, 30: "path malformed; no such node or
-- property". Assumes nothing.
use Rattle.std.specs.Prelude.{ℕ, zero, suc, ◌+◌, ◌-◌, Bool, true, false, not, ◌&&◌, ◌||◌, List, [], ◌∷◌, length, ltb, eqb, Err, Ok, Result}
use Rattle.std.proofs.Math.Option.{Option, none, some}
use Rattle.cells.specs.Choice.{pick}
use Rattle.rom.specs.Sizes.{store_size}
use Rattle.rom.specs.Words.{letters_of}
use Rattle.tree.specs.Held.{Property, name_size, value_size, held_of, matches, same_bytes, found_from}
use Rattle.tree.specs.Whole.{parent_of, whole_tree}
use Rattle.tree.specs.declared.tree.Tree.{Tree}
use Rattle.tree.specs.declared.property.Found.{Found}
use Rattle.tree.specs.Sought.{ValueSought, Value, Unfound}

abbrev pub slash : ℕ
slash = 0x2F

-- the parts between slashes; bytes without a slash are one part, no bytes one empty part
abbrev pub longer : ℕ → List (List ℕ) → List (List ℕ)
longer b [] = (b ∷ []) ∷ []
longer b (part ∷ parts) = (b ∷ part) ∷ parts

unfoldable pub split_of : List ℕ → List (List ℕ)
split_of [] = [] ∷ []
split_of (b ∷ bs) = elim (eqb b slash) [ true ↦ [] ∷ split_of bs | false ↦ longer b (split_of bs) ]

-- the parts of a path, by what stands behind its first slash: "/" has none
abbrev pub parts_of : List ℕ → List (List ℕ)
parts_of [] = []
parts_of (b ∷ bs) = split_of (b ∷ bs)

abbrev pub is_empty : List ℕ → Bool
is_empty [] = true
is_empty (b ∷ bs) = false

unfoldable pub any_empty : List (List ℕ) → Bool
any_empty [] = false
any_empty (part ∷ parts) = is_empty part || any_empty parts

-- 29: it does not begin with a slash, or a part is empty
unfoldable pub malformed : List ℕ → Bool
malformed [] = true
malformed (b ∷ bs) = not (eqb b slash) || any_empty (parts_of bs)

-- the value of a node's property, the oldest of that name
unfoldable pub value_in : List Property → ℕ → List ℕ → Option (List ℕ)
value_in [] node name = none
value_in (p ∷ ps) node name = elim (matches p node name) [ true ↦ some p.value | false ↦ value_in ps node name ]

-- "less one final null"
unfoldable pub less_null : List ℕ → List ℕ
less_null [] = []
less_null (b ∷ []) = pick (eqb b 0) [] (b ∷ [])
less_null (b ∷ c ∷ cs) = b ∷ less_null (c ∷ cs)

abbrev pub called_with : Option (List ℕ) → List ℕ → Bool
called_with none part = false
called_with (some value) part = same_bytes (less_null value) part

-- whether a node's "name" is a part of a path; a node without one is found by no path
abbrev pub is_called : Tree → List ℕ → ℕ → List ℕ → Bool
is_called t store k part = called_with (value_in (held_of t store) k (letters_of "name")) part

-- the oldest child of a node with that name, among so many nodes from node k on
unfoldable pub child_from : Tree → List ℕ → ℕ → List ℕ → ℕ → ℕ → Option ℕ
child_from t store parent part zero k = none
child_from t store parent part (suc n) k =
    elim (eqb (parent_of t k) parent && is_called t store k part) [ true ↦ some k | false ↦ child_from t store parent part n (k + 1) ]

-- the root is nobody's child, though its parent is 0: children are sought from node 1 on
abbrev pub child_named : Tree → List ℕ → ℕ → List ℕ → Option ℕ
child_named t store parent part = child_from t store parent part (t.nodes - 1) 1

-- from a node down, a child for each part
unfoldable pub down_from : Tree → List ℕ → ℕ → List (List ℕ) → Result ℕ ℕ
down_from t store node [] = Ok node
down_from t store node (part ∷ parts) =
    elim (child_named t store node part) [ none ↦ Err 30 | some k ↦ down_from t store k parts ]

abbrev pub behind_slash : List ℕ → List ℕ
behind_slash [] = []
behind_slash (b ∷ bs) = bs

-- the node of a path
unfoldable pub find_node_of : Tree → List ℕ → List ℕ → Result ℕ ℕ
find_node_of t store path =
    pick (not (eqb (length store) store_size)) (Err 6)
    (pick (not (whole_tree t)) (Err 7)
    (pick (malformed path) (Err 29)
    (down_from t store 0 (parts_of (behind_slash path)))))

-- where the value of a record that was sought lies in the store, behind its name; a record that is not there stands behind them all
abbrev pub value_place : Tree → Found → ValueSought
value_place t f =
    pick (ltb f.index t.held) (Value (f.at + name_size t f.index) (value_size t f.index)) (Unfound 30)

unfoldable pub named_place : Tree → List ℕ → ℕ → List ℕ → ValueSought
named_place t store node name = value_place t (found_from t store node name t.held 0 0)

-- the property of a path and a name, whose name is not judged
unfoldable pub find_property_of : Tree → List ℕ → List ℕ → List ℕ → ValueSought
find_property_of t store path name =
    elim (find_node_of t store path) [ Ok k ↦ named_place t store k name | Err why ↦ Unfound why ]

-- its bytes; none where it is refused
unfoldable pub property_value_of : Tree → List ℕ → List ℕ → List ℕ → List ℕ
property_value_of t store path name =
    elim (find_node_of t store path) [
      | Ok k ↦ elim (value_in (held_of t store) k name) [ none ↦ [] | some value ↦ value ]
      | Err why ↦ []
    ]

-- the bytes of a node's own property, the node known by its number; none where there is none, or where the store has another size or the
-- tree is damaged
abbrev pub bytes_or : Option (List ℕ) → List ℕ
bytes_or none = []
bytes_or (some value) = value

unfoldable pub own_value_of : Tree → List ℕ → ℕ → List ℕ → List ℕ
own_value_of t store node name =
    pick (not (eqb (length store) store_size)) []
    (pick (not (whole_tree t)) []
    (bytes_or (value_in (held_of t store) node name)))
