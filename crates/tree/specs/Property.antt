-- Writing a property: "Properties go to the active node, values copied. A name has 1 to 31 bytes of 21-7E. The same name on the same node
-- is replaced in place. .. room freed by a shorter value is used. A number or name held twice: the oldest counts." Document 02, (i):
-- "Refusal 26 shall now also cover upper-case letters and / \ : [ ] @". 26, "bad property name", comes before 27, "a 129th property, or
-- live bytes above 16,384", judged on the properties as they would be. A store of the wrong size is 6, and a damaged tree 7, before
-- either. Which node is the active one is said by who writes. Assumes nothing.
use Rattle.std.specs.Prelude.{ℕ, ◌+◌, ◌-◌, Bool, true, false, not, ◌&&◌, ◌||◌, List, [], ◌∷◌, ◌++◌, length, replicate, set, ltb, leb, eqb}
use Rattle.cells.specs.Choice.{pick}
use Rattle.rom.specs.Sizes.{properties_most, store_size}
use Rattle.rom.specs.Words.{letters_of}
use Rattle.tree.specs.Held.{Property, held_of, laid_out, matches, index_of}
use Rattle.tree.specs.Whole.{name_most, whole_tree}
use Rattle.tree.specs.Tree.{tree_on_records}
use Rattle.tree.specs.Node.{Written, write_done, write_refused}
use Rattle.tree.specs.declared.tree.Tree.{Tree}

-- a value, with the null that device-name and its like add
abbrev pub value_of : List ℕ → Bool → List ℕ
value_of bytes null = bytes ++ pick null (0 ∷ []) []

-- whether a byte is one of these
unfoldable pub is_one_of : List ℕ → ℕ → Bool
is_one_of [] b = false
is_one_of (x ∷ xs) b = eqb b x || is_one_of xs b

-- a byte that may stand in a name: of "21-7E", no "upper-case" letter, which 41-5A are, and none of "/ \ : [ ] @"
unfoldable pub name_byte : ℕ → Bool
name_byte b = leb 0x21 b && leb b 0x7E && not (leb 0x41 b && leb b 0x5A) && not (is_one_of (letters_of "/\\:[]@") b)

unfoldable pub all_name_bytes : List ℕ → Bool
all_name_bytes [] = true
all_name_bytes (b ∷ bs) = name_byte b && all_name_bytes bs

-- 26: it has not "1 to 31 bytes", or one of them may not stand in a name
unfoldable pub bad_name : List ℕ → Bool
bad_name name = ltb (length name) 1 || ltb name_most (length name) || not (all_name_bytes name)

-- the properties with this one: in the place of the oldest of its node and name, or behind them all
unfoldable pub put_in : List Property → ℕ → List ℕ → List ℕ → List Property
put_in [] node name value = record { node = node; name = name; value = value } ∷ []
put_in (p ∷ ps) node name value =
    elim (matches p node name)
    [ true ↦ record { node = p.node; name = p.name; value = value } ∷ ps | false ↦ p ∷ put_in ps node name value ]

unfoldable pub overfull : List Property → Bool
overfull ps = ltb properties_most (length ps) || ltb store_size (length (laid_out ps))

-- the properties as they would be
abbrev pub would_hold : Tree → List ℕ → ℕ → List ℕ → List ℕ → List Property
would_hold t store node name value = put_in (held_of t store) node name value

-- 0, or the refusal
unfoldable pub put_refusal : Tree → List ℕ → ℕ → List ℕ → List ℕ → ℕ
put_refusal t store node name value =
    pick (not (eqb (length store) store_size)) 6
    (pick (not (whole_tree t)) 7
    (pick (bad_name name) 26
    (pick (overfull (would_hold t store node name value)) 27 0)))

-- the store that holds these properties: "no gaps, zeros behind"
unfoldable pub store_with : List Property → List ℕ
store_with ps = laid_out ps ++ replicate (store_size - length (laid_out ps)) 0

-- the tree whose record i is of a node, with these lengths; one record more where there was none
unfoldable pub recorded_of : Tree → ℕ → ℕ → ℕ → ℕ → Tree
recorded_of t i node name value =
    tree_on_records t (set t.owners i node) (set t.name_sizes i name) (set t.value_sizes i value)
    (pick (eqb i t.held) (t.held + 1) t.held)

abbrev pub tree_put : Tree → List ℕ → ℕ → List ℕ → List ℕ → Tree
tree_put t store node name value = recorded_of t (index_of (held_of t store) node name) node (length name) (length value)

abbrev pub store_put : Tree → List ℕ → ℕ → List ℕ → List ℕ → List ℕ
store_put t store node name value = store_with (would_hold t store node name value)

-- what the call gives, and the store then: both as they were where it is refused
unfoldable pub put_of : Tree → List ℕ → ℕ → List ℕ → List ℕ → Written
put_of t store node name value =
    pick (eqb (put_refusal t store node name value) 0) (write_done (tree_put t store node name value))
    (write_refused (put_refusal t store node name value) t)

unfoldable pub store_of : Tree → List ℕ → ℕ → List ℕ → List ℕ → List ℕ
store_of t store node name value = pick (eqb (put_refusal t store node name value) 0) (store_put t store node name value) store
