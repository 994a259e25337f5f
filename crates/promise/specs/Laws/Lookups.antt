-- Paths and lookups, run on cases. Assumes nothing.
use Rattle.std.specs.Prelude.{ℕ, true, false, List, [], ◌∷◌, ◌++◌, ◌≡◌, refl, replicate, Err, Ok}
use Rattle.rom.specs.Words.{letters_of}
use Rattle.tree.specs.Held.{held_from, live_among, same_bytes, found_from}
use Rattle.tree.specs.Whole.{every_below, whole_tree}
use Rattle.tree.specs.Tree.{tree_of}
use Rattle.tree.specs.Node.{no_tree}
use Rattle.tree.specs.Path.{is_called, split_of, any_empty, malformed, less_null, value_in, child_from, down_from, find_node_of}
use Rattle.tree.specs.Path.{named_place}
use Rattle.tree.specs.Path.{find_property_of, property_value_of}
use Rattle.tree.specs.Rows.{count_from, column_from, parents_of, counts_of}
use Rattle.tree.specs.declared.tree.Tree.{Tree}
use Rattle.tree.specs.Sought.{Value, Unfound}

-- the forms of a path
root_good : malformed (letters_of "/") ≡ false
unfolding malformed split_of any_empty letters_of
root_good = refl

two_good : malformed (letters_of "/a/b") ≡ false
unfolding malformed split_of any_empty letters_of
two_good = refl

nothing_bad : malformed [] ≡ true
unfolding malformed split_of any_empty letters_of
nothing_bad = refl

slashless_bad : malformed (letters_of "a/b") ≡ true
unfolding malformed split_of any_empty letters_of
slashless_bad = refl

empty_part_bad : malformed (letters_of "/a//b") ≡ true
unfolding malformed split_of any_empty letters_of
empty_part_bad = refl

last_slash_bad : malformed (letters_of "/a/") ≡ true
unfolding malformed split_of any_empty letters_of
last_slash_bad = refl

slashes_bad : malformed (letters_of "//") ≡ true
unfolding malformed split_of any_empty letters_of
slashes_bad = refl

one_null_less : less_null (letters_of "a" ++ (0 ∷ 0 ∷ [])) ≡ letters_of "a" ++ (0 ∷ [])
unfolding less_null letters_of
one_null_less = refl

-- a tree: node 1 is called "a" with a null behind it, node 2 "a" without; node 3, a child of node 2, is called "c", node 4, a child of node
-- 1, "d"; node 5 has no name; node 1 has an "x" as well
store : List ℕ
store =
    letters_of "name" ++ (0x61 ∷ 0 ∷ letters_of "name" ++
    (0x61 ∷ letters_of "name" ++ (0x63 ∷ letters_of "name" ++ (0x64 ∷ 0x78 ∷ 7 ∷ 8 ∷ 9 ∷ replicate 16359 0))))

tree : Tree
tree = tree_of (0 ∷ 0 ∷ 0 ∷ 2 ∷ 1 ∷ 0 ∷ []) 6 (1 ∷ 2 ∷ 3 ∷ 4 ∷ 1 ∷ []) (4 ∷ 4 ∷ 4 ∷ 4 ∷ 1 ∷ []) (2 ∷ 1 ∷ 1 ∷ 1 ∷ 3 ∷ []) 5

root_found : find_node_of tree store (letters_of "/") ≡ Ok 0
unfolding find_node_of down_from child_from value_in held_from same_bytes less_null malformed split_of any_empty whole_tree every_below
    live_among
    letters_of store tree
root_found = refl

-- "the oldest match at each level"
oldest_found : find_node_of tree store (letters_of "/a") ≡ Ok 1
unfolding find_node_of down_from child_from value_in held_from same_bytes less_null malformed split_of any_empty whole_tree every_below
    live_among
    letters_of store tree
oldest_found = refl

nullless_found : find_node_of tree store (letters_of "/a/d") ≡ Ok 4
unfolding find_node_of down_from child_from value_in held_from same_bytes less_null malformed split_of any_empty whole_tree every_below
    live_among
    letters_of store tree
nullless_found = refl

-- "no going back": node 2 has the child that is asked for
younger_passed : find_node_of tree store (letters_of "/a/c") ≡ Err 30
unfolding find_node_of down_from child_from value_in held_from same_bytes less_null malformed split_of any_empty whole_tree every_below
    live_among
    letters_of store tree
younger_passed = refl

form_refused : find_node_of tree store (letters_of "/a/") ≡ Err 29
unfolding find_node_of down_from child_from value_in held_from same_bytes less_null malformed split_of any_empty whole_tree every_below
    live_among
    letters_of store tree
form_refused = refl

size_refused : find_node_of tree [] (letters_of "/") ≡ Err 6
unfolding find_node_of down_from child_from value_in held_from same_bytes less_null malformed split_of any_empty whole_tree every_below
    live_among
    letters_of store tree
size_refused = refl

damaged_refused : find_node_of no_tree store (letters_of "a") ≡ Err 7
unfolding find_node_of down_from child_from value_in held_from same_bytes less_null malformed split_of any_empty whole_tree every_below
    live_among
    letters_of store tree
damaged_refused = refl

-- a node without a name is called nothing, not even by the empty part
nameless : is_called tree store 5 [] ≡ false
unfolding value_in held_from same_bytes less_null letters_of store tree
nameless = refl

-- the value stands behind its name
value_found : find_property_of tree store (letters_of "/a") (letters_of "x") ≡ Value 22 3
unfolding find_property_of named_place found_from find_node_of down_from child_from value_in held_from same_bytes less_null malformed
    split_of any_empty
    whole_tree every_below live_among letters_of store tree
value_found = refl

value_bytes : property_value_of tree store (letters_of "/a") (letters_of "x") ≡ 7 ∷ 8 ∷ 9 ∷ []
unfolding property_value_of find_node_of down_from child_from value_in held_from same_bytes less_null malformed split_of any_empty
    whole_tree every_below
    live_among letters_of store tree
value_bytes = refl

property_missing : find_property_of tree store (letters_of "/a/d") (letters_of "x") ≡ Unfound 30
unfolding find_property_of named_place found_from find_node_of down_from child_from value_in held_from same_bytes less_null malformed
    split_of any_empty
    whole_tree every_below live_among letters_of store tree
property_missing = refl

-- no lookup judges a name: one that 26 refuses is just not there
bad_name_missing : find_property_of tree store (letters_of "/a") (letters_of "X:") ≡ Unfound 30
unfolding find_property_of named_place found_from find_node_of down_from child_from value_in held_from same_bytes less_null malformed
    split_of any_empty
    whole_tree every_below live_among letters_of store tree
bad_name_missing = refl

bad_part_missing : find_node_of tree store (letters_of "/A:[a]") ≡ Err 30
unfolding find_node_of down_from child_from value_in held_from same_bytes less_null malformed split_of any_empty whole_tree every_below
    live_among
    letters_of store tree
bad_part_missing = refl

-- the node table, whose unused rows are zero
parents_are : parents_of tree ≡ 0 ∷ 0 ∷ 0 ∷ 2 ∷ 1 ∷ 0 ∷ replicate 26 0
unfolding column_from count_from tree
parents_are = refl

counts_are : counts_of tree ≡ 0 ∷ 2 ∷ 1 ∷ 1 ∷ 1 ∷ 0 ∷ replicate 26 0
unfolding column_from count_from tree
counts_are = refl
