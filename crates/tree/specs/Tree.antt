-- A tree by its fields. antt has no record update, so a tree's fields are listed here and nowhere else: every other tree is made through
-- `tree_of`. Assumes nothing.
use Rattle.std.specs.Prelude.{ℕ, List, replicate}
use Rattle.rom.specs.Sizes.{nodes_most, properties_most}
use Rattle.tree.specs.declared.tree.Tree.{Tree}

abbrev pub tree_of : List ℕ → ℕ → List ℕ → List ℕ → List ℕ → ℕ → Tree
tree_of parents nodes owners name_sizes value_sizes held =
    record {
      parents = parents;
      nodes = nodes;
      owners = owners;
      name_sizes = name_sizes;
      value_sizes = value_sizes;
      held = held;
    }

-- so many nodes, each a child of the root, and no properties
abbrev pub bare_tree : ℕ → Tree
bare_tree nodes =
    tree_of (replicate nodes_most 0) nodes (replicate properties_most 0) (replicate properties_most 0) (replicate properties_most 0) 0

-- a tree with other records, or other nodes, the rest as it is
abbrev pub tree_on_records : Tree → List ℕ → List ℕ → List ℕ → ℕ → Tree
tree_on_records t owners name_sizes value_sizes held = tree_of t.parents t.nodes owners name_sizes value_sizes held

abbrev pub tree_on_nodes : Tree → List ℕ → ℕ → Tree
tree_on_nodes t parents nodes = tree_of parents nodes t.owners t.name_sizes t.value_sizes t.held
