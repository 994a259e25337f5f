-- Nodes: "11F new-device (a bare child of the active node becomes active), 127 finish-device (the parent becomes active)", with refusal 20,
-- "a 33rd node, or finish-device at node 1": at the first node, which is node 1 in every state that opening hands back. At the start "node
-- 0 is the root, node 1 its child and active; both have no properties." Which node is active, and which the first, is the state's. Assumes
-- nothing.
use Rattle.std.specs.Prelude.{ℕ, ◌+◌, Bool, set, leb, eqb, Err, Ok, Result}
use Rattle.cells.specs.Choice.{pick}
use Rattle.rom.specs.Sizes.{nodes_most}
use Rattle.tree.specs.Whole.{parent_of}
use Rattle.tree.specs.Tree.{bare_tree, tree_on_nodes}
use Rattle.tree.specs.declared.tree.Tree.{Tree}

abbrev pub no_room : Tree → Bool
no_room t = leb nodes_most t.nodes

-- whether the active node is the first
abbrev pub outermost : ℕ → ℕ → Bool
outermost first active = eqb active first

-- the tree with a child of the active node, which is node `t.nodes`
abbrev pub child_of : Tree → ℕ → Tree
child_of t active = tree_on_nodes t (set t.parents t.nodes active) (t.nodes + 1)

-- no nodes at all, as in the all-zero state
abbrev pub no_tree : Tree
no_tree = bare_tree 0

-- the root and its child
abbrev pub fresh_tree : Tree
fresh_tree = bare_tree 2

-- what a write gives, with the tree then
pub record Written : Type 0 where
  pub outcome : Result (Unit {0}) ℕ
  pub tree : Tree

-- refused: the tree as it was
abbrev pub write_refused : ℕ → Tree → Written
write_refused why t = record { outcome = Err why; tree = t }

abbrev pub write_done : Tree → Written
write_done t = record { outcome = Ok tt; tree = t }

-- what opening or closing a node gives, with the tree and the active node then
pub record Activated : Type 0 where
  pub outcome : Result (Unit {0}) ℕ
  pub tree : Tree
  pub active : ℕ

abbrev pub activated : Result (Unit {0}) ℕ → Tree → ℕ → Activated
activated outcome t active = record { outcome = outcome; tree = t; active = active }

abbrev pub new_device_of : Tree → ℕ → Activated
new_device_of t active = pick (no_room t) (activated (Err 20) t active) (activated (Ok tt) (child_of t active) t.nodes)

-- finish-device changes no tree
abbrev pub finish_device_of : Tree → ℕ → ℕ → Activated
finish_device_of t first active = pick (outermost first active) (activated (Err 20) t active) (activated (Ok tt) t (parent_of t active))
