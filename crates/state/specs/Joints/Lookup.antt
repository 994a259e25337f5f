-- The tree that a lookup of a state goes by. Assumes nothing.
use Rattle.cells.specs.Choice.{pick}
use Rattle.tree.specs.Node.{no_tree}
use Rattle.tree.specs.declared.tree.Tree.{Tree}
use Rattle.state.specs.Whole.{whole_of}
use Rattle.state.specs.declared.state.State.{State}

-- the tree that a state has to show, as the code goes: its own where it is whole, and where it is damaged one without nodes, which is
-- damaged too
abbrev pub tree_or_none : State → Tree
tree_or_none st = pick (whole_of st) st.tree no_tree
