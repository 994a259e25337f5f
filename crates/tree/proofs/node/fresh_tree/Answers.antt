use Rattle.tree.proofs.node.fresh_tree.Goals as goal

pub returns : goal.returns
returns c = rw c.no_tree-t.ensures
