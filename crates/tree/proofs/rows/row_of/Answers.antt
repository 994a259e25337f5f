use Rattle.std.proofs.Common.{sym, rules}
use Rattle.tree.specs.Laws.Rows.{row_used, row_unused}
use Rattle.tree.proofs.rows.row_of.Goals as goal

pub returns-then-tree-k : goal.returns-then-tree-k
returns-then-tree-k c = let a = c.args in sym (row_unused a.tree a.k (search rules))

pub returns : goal.returns
returns c =
    let a = c.args in
    rw (c.count_of.ensures) (sym (row_used a.tree a.k (search rules)))
