use Rattle.std.proofs.Common.{sym, ◌∙◌}
use Rattle.tree.specs.Laws.Trees.{older_root, older_child}
use Rattle.tree.proofs.tree.is_older.Goals as goal

pub returns-then-k-eq0 : goal.returns-then-k-eq0
returns-then-k-eq0 c =
    let a = c.args in
    sym (older_root a.parents.now a.k c.if-k-eq0.true ∙ rw (← c.wide-parent.ensures.0))

pub returns-else-k-eq0 : goal.returns-else-k-eq0
returns-else-k-eq0 c =
    let a = c.args in
    sym (older_child a.parents.now a.k c.if-k-eq0.false ∙ rw (← c.wide-parent.ensures.0))
