use Rattle.std.proofs.Common.{sym, ◌∙◌}
use Rattle.tree.specs.Laws.Trees.{laid_null, laid_bare}
use Rattle.tree.proofs.property.lay_value.Goals as goal

pub returns-then-null : goal.returns-then-null
returns-then-null c =
    let a = c.args in
    c.put.ensures
    ∙ rw (c.copy_in.ensures, c.if-null.true)
    (sym (laid_null a.store.now a.at a.value.now))

pub returns-else-null : goal.returns-else-null
returns-else-null c =
    let a = c.args in
    c.copy_in.ensures ∙ rw c.if-null.false (sym (laid_bare a.store.now a.at a.value.now))
