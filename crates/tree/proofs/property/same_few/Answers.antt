use Rattle.std.proofs.Common.{sym, ◌∙◌, rules}
use Rattle.tree.specs.Laws.Trees.{same_more, same_differs, same_end}
use Rattle.tree.proofs.property.same_few.Goals as goal

pub returns-then-a-k : goal.returns-then-a-k
returns-then-a-k c =
    let a = c.args in
    sym (same_differs a.a.now a.b.now c.loop-k.k (search rules) (search rules) c.if-a-k.true) ∙ c.loop-k.invariant

pub loop-k-preserved : goal.loop-k-preserved
loop-k-preserved c =
    let a = c.args in
    same_more a.a.now a.b.now c.loop-k.k (search rules) (search rules) c.if-a-k.false ∙ c.loop-k.invariant

pub returns : goal.returns
returns c =
    let a = c.args in
    sym (same_end a.a.now a.b.now c.loop-k.k (search rules) (search rules)) ∙ c.loop-k.invariant
