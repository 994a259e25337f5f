use Rattle.std.proofs.Common.{refl, sym, ap, ◌∙◌, rules}
use Rattle.tree.specs.Laws.Path.{child_sought, child_here, child_next, child_none}
use Rattle.tree.proofs.lookup.child_named.Goals as goal

pub loop-k-init : goal.loop-k-init
loop-k-init c = refl

pub returns-then-is_child : goal.returns-then-is_child
returns-then-is_child c =
    let a = c.args in
    sym (ap child_sought (sym c.loop-k.invariant ∙ child_here a.tree a.store.now a.node a.part.now a.tree.nodes c.loop-k.k
    (search rules) (sym c.is_child.ensures ∙ c.if-is_child.true)))

pub loop-k-preserved : goal.loop-k-preserved
loop-k-preserved c =
    let a = c.args in
    sym (child_next a.tree a.store.now a.node a.part.now a.tree.nodes c.loop-k.k (search rules)
    (sym c.is_child.ensures ∙ c.if-is_child.false)) ∙ c.loop-k.invariant

pub returns : goal.returns
returns c =
    let a = c.args in
    sym (ap child_sought (sym c.loop-k.invariant ∙ child_none a.tree a.store.now a.node a.part.now a.tree.nodes c.loop-k.k
    (search rules)))
