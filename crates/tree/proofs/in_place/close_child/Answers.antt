use Rattle.std.proofs.Common.{eq-eqb, ne_eqb}
use Rattle.tree.proofs.in_place.close_child.Goals as goal

pub returns-then-active-first : goal.returns-then-active-first
returns-then-active-first c = λ t n. rw (eq-eqb _ _ c.if-active-first.true)

pub returns : goal.returns
returns c = λ t n. rw (ne_eqb _ _ c.if-active-first.false, c.parent_among.ensures, c.wide.ensures.0)
