use Rattle.std.proofs.Common.{refl, ◌∙◌, arith}
use Rattle.screen.specs.Laws.Code.Walk.{walks_first, walks_lost, walks_ended, walks_spent, behind_real, walks_turn}
use Rattle.screen.proofs.walking.walk_on.Goals as goal

pub loop-way-init : goal.loop-way-init
loop-way-init c = let p = c.requires in ((refl, refl), walks_first _ _ _ _ _ c.no_tally-tally.ensures p.1 p.2)

pub shape_of-seen-then-way-eq0 : goal.shape_of-seen-then-way-eq0
shape_of-seen-then-way-eq0 c = c.loop-way.invariant.0.0

pub shape_of-work-then-way-eq0 : goal.shape_of-work-then-way-eq0
shape_of-work-then-way-eq0 c = c.loop-way.invariant.0.1

pub returns-then-way-eq0 : goal.returns-then-way-eq0
returns-then-way-eq0 c =
    walks_ended _ _ _ _ c.loop-way.invariant.1 c.loop-way-test.true _ refl refl c.if-way-eq0.true

pub shape_of-seen-then-left-eq0 : goal.shape_of-seen-then-left-eq0
shape_of-seen-then-left-eq0 c = c.loop-way.invariant.0.0

pub shape_of-work-then-left-eq0 : goal.shape_of-work-then-left-eq0
shape_of-work-then-left-eq0 c = c.loop-way.invariant.0.1

pub returns-then-left-eq0 : goal.returns-then-left-eq0
returns-then-left-eq0 c = walks_spent _ _ _ _ c.loop-way.invariant.1 c.loop-way-test.true c.if-way-eq0.false c.if-left-eq0.true

pub visit_at-met-requires : goal.visit_at-met-requires
visit_at-met-requires c = let p = c.requires in (p.0, c.loop-way.invariant.1.fit.near c.if-way-eq0.false)

pub onward-way-requires : goal.onward-way-requires
onward-way-requires c =
    let k = c.loop-way.invariant.1 in
    (k.fit, c.if-way-eq0.false, behind_real _ _ _ _ k c.loop-way-test.true c.if-way-eq0.false _ _ c.visit_at-met.ensures)

pub overflow_sub-left : goal.overflow_sub-left
overflow_sub-left c = let n = c.if-left-eq0.false in omega arith

pub loop-way-smaller : goal.loop-way-smaller
loop-way-smaller c = let n = c.if-left-eq0.false in omega arith

pub loop-way-preserved : goal.loop-way-preserved
loop-way-preserved c =
    let k = c.loop-way.invariant in
    let n = c.if-left-eq0.false in (
      (c.onward-way.auto.seen ∙ k.0.0, c.onward-way.auto.work ∙ k.0.1),
      walks_turn _ _ _ _ k.1 c.loop-way-test.true c.if-way-eq0.false _ _ c.visit_at-met.ensures (omega arith) c.onward-way.ensures,
    )

pub shape_of-seen : goal.shape_of-seen
shape_of-seen c = c.loop-way.invariant.0.0

pub shape_of-work : goal.shape_of-work
shape_of-work c = c.loop-way.invariant.0.1

pub returns : goal.returns
returns c = walks_lost _ _ _ _ c.loop-way.invariant.1 c.loop-way-test.false
