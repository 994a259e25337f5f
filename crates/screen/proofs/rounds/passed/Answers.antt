use Rattle.screen.specs.Laws.Code.Round.{pass_none, pass_early, pass_past, pass_quick, pass_glance}
use Rattle.screen.proofs.rounds.passed.Goals as goal

pub returns-then-cell-eq0 : goal.returns-then-cell-eq0
returns-then-cell-eq0 c = pass_none _ _ _ _ _ _ c.if-cell-eq0.true

pub returns-then-place-free : goal.returns-then-place-free
returns-then-place-free c = pass_early _ _ _ _ _ _ c.if-cell-eq0.false c.if-place-free.true

pub returns-then-text-place : goal.returns-then-text-place
returns-then-text-place c = pass_past _ _ _ _ _ _ c.if-cell-eq0.false c.if-place-free.false c.if-text-place.true

pub returns-then-quick-ne0 : goal.returns-then-quick-ne0
returns-then-quick-ne0 c = pass_quick _ _ _ _ _ _ c.if-cell-eq0.false c.if-place-free.false _
    (c.quick_at-quick.ensures.2 c.if-quick-ne0.true)

pub returns : goal.returns
returns c = pass_glance _ _ _ _ _ _ c.if-cell-eq0.false c.if-place-free.false _ c.glance_from-glance.ensures _ c.end_seen.ensures
