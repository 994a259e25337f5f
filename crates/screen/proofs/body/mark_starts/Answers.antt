use Rattle.std.proofs.Common.{refl, sym, ◌∙◌, ap, length-set, arith}
use Rattle.cells.specs.Laws.Facts.{not_on, not_off}
use Rattle.screen.specs.Laws.Found.Model.{Marked}
use Rattle.screen.specs.Laws.Code.Body.{quick_ahead, stood_ahead, marking_first, marking_past, marking_stops, marking_quick}
use Rattle.screen.specs.Laws.Code.Body.{marking_ends, marking_goes}
use Rattle.screen.proofs.body.mark_starts.Goals as goal

pub loop-at-init : goal.loop-at-init
loop-at-init c =
    let pre = c.requires in
    (refl, marking_first _ _ _ _ _ _ pre.2)

pub bounds-seen-k : goal.bounds-seen-k
bounds-seen-k c =
    let pre = c.requires in
    let t = c.loop-at-test.true in
    let l = c.loop-at.invariant.0 in
    let p = pre.1 in
    omega arith

pub loop-at-smaller-then-quick-ne0 : goal.loop-at-smaller-then-quick-ne0
loop-at-smaller-then-quick-ne0 c =
    let a = c.args in
    let t = c.loop-at-test.true in
    let h = quick_ahead a.rom.now a.length a.wide a.kinds.now _ _
    (c.quick_at-quick.ensures.2 c.if-quick-ne0.true) in
    omega arith

pub loop-at-preserved-then-quick-ne0 : goal.loop-at-preserved-then-quick-ne0
loop-at-preserved-then-quick-ne0 c = (
  simp length-set c.loop-at.invariant.0,
  marking_quick _ _ _ _ _ _ _ _ c.loop-at.invariant.1 c.loop-at-test.true _
      (c.quick_at-quick.ensures.2 c.if-quick-ne0.true),
)

pub shape_of-seen-then-not-stands : goal.shape_of-seen-then-not-stands
shape_of-seen-then-not-stands c = c.loop-at.invariant.0

pub returns-then-not-stands : goal.returns-then-not-stands
returns-then-not-stands c =
    let a = c.args in
    let s = c.stands.ensures a.rom.now a.length a.wide c.loop-at.at (sym c.glance_from-glance.ensures) in
    let h = sym s ∙ not_off c.stands.result c.if-not-stands.true-raw in
    ap (λ (m : Marked). m.good) (sym (marking_stops _ _ _ _ _ _ _ _ c.loop-at.invariant.1 c.loop-at-test.true h))

pub bounds-seen-k-else-quick-ne0 : goal.bounds-seen-k-else-quick-ne0
bounds-seen-k-else-quick-ne0 c =
    let t = c.loop-at-test.true in
    let l = c.loop-at.invariant.0 in
    let p = c.requires.1 in
    omega arith

pub shape_of-seen-then-quick : goal.shape_of-seen-then-quick
shape_of-seen-then-quick c = simp length-set c.loop-at.invariant.0

pub returns-then-quick : goal.returns-then-quick
returns-then-quick c =
    let a = c.args in
    let s = c.stands.ensures a.rom.now a.length a.wide c.loop-at.at (sym c.glance_from-glance.ensures) in
    record {
      same = marking_ends _ _ _ _ _ _ _ _ c.loop-at.invariant.1 c.loop-at-test.true _ c.glance_from-glance.ensures
          (sym s ∙ not_on c.stands.result c.if-not-stands.false-raw) _ c.quick_at-quick.ensures.0 c.if-quick.true;
      inside = c.loop-at-test.true;
    }

pub loop-at-smaller : goal.loop-at-smaller
loop-at-smaller c =
    let a = c.args in
    let t = c.loop-at-test.true in
    let s = c.stands.ensures a.rom.now a.length a.wide c.loop-at.at (sym c.glance_from-glance.ensures) in
    let h = stood_ahead a.rom.now a.length a.wide a.kinds.now _ _ c.glance_from-glance.ensures
    (sym s ∙ not_on c.stands.result c.if-not-stands.false-raw) in
    omega arith

pub loop-at-preserved : goal.loop-at-preserved
loop-at-preserved c =
    let a = c.args in
    let s = c.stands.ensures a.rom.now a.length a.wide c.loop-at.at (sym c.glance_from-glance.ensures) in (
      simp length-set c.loop-at.invariant.0,
      marking_goes _ _ _ _ _ _ _ _ c.loop-at.invariant.1 c.loop-at-test.true _ c.glance_from-glance.ensures
          (sym s ∙ not_on c.stands.result c.if-not-stands.false-raw) _ c.quick_at-quick.ensures.0 c.if-quick.false,
    )

pub shape_of-seen : goal.shape_of-seen
shape_of-seen c = c.loop-at.invariant.0

pub returns : goal.returns
returns c = ap (λ (m : Marked). m.good) (sym (marking_past _ _ _ _ _ _ _ _ c.loop-at.invariant.1 c.loop-at-test.false))
