use Rattle.std.proofs.Common.{refl, length-set, arith}
use Rattle.screen.specs.Laws.Code.Body.{shifting_first, shifting_done, shifting_turn}
use Rattle.screen.proofs.body.shift.Goals as goal

pub loop-place-init : goal.loop-place-init
loop-place-init c = (refl, shifting_first _ _ _ _ c.requires.2)

pub bounds-seen-place : goal.bounds-seen-place
bounds-seen-place c =
    let pre = c.requires in
    let t = c.loop-place-test.true in
    let l = c.loop-place.invariant.0 in
    let p = pre.1 in
    omega arith

pub moved_cell-requires : goal.moved_cell-requires
moved_cell-requires c =
    let pre = c.requires in
    (pre.0, c.loop-place.invariant.1.above c.loop-place.place (omega arith))

pub bounds-seen-place-in-loop-place : goal.bounds-seen-place-in-loop-place
bounds-seen-place-in-loop-place c =
    let pre = c.requires in
    let t = c.loop-place-test.true in
    let l = c.loop-place.invariant.0 in
    let p = pre.1 in
    omega arith

pub loop-place-preserved : goal.loop-place-preserved
loop-place-preserved c = (
  simp length-set c.loop-place.invariant.0,
  shifting_turn _ _ _ _ _ c.loop-place.invariant.1 _
      c.loop-place-test.true c.moved_cell.ensures,
)

pub shape_of-seen : goal.shape_of-seen
shape_of-seen c = c.loop-place.invariant.0

pub returns : goal.returns
returns c = shifting_done _ _ _ _ _ c.loop-place.invariant.1 c.loop-place-test.false
