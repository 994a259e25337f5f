use Rattle.std.proofs.Common.{◌∙◌, arith}
use Rattle.screen.specs.Laws.Code.Codes.{sum_small}
use Rattle.screen.specs.Laws.Code.Visit.{unfit_visit, fit_visit}
use Rattle.screen.specs.Laws.Found.Cell.{same_cell}
use Rattle.screen.proofs.visiting.called.Goals as goal

pub returns-then-height-sum : goal.returns-then-height-sum
returns-then-height-sum c =
    let s = c.sum_at-sum.ensures in
    rw (← s) (c.bad_visit.ensures ∙ unfit_visit _ _ _ _ _ (λ r. omega arith))

pub overflow_add-up : goal.overflow_add-up
overflow_add-up c =
    let s = sum_small _ _ _ c.sum_at-sum.ensures in
    omega arith

pub returns-then-most-up : goal.returns-then-most-up
returns-then-most-up c =
    let s = c.sum_at-sum.ensures in
    rw (← s) (c.bad_visit-then-most-up.ensures ∙ unfit_visit _ _ _ _ _ (λ r. omega arith))

pub overflow_add-kept : goal.overflow_add-kept
overflow_add-kept c =
    let s = sum_small _ _ _ c.sum_at-sum.ensures in
    omega arith

pub returns-then-most-kept : goal.returns-then-most-kept
returns-then-most-kept c =
    let s = c.sum_at-sum.ensures in
    rw (← s) (c.bad_visit-then-most-kept.ensures ∙ unfit_visit _ _ _ _ _ (λ r. omega arith))

pub returns-then-back-gt-RETURN_MOST : goal.returns-then-back-gt-RETURN_MOST
returns-then-back-gt-RETURN_MOST c =
    let s = c.sum_at-sum.ensures in
    rw (← s) (c.bad_visit-then-back-gt-RETURN_MOST.ensures ∙ unfit_visit _ _ _ _ _ (λ r. omega arith))

pub overflow_add-back : goal.overflow_add-back
overflow_add-back c =
    let s = sum_small _ _ _ c.sum_at-sum.ensures in
    omega arith

pub returns-then-back-sum-gt-RETURN_MOST : goal.returns-then-back-sum-gt-RETURN_MOST
returns-then-back-sum-gt-RETURN_MOST c =
    let s = c.sum_at-sum.ensures in
    rw (← s) (c.bad_visit-then-back-sum-gt-RETURN_MOST.ensures ∙ unfit_visit _ _ _ _ _ (λ r. omega arith))

pub overflow_add-own : goal.overflow_add-own
overflow_add-own c =
    let s = sum_small _ _ _ c.sum_at-sum.ensures in
    omega arith

pub returns-then-own-sum-gt-FRAMES_MOST : goal.returns-then-own-sum-gt-FRAMES_MOST
returns-then-own-sum-gt-FRAMES_MOST c =
    let s = c.sum_at-sum.ensures in
    rw (← s) (c.bad_visit-then-own-sum-gt-FRAMES_MOST.ensures ∙ unfit_visit _ _ _ _ _ (λ r. omega arith))

pub returns : goal.returns
returns c =
    let e = c.sum_at-sum.ensures in
    rw (← e) (fit_visit _ _ _ _ _ _ (record {
      takes = omega arith;
      most = omega arith;
      rise = omega arith;
      return_takes = omega arith;
      return_high = omega arith;
      return_rise = omega arith;
      frames = omega arith;
    }) (c.cell_of.ensures ∙ same_cell (omega arith) (omega arith)))
