use Rattle.std.proofs.Common.{arith}
use Rattle.screen.specs.Laws.Code.Codes.{sum_small}
use Rattle.screen.proofs.tally.called.Goals as goal

pub overflow_add-nested : goal.overflow_add-nested
overflow_add-nested c = let s = sum_small _ _ _ c.sum_at-sum.ensures in let l = c.saturating_sub.ensures in omega arith

pub overflow_add-sum : goal.overflow_add-sum
overflow_add-sum c = let s = sum_small _ _ _ c.sum_at-sum.ensures in omega arith

pub overflow_add-back_in : goal.overflow_add-back_in
overflow_add-back_in c = let s = sum_small _ _ _ c.sum_at-sum.ensures in omega arith

pub overflow_add-sum-2 : goal.overflow_add-sum-2
overflow_add-sum-2 c =
    let s = sum_small _ _ _ c.sum_at-sum.ensures in
    omega arith

pub returns : goal.returns
returns c =
    simp (
      c.max-5.ensures,
      c.max-4.ensures,
      c.back_in.ensures.0,
      c.max-3.ensures,
      c.max-2.ensures,
      c.max.ensures,
      c.saturating_sub-2.ensures,
      c.saturating_sub.ensures,
      c.sum_at-sum.ensures,
      c.height_in-height.ensures.0,
    )
