use Rattle.std.proofs.Common.{sym, ◌∙◌, arith}
use Rattle.screen.specs.Laws.Code.Round.{apart_free, apart_spent, apart_fails, apart_on}
use Rattle.screen.proofs.rounds.apart.Goals as goal

pub loop-place-init : goal.loop-place-init
loop-place-init c = apart_free _ _ _ _ _ _ _ (omega arith)

pub loop-place-preserved : goal.loop-place-preserved
loop-place-preserved c =
    apart_on _ _ _ _ _ _ _ _ _ _ c.loop-place-test.true c.item_at-cell.ensures c.passed.ensures c.in-Some.is ∙ c.loop-place.invariant

pub returns-in_default : goal.returns-in_default
returns-in_default c =
    let t = c.loop-place-test.true in
    sym (apart_fails _ _ _ _ _ _ _ _ _ (omega arith) c.item_at-cell.ensures c.passed.ensures c.in_default.is) ∙ c.loop-place.invariant

pub returns : goal.returns
returns c = sym (apart_spent _ _ _ _ _ _ _ (omega arith)) ∙ c.loop-place.invariant
