use Rattle.std.proofs.Common.{◌∙◌, arith}
use Rattle.rom.proofs.Totals.{block_taken}
use Rattle.rom.proofs.sum.blocks.Goals as goal

pub loop-front-preserved : goal.loop-front-preserved
loop-front-preserved c =
    let e = c.in-Some.ensures.cases in
    block_taken _ _ _ _ _ e.0 e.1 _ _ (omega arith) c.added-sum.ensures c.added-sum-in-Some.ensures
    ∙ c.loop-front.invariant
