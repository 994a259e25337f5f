use Rattle.std.proofs.Common.{arith}
use Rattle.rom.proofs.Totals.{one_taken}
use Rattle.rom.proofs.sum.taken.Goals as goal

pub returns-in-Some : goal.returns-in-Some
returns-in-Some g c =
    let e = c.in-Some.ensures.cases in
    (omega arith, one_taken _ _ _ _ _ e.0 e.1 _ c.added.ensures)
