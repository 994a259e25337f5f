use Rattle.screen.specs.Laws.Found.Model.{sum_at}
use Rattle.screen.specs.Laws.Found.Sums.{unpacked_sum}
use Rattle.screen.proofs.effect.sum_at.Goals as goal

pub returns : goal.returns
unfolding sum_at unpacked_sum
returns c = simp (← c.sum_code-code.ensures, c.pair.ensures, c.pair-2.ensures, c.pair-3.ensures, c.pair-4.ensures, c.pair-5.ensures)
