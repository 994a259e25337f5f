use Rattle.std.proofs.Common.{rules}
use Rattle.screen.specs.Laws.Found.Sums.{packed_sum}
use Rattle.screen.proofs.effect.pack.Goals as goal

pub returns : goal.returns
unfolding packed_sum
returns c = search rules
