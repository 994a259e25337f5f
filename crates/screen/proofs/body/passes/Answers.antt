use Rattle.std.proofs.Common.{rules}
use Rattle.std.proofs.lemmas.Grind.{common_steps}
use Rattle.std.proofs.Common.{arith}
use Rattle.screen.specs.Laws.Found.Model.{passes_of}
use Rattle.screen.proofs.body.passes.Goals as goal

pub returns-then-tally-ne0-2 : goal.returns-then-tally-ne0-2
unfolding passes_of
returns-then-tally-ne0-2 c = search rules

pub returns-else-tally-ne0-2 : goal.returns-else-tally-ne0-2
unfolding passes_of
returns-else-tally-ne0-2 c = grind (arith, common_steps)
