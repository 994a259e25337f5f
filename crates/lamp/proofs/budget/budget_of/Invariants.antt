-- What is read so far, and the digits behind it, come to what the whole word comes to.
use Rattle.std.proofs.Common.{◌≡◌, drop}
use Rattle.lamp.specs.Budget.{steps_from, budget_of}
use Rattle.lamp.proofs.budget.budget_of.Given as goal

abbrev pub invariant-loop-b : goal.invariant-loop-b
invariant-loop-b l = steps_from l.sum (drop l.b-index l.word) ≡ budget_of l.word
