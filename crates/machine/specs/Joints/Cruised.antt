-- How a run ends, of a state that is taken apart, and a step from a run of one token. Assumes nothing.
use Rattle.std.specs.Prelude.{ℕ, List, eqb}
use Rattle.cells.specs.Choice.{pick}
use Rattle.rom.specs.declared.refusal.Refusal.{Refusal}
use Rattle.state.specs.Run.{RunResult}
use Rattle.state.specs.Joints.Apart.{Arrays, joined}
use Rattle.state.specs.Joints.Moves.{stepped}
use Rattle.state.specs.Answer.{Answer, answer_in}
use Rattle.state.specs.declared.answer.AnswerBy.{AnswerBy as SaidBy}
use Rattle.state.specs.Answer.{Going, Finished, Refused, Spent, Ran, Stepped}
use Rattle.state.specs.declared.apart.Core.{Core}
use Rattle.machine.specs.declared.running.Cruised.{Cruised}

-- ---- for the code's own steps
abbrev pub cruised_by : SaidBy Refusal → ℕ → Core → Cruised
cruised_by a n k = record { answer = a; count = n; core = k }

-- what a run leaves of a state that is put together again
abbrev pub cruised_to : Cruised → Arrays → List ℕ → List ℕ → RunResult
cruised_to r a work store = record { answer = answer_in r.answer; count = r.count; state = joined a r.core; work = work; store = store }

-- a step from a run of one token
abbrev pub one_answer : Answer → Answer
one_answer Going = Going
one_answer Finished = Finished
one_answer (Refused why) = Going
one_answer (Spent n) = Going

abbrev pub one_of : Ran → Stepped
one_of r = stepped (pick (eqb r.count 0) r.answer (one_answer r.answer)) r.state
