-- What a step or a run answers: it goes on, it finished, it is refused with a number, or the budget is spent, with the count of tokens
-- carried out. The code has names for the refusals (crate rom, Refusal.antt). Assumes nothing.
use Rattle.std.specs.Prelude.{ℕ}
use Rattle.rom.specs.Refusal.{refusal_number}
use Rattle.rom.specs.declared.refusal.Refusal.{Refusal}
use Rattle.state.specs.declared.state.State.{State}
use Rattle.state.specs.declared.answer.AnswerBy.{AnswerBy as SaidBy}
use Rattle.state.specs.declared.answer.AnswerBy.TheVariants.{Going as OnIt, Finished as Over, Refused as Stopped, Spent as Used}
use Rattle.state.specs.declared.answer.SteppedBy.{SteppedBy as StepSaidBy}
use Rattle.state.specs.declared.answer.Ran.{Ran as RunSaid}

pub data Answer : Type 0 where
  Going : Answer
  Finished : Answer
  Refused : (why : ℕ) → Answer
  Spent : (count : ℕ) → Answer

-- what the code answers, where what says why has a number
abbrev pub answer_by : {W : Type 0} → (W → ℕ) → SaidBy W → Answer
answer_by says OnIt = Going
answer_by says Over = Finished
answer_by says (Stopped why) = Refused (says why)
answer_by says (Used count) = Spent count

-- and where it has a refusal's name
abbrev pub answer_in : SaidBy Refusal → Answer
answer_in a = answer_by refusal_number a

-- an answer with the state then
pub record Stepped : Type 0 where
  pub answer : Answer
  pub state : State

abbrev pub stepped_in : StepSaidBy Refusal → Stepped
stepped_in r = record { answer = answer_in r.answer; state = r.state }

-- and with the count of tokens carried out
pub record Ran : Type 0 where
  pub answer : Answer
  pub count : ℕ
  pub state : State

unfoldable pub ran_in : RunSaid → Ran
ran_in r = record { answer = answer_in r.answer; count = r.count; state = r.state }
