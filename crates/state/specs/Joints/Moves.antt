-- One cell pushed or popped, a body entered or left: the state handed back with an answer. Assumes nothing.
use Rattle.std.specs.Prelude.{ℕ, ◌+◌, ◌-◌, ◌≡◌, refl, Bool, List, set, ltb, eqb}
use Rattle.cells.specs.Choice.{pick}
use Rattle.rom.specs.Refusal.{refusal_number}
use Rattle.rom.specs.Sizes.{data_most, frames_most}
use Rattle.rom.specs.declared.refusal.Refusal.{Refusal}
use Rattle.state.specs.Stacks.{stacks, top_of}
use Rattle.state.specs.State.{moved, base_of}
use Rattle.state.specs.Effects.{entered_of, left_body_of}
use Rattle.state.specs.declared.state.State.{State}
use Rattle.state.specs.Answer.{Answer, Going, Refused, Stepped, stepped_in}
use Rattle.state.specs.declared.answer.AnswerBy.TheVariants.{Refused as Stopped}
use Rattle.state.specs.declared.answer.SteppedBy.{SteppedBy as StepSaidBy}

abbrev pub stepped : Answer → State → Stepped
stepped a st = record { answer = a; state = st }

-- the state as it is, with why a step is refused, whatever says why
abbrev pub refused_on : {W : Type 0} → State → W → StepSaidBy W
refused_on st why = record { answer = Stopped why; state = st }

-- with a refusal's name it is a step refused with its number
pub refused_by_name : (st : State) (why : Refusal) → stepped_in (refused_on st why) ≡ stepped (Refused (refusal_number why)) st
refused_by_name st why = refl

-- a cell taken from the data stack, with the state then
pub record Popped : Type 0 where
  pub answer : Answer
  pub cell : ℕ
  pub state : State

abbrev pub popped : Answer → ℕ → State → Popped
popped a cell st = record { answer = a; cell = cell; state = st }

-- the state with another data stack
abbrev pub restacked : State → List ℕ → ℕ → State
restacked st cells height = moved st (stacks cells height st.back.cells st.back.height) st.place

-- 15 where the stack is full
unfoldable pub push_of : State → ℕ → Stepped
push_of st cell =
    pick (ltb st.stack.height data_most)
    (stepped Going (restacked st (set st.stack.cells st.stack.height cell) (st.stack.height + 1)))
    (stepped (Refused 15) st)

-- 14 where it is empty
unfoldable pub pop_of : State → Popped
pop_of st =
    pick (eqb st.stack.height 0) (popped (Refused 14) 0 st)
    (popped Going (top_of st.stack.cells st.stack.height 0) (restacked st st.stack.cells (st.stack.height - 1)))

-- 17 where 16 calls are open
unfoldable pub call_of : State → ℕ → Bool → ℕ → Stepped
call_of st to wide next = pick (ltb st.calls.count frames_most) (stepped Going (entered_of st to wide next)) (stepped (Refused 17) st)

-- 18 where no call is open, 16 where the return stack is not at the frame's base
unfoldable pub leave_of : State → Stepped
leave_of st =
    pick (eqb st.calls.count 0) (stepped (Refused 18) st)
    (pick (eqb st.back.height (base_of st.calls)) (stepped Going (left_body_of st)) (stepped (Refused 16) st))
