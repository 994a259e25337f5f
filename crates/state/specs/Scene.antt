-- What a step has before it and what it leaves: the ROM's FCode bytes, work memory, the store and the state. Assumes nothing.
use Rattle.std.specs.Prelude.{ℕ, List}
use Rattle.state.specs.Stacks.{top_of}
use Rattle.state.specs.declared.state.State.{State}
use Rattle.state.specs.Answer.{Answer, Going, Finished, Refused, Spent, Stepped}

pub record Scene : Type 0 where
  pub rom : List ℕ
  pub work : List ℕ
  pub store : List ℕ
  pub state : State

abbrev pub scene : List ℕ → List ℕ → List ℕ → State → Scene
scene rom work store st = record { rom = rom; work = work; store = store; state = st }

pub record Turn : Type 0 where
  pub answer : Answer
  pub state : State
  pub work : List ℕ
  pub store : List ℕ

abbrev pub turn : Answer → State → List ℕ → List ℕ → Turn
turn a st work store = record { answer = a; state = st; work = work; store = store }

-- what a call handed back, with the memory that it left
abbrev pub handed_back : Stepped → List ℕ → List ℕ → Turn
handed_back r work store = turn r.answer r.state work store

-- "A refused step leaves state, work memory and store as before it."
abbrev pub refuse : ℕ → Scene → Turn
refuse why s = turn (Refused why) s.state s.work s.store

-- a token that is carried out: the state then, memory as it was
abbrev pub goes : Scene → State → Turn
goes s st = turn Going st s.work s.store

-- the k-th cell from the top of the data stack
abbrev pub cell_of : Scene → ℕ → ℕ
cell_of s k = top_of s.state.stack.cells s.state.stack.height k

-- an answer as document 01 numbers it: 0 going on or finished, a refusal's own number, 28 for a spent budget
abbrev pub answer_number : Answer → ℕ
answer_number Going = 0
answer_number Finished = 0
answer_number (Refused why) = why
answer_number (Spent count) = 28
