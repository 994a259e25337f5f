-- A state by its fields, and a state with one part of it another. antt has no record update, so a state's fields are listed here and
-- nowhere else: every other state is made through `state_of`, and open calls through `calls_on`. Assumes nothing.
use Rattle.std.specs.Prelude.{ℕ, ◌-◌, Bool, true, List, get_or, ltb}
use Rattle.cells.specs.Choice.{pick}
use Rattle.state.specs.Stacks.{Stacks, stacks}
use Rattle.state.specs.declared.state.State.{State}
use Rattle.state.specs.declared.state.Stack.{Stack}
use Rattle.state.specs.declared.state.Back.{Back}
use Rattle.state.specs.declared.state.Calls.{Calls}
use Rattle.state.specs.declared.state.Numbers.{Numbers}
use Rattle.tree.specs.declared.tree.Tree.{Tree}

abbrev pub state_of : ℕ → ℕ → Bool → Bool → Stack → Back → Calls → Numbers → ℕ → ℕ → ℕ → Tree → State
state_of size place wide finished stack back calls numbers work active first tree =
    record {
      length = size;
      place = place;
      wide = wide;
      finished = finished;
      stack = stack;
      back = back;
      calls = calls;
      numbers = numbers;
      work_place = work;
      active = active;
      first = first;
      tree = tree;
    }

-- open calls by their fields
abbrev pub calls_on : List ℕ → List Bool → List ℕ → ℕ → Calls
calls_on places wides bases count = record { places = places; wides = wides; bases = bases; count = count }

-- the two stacks of a state
abbrev pub stacks_of : State → Stacks
stacks_of st = stacks st.stack.cells st.stack.height st.back.cells st.back.height

-- the state with other stacks, at another place
abbrev pub moved : State → Stacks → ℕ → State
moved st s place =
    state_of st.length place st.wide st.finished (record { cells = s.cells; height = s.height })
    (record { cells = s.back; height = s.returns }) st.calls st.numbers st.work_place st.active st.first st.tree

abbrev pub with_calls : State → Calls → ℕ → Bool → State
with_calls st calls place wide =
    state_of st.length place wide st.finished st.stack st.back calls st.numbers st.work_place st.active st.first
    st.tree

abbrev pub with_numbers : State → Numbers → State
with_numbers st numbers =
    state_of st.length st.place st.wide st.finished st.stack st.back st.calls numbers st.work_place st.active
    st.first st.tree

abbrev pub with_work : State → ℕ → State
with_work st at =
    state_of st.length st.place st.wide st.finished st.stack st.back st.calls st.numbers at st.active st.first
    st.tree

abbrev pub with_active : State → ℕ → State
with_active st active =
    state_of st.length st.place st.wide st.finished st.stack st.back st.calls st.numbers st.work_place active
    st.first st.tree

abbrev pub with_tree : State → Tree → State
with_tree st tree =
    state_of st.length st.place st.wide st.finished st.stack st.back st.calls st.numbers st.work_place
    st.active st.first tree

abbrev pub finished_at : State → ℕ → State
finished_at st place =
    state_of st.length place st.wide true st.stack st.back st.calls st.numbers st.work_place st.active st.first
    st.tree

abbrev pub moved_to : State → ℕ → State
moved_to st place = moved st (stacks_of st) place

-- whether a call is open, and the return stack's height at the entry of the youngest
abbrev pub is_open : Calls → Bool
is_open calls = ltb 0 calls.count

abbrev pub base_of : Calls → ℕ
base_of calls = pick (is_open calls) (get_or calls.bases (calls.count - 1) 0) 0
