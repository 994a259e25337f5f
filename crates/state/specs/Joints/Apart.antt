-- A state taken apart, and put together again: its numbers are a `Core`, its arrays are lists by themselves. Records are equal when their
-- fields are, so that what is put together from a state's own parts is that state, by computing. Assumes nothing.
use Rattle.std.specs.Prelude.{ℕ, ◌-◌, ◌≡◌, refl, Bool, List, ltb, get_or}
use Rattle.cells.specs.Choice.{pick}
use Rattle.rom.specs.Refusal.{refusal_number}
use Rattle.rom.specs.declared.refusal.Refusal.{Refusal}
use Rattle.tree.specs.Tree.{tree_of}
use Rattle.state.specs.Joints.Moves.{Popped, popped, stepped, pop_of}
use Rattle.state.specs.State.{state_of, calls_on}
use Rattle.state.specs.Numbers.{numbers_on}
use Rattle.state.specs.declared.state.State.{State}
use Rattle.state.specs.Answer.{Answer, Going, Finished, Refused, Stepped}
use Rattle.state.specs.declared.apart.Core.{Core}
use Rattle.state.specs.declared.apart.ToldBy.{ToldBy}
use Rattle.state.specs.declared.apart.ToldBy.TheVariants.{On, Over, Not}
use Rattle.state.specs.declared.apart.HandedBy.{HandedBy}
use Rattle.state.specs.declared.apart.Taken.{Taken}

-- ---- a state's arrays, and its numbers
pub record Arrays : Type 0 where
  pub cells : List ℕ
  pub back : List ℕ
  pub places : List ℕ
  pub wides : List Bool
  pub bases : List ℕ
  pub programs : List ℕ
  pub kinds : List ℕ
  pub values : List ℕ
  pub ways : List Bool
  pub parents : List ℕ
  pub owners : List ℕ
  pub name_sizes : List ℕ
  pub value_sizes : List ℕ

abbrev pub arrays : List ℕ → List ℕ → List ℕ → List Bool → List ℕ → List ℕ → List ℕ → List ℕ → List Bool → List ℕ → List ℕ → List ℕ → List ℕ
    → Arrays
arrays cells back places wides bases programs kinds values ways parents owners name_sizes value_sizes =
    record {
      cells = cells;
      back = back;
      places = places;
      wides = wides;
      bases = bases;
      programs = programs;
      kinds = kinds;
      values = values;
      ways = ways;
      parents = parents;
      owners = owners;
      name_sizes = name_sizes;
      value_sizes = value_sizes;
    }

abbrev pub arrays_of : State → Arrays
arrays_of st =
    arrays st.stack.cells st.back.cells st.calls.places st.calls.wides st.calls.bases st.numbers.programs
    st.numbers.kinds st.numbers.values st.numbers.wides st.tree.parents st.tree.owners st.tree.name_sizes
    st.tree.value_sizes

abbrev pub core_of : State → Core
core_of st =
    record {
      length = st.length;
      place = st.place;
      wide = st.wide;
      finished = st.finished;
      height = st.stack.height;
      returns = st.back.height;
      frames = st.calls.count;
      held = st.numbers.count;
      work_place = st.work_place;
      nodes = st.tree.nodes;
      active = st.active;
      first = st.first;
      records = st.tree.held;
    }

-- the state that has these arrays and these numbers
abbrev pub joined : Arrays → Core → State
joined a k =
    state_of k.length k.place k.wide k.finished (record { cells = a.cells; height = k.height })
    (record { cells = a.back; height = k.returns }) (calls_on a.places a.wides a.bases k.frames)
    (numbers_on a.programs a.kinds a.values a.ways k.held) k.work_place k.active k.first
    (tree_of a.parents k.nodes a.owners a.name_sizes a.value_sizes k.records)

-- taken apart and put together it is itself
pub joined_again : (st : State) → joined (arrays_of st) (core_of st) ≡ st
joined_again st = refl

-- ---- a state's arrays with those of one owner others
abbrev pub on_stack : List ℕ → Arrays → Arrays
on_stack cells a =
    arrays cells a.back a.places a.wides a.bases a.programs a.kinds a.values a.ways a.parents a.owners
    a.name_sizes a.value_sizes

abbrev pub on_calls : List ℕ → List Bool → List ℕ → Arrays → Arrays
on_calls places wides bases a =
    arrays a.cells a.back places wides bases a.programs a.kinds a.values a.ways a.parents a.owners a.name_sizes
    a.value_sizes

abbrev pub on_numbers : List ℕ → List ℕ → List ℕ → List Bool → Arrays → Arrays
on_numbers programs kinds values ways a =
    arrays a.cells a.back a.places a.wides a.bases programs kinds values ways a.parents a.owners a.name_sizes
    a.value_sizes

abbrev pub on_nodes : List ℕ → Arrays → Arrays
on_nodes parents a =
    arrays a.cells a.back a.places a.wides a.bases a.programs a.kinds a.values a.ways parents a.owners
    a.name_sizes a.value_sizes

abbrev pub on_records : List ℕ → List ℕ → List ℕ → Arrays → Arrays
on_records owners name_sizes value_sizes a =
    arrays a.cells a.back a.places a.wides a.bases a.programs a.kinds a.values a.ways a.parents owners
    name_sizes value_sizes

-- ---- what is handed back
abbrev pub handed : {W : Type 0} → ToldBy W → Core → HandedBy W
handed t k = record { told = t; core = k }

abbrev pub answer_of : ToldBy Refusal → Answer
answer_of On = Going
answer_of Over = Finished
answer_of (Not why) = Refused (refusal_number why)

-- and the same of the state that is put together
abbrev pub back_on : Arrays → HandedBy Refusal → Stepped
back_on a r = stepped (answer_of r.told) (joined a r.core)

abbrev pub taken_on : Arrays → Taken → Popped
taken_on a r = popped (answer_of r.told) r.cell (joined a r.core)

-- ---- what a function in place promises: what it hands back is what is said of the whole state, before and then, whatever the arrays are
-- that it is not lent
abbrev pub Moves : (Arrays → Arrays) → Core → HandedBy Refusal → (Arrays → Arrays) → (State → Stepped → Type 0) → Type 0
Moves on k r then P = (a : Arrays) → P (joined (on a) k) (back_on (then a) r)

-- one that changes no array
abbrev pub Looks : (Arrays → Arrays) → Core → HandedBy Refusal → (State → Stepped → Type 0) → Type 0
Looks on k r P = Moves on k r on P

abbrev pub Takes : (Arrays → Arrays) → Core → Taken → Type 0
Takes on k r = (a : Arrays) → taken_on (on a) r ≡ pop_of (joined (on a) k)

-- the base of the youngest of so many calls
abbrev pub base_in : List ℕ → ℕ → ℕ
base_in bases frames = pick (ltb 0 frames) (get_or bases (frames - 1) 0) 0
