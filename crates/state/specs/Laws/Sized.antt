-- How long a state's arrays are: what its declared type says of them, as a fact that the laws go by. Assumes nothing.
use Rattle.std.specs.Prelude.{List, ◌≡◌, refl, length, ℕ}
use Rattle.rom.specs.Sizes.{data_most, return_most, frames_most, numbers_most}
use Rattle.tree.specs.Laws.PutKept.{SizedTree}
use Rattle.state.specs.Open.{fresh_state}
use Rattle.state.specs.declared.state.State.{State}
use Rattle.state.specs.declared.state.Calls.{Calls}
use Rattle.state.specs.declared.state.Numbers.{Numbers}

pub record SizedCalls (calls : Calls) : Type 0 where
  pub places : length calls.places ≡ frames_most
  pub wides : length calls.wides ≡ frames_most
  pub bases : length calls.bases ≡ frames_most

pub record SizedNumbers (ns : Numbers) : Type 0 where
  pub programs : length ns.programs ≡ numbers_most
  pub kinds : length ns.kinds ≡ numbers_most
  pub values : length ns.values ≡ numbers_most
  pub wides : length ns.wides ≡ numbers_most

pub record Sized (st : State) : Type 0 where
  pub stack : length st.stack.cells ≡ data_most
  pub back : length st.back.cells ≡ return_most
  pub calls : SizedCalls st.calls
  pub numbers : SizedNumbers st.numbers
  pub tree : SizedTree st.tree

-- the state that opening hands back
pub fresh_sized : (rom : List ℕ) → Sized (fresh_state rom)
fresh_sized rom =
    record {
      stack = refl;
      back = refl;
      calls = record { places = refl; wides = refl; bases = refl };
      numbers = record { programs = refl; kinds = refl; values = refl; wides = refl };
      tree = record { parents = refl; owners = refl; name_sizes = refl; value_sizes = refl };
    }
