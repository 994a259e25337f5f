-- Opening: "Tests run in the order 6, 1, 2, 3, 4, 5. Opening then zeroes work memory and store and starts unfinished at place 8 with the
-- start's offset width, stacks, frames and numbers empty and work place 0; node 0 is the root, node 1 its child and active; both have no
-- properties. Refused opening writes nothing and hands back an all-zero state." A ROM is its FCode bytes here. Assumes nothing.
use Rattle.std.specs.Prelude.{ℕ, Bool, true, false, List, replicate, eqb}
use Rattle.cells.specs.Choice.{pick}
use Rattle.rom.specs.Sizes.{first_place, data_most, return_most, frames_most, numbers_most, work_size, store_size}
use Rattle.rom.specs.Header.{header_of, length_of, wide_of}
use Rattle.tree.specs.Node.{no_tree, fresh_tree}
use Rattle.tree.specs.declared.tree.Tree.{Tree}
use Rattle.state.specs.State.{state_of, calls_on}
use Rattle.state.specs.Numbers.{numbers_on}
use Rattle.state.specs.Scene.{Turn, turn}
use Rattle.state.specs.Step.{wrong_sizes}
use Rattle.state.specs.declared.state.State.{State}
use Rattle.state.specs.Answer.{Going, Refused}

-- nothing on the stacks, no calls, no numbers; the first node is active
abbrev pub empty_state : ℕ → ℕ → Bool → ℕ → Tree → State
empty_state size place wide first tree =
    state_of size place wide false (record { cells = replicate data_most 0; height = 0 })
    (record { cells = replicate return_most 0; height = 0 })
    (calls_on (replicate frames_most 0) (replicate frames_most false) (replicate frames_most 0) 0)
    (numbers_on (replicate numbers_most 0) (replicate numbers_most 0) (replicate numbers_most 0) (replicate numbers_most false) 0)
    0 first first tree

abbrev pub zero_state : State
zero_state = empty_state 0 0 false 0 no_tree

abbrev pub fresh_state : List ℕ → State
fresh_state rom = empty_state (length_of rom) first_place (wide_of rom) 1 fresh_tree

-- 0, or the refusal
abbrev pub open_refusal : List ℕ → List ℕ → List ℕ → ℕ
open_refusal rom work store = pick (wrong_sizes work store) 6 (header_of rom)

unfoldable pub open_of : List ℕ → List ℕ → List ℕ → Turn
open_of rom work store =
    elim (eqb (open_refusal rom work store) 0) [
      | true ↦ turn Going (fresh_state rom) (replicate work_size 0) (replicate store_size 0)
      | false ↦ turn (Refused (open_refusal rom work store)) zero_state work store
    ]
