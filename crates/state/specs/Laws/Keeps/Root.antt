-- Why a run asks after each token whether the root is active. Refusal 7 lets a state pass whose node 2 is a child of the root: its parent
-- is older. With node 2 active and node 1 the first, finish-device is not at the first node, so that 20 does not refuse it, and "the parent
-- becomes active": the root, and the next step is refused by 7. No token makes such a state of an opened one. Assumes nothing.
use Rattle.std.specs.Prelude.{ℕ, ◌≡◌, refl, false, List, [], ◌∷◌, replicate}
use Rattle.rom.specs.Sizes.{work_size, store_size}
use Rattle.rom.specs.Branch.{aim_of}
use Rattle.tokens.specs.Table.{ends, lows, highs, doubles, table, row_of}
use Rattle.tokens.specs.Code.{code_of}
use Rattle.tokens.specs.Decode.{behind_of, operand_of, token_if_whole as whole_token, decode_of}
use Rattle.tokens.specs.Place.{misplaced_of, read_of}
use Rattle.tree.specs.Held.{live_among}
use Rattle.tree.specs.Whole.{every_below, whole_tree}
use Rattle.tree.specs.Tree.{bare_tree}
use Rattle.tree.specs.declared.tree.Tree.{Tree}
use Rattle.state.specs.State.{with_active}
use Rattle.state.specs.Scene.{Scene, scene}
use Rattle.state.specs.Whole.{calls_whole, numbers_whole, whole_of}
use Rattle.state.specs.Refusals.{refusal_of}
use Rattle.state.specs.Effects.{effects, act_of}
use Rattle.state.specs.Step.{ready_of, done_of, token_turn}
use Rattle.state.specs.Run.{then}
use Rattle.state.specs.Open.{empty_state}
use Rattle.state.specs.Answer.{Going, Refused}

-- two children of the root
abbrev two_children : Tree
two_children = bare_tree 3

-- finish-device
abbrev rom : List ℕ
rom = 0xFD ∷ 0x08 ∷ 0x00 ∷ 0x28 ∷ 0x00 ∷ 0x00 ∷ 0x00 ∷ 0x0A ∷ 0x01 ∷ 0x27 ∷ []

-- the first node is the older of the two, and the younger is active
abbrev before : Scene
before = scene rom (replicate work_size 0) (replicate store_size 0) (with_active (empty_state 10 8 false 1 two_children) 2)

ready_before : ready_of before ≡ Going
unfolding ready_of whole_of calls_whole numbers_whole whole_tree every_below live_among
ready_before = refl

goes_on : (token_turn before).answer ≡ Going
unfolding aim_of ends lows highs doubles table row_of code_of behind_of operand_of whole_token decode_of misplaced_of read_of refusal_of
    effects act_of
    done_of token_turn
goes_on = refl

damaged_then : ready_of (then before (token_turn before)) ≡ Refused 7
unfolding ready_of whole_of calls_whole numbers_whole whole_tree every_below live_among aim_of ends lows highs doubles table row_of code_of
    behind_of
    operand_of whole_token decode_of misplaced_of read_of refusal_of effects act_of done_of token_turn
damaged_then = refl
