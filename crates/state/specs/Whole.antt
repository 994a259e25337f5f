-- Refusal 7, "damaged state: a height, work place, count (nodes: 2 to 32), property length or program number outside its limit, a ROM place
-- (return and body places too) outside 8..length, a frame's base above the next one's (the last: above the return height), the active or a
-- record's node absent, node 0 active, a parent not older than its node (the root's is 0), or live property bytes above 16,384". What lies
-- past a count is not judged. The tree's part is `whole_tree`. Beside the active node the first is judged, the one that the program started
-- at and where finish-device is refused: a first node that is absent, or the root, is damage. Assumes nothing.
use Rattle.std.specs.Prelude.{ℕ, ◌+◌, Bool, true, not, ◌&&◌, get_or, ltb, leb, eqb}
use Rattle.cells.specs.Choice.{pick}
use Rattle.rom.specs.Sizes.{first_place, data_most, return_most, frames_most, numbers_most, work_size}
use Rattle.tokens.specs.Table.{is_program}
use Rattle.tree.specs.Whole.{every_below, whole_tree}
use Rattle.tokens.specs.Definition.{colon}
use Rattle.state.specs.declared.state.State.{State}
use Rattle.state.specs.declared.state.Calls.{Calls}
use Rattle.state.specs.declared.state.Numbers.{Numbers}

-- "a ROM place .. outside 8..length": the length itself is a place, where no token starts
abbrev pub is_place : ℕ → ℕ → Bool
is_place length place = leb first_place place && leb place length

abbrev pub heights_kept : ℕ → ℕ → ℕ → ℕ → ℕ → Bool
heights_kept length place height returns work =
    leb height data_most && leb returns return_most && leb work work_size && is_place length place

abbrev pub heights_whole : State → Bool
heights_whole st = heights_kept st.length st.place st.stack.height st.back.height st.work_place

-- a frame: its return place, and its base, which is not above the next one's or the return height
abbrev pub next_base : Calls → ℕ → ℕ → ℕ
next_base calls returns i = pick (ltb (i + 1) calls.count) (get_or calls.bases (i + 1) 0) returns

abbrev pub frame_whole : ℕ → Calls → ℕ → ℕ → Bool
frame_whole length calls returns i = is_place length (get_or calls.places i 0) && leb (get_or calls.bases i 0) (next_base calls returns i)

unfoldable pub calls_whole : ℕ → Calls → ℕ → Bool
calls_whole length calls returns = leb calls.count frames_most && every_below calls.count (frame_whole length calls returns)

-- a program number, and its body's place where it has one
abbrev pub entry_kept : ℕ → ℕ → ℕ → ℕ → Bool
entry_kept length program kind value = is_program program && pick (eqb kind colon) (is_place length value) true

abbrev pub entry_whole : ℕ → Numbers → ℕ → Bool
entry_whole length ns i = entry_kept length (get_or ns.programs i 0) (get_or ns.kinds i 0) (get_or ns.values i 0)

unfoldable pub numbers_whole : ℕ → Numbers → Bool
numbers_whole length ns = leb ns.count numbers_most && every_below ns.count (entry_whole length ns)

-- a node that is there and is not the root
abbrev pub below_root : ℕ → ℕ → Bool
below_root nodes node = ltb node nodes && leb 1 node

-- the first node, and "the active .. node absent, node 0 active"
abbrev pub nodes_whole : State → Bool
nodes_whole st = below_root st.tree.nodes st.first && below_root st.tree.nodes st.active

unfoldable pub whole_of : State → Bool
whole_of st =
    heights_whole st
    && (calls_whole st.length st.calls st.back.height
    && (numbers_whole st.length st.numbers && (whole_tree st.tree && nodes_whole st)))

abbrev pub damaged_of : State → Bool
damaged_of st = not (whole_of st)
