-- What each token does that is not refused, by its family: document 01, "Tokens, by number (hex)". Assumes nothing.
use Rattle.std.specs.Prelude.{ℕ, ◌+◌, ◌-◌, ◌%◌, ◌^◌, Bool, true, false, List, [], ◌∷◌, ◌++◌, length, get_or, set, eqb}
use Rattle.cells.specs.Choice.{pick, find}
use Rattle.rom.specs.Bytes.{byte_of, word32_of}
use Rattle.rom.specs.Branch.{place_in}
use Rattle.tokens.specs.Family.{plain, finish, always, choice, text, widen, divide, pick_up, roll_up, maybe, leave, fetch, store, define}
use Rattle.tokens.specs.Family.{assign, call}
use Rattle.tokens.specs.Family.{encode_int, encode_string, join, property, titled, new_device, finish_device}
use Rattle.tokens.specs.Code.{family_in}
use Rattle.tokens.specs.Body.{number_in}
use Rattle.tokens.specs.declared.decoding.Operand.{Operand}
use Rattle.tokens.specs.declared.decoding.Operand.TheVariants.{Nothing, Literal, Text, Branch, Number, Definition}
use Rattle.tokens.specs.declared.decoding.Token.{Token}
use Rattle.tokens.specs.Body.{BodyRead, Ends, Stops}
use Rattle.memory.specs.Window.{rom_base, work_base}
use Rattle.memory.specs.Writing.{written_of, bytes_of}
use Rattle.tree.specs.Property.{tree_put, store_put}
use Rattle.tree.specs.Whole.{parent_of}
use Rattle.tree.specs.Node.{child_of}
use Rattle.tokens.specs.Definition.{colon, kind_in, new_number, value, variable}
use Rattle.state.specs.Stacks.{Stacks, stacks, left_of, plain_of, picked_of, rolled_of, doubled_of}
use Rattle.state.specs.State.{calls_on, stacks_of, moved, moved_to, with_calls, with_numbers, with_work, with_active, with_tree}
use Rattle.state.specs.State.{finished_at}
use Rattle.state.specs.Numbers.{seek_of, is_body, defined_of, assigned_of}
use Rattle.state.specs.Scene.{Scene, Turn, turn, refuse, goes, cell_of}
use Rattle.state.specs.Refusals.{body_here, rounded, is_cell, string_at, title_of, named_here, value_here, titled_here}
use Rattle.state.specs.declared.state.State.{State}
use Rattle.state.specs.declared.state.Calls.{Calls}
use Rattle.state.specs.Answer.{Finished, Going}

abbrev pub Effect : Type 0
Effect = Scene → Token → Turn

-- so many cells taken from the data stack and these given, the lowest first
abbrev pub gave : State → ℕ → List ℕ → Stacks
gave st takes cells =
    stacks (left_of st.stack.cells (st.stack.height - takes) cells) (st.stack.height - takes + length cells) st.back.cells
    st.back.height

-- and then the next token
abbrev pub onward : Scene → Token → ℕ → List ℕ → State
onward s t takes cells = moved s.state (gave s.state takes cells) t.next

-- ---- tokens that only reckon, u/mod among them; pick, roll and ?dup
abbrev pub operand_in : Operand → ℕ
operand_in Nothing = 0
operand_in (Literal n) = n
operand_in (Text start count) = 0
operand_in (Branch bits aim) = 0
operand_in (Number n) = 0
operand_in (Definition n k) = 0

abbrev pub reckoned : Effect
reckoned s t = goes s (moved s.state (plain_of t.number (operand_in t.operand) (stacks_of s.state)) t.next)

abbrev pub picked : Effect
picked s t = goes s (moved s.state (picked_of (stacks_of s.state)) t.next)

abbrev pub rolled : Effect
rolled s t = goes s (moved s.state (rolled_of (stacks_of s.state)) t.next)

abbrev pub doubled : Effect
doubled s t =
    goes s (moved s.state (pick (eqb (cell_of s 0) 0) (stacks_of s.state) (doubled_of (stacks_of s.state))) t.next)

-- ---- "00 end0, FF end1: finish, the place moved past."
abbrev pub finishes : Effect
finishes s t = turn Finished (finished_at s.state t.next) s.work s.store

-- ---- "13 bbranch; 14 b?branch, taken on 0."
abbrev pub aimed : Operand → ℕ
aimed Nothing = 0
aimed (Literal n) = 0
aimed (Text start count) = 0
aimed (Branch bits aim) = place_in aim
aimed (Number n) = 0
aimed (Definition n k) = 0

abbrev pub branches : Effect
branches s t = goes s (moved_to s.state (aimed t.operand))

abbrev pub chooses : Effect
chooses s t = goes s (moved s.state (gave s.state 1 []) (pick (eqb (cell_of s 0) 0) (aimed t.operand) t.next))

-- ---- "12 b("): a string, pushes address and length."
abbrev pub text_start : Operand → ℕ
text_start Nothing = 0
text_start (Literal n) = 0
text_start (Text start count) = start
text_start (Branch bits aim) = 0
text_start (Number n) = 0
text_start (Definition n k) = 0

abbrev pub text_count : Operand → ℕ
text_count Nothing = 0
text_count (Literal n) = 0
text_count (Text start count) = count
text_count (Branch bits aim) = 0
text_count (Number n) = 0
text_count (Definition n k) = 0

abbrev pub quotes : Effect
quotes s t = goes s (onward s t 0 ((rom_base + text_start t.operand) ∷ text_count t.operand ∷ []))

-- ---- "CC offset16"
abbrev pub widens : Effect
widens s t = goes s (with_calls s.state s.state.calls t.next true)

-- ---- a call, and leaving a body: "A body keeps the offset width in force where it was defined"; leaving it gives back the caller's place
-- and width
--
-- one frame more: where it goes back to, the width there, and the return stack's height
abbrev pub framed_of : Calls → ℕ → Bool → ℕ → Calls
framed_of calls place wide base =
    calls_on (set calls.places calls.count place) (set calls.wides calls.count wide) (set calls.bases calls.count base)
    (calls.count + 1)

abbrev pub unframed_of : Calls → Calls
unframed_of calls = calls_on calls.places calls.wides calls.bases (calls.count - 1)

-- the state in a body that starts at a place, whose caller goes on at another
abbrev pub entered_of : State → ℕ → Bool → ℕ → State
entered_of st to wide next = with_calls st (framed_of st.calls next st.wide st.back.height) to wide

-- the state back in the caller
abbrev pub left_body_of : State → State
left_body_of st =
    with_calls st (unframed_of st.calls) (get_or st.calls.places (st.calls.count - 1) 0)
    (get_or st.calls.wides (st.calls.count - 1) false)

abbrev pub leaves : Effect
leaves s t = goes s (left_body_of s.state)

abbrev pub calls : Effect
calls s t = by (is_body s.state.numbers at)
  where
    at : ℕ
    at = seek_of s.state.numbers t.number

    by : Bool → Turn
    by true = goes s (entered_of s.state (get_or s.state.numbers.values at 0) (get_or s.state.numbers.wides at false) t.next)
    by false = goes s (onward s t 0 (get_or s.state.numbers.values at 0 ∷ []))

-- ---- "6D @ 71 c@ 72 ! 75 c!. Cells are big-endian (house)."
abbrev pub fetches : Effect
fetches s t =
    goes s
    (onward s t 1 (pick (is_cell t) (word32_of (string_at s (cell_of s 0) 4) 0) (byte_of (string_at s (cell_of s 0) 1) 0) ∷ []))

abbrev pub stored_bytes : Scene → Token → List ℕ
stored_bytes s t = pick (is_cell t) (bytes_of (cell_of s 1)) ((cell_of s 1 % 256) ∷ [])

abbrev pub stores : Effect
stores s t = turn Going (onward s t 2 []) (written_of s.work (cell_of s 0 - work_base) (stored_bytes s t)) s.store

-- ---- definitions: "its number exists only after that C2"
abbrev pub behind_body : BodyRead → ℕ
behind_body (Ends at) = at + 1
behind_body (Stops at why) = at

-- the state with one number more
abbrev pub with_number : State → Token → ℕ → State
with_number st t v = with_numbers st (defined_of st.numbers (new_number t.operand) (kind_in t.operand) v st.wide)

abbrev pub colons : Effect
colons s t = goes s (moved_to (with_number s.state t t.next) (behind_body (body_here s t)))

abbrev pub values : Effect
values s t = goes s (with_number (onward s t 1 []) t (cell_of s 0))

-- "B9 b(variable) (four zero bytes at the work place rounded up to a multiple of 4)"
abbrev pub variables : Effect
variables s t =
    turn Going
    (with_work (with_number (onward s t 0 []) t (work_base + rounded s.state.work_place)) (rounded s.state.work_place + 4))
    (written_of s.work (rounded s.state.work_place) (bytes_of 0)) s.store

abbrev pub defines : Effect
defines s t = find ((colon, colons) ∷ (value, values) ∷ (variable, variables) ∷ []) values (kind_in t.operand) s t

abbrev pub assigns : Effect
assigns s t =
    goes s (with_numbers (onward s t 1 []) (assigned_of s.state.numbers (seek_of s.state.numbers (number_in t.operand))
    (cell_of s 0)))

-- ---- "111 encode-int (four bytes, big-endian, at the work place, which moves only past what 111, 114 and B9 write), 114 encode-string
-- (there too: the bytes as before the token, and a null), 112 encode+"
--
-- the bytes written at the work place, so many cells taken, and their address and length given
abbrev pub encoded_of : Scene → Token → ℕ → List ℕ → Turn
encoded_of s t takes bytes =
    turn Going
    (with_work (onward s t takes ((work_base + s.state.work_place) ∷ length bytes ∷ [])) (s.state.work_place + length bytes))
    (written_of s.work s.state.work_place bytes) s.store

abbrev pub encodes_int : Effect
encodes_int s t = encoded_of s t 1 (bytes_of (cell_of s 0))

abbrev pub encodes_string : Effect
encodes_string s t = encoded_of s t 2 (string_at s (cell_of s 1) (cell_of s 0) ++ (0 ∷ []))

abbrev pub joins : Effect
joins s t = goes s (onward s t 4 (cell_of s 3 ∷ ((cell_of s 2 + cell_of s 0) % 2 ^ 32) ∷ []))

-- ---- "110 property, 201 device-name, 119 model, 11A device-type .. using no work memory"
abbrev pub keeps_of : Scene → Token → ℕ → List ℕ → List ℕ → Turn
keeps_of s t takes name v =
    turn Going (with_tree (onward s t takes []) (tree_put s.state.tree s.store s.state.active name v)) s.work
    (store_put s.state.tree s.store s.state.active name v)

abbrev pub keeps : Effect
keeps s t = keeps_of s t 4 (named_here s) (value_here s)

abbrev pub titles : Effect
titles s t = keeps_of s t 2 (title_of t.number) (titled_here s)

-- ---- "11F new-device (a bare child of the active node becomes active), 127 finish-device (the parent becomes active)"
abbrev pub opens_node : Effect
opens_node s t =
    goes s (with_tree (with_active (moved_to s.state t.next) s.state.tree.nodes) (child_of s.state.tree s.state.active))

abbrev pub closes_node : Effect
closes_node s t = goes s (with_active (moved_to s.state t.next) (parent_of s.state.tree s.state.active))

-- ---- every family that a token can have where it stands
unfoldable pub effects : List (ℕ × Effect)
effects =
    (plain, reckoned) ∷
    (finish, finishes) ∷
    (always, branches) ∷
    (choice, chooses) ∷
    (text, quotes) ∷
    (widen, widens) ∷
    (divide, reckoned) ∷
    (pick_up, picked) ∷
    (roll_up, rolled) ∷
    (maybe, doubled) ∷
    (leave, leaves) ∷
    (fetch, fetches) ∷
    (store, stores) ∷
    (define, defines) ∷
    (assign, assigns) ∷
    (call, calls) ∷
    (encode_int, encodes_int) ∷
    (encode_string, encodes_string) ∷
    (join, joins) ∷
    (property, keeps) ∷
    (titled, titles) ∷
    (new_device, opens_node) ∷
    (finish_device, closes_node) ∷
    []

-- no token that is read has another
abbrev pub nothing : Effect
nothing s t = refuse 11 s

unfoldable pub act_of : Scene → Token → Turn
unfolding effects
act_of s t = find effects nothing (family_in t.code) s t
