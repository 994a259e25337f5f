-- Why a token is refused that may stand where it stands: document 01's "Numbers handed back" from 12 on, one condition a number, and the
-- one order of them: "12, 13, 14, 19, 16, 15, 17, 20, and 21 to 27 by number"; a body is read after its head's own tests. 10, 18 and 11
-- come before, as the token is read. Assumes nothing.
use Rattle.std.specs.Prelude.{ℕ, ◌+◌, ◌-◌, ◌*◌, ◌/◌, ◌%◌, ◌^◌, Bool, true, false, not, ◌&&◌, ◌||◌, List, [], ◌∷◌, ltb, leb, eqb, None}
use Rattle.std.specs.Prelude.{Option, Some}
use Rattle.cells.specs.Choice.{pick, find}
use Rattle.rom.specs.Sizes.{data_most, frames_most, numbers_most, work_size}
use Rattle.tokens.specs.Family.{plain, always, choice, divide, pick_up, roll_up, maybe, leave, fetch, store, define, assign, call}
use Rattle.tokens.specs.Family.{encode_int, encode_string, join, property, titled, new_device, finish_device}
use Rattle.tokens.specs.Code.{family_in, gives_in}
use Rattle.tokens.specs.Body.{unknown_of, body_of}
use Rattle.tokens.specs.declared.decoding.Operand.{Operand}
use Rattle.tokens.specs.declared.decoding.Operand.TheVariants.{Nothing, Literal, Text, Branch, Number, Definition}
use Rattle.tokens.specs.declared.decoding.Token.{Token}
use Rattle.tokens.specs.Body.{BodyRead, Ends, Stops}
use Rattle.memory.specs.Window.{bad_range, bad_string, resolve_of}
use Rattle.memory.specs.Cells.{uneven, outside_work}
use Rattle.tree.specs.Property.{value_of, bad_name, overfull, would_hold}
use Rattle.tree.specs.Node.{no_room, outermost}
use Rattle.tokens.specs.Definition.{colon, variable, new_number, kind_in, of_kind, takes_here}
use Rattle.state.specs.Stacks.{too_deep, back_trouble}
use Rattle.state.specs.State.{stacks_of, base_of}
use Rattle.state.specs.Numbers.{seek_of, is_held, is_body, kinds_of}
use Rattle.state.specs.Scene.{Scene, cell_of}

-- a condition that is asked of one family of tokens alone
abbrev pub asked : ℕ → Token → (Scene → Token → Bool) → Scene → Bool
asked family t f s = elim (eqb (family_in t.code) family) [ true ↦ f s t | false ↦ false ]

-- ---- 12: "program number undefined, or not a value after b(to)"
abbrev unknown_here : Scene → Token → Bool
unknown_here s t = unknown_of (kinds_of s.state.numbers) t

abbrev pub undefined : Scene → Token → Bool
undefined s t = asked call t unknown_here s || asked assign t unknown_here s

-- ---- 13: "number already defined, or a 257th"
abbrev defined_already : Scene → Token → Bool
defined_already s t = is_held s.state.numbers (new_number t.operand) || leb numbers_most s.state.numbers.count

abbrev pub taken : Scene → Token → Bool
taken s t = asked define t defined_already s

-- ---- "After its head's own tests b(:) reads on to the first C2 that starts a token, refusing at the first token that gives 10, 18, 11 or
-- 12"
abbrev pub body_here : Scene → Token → BodyRead
body_here s t = body_of s.rom s.state.length s.state.wide (kinds_of s.state.numbers) t.next

abbrev pub why_stopped : BodyRead → ℕ
why_stopped (Ends at) = 0
why_stopped (Stops at why) = why

abbrev pub body_refusal : Scene → Token → ℕ
body_refusal s t = elim (of_kind colon t) [ true ↦ why_stopped (body_here s t) | false ↦ 0 ]

-- ---- 14: "data stack too low": a definition takes what its kind takes; pick and roll reach further down
abbrev reaches_below : Scene → Token → Bool
reaches_below s t = too_deep (stacks_of s.state)

abbrev pub low : Scene → Token → Bool
low s t = ltb s.state.stack.height (takes_here t) || asked pick_up t reaches_below s || asked roll_up t reaches_below s

-- ---- 19: "taken branch to outside 8..length-1"
abbrev pub outside_program : Option ℕ → Bool
outside_program (Some to) = false
outside_program None = true

abbrev pub leads_out : Operand → Bool
leads_out Nothing = false
leads_out (Literal n) = false
leads_out (Text start count) = false
leads_out (Branch bits aim) = outside_program aim
leads_out (Number n) = false
leads_out (Definition n k) = false

abbrev pub goes_astray : Scene → Token → Bool
goes_astray s t =
    asked always t (λ s t. leads_out t.operand) s || asked choice t (λ s t. eqb (cell_of s 0) 0 && leads_out t.operand) s

-- ---- 16: "return stack above 32, below its frame's base, or not at the base on leaving a body (a finish asks nothing of it)"
abbrev pub back_wrong : Scene → Token → Bool
back_wrong s t =
    asked plain t (λ s t. back_trouble t.code s.state.back.height (base_of s.state.calls)) s
    || asked leave t (λ s t. not (eqb s.state.back.height (base_of s.state.calls))) s

-- ---- 15: "too high": a number that is no body's gives its value, and ?dup one cell more where it doubles
abbrev called_body : Scene → Token → Bool
called_body s t = is_body s.state.numbers (seek_of s.state.numbers t.number)

abbrev pub gives_more : Scene → Token → ℕ
gives_more s t = pick (asked call t (λ s t. not (called_body s t)) s || asked maybe t (λ s t. not (eqb (cell_of s 0) 0)) s) 1 0

abbrev pub high : Scene → Token → Bool
high s t = ltb data_most (s.state.stack.height - takes_here t + (gives_in t.code + gives_more s t))

-- ---- 17: "a 17th call frame"
abbrev pub too_many_frames : Scene → Token → Bool
too_many_frames s t = asked call t (λ s t. called_body s t && leb frames_most s.state.calls.count) s

-- ---- 20: "a 33rd node, or finish-device at node 1", the first node
abbrev pub no_node : Scene → Token → Bool
no_node s t =
    asked new_device t (λ s t. no_room s.state.tree) s || asked finish_device t (λ s t. outermost s.state.first s.state.active) s

-- ---- 21: "divisor zero"
abbrev pub zero_divisor : Scene → Token → Bool
zero_divisor s t = asked divide t (λ s t. eqb (cell_of s 0) 0) s

-- ---- 22: "address range in no window, or a store outside work memory"
abbrev pub is_cell : Token → Bool
is_cell t = eqb t.number 0x6D || eqb t.number 0x72

abbrev pub cell_size : Token → ℕ
cell_size t = pick (is_cell t) 4 1

abbrev pub bad : Scene → ℕ → ℕ → Bool
bad s address count = bad_range s.rom s.work s.state.length address count

-- of a string that a token resolves; one in a spread ROM gives 22 too
abbrev pub bad_text : Scene → ℕ → ℕ → Bool
bad_text s address count = bad_string s.rom s.work s.state.length address count

abbrev pub no_window : Scene → Token → Bool
no_window s t =
    asked fetch t (λ s t. bad s (cell_of s 0) (cell_size t)) s
    || asked store t (λ s t. outside_work s.work (cell_of s 0) (cell_size t)) s
    || asked encode_string t (λ s t. bad_text s (cell_of s 1) (cell_of s 0)) s
    || asked property t (λ s t. bad_text s (cell_of s 1) (cell_of s 0) || bad_text s (cell_of s 3) (cell_of s 2)) s
    || asked titled t (λ s t. bad_text s (cell_of s 1) (cell_of s 0)) s

-- ---- 23: "cell address not a multiple of 4"
abbrev pub not_aligned : Scene → Token → Bool
not_aligned s t = asked fetch t (λ s t. is_cell t && uneven (cell_of s 0)) s || asked store t (λ s t. is_cell t && uneven (cell_of s 0)) s

-- ---- 24: "work memory exhausted"
-- "the work place rounded up to a multiple of 4"
abbrev pub rounded : ℕ → ℕ
rounded at = (at + 3) / 4 * 4

abbrev pub exhausted : Scene → Token → Bool
exhausted s t =
    asked define t (λ s t. eqb (kind_in t.operand) variable && ltb work_size (rounded s.state.work_place + 4)) s
    || asked encode_int t (λ s t. ltb work_size (s.state.work_place + 4)) s
    || asked encode_string t (λ s t. ltb work_size (s.state.work_place + (cell_of s 0 + 1))) s

-- ---- 25: "arrays do not adjoin": encode+ joins where "first end equals second start, sums wrapped, never 22"
abbrev pub apart : Scene → Token → Bool
apart s t = asked join t (λ s t. not (eqb ((cell_of s 3 + cell_of s 2) % 2 ^ 32) (cell_of s 1))) s

-- ---- 26, 27: "bad property name"; "a 129th property, or live bytes above 16,384"
-- the bytes that an address and a length on the stack name
abbrev pub string_at : Scene → ℕ → ℕ → List ℕ
string_at s address count = resolve_of s.rom s.work s.state.length address count

-- 201 device-name, 119 model, 11A device-type "writing "name", "model", "device_type", null added"
abbrev pub title_of : ℕ → List ℕ
title_of n =
    find (
    (0x201, 0x6E ∷ 0x61 ∷ 0x6D ∷ 0x65 ∷ []) ∷
    (0x119, 0x6D ∷ 0x6F ∷ 0x64 ∷ 0x65 ∷ 0x6C ∷ []) ∷
    []
    )
    (0x64 ∷ 0x65 ∷ 0x76 ∷ 0x69 ∷ 0x63 ∷ 0x65 ∷ 0x5F ∷ 0x74 ∷ 0x79 ∷ 0x70 ∷ 0x65 ∷ []) n

abbrev pub named_here : Scene → List ℕ
named_here s = string_at s (cell_of s 1) (cell_of s 0)

abbrev pub value_here : Scene → List ℕ
value_here s = value_of (string_at s (cell_of s 3) (cell_of s 2)) false

abbrev pub titled_here : Scene → List ℕ
titled_here s = value_of (string_at s (cell_of s 1) (cell_of s 0)) true

abbrev pub misnamed : Scene → Token → Bool
misnamed s t = asked property t (λ s t. bad_name (named_here s)) s

abbrev pub no_room_for : Scene → List ℕ → List ℕ → Bool
no_room_for s name value = overfull (would_hold s.state.tree s.store s.state.active name value)

abbrev pub store_full : Scene → Token → Bool
store_full s t =
    asked property t (λ s t. no_room_for s (named_here s) (value_here s)) s || asked titled t
    (λ s t. no_room_for s (title_of t.number) (titled_here s)) s

-- ---- their order. 6, 1, 7 and 4 come before (Step.antt), then 10, 18 and 11, as the token is read (crate tokens, Place.antt)
abbrev pub first_of : List (ℕ × Bool) → ℕ
first_of [] = 0
first_of (x ∷ xs) = pick x.1 x.0 (first_of xs)

abbrev pub refusals : Scene → Token → List (ℕ × Bool)
refusals s t =
    (12, undefined s t) ∷
    (13, taken s t) ∷
    (body_refusal s t, not (eqb (body_refusal s t) 0)) ∷
    (14, low s t) ∷
    (19, goes_astray s t) ∷
    (16, back_wrong s t) ∷
    (15, high s t) ∷
    (17, too_many_frames s t) ∷
    (20, no_node s t) ∷
    (21, zero_divisor s t) ∷
    (22, no_window s t) ∷
    (23, not_aligned s t) ∷
    (24, exhausted s t) ∷
    (25, apart s t) ∷
    (26, misnamed s t) ∷
    (27, store_full s t) ∷
    []

unfoldable pub refusal_of : Scene → Token → ℕ
refusal_of s t = first_of (refusals s t)
