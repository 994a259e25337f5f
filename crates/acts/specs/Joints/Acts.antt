-- What the code for a token ensures, of a token of this family, operand and next place: the step's own definition. Assumes nothing.
use Rattle.std.specs.Prelude.{◌≡◌, ℕ, ◌+◌, ◌-◌, ◌≤◌, Bool, true, false, ◌||◌, List, [], ◌∷◌, length, ◌==◌, ◌≢◌, nat_lt, slice_index}
use Rattle.std.specs.Prelude.{Result, Ok, Err}
use Rattle.cells.specs.Choice.{pick, find}
use Rattle.tokens.specs.Family.{finish, text, widen, leave, fetch, store, define, assign, call, encode_int, encode_string, join, property}
use Rattle.tokens.specs.Family.{titled}
use Rattle.tokens.specs.Family.{new_device, finish_device}
use Rattle.tokens.specs.Decode.{token_of}
use Rattle.tokens.specs.declared.decoding.Operand.{Operand}
use Rattle.tokens.specs.declared.decoding.Operand.TheVariants.{Number, Definition}
use Rattle.tokens.specs.declared.decoding.Token.{Token}
use Rattle.tokens.specs.Place.{misplaced_of, read_of}
use Rattle.tokens.specs.Joints.Glance.{glance_of}
use Rattle.tokens.specs.declared.glance.Glance.{Glance}
use Rattle.tokens.specs.Table.{is_program}
use Rattle.memory.specs.Window.{work_base}
use Rattle.memory.specs.Cells.{fetch_cell_of, fetch_byte_of, cell_refusal, byte_refusal, cell_stored, byte_stored}
use Rattle.tree.specs.Node.{Written, Activated}
use Rattle.tree.specs.declared.in_place.Tail.{Tail}
use Rattle.tree.specs.Joints.Apart.{Tallied}
use Rattle.tree.specs.Whole.{whole_tree}
use Rattle.state.specs.State.{moved, moved_to, with_numbers, with_work, with_active, with_tree}
use Rattle.state.specs.Numbers.{numbers_on, is_held, kinds_of, defined_of}
use Rattle.tokens.specs.Definition.{colon, constant, value, variable}
use Rattle.state.specs.Scene.{scene, turn, handed_back}
use Rattle.state.specs.Effects.{gave}
use Rattle.state.specs.Joints.Moves.{stepped}
use Rattle.state.specs.Joints.Apart.{Arrays, joined, back_on, handed, answer_of, on_stack, on_calls, on_numbers, on_nodes, on_records}
use Rattle.state.specs.Joints.Apart.{Moves}
use Rattle.state.specs.Step.{ready_of, done_of}
use Rattle.state.specs.Step.{token_turn as turn_of}
use Rattle.state.specs.Joints.Tables.{slots_of}
use Rattle.rom.specs.declared.refusal.Refusal.{Refusal}
use Rattle.rom.specs.Sizes.{data_most, numbers_most, rom_most, work_size}
use Rattle.state.specs.declared.state.State.{State}
use Rattle.state.specs.declared.state.Numbers.{Numbers}
use Rattle.state.specs.Answer.{Stepped, Going, Refused}
use Rattle.state.specs.declared.apart.Core.{Core}
use Rattle.state.specs.declared.apart.HandedBy.{HandedBy}
use Rattle.state.specs.declared.apart.ToldBy.TheVariants.{On, Not}
use Rattle.acts.specs.declared.acted.Acted.{Acted}

-- ---- the families whose tokens are done here, and their codes; a definition whose name is passed over has another besides
abbrev pub cold_families : List (ℕ × ℕ)
cold_families =
    (finish, 0x0210_0000) ∷ (text, 0x0502_0002) ∷ (widen, 0x0610_0000) ∷ (leave, 0x0B20_0000) ∷ (fetch, 0x0C00_0011) ∷
    (store, 0x0D00_0020) ∷
    (define, 0x0E15_0000) ∷ (assign, 0x1004_0010) ∷ (call, 0x1100_0000) ∷ (encode_int, 0x1200_0012) ∷ (encode_string, 0x1300_0022) ∷
    (join, 0x1400_0042) ∷
    (property, 0x1500_0040) ∷ (titled, 0x1600_0020) ∷ (new_device, 0x1710_0000) ∷ (finish_device, 0x1810_0000) ∷ []

abbrev pub code_for : ℕ → ℕ
code_for family = find cold_families 0 family

-- ---- a token that leaves memory alone
-- whatever the number
abbrev pub QuietOf : ℕ → Operand → State → ℕ → Stepped → Type 0
QuietOf family o st next r =
    (n : ℕ) (rom work store : List ℕ) → handed_back r work store ≡ done_of (scene rom work store st) (token_of n (code_for family) o next)

-- whatever the operand
abbrev pub Quiet : ℕ → State → ℕ → Stepped → Type 0
Quiet family st next r = (o : Operand) → QuietOf family o st next r

-- of one number
abbrev pub QuietBy : ℕ → ℕ → State → ℕ → Stepped → Type 0
QuietBy n family st next r =
    (o : Operand) (rom work store : List ℕ) → handed_back r work store ≡ done_of (scene rom work store st)
    (token_of n (code_for family) o next)

-- and reads it
abbrev pub ReadsBy : ℕ → ℕ → List ℕ → List ℕ → State → ℕ → Stepped → Type 0
ReadsBy n family rom work st next r =
    (o : Operand) (store : List ℕ) → handed_back r work store ≡ done_of (scene rom work store st) (token_of n (code_for family) o next)

-- ---- a token that writes work memory, as it was and as it is then
abbrev pub WritesBy : ℕ → ℕ → List ℕ → List ℕ → State → ℕ → Stepped → Type 0
WritesBy n family work then st next r =
    (o : Operand) (rom store : List ℕ) → handed_back r then store ≡ done_of (scene rom work store st) (token_of n (code_for family) o next)

abbrev pub Writes : ℕ → List ℕ → List ℕ → State → ℕ → Stepped → Type 0
Writes family work then st next r = (n : ℕ) → WritesBy n family work then st next r

-- and reads the ROM
abbrev pub WritesFrom : ℕ → List ℕ → List ℕ → List ℕ → State → ℕ → Stepped → Type 0
WritesFrom family rom work then st next r =
    (n : ℕ) (o : Operand) (store : List ℕ) → handed_back r then store ≡ done_of (scene rom work store st)
    (token_of n (code_for family) o next)

abbrev pub Defines : Operand → List ℕ → List ℕ → List ℕ → State → ℕ → Stepped → Type 0
Defines o rom work then st next r =
    (n : ℕ) (store : List ℕ) → handed_back r then store ≡ done_of (scene rom work store st) (token_of n (code_for define) o next)

-- of a number that is new, by its kind
abbrev pub Colons : ℕ → List ℕ → State → ℕ → Stepped → Type 0
Colons number rom st next r = (work : List ℕ) → Defines (Definition number colon) rom work work st next r

abbrev pub Variables : ℕ → List ℕ → List ℕ → State → ℕ → Stepped → Type 0
Variables number work then st next r = (rom : List ℕ) → Defines (Definition number variable) rom work then st next r

abbrev pub Fresh : Numbers → ℕ → Type 0
Fresh ns number = (is_held ns number ≡ false) × (ns.count + 1 ≤ numbers_most)

-- b(value) and b(constant), which take the value
abbrev pub TakesValue : ℕ → Type 0
TakesValue kind = (kind ≢ constant) → kind ≡ value

-- ---- a token that writes the store, as it was and as it is then
abbrev pub KeepsFrom : List ℕ → List ℕ → List ℕ → List ℕ → State → ℕ → Stepped → Type 0
KeepsFrom rom work store then st next r =
    (n : ℕ) (o : Operand) → handed_back r work then ≡ done_of (scene rom work store st) (token_of n (code_for property) o next)

abbrev pub KeepsBy : ℕ → List ℕ → List ℕ → List ℕ → List ℕ → State → ℕ → Stepped → Type 0
KeepsBy n rom work store then st next r =
    (o : Operand) → handed_back r work then ≡ done_of (scene rom work store st) (token_of n (code_for titled) o next)

-- ---- the arrays that a program number's call may change or look at
abbrev pub on_program : List ℕ → List ℕ → List Bool → List ℕ → List ℕ → List ℕ → List ℕ → List Bool → Arrays → Arrays
on_program cells places wides bases names kinds values ways a =
    on_numbers names kinds values ways (on_calls places wides bases (on_stack cells a))

-- the two tables by program number: where each stands, and the kinds that reading a body goes by
abbrev pub Tabled : List ℕ → List ℕ → Numbers → Type 0
Tabled slots known ns = (slots ≡ slots_of ns) × (known ≡ kinds_of ns)

-- whatever the values and the widths are
abbrev pub Tables : List ℕ → List ℕ → List ℕ → List ℕ → ℕ → Type 0
Tables slots known names kinds held = (values : List ℕ) (ways : List Bool) → Tabled slots known (numbers_on names kinds values ways held)

-- the first alone, which asks for no more of the numbers
abbrev pub Slotted : List ℕ → List ℕ → ℕ → Type 0
Slotted slots names held = slots ≡ slots_of (numbers_on names [] [] [] held)

-- what it says of any number
abbrev pub slot_in : List ℕ → ℕ → ℕ
slot_in slots n = pick (is_program n) (slice_index slots (n - 0x800)) 0

-- a program number, and b(to), on the arrays that they are lent
abbrev pub Enters : ℕ → List ℕ → List ℕ → List Bool → List ℕ → List ℕ → List ℕ → List ℕ → List Bool → Core → ℕ → HandedBy Refusal
    → List ℕ → List ℕ → List Bool → List ℕ → Type 0
Enters number c p w b names kinds values ways k next r d q x e =
    Moves (on_program c p w b names kinds values ways) k r (on_program d q x e names kinds values ways)
    (λ s t. QuietBy number call s next t)

abbrev pub Assigns : ℕ → List ℕ → List ℕ → List ℕ → List ℕ → Core → ℕ → HandedBy Refusal → List ℕ → Type 0
Assigns number c names kinds values k next r then =
    (ways : List Bool) → Moves (λ a. on_numbers names kinds values ways (on_stack c a)) k r
    (λ a. on_numbers names kinds then ways (on_stack c a))
    (λ s t. QuietOf assign (Number number) s next t)

-- one number more: the numbers then, where the tables are of those before
abbrev pub ByNumber : Numbers → Core → ℕ → ℕ → ℕ → Core → Numbers → Type 0
ByNumber ns k number kind v r then =
    (a : Arrays) → joined (on_numbers then.programs then.kinds then.values then.wides a) r
    ≡ with_numbers (joined (on_numbers ns.programs ns.kinds ns.values ns.wides a) k) (defined_of ns number kind v k.wide)

-- what a definition asks of them
abbrev pub Definable : List ℕ → List ℕ → Numbers → Type 0
Definable slots known ns = Tables slots known ns.programs ns.kinds ns.count × (length ns.programs ≡ numbers_most)
    × (length ns.kinds ≡ numbers_most)

-- and what it leaves, of the arrays and of the tables
abbrev pub Adds : Numbers → Core → HandedBy Refusal → Numbers → List ℕ → List ℕ → (State → Stepped → Type 0) → Type 0
Adds ns k r then slots known P =
    Moves (on_numbers ns.programs ns.kinds ns.values ns.wides) k r
    (on_numbers then.programs then.kinds then.values then.wides) P
    × Tables slots known then.programs then.kinds then.count

-- the same where the data stack is looked at
abbrev pub AddsFrom : List ℕ → Numbers → Core → HandedBy Refusal → Numbers → List ℕ → List ℕ → (State → Stepped → Type 0) → Type 0
AddsFrom cells ns k r then slots known P =
    Moves (λ a. on_numbers ns.programs ns.kinds ns.values ns.wides (on_stack cells a)) k r
    (λ a. on_numbers then.programs then.kinds then.values then.wides (on_stack cells a)) P
    × Tables slots known then.programs then.kinds then.count

-- none of them
abbrev pub as_they_are : Arrays → Arrays
as_they_are a = a

-- ---- a token that writes a property: the records from those before, where the tree is whole, and the tail of the store
abbrev pub refused_of : Core → Tail → Refusal → Acted
refused_of k tail why = record { told = Not why; core = k; tail = tail }

abbrev pub acted_of : HandedBy Refusal → Tail → Acted
acted_of r tail = record { told = r.told; core = r.core; tail = tail }

abbrev pub filed_core : Core → ℕ → ℕ → ℕ → Core
filed_core k place height records =
    record {
      length = k.length;
      place = place;
      wide = k.wide;
      finished = k.finished;
      height = height;
      returns = k.returns;
      frames = k.frames;
      held = k.held;
      work_place = k.work_place;
      nodes = k.nodes;
      active = k.active;
      first = k.first;
      records = records;
    }

abbrev pub filed_of : Core → ℕ → ℕ → Result (Unit {0}) Refusal → ℕ → Tail → Acted
filed_of k taken next (Ok tt) records tail = record { told = On; core = filed_core k next (k.height - taken) records; tail = tail }
filed_of k taken next (Err why) records tail = record { told = Not why; core = filed_core k k.place k.height records; tail = tail }

abbrev pub on_files : List ℕ → List ℕ → List ℕ → List ℕ → Arrays → Arrays
on_files cells owners titles sizes a = on_records owners titles sizes (on_stack cells a)

abbrev pub Files : List ℕ → List ℕ → List ℕ → List ℕ → Core → Acted → List ℕ → List ℕ → List ℕ → List ℕ → (State → Stepped → Type 0)
    → Type 0
Files cells owners titles sizes k r owners' titles' sizes' store P =
    ((a : Arrays) → whole_tree (joined (on_files cells owners titles sizes a) k).tree ≡ true
    → P (joined (on_files cells owners titles sizes a) k) (back_on (on_files cells owners' titles' sizes' a) (handed r.told r.core)))
    × Tallied store titles' sizes' r.core.records r.tail
    × (r.core.held ≡ k.held)

-- what a call on the tree leaves: refused, the state as it was; else the state without the cells that were taken, with the tree then
abbrev pub outcome_on : State → State → Result (Unit {0}) ℕ → Stepped
outcome_on st on (Ok tt) = stepped Going on
outcome_on st on (Err why) = stepped (Refused why) st

abbrev pub kept_on : State → State → ℕ → Written → Stepped
kept_on st taken next w = outcome_on st (with_tree (moved_to taken next) w.tree) w.outcome

-- the same of a node that is opened or closed, with the active node then
abbrev pub active_on : State → ℕ → Activated → Stepped
active_on st next w = outcome_on st (with_tree (with_active (moved_to st next) w.active) w.tree) w.outcome

-- ---- what `@` and `!` and their like ask of memory, by the token's number
abbrev pub of_cell : ℕ → Bool
of_cell n = n == 0x6D || n == 0x72

abbrev pub look_of : ℕ → List ℕ → List ℕ → ℕ → ℕ → Result ℕ ℕ
look_of n rom work size address = pick (of_cell n) (fetch_cell_of rom work size address) (fetch_byte_of rom work size address)

abbrev pub store_why : ℕ → List ℕ → ℕ → ℕ
store_why n work address = pick (of_cell n) (cell_refusal work address) (byte_refusal work address)

abbrev pub store_then : ℕ → List ℕ → ℕ → ℕ → List ℕ
store_then n work address cell = pick (of_cell n) (cell_stored work address cell) (byte_stored work address cell)

-- ---- two cells more, and the next token; the bytes at the work place given by their address and length
abbrev pub pair_on : State → ℕ → ℕ → ℕ → State
pair_on st next a b = moved st (gave st 0 (a ∷ b ∷ [])) next

abbrev pub encoded_on : State → ℕ → ℕ → State
encoded_on st next count =
    with_work (pair_on st next (work_base + st.work_place) count) (st.work_place + count)

-- a state that is ready
abbrev pub Ready : List ℕ → List ℕ → List ℕ → State → Type 0
Ready rom work store st = ready_of (scene rom work store st) ≡ Going

-- ---- any token that is not hot, on every array of a state but the return stack's
abbrev pub every_on : List ℕ → List ℕ → List Bool → List ℕ → List ℕ → List ℕ → List ℕ → List Bool → List ℕ → List ℕ → List ℕ → List ℕ
    → Arrays → Arrays
every_on cells places wides bases names kinds values ways parents owners titles sizes a =
    on_nodes parents (on_records owners titles sizes (on_program cells places wides bases names kinds values ways a))

-- heights, counts and places are in their limits
abbrev pub Fit : List ℕ → Core → Type 0
Fit rom k = (k.height ≤ data_most) × (k.held ≤ numbers_most) × (k.work_place ≤ work_size) × (k.length ≤ length rom)
    × (k.place ≤ rom_most)

-- the token that was seen at the place, and may stand there
abbrev pub GlanceSeen : List ℕ → Core → Glance → Type 0
GlanceSeen rom k g = (glance_of rom k.length k.wide k.place ≡ g) × (g.code ≢ 0)
    × (misplaced_of g.code (nat_lt 0 k.frames) ≡ false)

-- what it leaves is the step's own turn, where the tree is whole
abbrev pub Comes : List ℕ → (Arrays → Arrays) → List ℕ → List ℕ → Core → Acted → (Arrays → Arrays) → List ℕ → List ℕ → Type 0
Comes rom on work store k r then work' store' =
    (a : Arrays) → whole_tree (joined (on a) k).tree ≡ true
    → turn (answer_of r.told) (joined (then a) r.core) work' store' ≡ turn_of (scene rom work store (joined (on a) k))

-- what is known of numbers, tables and records beforehand, and then
abbrev pub ActsKept : List ℕ → List ℕ → List ℕ → List ℕ → List ℕ → List ℕ → List ℕ → Core → Tail → Type 0
ActsKept slots known names kinds store titles sizes k tail =
    Tables slots known names kinds k.held × Tallied store titles sizes k.records tail

-- no token can be read at the place
abbrev pub Unread : List ℕ → Core → Type 0
Unread rom k = (why : ℕ) × (read_of rom k.length k.wide (nat_lt 0 k.frames) k.place ≡ Err why)

-- why none can be read there
abbrev pub why_of : Result Token ℕ → ℕ
why_of (Err why) = why
why_of (Ok t) = 0

abbrev pub why_in : List ℕ → Core → ℕ
why_in rom k = why_of (read_of rom k.length k.wide (nat_lt 0 k.frames) k.place)
