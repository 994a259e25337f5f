-- The screen as a program: how heights are found, step by step, as the code does it. That it finds an assignment exactly where there is one
-- is said elsewhere. Assumes nothing.
--
-- Defining tokens, CC, 11F and 127 must each be met exactly once: no branch leads around one or back over it. So a program outside bodies
-- is a row of rounds: each starts behind such a token, or at place 8, stays at or above its start, and comes to no other such token than
-- the one that ends it, which is the highest place that it comes to. Numbers, width, nodes and open children are the same for the whole of
-- a round. A body is walked once, when its b(:) ends a round.
use Rattle.std.specs.Prelude.{ℕ, zero, suc, ◌+◌, ◌-◌, max, Bool, true, false, not, ◌&&◌, ◌||◌, List, [], ◌∷◌, map, ◌++◌}
use Rattle.std.specs.Prelude.{length, get_or, Some, None, Result, Ok, Err}
use Rattle.std.specs.Prelude.{set, replicate, ltb, leb, eqb}
use Rattle.std.proofs.Math.Option.{Option, none, some}
use Rattle.cells.specs.Choice.{pick}
use Rattle.rom.specs.Sizes.{first_place, data_most, return_most, frames_most, numbers_most, nodes_most, rom_most, marks_size}
use Rattle.rom.specs.Header.{length_of, wide_of}
use Rattle.tokens.specs.Family.{finish, always, choice, widen, leave, define, new_device}
use Rattle.tokens.specs.Table.{first_program, programs_most}
use Rattle.tokens.specs.Place.{read_of}
use Rattle.tokens.specs.Body.{kind_of, unknown_of}
use Rattle.tokens.specs.Definition.{new_number, kind_in, takes_here}
use Rattle.tokens.specs.declared.decoding.Operand.{Operand}
use Rattle.tokens.specs.declared.decoding.Operand.TheVariants.{Nothing, Literal, Text, Branch, Number, Definition}
use Rattle.tokens.specs.declared.decoding.Token.{Token}
use Rattle.screen.specs.Effect.{is_a, allowed, fixes, astray, value_sum, effect_of}
use Rattle.screen.specs.declared.effect.Sum.{Sum}
use Rattle.screen.specs.declared.effect.Effect.{Effect}
use Rattle.screen.specs.declared.walking.Text.{Text as Scope}
use Rattle.screen.specs.declared.rounds.Stand.{Stand}
use Rattle.screen.specs.Laws.Found.Cell.{TokenHeights, heights, cell_with, height_in, back_in, unmet, is_met, mark_in, moved_cell, entered}
use Rattle.screen.specs.Laws.Found.Cell.{body_most, entry_cell, first_cell}
use Rattle.screen.specs.Laws.Found.Sums.{packed_sum, unpacked_sum}

-- ---- the tables of numbers
-- a number's place in the tables of numbers
abbrev pub slot : ℕ → ℕ
slot n = n - first_program

unfoldable pub sum_at : List ℕ → ℕ → Sum
sum_at sums n = unpacked_sum (get_or sums (slot n) 0)

-- ---- what differs between a body and what is outside of bodies
abbrev pub blank_of : Bool → ℕ
blank_of within = pick within unmet 0

abbrev pub cap_of : Bool → ℕ
cap_of within = pick within body_most data_most

abbrev pub own_of : Bool → ℕ
own_of within = pick within 1 0

-- ---- a token's rules
-- the data height behind a token
abbrev pub height_after : Effect → ℕ → ℕ
height_after e cell = height_in cell - e.takes + e.gives

abbrev pub back_after : Effect → ℕ → ℕ
back_after e cell = back_in cell - e.return_takes + e.return_gives

abbrev pub heights_after : Effect → ℕ → TokenHeights
heights_after e cell = heights (height_after e cell) (back_after e cell)

-- the heights are there, and they stay within the limits
unfoldable pub fits_of : Bool → Effect → ℕ → Bool
fits_of within e cell =
    leb e.takes (height_in cell)
    && leb (height_after e cell) (cap_of within)
    && leb (height_in cell - e.takes + e.rise) (cap_of within)
    && leb e.return_takes (back_in cell)
    && leb (back_after e cell) return_most
    && leb (back_in cell + e.return_rise) return_most
    && leb (own_of within + e.frames) frames_most

-- what a token must be besides
unfoldable pub sound_of : Scope → List ℕ → Token → ℕ → Bool
sound_of x kinds t cell =
    allowed t
    && not (unknown_of kinds t)
    && not (astray t)
    && (not (is_a finish t) || eqb x.children 0)
    && (not (is_a leave t) || eqb (back_in cell) 0)

-- the successors that a walk goes on to, 0 for none: a token that ends a round has none
abbrev pub aim_on : Operand → ℕ
aim_on Nothing = 0
aim_on (Literal n) = 0
aim_on (Text start count) = 0
aim_on (Branch bits (Some to)) = to
aim_on (Branch bits None) = 0
aim_on (Number n) = 0
aim_on (Definition n k) = 0

abbrev pub stops : Token → Bool
stops t = is_a finish t || is_a leave t || is_a always t || fixes t

abbrev pub next_on : Token → ℕ
next_on t = pick (stops t) 0 t.next

abbrev pub branch_in : Token → ℕ
branch_in t = pick (is_a always t || is_a choice t) (aim_on t.operand) 0

-- what a visit to a token tells: whether its rules are met, the heights behind it, and its successors, 0 for none
pub record Visit : Type 0 where
  pub good : Bool
  pub cell : ℕ
  pub next : ℕ
  pub aim : ℕ

abbrev pub bad_visit : Visit
bad_visit = record { good = false; cell = 0; next = 0; aim = 0 }

unfoldable pub token_visit : Scope → List ℕ → List ℕ → ℕ → Token → Visit
token_visit x kinds sums cell t =
    elim (sound_of x kinds t cell && fits_of x.within (effect_of (sum_at sums) t) cell) [
      | true ↦ record {
        good = true;
        cell = cell_with (heights_after (effect_of (sum_at sums) t) cell);
        next = next_on t;
        aim = branch_in t;
      }
      | false ↦ bad_visit
    ]

abbrev pub read_visit : Scope → List ℕ → List ℕ → ℕ → Result Token ℕ → Visit
read_visit x kinds sums cell (Err why) = bad_visit
read_visit x kinds sums cell (Ok t) = token_visit x kinds sums cell t

unfoldable pub visit_of : List ℕ → Scope → List ℕ → List ℕ → ℕ → ℕ → Visit
visit_of rom x kinds sums p cell = read_visit x kinds sums cell (read_of rom x.length x.wide x.within p)

-- ---- what a body comes to: its need, peaks, frames and ends, token by token as they are met
-- whether the ends agree so far, the need, the highest data height and return height, the frames, and one more than the data height of the
-- ends, 0 where none was met: all as they are where the body is entered at 64
pub record Tally : Type 0 where
  pub good : Bool
  pub need : ℕ
  pub peak : ℕ
  pub return_peak : ℕ
  pub frames : ℕ
  pub out : ℕ

abbrev pub no_tally : Tally
no_tally = record { good = true; need = 0; peak = 0; return_peak = 0; frames = 0; out = 0 }

-- an end: the first, or one with the same height
abbrev pub agreed : Tally → ℕ → Bool
agreed a k = eqb a.out 0 || eqb a.out (suc k)

unfoldable pub tallied : Tally → Token → Effect → ℕ → Tally
tallied a t e cell =
    record {
      good = a.good && (not (is_a leave t) || agreed a (height_in cell));
      need = max a.need (entered + e.takes - height_in cell);
      peak = max a.peak (max (height_in cell) (height_in cell - e.takes + e.rise));
      return_peak = max a.return_peak (back_in cell + e.return_rise);
      frames = max a.frames (1 + e.frames);
      out = pick (is_a leave t) (suc (height_in cell)) a.out;
    }

abbrev pub tallied_in : List ℕ → Tally → ℕ → Result Token ℕ → Tally
tallied_in sums a cell (Err why) = a
tallied_in sums a cell (Ok t) = tallied a t (effect_of (sum_at sums) t) cell

-- outside bodies nothing is told
abbrev pub told_in : Bool → List ℕ → Tally → ℕ → Result Token ℕ → Tally
told_in true sums a cell r = tallied_in sums a cell r
told_in false sums a cell r = a

-- ---- a walk: every place has its cell, and waits at most once; the one to be met next is the first of those that wait
pub record Walk : Type 0 where
  pub good : Bool
  pub far : ℕ
  pub tally : Tally

pub record Path : Type 0 where
  pub seen : List ℕ
  pub waits : List ℕ
  pub walk : Walk

abbrev pub path : List ℕ → List ℕ → Walk → Path
path seen waits walk = record { seen = seen; waits = waits; walk = walk }

abbrev pub spoilt : Walk → Walk
spoilt w = record { good = false; far = w.far; tally = w.tally }

abbrev pub failed : Path → Path
failed a = path a.seen a.waits (spoilt a.walk)

-- a place is come to with heights: it has none yet, and waits; or it has these
unfoldable pub put_visit : Scope → Path → ℕ → ℕ → Path
put_visit x a q cell =
    elim (ltb q x.low || leb x.length q) [
      | true ↦ failed a
      | false ↦ elim (eqb (get_or a.seen q 0) (blank_of x.within)) [
        | true ↦ path (set a.seen q cell) (q ∷ a.waits) (record {
          good = a.walk.good;
          far = max a.walk.far q;
          tally = a.walk.tally;
        })
        | false ↦ elim (eqb (get_or a.seen q 0) cell) [ true ↦ a | false ↦ failed a ]
      ]
    ]

-- 0 is no place
unfoldable pub puts_of : Scope → Path → ℕ → ℕ → Path
puts_of x a q cell = elim (eqb q 0) [ true ↦ a | false ↦ put_visit x a q cell ]

-- the place that is met next, 0 where none waits, and the rest
abbrev pub head_in : List ℕ → ℕ
head_in [] = 0
head_in (p ∷ ps) = p

abbrev pub rest_in : List ℕ → List ℕ
rest_in [] = []
rest_in (p ∷ ps) = ps

abbrev pub waiting : Path → ℕ
waiting a = head_in a.waits

-- it waits no more, and the tally has it
abbrev pub topped : List ℕ → Scope → List ℕ → Path → Path
topped rom x sums a =
    path a.seen (rest_in a.waits) (record {
      good = a.walk.good;
      far = a.walk.far;
      tally =
          told_in x.within sums a.walk.tally (get_or a.seen (waiting a) 0)
          (read_of rom x.length x.wide x.within (waiting a));
    })

-- its successors are come to
unfoldable pub visited_on : Scope → Path → Visit → Path
visited_on x a v = elim v.good [ true ↦ puts_of x (puts_of x a v.next v.cell) v.aim v.cell | false ↦ failed a ]

unfoldable pub walk_step : List ℕ → Scope → List ℕ → List ℕ → Path → Path
walk_step rom x kinds sums a =
    visited_on x (topped rom x sums a) (visit_of rom x kinds sums (waiting a) (get_or a.seen (waiting a) 0))

abbrev pub is_some : List ℕ → Bool
is_some [] = false
is_some (p ∷ ps) = true

abbrev pub walking : Path → Bool
walking a = a.walk.good && is_some a.waits

-- each place is visited once, so that there are always turns enough
unfoldable pub walk_steps : List ℕ → Scope → List ℕ → List ℕ → ℕ → Path → Path
walk_steps rom x kinds sums zero a = elim (walking a) [ true ↦ failed a | false ↦ a ]
walk_steps rom x kinds sums (suc k) a = elim (walking a) [ true ↦ walk_steps rom x kinds sums k (walk_step rom x kinds sums a) | false ↦ a ]

-- from a place on
abbrev pub set_out : ℕ → Walk
set_out start = record { good = true; far = start; tally = no_tally }

unfoldable pub walk_all : List ℕ → Scope → List ℕ → List ℕ → List ℕ → ℕ → ℕ → Path
walk_all rom x kinds sums seen start cell = walk_steps rom x kinds sums rom_most (put_visit x (path seen [] (set_out start)) start cell)

-- ---- outside bodies no two tokens overlap, and a token that ends a round is the highest of it
abbrev pub end_in : ℕ → Result Token ℕ → ℕ
end_in p (Err why) = suc p
end_in p (Ok t) = t.next

abbrev pub fixed_in : Result Token ℕ → Bool
fixed_in (Err why) = false
fixed_in (Ok t) = fixes t

-- so many places from p on, no token before `free`
unfoldable pub apart_of : List ℕ → Scope → List ℕ → ℕ → ℕ → ℕ → ℕ → Bool
apart_of rom x seen far zero p free = true
apart_of rom x seen far (suc k) p free =
    elim (eqb (get_or seen p 0) 0) [
      | true ↦ apart_of rom x seen far k (suc p) free
      | false ↦ elim (leb free p && (eqb p far || not (fixed_in (read_of rom x.length x.wide false p)))) [
        | true ↦ apart_of rom x seen far k (suc p) (end_in p (read_of rom x.length x.wide false p))
        | false ↦ false
      ]
    ]

-- ---- a body: its token starts, up to its C2
pub record Marked : Type 0 where
  pub good : Bool
  pub end : ℕ
  pub seen : List ℕ

abbrev pub marked : Bool → ℕ → List ℕ → Marked
marked good end seen = record { good = good; end = end; seen = seen }

abbrev pub start_in : List ℕ → List ℕ → ℕ → (ℕ → List ℕ → Marked) → Result Token ℕ → Marked
start_in kinds seen p go (Err why) = marked false p seen
start_in kinds seen p go (Ok t) =
    elim (astray t || unknown_of kinds t) [
      | true ↦ marked false p seen
      | false ↦ elim (eqb t.number 0xC2) [ true ↦ marked true p (set seen p unmet) | false ↦ go t.next (set seen p unmet) ]
    ]

unfoldable pub starts_of : List ℕ → ℕ → Bool → List ℕ → ℕ → ℕ → List ℕ → Marked
starts_of rom length wide kinds zero p seen = marked false p seen
starts_of rom length wide kinds (suc k) p seen =
    start_in kinds seen p (λ q m. starts_of rom length wide kinds k q m) (read_of rom length wide true p)

-- the sum of a body that was entered at 64, as it is where it is entered at its need
abbrev pub sum_told : Tally → Sum
sum_told a =
    record {
      need = a.need;
      out = a.out - 1 + a.need - entered;
      peak = a.peak + a.need - entered;
      return_peak = a.return_peak;
      frames = a.frames;
    }

unfoldable pub passes_of : Tally → Bool
passes_of a = a.good && not (eqb a.out 0) && leb (a.peak + a.need) body_most

-- the heights, as they are where the body is entered at its need; what was not met has none
abbrev pub shifted_cell : ℕ → ℕ → ℕ
shifted_cell need cell = elim (is_met cell) [ true ↦ moved_cell need entered cell | false ↦ 0 ]

unfoldable pub shift_of : ℕ → ℕ → ℕ → List ℕ → List ℕ
shift_of need zero p seen = seen
shift_of need (suc k) p seen = shift_of need k (suc p) (set seen p (shifted_cell need (get_or seen p 0)))

-- ---- the rounds
-- what stands when a round starts
pub record Board : Type 0 where
  pub seen : List ℕ
  pub kinds : List ℕ
  pub sums : List ℕ
  pub stand : Stand

pub record RoundEnd : Type 0 where
  pub good : Bool
  pub board : Board

abbrev pub round_end : Bool → Board → RoundEnd
round_end good b = record { good = good; board = b }

abbrev pub board : List ℕ → List ℕ → List ℕ → Stand → Board
board seen kinds sums stand = record { seen = seen; kinds = kinds; sums = sums; stand = stand }

abbrev pub outside_text : ℕ → Stand → Scope
outside_text length s =
    record { length = length; wide = s.wide; within = false; low = s.start; children = s.children }

abbrev pub body_text : ℕ → Bool → ℕ → Scope
body_text length wide entry = record { length = length; wide = wide; within = true; low = entry; children = 0 }

-- behind the token that ended a round
abbrev pub stood_on : Stand → Token → ℕ → Stand
stood_on s t cell =
    record {
      start = t.next;
      cell = cell_with (heights (height_in cell - takes_here t) (back_in cell));
      wide = is_a widen t || s.wide;
      children = s.children;
      nodes = s.nodes;
      count = s.count;
    }

abbrev pub with_nodes : Stand → ℕ → ℕ → Stand
with_nodes s children nodes =
    record { start = s.start; cell = s.cell; wide = s.wide; children = children; nodes = nodes; count = s.count }

abbrev pub with_count : Stand → ℕ → ℕ → Stand
with_count s start count =
    record { start = start; cell = s.cell; wide = s.wide; children = s.children; nodes = s.nodes; count = count }

-- offset16, new-device, finish-device
abbrev pub on_stand : Board → Stand → Board
on_stand b s = board b.seen b.kinds b.sums s

abbrev pub new_node : Board → Stand → RoundEnd
new_node b s = round_end (ltb s.nodes nodes_most) (on_stand b (with_nodes s (suc s.children) (suc s.nodes)))

abbrev pub closed_node : Board → Stand → RoundEnd
closed_node b s = round_end (not (eqb s.children 0)) (on_stand b (with_nodes s (s.children - 1) s.nodes))

-- a number with its kind and its sum goes into the tables
abbrev pub entry_of : Board → Stand → ℕ → ℕ → Sum → ℕ → Board
entry_of b s n kind sum start =
    board b.seen (set b.kinds (slot n) kind) (set b.sums (slot n) (packed_sum sum)) (with_count s start (suc s.count))

-- a body: its starts, its walk, its tally, its heights
abbrev pub places : ℕ → ℕ → ℕ
places entry end = suc end - entry

unfoldable pub body_walked : List ℕ → ℕ → Bool → Board → ℕ → Marked → Path
body_walked rom length wide b entry m =
    walk_all rom (body_text length wide entry) b.kinds b.sums m.seen entry entry_cell

unfoldable pub body_shifted : Board → Stand → ℕ → ℕ → ℕ → Path → Tally → RoundEnd
body_shifted b s n entry end a y =
    round_end (passes_of y)
    (entry_of (board (shift_of y.need (places entry end) entry a.seen) b.kinds b.sums s) s n 0xB7 (sum_told y) (suc end))

abbrev pub on_seen : Board → List ℕ → Board
on_seen b seen = board seen b.kinds b.sums b.stand

unfoldable pub colon_of : List ℕ → ℕ → Board → Stand → ℕ → ℕ → RoundEnd
colon_of rom length b s n entry =
    elim m.good [
      | true ↦ elim a.walk.good [
        | true ↦ body_shifted b s n entry m.end a a.walk.tally
        | false ↦ round_end false (on_seen b a.seen)
      ]
      | false ↦ round_end false (on_seen b m.seen)
    ]
  where
    m : Marked
    m = starts_of rom length s.wide b.kinds rom_most entry b.seen

    a : Path
    a = body_walked rom length s.wide b entry m

-- a defining token
abbrev pub is_new : Board → ℕ → Bool
is_new b n = eqb (kind_of b.kinds n) 0 && ltb b.stand.count numbers_most

unfoldable pub define_of : List ℕ → ℕ → Board → Stand → Token → RoundEnd
define_of rom length b s t =
    elim (is_new b (new_number t.operand)) [
      | true ↦ elim (eqb (kind_in t.operand) 0xB7) [
        | true ↦ colon_of rom length b s (new_number t.operand) t.next
        | false ↦ round_end true (entry_of b s (new_number t.operand) (kind_in t.operand) value_sum t.next)
      ]
      | false ↦ round_end false b
    ]

-- the token that ended a round at a place is carried out
unfoldable pub advance_of : List ℕ → ℕ → Board → ℕ → Token → RoundEnd
advance_of rom length b cell t =
    elim (is_a define t) [
      | true ↦ define_of rom length b (stood_on b.stand t cell) t
      | false ↦ elim (is_a new_device t) [
        | true ↦ new_node b (stood_on b.stand t cell)
        | false ↦ elim (is_a widen t) [
          | true ↦ round_end true (on_stand b (stood_on b.stand t cell))
          | false ↦ closed_node b (stood_on b.stand t cell)
        ]
      ]
    ]

-- a round's walk, with its overlaps
unfoldable pub round_of : List ℕ → ℕ → Board → Path
round_of rom length b =
    walk_all rom (outside_text length b.stand) b.kinds b.sums b.seen b.stand.start b.stand.cell

abbrev pub round_good : List ℕ → ℕ → Board → Path → Bool
round_good rom length b a =
    a.walk.good
    && apart_of rom (outside_text length b.stand) a.seen a.walk.far (suc a.walk.far - b.stand.start) b.stand.start 0

-- what comes behind a round: the rest, or the end
abbrev pub round_rest : (Token → RoundEnd) → (RoundEnd → RoundEnd) → Board → Result Token ℕ → RoundEnd
round_rest act go b (Err why) = round_end false b
round_rest act go b (Ok t) = elim (fixes t) [ true ↦ go (act t) | false ↦ round_end true b ]

abbrev pub go_on : (Board → RoundEnd) → RoundEnd → RoundEnd
go_on go y = elim y.good [ true ↦ go y.board | false ↦ y ]

unfoldable pub rounds_of : List ℕ → ℕ → ℕ → Board → RoundEnd
rounds_of rom length zero b = round_end false b
rounds_of rom length (suc k) b =
    elim (round_good rom length b a) [
      | true ↦ round_rest (λ t. advance_of rom length b' (get_or a.seen a.walk.far 0) t) (go_on (λ c. rounds_of rom length k c)) b'
          (read_of rom length b.stand.wide false a.walk.far)
      | false ↦ round_end false b'
    ]
  where
    a : Path
    a = round_of rom length b

    b' : Board
    b' = on_seen b a.seen

-- ---- the whole
abbrev pub first_stand : Bool → Stand
first_stand wide = record { start = first_place; cell = first_cell; wide = wide; children = 0; nodes = 2; count = 0 }

-- how many cells there are for a program of a length: a small one does not pay for what a large one needs
abbrev pub room_of : ℕ → ℕ
room_of n = pick (leb n 256) 256 (pick (leb n 1024) 1024 (pick (leb n 4096) 4096 (pick (leb n 16384) 16384 rom_most)))

abbrev pub first_board : ℕ → Bool → Board
first_board room wide = board (replicate room 0) (replicate programs_most 0) (replicate programs_most 0) (first_stand wide)

unfoldable pub last_of : List ℕ → RoundEnd
last_of rom = rounds_of rom (length_of rom) rom_most (first_board (room_of (length_of rom)) (wide_of rom))

-- behind the last cell there are none
unfoldable pub laid_of : List ℕ → List ℕ
laid_of seen = map mark_in seen ++ replicate (marks_size - length seen) 0

-- the marks of a ROM with a good header, where it passes
unfoldable pub screen_of : List ℕ → Option (List ℕ)
screen_of rom = elim (last_of rom).good [ true ↦ some (laid_of (last_of rom).board.seen) | false ↦ none ]
