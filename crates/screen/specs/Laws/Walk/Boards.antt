-- How the board changes from one round to the next. Assumes nothing.
use Rattle.std.specs.Prelude.{ℕ, suc, ◌+◌, ◌-◌, ◌≤◌, ◌<◌, ◌≡◌, refl, Bool, true, false, ◌&&◌, ◌||◌, List, ◌⊎◌, ◌≢◌, eqb, leb, length}
use Rattle.std.specs.Prelude.{get_or, set}
use Rattle.std.proofs.Common.{arith, sym, ap, ◌∙◌, subst, inl, inr, T_not, eqb→eq, leb→le, length-set, get_or-set_same, get_or-set_other}
use Rattle.std.proofs.Math.Decide.{ℕ_discrete}
use Rattle.std.proofs.Math.Bool.{not}
use Rattle.std.proofs.Math.Dec.{T}
use Rattle.cells.specs.Choice.{pick}
use Rattle.cells.specs.Laws.Tests.{neqb→ne}
use Rattle.cells.specs.Laws.Facts.{holds, fails, is_true, both_hold}
use Rattle.rom.specs.Header.{length_of}
use Rattle.rom.specs.Sizes.{nodes_most, numbers_most, rom_most, data_most, return_most}
use Rattle.tokens.specs.Family.{widen, define, call, new_device, finish_device}
use Rattle.tokens.specs.Table.{is_program, programs_most, first_program, last_program}
use Rattle.tokens.specs.Body.{kind_of}
use Rattle.tokens.specs.Laws.Tokens.{next_ahead}
use Rattle.tokens.specs.Definition.{new_number, kind_in, takes_here}
use Rattle.tokens.specs.declared.decoding.Token.{Token}
use Rattle.screen.specs.Effect.{is_a, fixes, is_colon, value_sum}
use Rattle.screen.specs.Reach.{after}
use Rattle.screen.specs.Laws.Rules.Tokens.{one_family, fixes_is, heads}
use Rattle.screen.specs.Laws.Found.Model.{Path, Board, Marked, slot, sum_at, passes_of, sum_told, body_text, outside_text, places}
use Rattle.screen.specs.Laws.Found.Model.{starts_of, body_walked, shift_of, room_of, board, entry_of, on_stand, with_count, stood_on}
use Rattle.screen.specs.Laws.Rules.Ways.{effect_own}
use Rattle.screen.specs.Laws.Walk.Visits.{Meets, Fits, visit_fits}
use Rattle.screen.specs.Laws.Walk.Walking.{At, Given, Walked, walk_good}
use Rattle.screen.specs.Laws.Walk.Marking.{walked_met, Cell, start, other, MarksBody, marks_good, marks_kept}
use Rattle.screen.specs.Laws.Walk.Tallying.{Among, TallyIs, tally_is}
use Rattle.screen.specs.Laws.Walk.Shifting.{Shifted, shift_is}
use Rattle.screen.specs.Laws.Walk.Advancing.{setting_of, Did, advance_did, widens, plants, finishes, values, bodies}
use Rattle.screen.specs.Laws.Found.Room.{has_room}
use Rattle.screen.specs.Laws.Walk.Rounds.{ran_size, ran_above, ran, far_of, left, Ready, Ran, Next, on}
use Rattle.screen.specs.declared.effect.Sum.{Sum}
use Rattle.screen.specs.declared.walking.Text.{Text as Scope}
use Rattle.screen.specs.declared.rounds.Stand.{Stand}
use Rattle.screen.specs.Laws.Found.Model.{Tally}
use Rattle.screen.specs.Laws.Found.Cell.{cell_with, height_in, back_in, is_met, unmet, heights, entry_cell, entered, cell_met, cell_some}
use Rattle.screen.specs.Laws.Found.Cell.{Bound}
use Rattle.screen.specs.Laws.Found.Cell.{body_most}
use Rattle.screen.specs.Laws.Found.Sums.{packed_sum, unpacked_sum, SmallSum, unpacked_packed}

-- ---- tables of numbers
-- a number that is held is a program's
pub held_program : (kinds : List ℕ) (n : ℕ) → kind_of kinds n ≢ 0 → T (is_program n)
held_program kinds n h = by (is_program n) h
  where
    by : (p : Bool) → pick p (get_or kinds (slot n) 0) 0 ≢ 0 → T p
    by true h = tt
    by false h = absurd (h refl)

program_slot : (m : ℕ) → T (is_program m) → (first_program ≤ m) × (m ≤ last_program)
program_slot m t = let h = both_hold (leb first_program m) (leb m last_program) t in
    (leb→le first_program m h.0, leb→le m last_program h.1)

pub kind_same : (kinds : List ℕ) (n k : ℕ) → length kinds ≡ programs_most → T (is_program n) → kind_of (set kinds (slot n) k) n ≡ k
kind_same kinds n k l t =
    let s = program_slot n t in rw (is_true (is_program n) t) (get_or-set_same kinds (slot n) k 0 (omega arith))

-- two numbers have two slots
slots_differ : (m n : ℕ) → T (is_program m) → T (is_program n) → m ≢ n → slot m ≢ slot n
slots_differ m n s t d e = let u = program_slot m s in let v = program_slot n t in d (omega arith)

pub kind_other : (kinds : List ℕ) (n k m : ℕ) → T (is_program n) → m ≢ n → kind_of (set kinds (slot n) k) m ≡ kind_of kinds m
kind_other kinds n k m t d =
    pick_either (is_program m) (λ s. get_or-set_other kinds (slot n) (slot m) k 0 (slots_differ m n s t d))
  where
    pick_either : (p : Bool) → (T p → get_or (set kinds (slot n) k) (slot m) 0 ≡ get_or kinds (slot m) 0)
        → pick p (get_or (set kinds (slot n) k) (slot m) 0) 0 ≡ pick p (get_or kinds (slot m) 0) 0
    pick_either true f = f tt
    pick_either false f = refl

pub sum_other : (sums : List ℕ) (n v m : ℕ) → T (is_program n) → T (is_program m) → m ≢ n → sum_at (set sums (slot n) v) m ≡ sum_at sums m
unfolding sum_at
sum_other sums n v m t s d = ap unpacked_sum (get_or-set_other sums (slot n) (slot m) v 0 (slots_differ m n s t d))

-- a sum is what the table has of it
pub sum_same : (sums : List ℕ) (n : ℕ) (s : Sum) → length sums ≡ programs_most → T (is_program n) → SmallSum s
    → sum_at (set sums (slot n) (packed_sum s)) n ≡ s
unfolding sum_at
sum_same sums n s l t y =
    let u = program_slot n t in ap unpacked_sum (get_or-set_same sums (slot n) (packed_sum s) 0 (omega arith)) ∙ unpacked_packed s y

-- ---- the board behind a round
-- of a body that was walked: its starts, its walk, its tally, its heights at its need
pub record BodyRan (rom : List ℕ) (b : Board) (t : Token) (wide : Bool) (b' : Board) : Type 0 where
  pub marks : Marked
  pub path : Path
  pub tally : Tally
  pub marked : MarksBody rom wide b.kinds t.next b.seen marks
  pub walked : Walked rom (body_text (length_of rom) wide t.next) b.kinds b.sums t.next entry_cell marks.seen path
  pub told : TallyIs rom (length_of rom) wide b.sums path.seen t.next marks.end tally
  pub passes : passes_of tally ≡ true
  pub shifted : Shifted tally.need t.next marks.end path.seen b'.seen
  pub start : b'.stand.start ≡ suc marks.end
  pub sum : sum_at b'.sums (new_number t.operand) ≡ sum_told tally

pub record Advanced (rom : List ℕ) (b : Board) (t : Token) (b' : Board) : Type 0 where
  pub ready : Ready rom b'
  pub ahead : far_of rom b < b'.stand.start
  pub cell : b'.stand.cell ≡ cell_with (heights (height_in (get_or (ran rom b).seen (far_of rom b) 0) - takes_here t)
      (back_in (get_or (ran rom b).seen (far_of rom b) 0)))
  pub setting : setting_of b'.stand ≡ after t (setting_of b.stand)
  pub seen : (p : ℕ) → p ≤ far_of rom b → get_or b'.seen p 0 ≡ get_or (ran rom b).seen p 0
  -- what was held is held
  pub kinds : (n : ℕ) → kind_of b.kinds n ≢ 0 → kind_of b'.kinds n ≡ kind_of b.kinds n
  pub sums : (n : ℕ) → kind_of b.kinds n ≢ 0 → sum_at b'.sums n ≡ sum_at b.sums n
  -- what is held was held, or is new
  pub older : (n : ℕ) → kind_of b'.kinds n ≢ 0 → (kind_of b.kinds n ≢ 0) ⊎ (T (is_a define t) × (n ≡ new_number t.operand))
  pub new : T (is_a define t) → (kind_of b.kinds (new_number t.operand) ≡ 0)
      × (kind_of b'.kinds (new_number t.operand) ≡ kind_in t.operand)
  pub few : T (is_a define t) → b.stand.count < numbers_most
  pub planted : T (is_a new_device t) → b.stand.nodes < nodes_most
  pub finished : T (is_a finish_device t) → b.stand.children ≢ 0
  pub start : T (not (is_colon t)) → b'.stand.start ≡ t.next
  pub quiet : T (not (is_colon t)) → (p : ℕ) → far_of rom b < p → get_or b'.seen p 0 ≡ 0
  pub valued : T (is_a define t) → T (not (is_colon t)) → sum_at b'.sums (new_number t.operand) ≡ value_sum
  pub body : T (is_colon t) → BodyRan rom (left rom b) t b.stand.wide b'

-- a defining token is of no other family
module _ (rom : List ℕ) (fits : length_of rom ≤ rom_most) (b : Board) (y : Ready rom b) (r : Ran rom b) (f : T (fixes r.token)) where
  abbrev t : Token
  t = r.token

  abbrev far : ℕ
  far = far_of rom b

  abbrev cell : ℕ
  cell = get_or (ran rom b).seen far 0

  abbrev x : Scope
  x = outside_text (length_of rom) b.stand

  -- the token's rules are met
  fitted : Fits rom x b.kinds b.sums far cell
  fitted =
      subst (λ c. Fits rom x b.kinds b.sums far c) (sym (r.walked.marked r.walked.highest.1))
      (visit_fits rom x b.kinds b.sums far r.walked.highest.0 (r.walked.fine r.walked.highest.1))

  not_call : is_a call t ≡ false
  not_call = fixes_is (λ k. eqb k call ≡ false) t refl refl refl refl f

  -- the heights behind it are within the limits
  behind : Bound data_most (cell_with (heights (height_in cell - takes_here t) (back_in cell)))
  behind = record {
    height = height_in cell - takes_here t;
    back = back_in cell;
    is = refl;
    low = omega (arith, high);
    few = omega (arith, more);
  }
    where
      same : fitted.token ≡ t
      same = let e = fitted.meets.is in let g = r.is in cc (e, g)

      high : height_in cell - takes_here t + takes_here t ≤ data_most
      high = rw (same, effect_own (sum_at b.sums) t (fails (is_a call t) not_call)) at fitted.meets.rise

      more : back_in cell + 0 ≤ return_most
      more = rw (same, effect_own (sum_at b.sums) t (fails (is_a call t) not_call)) at fitted.meets.return_rise

  -- above the highest place of the round nothing is marked
  above : (p : ℕ) → far < p → get_or (ran rom b).seen p 0 ≡ 0
  above p l = ran_above rom y r p l

  -- the token ends before the length
  ends : (far < t.next) × (t.next ≤ length_of rom)
  ends = next_ahead rom (length_of rom) b.stand.wide false far t r.is

  -- ---- a body
  module _ (wide : Bool) where
    abbrev marks_b : Marked
    marks_b = starts_of rom (length_of rom) wide b.kinds rom_most t.next (ran rom b).seen

    abbrev path_b : Path
    path_b = body_walked rom (length_of rom) wide (left rom b) t.next marks_b

    abbrev tally_b : Tally
    tally_b = path_b.walk.tally

    abbrev BodyAt : ℕ → ℕ → Type 0
    BodyAt p c = At rom (body_text (length_of rom) wide t.next) b.kinds b.sums t.next entry_cell p c

    module _ (g : marks_b.good ≡ true) where
      marked_is : MarksBody rom wide b.kinds t.next (ran rom b).seen marks_b
      marked_is = marks_good rom wide b.kinds t.next (ran rom b).seen (has_room (length_of rom) fits (ran_size rom y r)).0 g

      -- before the walk a cell of the body is a start's, or 0
      cells : (p : ℕ) → t.next ≤ p → (get_or marks_b.seen p 0 ≡ unmet) ⊎ (get_or marks_b.seen p 0 ≡ 0)
      cells p l = by (marked_is.each p)
        where
          by : Cell rom wide t.next (ran rom b).seen marks_b.seen p
              → (get_or marks_b.seen p 0 ≡ unmet) ⊎ (get_or marks_b.seen p 0 ≡ 0)
          by (start s e) = inl e
          by (other s e) = let n = ends in inr (e ∙ above p (omega arith))

      pub given_body : Given rom (body_text (length_of rom) wide t.next) b.kinds b.sums t.next entry_cell marks_b.seen
      given_body =
          let h = has_room (length_of rom) fits (marked_is.size ∙ ran_size rom y r) in
          record {
            room = h.0;
            few = h.1;
            unlike = cell_met (heights entered 0) (omega arith) (omega arith);
            some = cell_some (heights entered 0);
            fresh = λ p l h n. by (cells p l) n;
          }
        where
          by : {v : ℕ} → (v ≡ unmet) ⊎ (v ≡ 0) → v ≢ unmet → v ≡ 0
          by (inl e) n = absurd (n e)
          by (inr e) n = e

      module _ (h : path_b.walk.good ≡ true) where
        walked_is : Walked rom (body_text (length_of rom) wide t.next) b.kinds b.sums t.next entry_cell marks_b.seen path_b
        unfolding body_walked
        walked_is = walk_good rom (body_text (length_of rom) wide t.next) b.kinds b.sums t.next entry_cell given_body h

        told_is : TallyIs rom (length_of rom) wide b.sums path_b.seen t.next marks_b.end tally_b
        told_is = let e = ends in tally_is marked_is (λ p l. above p (omega arith)) given_body walked_is

        -- the walk leaves as many cells as there were, so that every place of the program has one
        body_size : length path_b.seen ≡ room_of (length_of rom)
        body_size = walked_is.size ∙ marked_is.size ∙ ran_size rom y r

        body_room : {p : ℕ} → p < length_of rom → p < length path_b.seen
        body_room l = let h = (has_room (length_of rom) fits body_size).0 in omega arith

        -- a place of the body that is met was walked to, and its token's rules are met
        visited_at : (p : ℕ) → t.next ≤ p → is_met (get_or path_b.seen p 0) ≡ true → BodyAt p (get_or path_b.seen p 0)
        visited_at p l m = let e = ends in walked_met marked_is walked_is p (above p (omega arith)) m

        visited_fits : {p : ℕ} {u : Token} → Among rom (length_of rom) wide path_b.seen t.next (suc marks_b.end) p u
            → Meets rom (body_text (length_of rom) wide t.next) b.kinds b.sums p (get_or path_b.seen p 0) u
        visited_fits {p} {u} a =
            let f = visit_fits rom (body_text (length_of rom) wide t.next) b.kinds b.sums p (get_or path_b.seen p 0)
            (walked_is.fine (visited_at p a.low a.visited.met)) in
            subst (λ v. Meets rom (body_text (length_of rom) wide t.next) b.kinds b.sums p (get_or path_b.seen p 0) v)
            (let e = f.meets.is in let g = a.visited.is in cc (e, g)) f.meets

        module _ (ok : passes_of tally_b ≡ true) where
          small_is : SmallSum (sum_told tally_b)
          unfolding passes_of
          small_is = record {
            need = omega (arith, under);
            out = omega (arith, under, low);
            peak = omega (arith, under);
            return_peak = few;
            frames = shallow;
          }
            where
              tests_hold : T (tally_b.good && not (eqb tally_b.out 0)) × T (leb (tally_b.peak + tally_b.need) body_most)
              tests_hold = both_hold (tally_b.good && not (eqb tally_b.out 0)) (leb (tally_b.peak + tally_b.need) body_most)
                  (holds (passes_of tally_b) ok)

              under : tally_b.peak + tally_b.need ≤ body_most
              under = leb→le (tally_b.peak + tally_b.need) body_most tests_hold.1

              some : tally_b.out ≢ 0
              some = neqb→ne tally_b.out 0 (both_hold tally_b.good (not (eqb tally_b.out 0)) tests_hold.0).1

              low : tally_b.out - 1 ≤ tally_b.peak
              low = let o = told_is.ends.got some in let q = told_is.peak.all o.among in omega (arith, o.is)

              few : tally_b.return_peak < 256
              few =
                  elim (ℕ_discrete tally_b.return_peak 0) [
                    | yes e ↦ omega arith
                    | no n ↦ let o = told_is.back.got n in let m = (visited_fits o.among).return_rise in omega (arith, o.is)
                  ]

              shallow : tally_b.frames < 256
              shallow =
                  elim (ℕ_discrete tally_b.frames 0) [
                    | yes e ↦ omega arith
                    | no n ↦ let o = told_is.frames.got n in let m = (visited_fits o.among).frames in omega (arith, o.is)
                  ]

          body_ran : (s : Stand) → T (is_program (new_number t.operand))
              → BodyRan rom (left rom b) t wide
              (entry_of (board (shift_of tally_b.need (places t.next marks_b.end) t.next path_b.seen) b.kinds b.sums s) s
              (new_number t.operand) 0xB7 (sum_told tally_b) (suc marks_b.end))
          body_ran s n =
              record {
                marks = marks_b;
                path = path_b;
                tally = tally_b;
                marked = marked_is;
                walked = walked_is;
                told = told_is;
                passes = ok;
                shifted = shift_is tally_b.need t.next marks_b.end path_b.seen (body_room marked_is.high);
                start = refl;
                sum = sum_same b.sums (new_number t.operand) (sum_told tally_b) y.sums n small_is;
              }

        -- behind the body nothing is marked
        behind_body_lem : (p : ℕ) → marks_b.end < p → get_or path_b.seen p 0 ≡ 0
        behind_body_lem p l = by (walked_is.kept p)
          where
            low : t.next ≤ p
            low = let m = marked_is.low in omega arith

            plain : get_or marks_b.seen p 0 ≡ 0
            plain = let n = ends in let m = low in marks_kept marked_is p (λ a z. omega arith) ∙ above p (omega arith)

            by : (get_or path_b.seen p 0 ≡ get_or marks_b.seen p 0) ⊎ BodyAt p (get_or path_b.seen p 0) → get_or path_b.seen p 0 ≡ 0
            by (inl e) = e ∙ plain
            by (inr a) = let z : get_or marks_b.seen p 0 ≡ unmet = (walked_is.inside a).3 in absurd (omega (arith, plain, z))

        -- before it everything is as it was
        before_body : (p : ℕ) → p ≤ far → get_or path_b.seen p 0 ≡ get_or (ran rom b).seen p 0
        before_body p l = by (walked_is.kept p)
          where
            plain : get_or marks_b.seen p 0 ≡ get_or (ran rom b).seen p 0
            plain = let n = ends in marks_kept marked_is p (λ a z. omega arith)

            by : (get_or path_b.seen p 0 ≡ get_or marks_b.seen p 0) ⊎ BodyAt p (get_or path_b.seen p 0)
                → get_or path_b.seen p 0 ≡ get_or (ran rom b).seen p 0
            by (inl e) = e ∙ plain
            by (inr a) = let i = walked_is.inside a in let n = ends in absurd (omega arith)

  -- ---- the new board
  clash : (k l : ℕ) → T (is_a k t) → T (not (eqb k l)) → T (is_a l t) → ⊥
  clash k l i n j = subst T (one_family k l t i n) j

  number_is : T (is_a define t) → T (is_program (new_number t.operand))
  number_is d = (heads rom (length_of rom) b.stand.wide false far t r.is d).0

  not_colon : (k : ℕ) → T (is_a k t) → T (not (eqb k define)) → T (is_colon t) → ⊥
  not_colon k i n c = clash k define i n (both_hold (is_a define t) (eqb (kind_in t.operand) 0xB7) c).0

  -- a token that defines nothing
  plainly : (k : ℕ) → T (is_a k t) → T (not (eqb k define)) → (s : Stand) → s.start ≡ t.next
      → s.cell ≡ cell_with (heights (height_in cell - takes_here t) (back_in cell))
      → setting_of s ≡ after t (setting_of b.stand) → (T (is_a new_device t) → b.stand.nodes < nodes_most)
      → (T (is_a finish_device t) → b.stand.children ≢ 0) → Advanced rom b t (on_stand (left rom b) s)
  plainly k i n s st ce se nd ch =
      record {
        ready = record {
          seen = ran_size rom y r;
          kinds = y.kinds;
          sums = y.sums;
          fresh = λ p l. let e = ends in above p (omega arith);
          fair = rw ce behind;
        };
        ahead = let e = ends in omega arith;
        cell = ce;
        setting = se;
        seen = λ p l. refl;
        kinds = λ m h. refl;
        sums = λ m h. refl;
        older = λ m h. inl h;
        new = λ d. absurd (clash k define i n d);
        few = λ d. absurd (clash k define i n d);
        planted = nd;
        finished = ch;
        start = λ c. st;
        quiet = λ c p l. above p l;
        valued = λ d. absurd (clash k define i n d);
        body = λ c. absurd (not_colon k i n c);
      }

  wide_same : T (is_a define t) → (is_a widen t || b.stand.wide) ≡ b.stand.wide
  wide_same d = rw (one_family define widen t d tt)

  -- one that defines a number
  setting_defined : T (is_a define t) → (q : ℕ)
      → setting_of (with_count (stood_on b.stand t cell) q (suc b.stand.count)) ≡ after t (setting_of b.stand)
  setting_defined d q = rw (is_true (is_a define t) d, one_family define new_device t d tt, one_family define finish_device t d tt)

  module _ (seen : List ℕ) (kind : ℕ) (s : Sum) (q : ℕ) (d : T (is_a define t)) where
    abbrev numbered : Board
    numbered =
        entry_of (board seen b.kinds b.sums (stood_on b.stand t cell)) (stood_on b.stand t cell) (new_number t.operand) kind s q

    defines_number : kind_of b.kinds (new_number t.operand) ≡ 0 → b.stand.count < numbers_most → kind ≡ kind_in t.operand
        → SmallSum s
        → length seen ≡ room_of (length_of rom) → far < q → ((p : ℕ) → q ≤ p → get_or seen p 0 ≡ 0)
        → ((p : ℕ) → p ≤ far → get_or seen p 0 ≡ get_or (ran rom b).seen p 0) → (T (not (is_colon t)) → q ≡ t.next)
        → (T (not (is_colon t)) → (p : ℕ) → far < p → get_or seen p 0 ≡ 0)
        → (T (not (is_colon t)) → s ≡ value_sum) → (T (is_colon t) → BodyRan rom (left rom b) t b.stand.wide numbered)
        → Advanced rom b t numbered
    defines_number z l k small ss ah fr ke st qu va bo =
        record {
          ready = record {
            seen = ss;
            kinds = length-set b.kinds (slot (new_number t.operand)) kind ∙ y.kinds;
            sums = length-set b.sums (slot (new_number t.operand)) (packed_sum s) ∙ y.sums;
            fresh = fr;
            fair = behind;
          };
          ahead = ah;
          cell = refl;
          setting = setting_defined d q;
          seen = ke;
          kinds = λ m h. kind_other b.kinds (new_number t.operand) kind m (number_is d) (unlike m h);
          sums = λ m h. sum_other b.sums (new_number t.operand) (packed_sum s) m (number_is d) (held_program b.kinds m h)
              (unlike m h);
          older = λ m h. elim (ℕ_discrete m (new_number t.operand)) [
            | yes e ↦ inr (d, e)
            | no n ↦ inl (λ e. h (kind_other b.kinds (new_number t.operand) kind m (number_is d) n ∙ e))
          ];
          new = λ g. (z, kind_same b.kinds (new_number t.operand) kind y.kinds (number_is d) ∙ k);
          few = λ g. l;
          planted = λ i. absurd (clash define new_device d tt i);
          finished = λ i. absurd (clash define finish_device d tt i);
          start = st;
          quiet = qu;
          valued = λ g c. sum_same b.sums (new_number t.operand) s y.sums (number_is d) small ∙ va c;
          body = bo;
        }
      where
        unlike : (m : ℕ) → kind_of b.kinds m ≢ 0 → m ≢ new_number t.operand
        unlike m h e = h (rw e z)

  in_width : {b' : Board} {v w : Bool} → v ≡ w → BodyRan rom (left rom b) t v b' → BodyRan rom (left rom b) t w b'
  in_width {b'} e h = subst (λ u. BodyRan rom (left rom b) t u b') e h

  advanced_by : {b' : Board} → Did rom (length_of rom) (left rom b) cell t b' → Advanced rom b t b'
  advanced_by (widens i) =
      plainly widen i tt _ refl refl
      (rw (one_family widen new_device t i tt, one_family widen finish_device t i tt, one_family widen define t i tt))
      (λ j. absurd (clash widen new_device i tt j)) (λ j. absurd (clash widen finish_device i tt j))
  advanced_by (plants i l) =
      plainly new_device i tt _ refl refl (rw (is_true (is_a new_device t) i, one_family new_device define t i tt))
      (λ j. l) (λ j. absurd (clash new_device finish_device i tt j))
  advanced_by (finishes i l) =
      plainly finish_device i tt _ refl refl
      (rw (is_true (is_a finish_device t) i, one_family finish_device new_device t i tt, one_family finish_device define t i tt))
      (λ j. absurd (clash finish_device new_device i tt j)) (λ j. l)
  advanced_by (values d nc z l) =
      let e = ends in
      defines_number (ran rom b).seen (kind_in t.operand) value_sum t.next d z l refl
      (record { need = omega arith; out = omega arith; peak = omega arith; return_peak = omega arith; frames = omega arith })
      (ran_size rom y r)
      (omega arith) (λ p h. above p (omega arith)) (λ p h. refl) (λ c. refl) (λ c p h. above p h) (λ c. refl)
      (λ c. absurd (T_not (is_colon t) nc c))
  advanced_by (bodies d c z l m a p) =
      let e = ends in
      let w = is_a widen t || b.stand.wide in
      let lo = (marked_is w m).low in
      let hi = (marked_is w m).high in
      let sh = shift_is (tally_b w).need t.next (marks_b w).end (path_b w).seen (body_room w m a hi) in
      defines_number _ 0xB7 (sum_told (tally_b w)) (suc (marks_b w).end) d z l
      (sym (eqb→eq (kind_in t.operand) 0xB7 (both_hold (is_a define t) (eqb (kind_in t.operand) 0xB7) c).1))
      (small_is w m a p) (sh.size ∙ body_size w m a) (omega arith)
      (λ q h. sh.other q (λ u v. omega arith) ∙ behind_body_lem w m a q (omega arith))
      (λ q h. sh.other q (λ u v. omega arith) ∙ before_body w m a q h)
      (λ n. absurd (T_not (is_colon t) n c)) (λ n. absurd (T_not (is_colon t) n c)) (λ n. absurd (T_not (is_colon t) n c))
      (λ g. in_width (wide_same d) (body_ran w m a p (stood_on b.stand t cell) (number_is d)))

-- what a round does to the board
pub advanced : (rom : List ℕ) → length_of rom ≤ rom_most → {b b' : Board} → Ready rom b → Next rom b b' → (r : Ran rom b)
    × Advanced rom b r.token b' × T (fixes r.token)
advanced rom fits {b} y (on r f g) = (
  r,
  advanced_by rom fits b y r f (advance_did rom (length_of rom) (left rom b) (get_or (ran rom b).seen (far_of rom b) 0) r.token f g),
  f,
)
