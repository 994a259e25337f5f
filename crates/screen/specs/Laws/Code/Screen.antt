-- The screen's definitions, by what the code has learnt where it returns. Assumes nothing.
use Rattle.std.specs.Prelude.{ℕ, ◌+◌, ◌<◌, ◌≤◌, ◌≡◌, Bool, ◌≢◌, length, get_or, set, replicate, eqb, Err, Ok}
use Rattle.std.proofs.Math.Path.{refl, sym, ap}
use Rattle.std.proofs.Common.{◌∙◌, subst, ⊎_elim, arith, eq-or-lt_of_le, eq-eqb, ne_eqb, get_or-set_same, get_or-set_other, ext_get_or}
use Rattle.std.proofs.Math.Bool.{true, false}
use mathlib.Core.List.{List}
use Rattle.std.proofs.Math.Option.{Option, none, some}
use Rattle.std.proofs.lemmas.List.{length-replicate, get_or-replicate}
use Rattle.std.proofs.Math.ListN.{get_or-eq_default}
use Rattle.cells.specs.Laws.Facts.{when_true, when_false}
use Rattle.rom.specs.Sizes.{rom_most, marks_size}
use Rattle.rom.specs.Header.{length_of, wide_of, header_of}
use Rattle.tokens.specs.Laws.Past.{SamePrograms}
use Rattle.screen.specs.Laws.Found.Model.{Board, RoundEnd, room_of, first_board, rounds_of, last_of, laid_of, screen_of}
use Rattle.screen.specs.Laws.Found.Room.{has_room, zeros}
use Rattle.screen.specs.Laws.Found.Laid.{header_length, laid_size, laid_at}
use Rattle.screen.specs.Laws.Code.Walk.{WalkTables}
use Rattle.screen.specs.Laws.Code.Body.{Bounded}
use Rattle.screen.specs.Laws.Code.Round.{PassedIs}
use Rattle.screen.specs.Laws.Found.Screen.{screened, judged_of, screened_of}
use Rattle.screen.specs.Laws.Found.Cell.{mark_in, mark_none}

-- ---- a list that is filled from the front
-- what is filled in is so, as far as i
pub record Filled (f : ℕ → ℕ) (i : ℕ) (l : List ℕ) : Type 0 where
  pub each : (k : ℕ) → k < i → get_or l k 0 ≡ f k

pub filled_none : (f : ℕ → ℕ) (l : List ℕ) → Filled f 0 l
filled_none f l = record { each = λ k h. absurd (omega arith) }

pub filled_more : (f : ℕ → ℕ) (i v : ℕ) (l : List ℕ) → i < length l → v ≡ f i → Filled f i l → Filled f (i + 1) (set l i v)
filled_more f i v l h e k = record { each = λ j q. ⊎_elim (λ s. here j s) (λ s. there j s) (eq-or-lt_of_le (below j q)) }
  where
    below : (j : ℕ) → j < i + 1 → j ≤ i
    below j q = omega arith

    here : (j : ℕ) → j ≡ i → get_or (set l i v) j 0 ≡ f j
    here j s = rw (s, get_or-set_same l i v 0 h) e

    there : (j : ℕ) → j < i → get_or (set l i v) j 0 ≡ f j
    there j s = let n : j ≢ i = λ q. omega arith in rw (get_or-set_other l i j v 0 n) (k.each j s)

-- a mark is its cell's, and behind the last cell there are none
pub filled_laid : (seen l : List ℕ) (i : ℕ) → length seen ≤ length l → length l ≡ marks_size → length l ≤ i
    → Filled (λ k. mark_in (get_or seen k 0)) i l
    → l ≡ laid_of seen
filled_laid seen l i s e h k =
    ext_get_or 0 l (laid_of seen) (e ∙ sym (laid_size seen (omega arith))) (λ j q. k.each j (omega arith) ∙ sym (laid_at seen j))

pub mark_behind : (seen : List ℕ) (i : ℕ) → length seen ≤ i → 0 ≡ mark_in (get_or seen i 0)
mark_behind seen i h = rw (get_or-eq_default seen 0 h) (sym mark_none)

pub filled_zeros : (n : ℕ) (l : List ℕ) (i : ℕ) → length l ≡ n → n ≤ i → Filled (λ k. 0) i l → l ≡ replicate n 0
filled_zeros n l i e h k =
    ext_get_or 0 l (replicate n 0) (e ∙ sym (length-replicate n 0))
    (λ j q. k.each j (omega arith) ∙ sym (get_or-replicate n j 0 0 (omega arith)))

zeros_bounded : (n : ℕ) → Bounded 65536 (replicate n 0)
zeros_bounded n = record { each = λ p. rw (zeros n p) (omega arith) }

-- ---- whether a program passes, and its marks where it does
abbrev pub passed_by : Bool → List ℕ → Option (List ℕ)
passed_by true seen = some (laid_of seen)
passed_by false seen = none

module _ (rom : List ℕ) (size : ℕ) (b : Board) (good : Bool) (seen' : List ℕ) (e : size ≡ length_of rom)
    (f : b ≡ first_board (room_of (length_of rom)) (wide_of rom))
    (p : PassedIs (rounds_of rom size rom_most b) good seen') where
  last_so : rounds_of rom size rom_most b ≡ last_of rom
  unfolding last_of
  last_so =
      ap (λ (n : ℕ). rounds_of rom n rom_most b) e ∙ ap (λ (y : Board). rounds_of rom (length_of rom) rom_most y) f

  passed_last : PassedIs (last_of rom) good seen'
  passed_last = subst (λ (m : RoundEnd). PassedIs m good seen') last_so p

  pub passed_by_lem : passed_by good seen' ≡ screen_of rom
  unfolding screen_of
  passed_by_lem = so good passed_last.same passed_last.whole
    where
      so : (g : Bool) → (last_of rom).good ≡ g → (g ≡ true → (last_of rom).board.seen ≡ seen') → passed_by g seen' ≡ screen_of rom
      so true s w = ap (λ (l : List ℕ). some (laid_of l)) (sym (w refl)) ∙ sym (when_true _ none (last_of rom).good s)
      so false s w = sym (when_false (some (laid_of (last_of rom).board.seen)) none (last_of rom).good s)

-- ---- what a program is judged by
-- a good header, its length, and clear tables with room for it
pub record Cleared (rom : List ℕ) (n : ℕ) (seen work : List ℕ) : Type 0 where
  pub header : header_of rom ≡ 0
  pub size : n ≡ length_of rom
  pub clear : seen ≡ replicate (room_of (length_of rom)) 0
  pub wide : length seen ≤ length work

-- and the mark buffer
pub record Judging (rom : List ℕ) (n : ℕ) (marks seen work : List ℕ) : Type 0 where
  pub buffer : length marks ≡ marks_size
  pub cleared : Cleared rom n seen work

-- the same before the tables are there
pub record Judged (rom : List ℕ) (n : ℕ) (marks : List ℕ) (room : ℕ) : Type 0 where
  pub header : header_of rom ≡ 0
  pub size : n ≡ length_of rom
  pub buffer : length marks ≡ marks_size
  pub fits : room ≡ room_of n

pub judged_with : (rom : List ℕ) (n : ℕ) (marks : List ℕ) (room : ℕ) {why : ℕ} → why ≡ header_of rom → why ≡ 0 → n ≡ length_of rom
    → length marks ≡ marks_size → room ≡ room_of n → Judged rom n marks room
judged_with rom n marks room h z s b f = record { header = sym h ∙ z; size = s; buffer = b; fits = f }

pub judging : (rom : List ℕ) (n : ℕ) (marks : List ℕ) (room : ℕ) → Judged rom n marks room
    → Judging rom n marks (replicate room 0) (replicate room 0)
judging rom n marks room k =
    record {
      buffer = k.buffer;
      cleared = record { header = k.header; size = k.size; clear = rw (← k.size, ← k.fits) refl; wide = omega arith };
    }

-- and of another ROM that has the same program
pub cleared_same : {rom other : List ℕ} {n : ℕ} {seen work : List ℕ} → SamePrograms rom other → Cleared other n seen work
    → Cleared rom n seen work
cleared_same s k =
    record { header = s.header ∙ k.header; size = k.size ∙ sym s.length; clear = rw s.length k.clear; wide = k.wide }

module _ (rom : List ℕ) (n : ℕ) (seen work : List ℕ) (k : Cleared rom n seen work) where
  cells : length seen ≡ room_of n
  cells = rw (k.clear, k.size) (length-replicate (room_of (length_of rom)) 0)

  pub cleared_short : n ≤ rom_most
  cleared_short = rw k.size (header_length rom k.header)

  pub cleared_walk : WalkTables n seen work
  cleared_walk =
      let h = has_room n cleared_short cells in
      record { room = h.0; few = h.1; wide = k.wide }

  pub cleared_low : Bounded 65536 seen
  cleared_low = rw k.clear (zeros_bounded (room_of (length_of rom)))

-- ---- the verdict
module _ (rom marks : List ℕ) where
  pub screen_size : (length marks ≡ marks_size → ⊥) → screened (Err 6) marks ≡ screened_of rom marks
  unfolding screened_of
  screen_size n = sym (when_false _ _ (eqb (length marks) marks_size) (ne_eqb _ _ n))

  pub screen_header : (why : ℕ) → length marks ≡ marks_size → why ≡ header_of rom → (why ≡ 0 → ⊥)
      → screened (Err why) marks ≡ screened_of rom marks
  unfolding screened_of
  screen_header why l e n =
      rw e
      (sym (when_true _ _ (eqb (length marks) marks_size) (eq-eqb _ _ l) ∙ when_false _ _ (eqb (header_of rom) 0)
      (ne_eqb _ _ (λ q. n (e ∙ q)))))

  pub screen_judged : length marks ≡ marks_size → header_of rom ≡ 0 → judged_of rom marks ≡ screened_of rom marks
  unfolding screened_of
  screen_judged l e =
      sym (when_true _ _ (eqb (length marks) marks_size) (eq-eqb _ _ l) ∙ when_true _ _ (eqb (header_of rom) 0) (eq-eqb _ _ e))

  -- with the cells of a program that passes, or without
  pub judge_passes : (good : Bool) (seen' marks' : List ℕ) → passed_by good seen' ≡ screen_of rom → good ≡ true → marks' ≡ laid_of seen'
      → screened (Ok tt) marks' ≡ judged_of rom marks
  unfolding judged_of
  judge_passes good seen' marks' e g m = rw (← e, g, m) refl

  pub judge_refuses : (good : Bool) (seen' marks' : List ℕ) → passed_by good seen' ≡ screen_of rom → good ≡ false
      → marks' ≡ replicate (length marks) 0 → screened (Err 31) marks' ≡ judged_of rom marks
  unfolding judged_of
  judge_refuses good seen' marks' e g m = rw (← e, g, m) refl
