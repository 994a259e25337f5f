-- What a walk keeps: no cell is above a bound, no place past the longest ROM, and the tally is low. So that no sum of the code wraps.
-- Assumes nothing.
use Prim.Native.Nat.{ℕ, zero, suc, ◌+◌, ◌≤◌, max}
use Rattle.std.specs.Prelude.{◌≡◌, Bool, false, ◌&&◌, ◌||◌, get_or, set, ltb, eqb, Err, Ok, Result}
use Rattle.std.proofs.Common.{sym, ap, subst, arith, get_or-set_other}
use Rattle.std.proofs.Math.Bool.{true}
use mathlib.Core.List.{List, [], ◌∷◌}
use Rattle.std.proofs.Math.Dec.{leb, nleb→lt}
use Rattle.cells.specs.Laws.Tests.{when_is}
use Rattle.cells.specs.Laws.Facts.{neither, both_hold, is_true}
use Rattle.rom.specs.Sizes.{rom_most, data_most}
use Rattle.tokens.specs.Place.{read_of}
use Rattle.tokens.specs.Body.{unknown_of}
use Rattle.tokens.specs.declared.decoding.Token.{Token}
use Rattle.screen.specs.Effect.{astray, effect_of}
use Rattle.screen.specs.Laws.Code.Codes.{fitting, effect_small}
use Rattle.screen.specs.Laws.Code.Body.{Bounded, Low, low_none, low_tallied}
use Rattle.screen.specs.Laws.Code.Visit.{tally_in}
use Rattle.screen.specs.Laws.Code.Walk.{EndsWell}
use Rattle.screen.specs.Laws.Found.Model.{sum_at, blank_of, fits_of, sound_of, Visit, bad_visit, token_visit, read_visit, visit_of}
use Rattle.screen.specs.Laws.Found.Model.{heights_after}
use Rattle.screen.specs.Laws.Found.Model.{Path, path, failed, put_visit, puts_of, topped, waiting, visited_on, walk_step, walking}
use Rattle.screen.specs.Laws.Found.Model.{walk_steps, set_out, walk_all}
use Rattle.screen.specs.Laws.Found.Model.{Tally, tallied_in, told_in, Marked, marked, start_in, starts_of, shifted_cell, shift_of}
use Rattle.screen.specs.declared.walking.Text.{Text as Scope}
use Rattle.screen.specs.declared.walking.Walk.{Walk as Walked}
use Rattle.screen.specs.Laws.Found.Cell.{unmet, entered, is_met, cell_most, cell_most_lem, moved_cell, moved_most, body_most}

-- ---- a cell is written
set_le : (l : List ℕ) (i j v b : ℕ) → ((k : ℕ) → get_or l k 0 ≤ b) → v ≤ b → get_or (set l i v) j 0 ≤ b
set_le [] i j v b h e = h j
set_le (x ∷ xs) zero zero v b h e = e
set_le (x ∷ xs) zero (suc j) v b h e = h (suc j)
set_le (x ∷ xs) (suc i) zero v b h e = h zero
set_le (x ∷ xs) (suc i) (suc j) v b h e = set_le xs i j v b (λ k. h (suc k)) e

bounded_set : (b : ℕ) (seen : List ℕ) (q v : ℕ) → v ≤ b → Bounded b seen → Bounded b (set seen q v)
bounded_set b seen q v h k = record { each = λ p. set_le seen q p v b k.each h }

pub bounded_more : (b d : ℕ) (seen : List ℕ) → b ≤ d → Bounded b seen → Bounded d seen
bounded_more b d seen h k = record { each = λ p. let e = k.each p in omega arith }

-- every list has a bound
some_bound : (seen : List ℕ) → (b : ℕ) × (65536 ≤ b) × Bounded b seen
some_bound [] = (65536, omega arith, record { each = λ p. omega arith })
some_bound (x ∷ xs) = let m = some_bound xs in (max x m.0, omega arith, record { each = λ p. at_most x xs m.0 m.2 p })
  where
    at_most : (x : ℕ) (xs : List ℕ) (b : ℕ) → Bounded b xs → (p : ℕ) → get_or (x ∷ xs) p 0 ≤ max x b
    at_most x xs b k zero = omega arith
    at_most x xs b k (suc p) = let e = k.each p in omega arith

-- ---- token starts
module _ (b : ℕ) (h : 65536 ≤ b) (kinds : List ℕ) where
  bounded_start : (seen : List ℕ) (p : ℕ) (go : ℕ → List ℕ → Marked) → ((q : ℕ) (m : List ℕ) → Bounded b m → Bounded b (go q m).seen)
      → Bounded b seen
      → (r : Result Token ℕ) → Bounded b (start_in kinds seen p go r).seen
  bounded_start seen p go f k (Err why) = k
  bounded_start seen p go f k (Ok t) =
      let s = bounded_set b seen p unmet (omega arith) k in
      when_is (λ (m : Marked). Bounded b m.seen) (astray t || unknown_of kinds t) (marked false p seen)
      (elim (eqb t.number 0xC2) [ true ↦ marked true p (set seen p unmet) | false ↦ go t.next (set seen p unmet) ]) (λ u. k)
      (λ u. when_is (λ (m : Marked). Bounded b m.seen) (eqb t.number 0xC2) (marked true p (set seen p unmet))
      (go t.next (set seen p unmet)) (λ v. s)
      (λ v. f t.next (set seen p unmet) s))

  bounded_starts : (rom : List ℕ) (length : ℕ) (wide : Bool) (k p : ℕ) (seen : List ℕ) → Bounded b seen
      → Bounded b (starts_of rom length wide kinds k p seen).seen
  unfolding starts_of
  bounded_starts rom length wide zero p seen e = e
  bounded_starts rom length wide (suc k) p seen e =
      bounded_start seen p (λ q m. starts_of rom length wide kinds k q m) (λ q m d. bounded_starts rom length wide k q m d) e
      (read_of rom length wide true p)

-- ---- a walk
low_read : (sums : List ℕ) (a : Tally) (cell : ℕ) (r : Result Token ℕ) → Low a → Low (tallied_in sums a cell r)
low_read sums a cell (Err why) l = l
low_read sums a cell (Ok t) l = low_tallied a t (effect_of (sum_at sums) t) cell (effect_small sums t) l

low_told : (within : Bool) (sums : List ℕ) (a : Tally) (cell : ℕ) (r : Result Token ℕ) → Low a → Low (told_in within sums a cell r)
low_told true sums a cell r l = low_read sums a cell r l
low_told false sums a cell r l = l

pub record CellsKept (b : ℕ) (a : Path) : Type 0 where
  pub far : a.walk.far ≤ rom_most
  pub seen : Bounded b a.seen
  pub tally : Low a.walk.tally

token_cell : (x : Scope) (kinds sums : List ℕ) (cell : ℕ) (t : Token) → (token_visit x kinds sums cell t).cell ≤ cell_most
unfolding token_visit
token_cell x kinds sums cell t =
    when_is (λ (v : Visit). v.cell ≤ cell_most) (sound_of x kinds t cell && fits_of x.within (effect_of (sum_at sums) t) cell) _ bad_visit
    (λ h. let f = fitting x.within (effect_of (sum_at sums) t) cell
    (is_true (fits_of x.within (effect_of (sum_at sums) t) cell)
    (both_hold (sound_of x kinds t cell) (fits_of x.within (effect_of (sum_at sums) t) cell) h).1) in
    cell_most_lem (heights_after (effect_of (sum_at sums) t) cell) f.most f.return_high)
    (λ h. omega arith)

read_cell : (x : Scope) (kinds sums : List ℕ) (cell : ℕ) (r : Result Token ℕ) → (read_visit x kinds sums cell r).cell ≤ cell_most
read_cell x kinds sums cell (Err why) = omega arith
read_cell x kinds sums cell (Ok t) = token_cell x kinds sums cell t

visit_cell : (rom : List ℕ) (x : Scope) (kinds sums : List ℕ) (p cell : ℕ) → (visit_of rom x kinds sums p cell).cell ≤ cell_most
unfolding visit_of
visit_cell rom x kinds sums p cell = read_cell x kinds sums cell (read_of rom x.length x.wide x.within p)

module _ (b : ℕ) (x : Scope) (short : x.length ≤ rom_most) where
  kept_bad : (a : Path) → CellsKept b a → CellsKept b (failed a)
  kept_bad a k = record { far = k.far; seen = k.seen; tally = k.tally }

  kept_put : (a : Path) (q cell : ℕ) → cell ≤ b → CellsKept b a → CellsKept b (put_visit x a q cell)
  unfolding put_visit
  kept_put a q cell h k =
      let f = k.far in
      when_is (CellsKept b) (ltb q x.low || leb x.length q) (failed a) _ (λ u. kept_bad a k)
      (λ u. let n = (neither (ltb q x.low) (leb x.length q) u).1 in
      let l = nleb→lt x.length q n in
      when_is (CellsKept b) (eqb (get_or a.seen q 0) (blank_of x.within)) _ _ (λ v. record {
        far = omega arith;
        seen = bounded_set b a.seen q cell h k.seen;
        tally = k.tally;
      })
      (λ v. when_is (CellsKept b) (eqb (get_or a.seen q 0) cell) a (failed a) (λ w. k) (λ w. kept_bad a k)))

  kept_puts : (a : Path) (q cell : ℕ) → cell ≤ b → CellsKept b a → CellsKept b (puts_of x a q cell)
  unfolding puts_of
  kept_puts a q cell h k = when_is (CellsKept b) (eqb q 0) a (put_visit x a q cell) (λ u. k) (λ u. kept_put a q cell h k)

  kept_onward : (a : Path) (v : Visit) → v.cell ≤ b → CellsKept b a → CellsKept b (visited_on x a v)
  unfolding visited_on
  kept_onward a v h k =
      when_is (CellsKept b) v.good (puts_of x (puts_of x a v.next v.cell) v.aim v.cell) (failed a)
      (λ u. kept_puts (puts_of x a v.next v.cell) v.aim v.cell h (kept_puts a v.next v.cell h k)) (λ u. kept_bad a k)

  module _ (rom kinds sums : List ℕ) (high : cell_most ≤ b) where
    kept_step : (a : Path) → CellsKept b a → CellsKept b (walk_step rom x kinds sums a)
    unfolding walk_step
    kept_step a k =
        let v = visit_cell rom x kinds sums (waiting a) (get_or a.seen (waiting a) 0) in
        kept_onward (topped rom x sums a) (visit_of rom x kinds sums (waiting a) (get_or a.seen (waiting a) 0)) (omega arith)
        (record {
          far = k.far;
          seen = k.seen;
          tally =
              low_told x.within sums a.walk.tally (get_or a.seen (waiting a) 0)
              (read_of rom x.length x.wide x.within (waiting a))
              k.tally;
        })

    kept_walk : (n : ℕ) (a : Path) → CellsKept b a → CellsKept b (walk_steps rom x kinds sums n a)
    unfolding walk_steps
    kept_walk zero a k = when_is (CellsKept b) (walking a) (failed a) a (λ u. kept_bad a k) (λ u. k)
    kept_walk (suc n) a k =
        when_is (CellsKept b) (walking a) (walk_steps rom x kinds sums n (walk_step rom x kinds sums a)) a
        (λ u. kept_walk n (walk_step rom x kinds sums a) (kept_step a k)) (λ u. k)

    kept_from : (seen : List ℕ) (start cell : ℕ) → start ≤ rom_most → cell ≤ b → Bounded b seen
        → CellsKept b (walk_all rom x kinds sums seen start cell)
    unfolding walk_all
    kept_from seen start cell s h k =
        kept_walk rom_most (put_visit x (path seen [] (set_out start)) start cell)
        (kept_put (path seen [] (set_out start)) start cell h (record { far = s; seen = k; tally = low_none }))

-- ---- the shift
moved_le : (need cell b : ℕ) → need ≤ body_most → cell ≤ b → shifted_cell need cell ≤ b + data_most
moved_le need cell b h l = when_is (λ n. n ≤ b + data_most) (is_met cell) (moved_cell need entered cell) 0
    (λ u. let m = moved_most need entered cell b l in omega arith) (λ u. omega arith)

shift_le : (need b k p : ℕ) (seen : List ℕ) → need ≤ body_most → ((j : ℕ) → get_or seen j 0 ≤ b + data_most)
    → ((j : ℕ) → p ≤ j → get_or seen j 0 ≤ b)
    → (j : ℕ)
    → get_or (shift_of need k p seen) j 0 ≤ b + data_most
unfolding shift_of
shift_le need b zero p seen n h a j = h j
shift_le need b (suc k) p seen n h a j =
    let m = moved_le need (get_or seen p 0) b n (a p (omega arith)) in
    shift_le need b k (suc p) (set seen p (shifted_cell need (get_or seen p 0))) n
    (λ i. set_le seen p i (shifted_cell need (get_or seen p 0)) (b + data_most) h m)
    (λ i l. let d : i ≡ p → ⊥ = λ q. omega arith in rw (get_or-set_other seen p i (shifted_cell need (get_or seen p 0)) 0 d)
    (a i (omega arith)))
    j

pub bounded_shift : (need b k p : ℕ) (seen : List ℕ) → need ≤ body_most → Bounded b seen → Bounded (b + data_most) (shift_of need k p seen)
bounded_shift need b k p seen n h =
    record { each = λ j. shift_le need b k p seen n (λ i. let e = h.each i in omega arith) (λ i l. h.each i) j }

-- ---- as the code tells it
-- what is known of a walk that is good
pub record WalkKept (b : ℕ) (w : Walked) (seen₁ : List ℕ) : Type 0 where
  pub far : w.far ≤ rom_most
  pub seen : Bounded b seen₁
  pub tally : Low (tally_in w.tally)

module _ (b : ℕ) (h : 65536 ≤ b) (rom : List ℕ) (kinds : List ℕ) where
  pub marked_bounded : (length : ℕ) (wide : Bool) (entry : ℕ) (seen : List ℕ) (good : Bool) (end : ℕ) (seen₁ : List ℕ)
      → marked good end seen₁ ≡ starts_of rom length wide kinds rom_most entry seen → Bounded b seen → Bounded b seen₁
  marked_bounded length wide entry seen good end seen₁ e k =
      subst (λ (l : List ℕ). Bounded b l) (sym (ap (λ (m : Marked). m.seen) e))
      (bounded_starts b h kinds rom length wide rom_most entry seen k)

  pub walked_kept : (x : Scope) (sums seen : List ℕ) (start cell : ℕ) (w : Walked) (seen₁ : List ℕ) → x.length ≤ rom_most → start ≤ rom_most
      → cell ≤ b
      → EndsWell (walk_all rom x kinds sums seen start cell) w seen₁ → Bounded b seen → WalkKept b w seen₁
  walked_kept x sums seen start cell w seen₁ s t l k e =
      let d = kept_from b x s rom kinds sums (omega arith) seen start cell t l e in
      record { far = rw k.far d.far; seen = rw k.seen d.seen; tally = rw k.tally d.tally }

-- the tally is low whatever the cells were
pub walked_low : (rom kinds : List ℕ) (x : Scope) (sums seen : List ℕ) (start cell : ℕ) (w : Walked) (seen₁ : List ℕ) → x.length ≤ rom_most
    → start ≤ rom_most → cell ≤ 65536
    → EndsWell (walk_all rom x kinds sums seen start cell) w seen₁ → Low (tally_in w.tally)
walked_low rom kinds x sums seen start cell w seen₁ s t l k =
    let m = some_bound seen in
    let d = kept_from m.0 x s rom kinds sums (omega arith) seen start cell t (omega arith) m.2 in
    rw k.tally d.tally
