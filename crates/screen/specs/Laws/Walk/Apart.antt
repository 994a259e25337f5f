-- The pass over a round's places finds whether two of its tokens overlap, and whether one that ends a round is not the highest.
-- Assumes nothing.
use Prim.Native.Nat.{ℕ, zero, suc, ◌+◌, ◌-◌, ◌≤◌, ◌<◌}
use Rattle.std.specs.Prelude.{◌≡◌, refl, ◌≢◌, Bool, true, false, ◌&&◌, ◌||◌, List, get_or, T, leb, eqb, Result}
use Rattle.std.proofs.Common.{sym, ◌∙◌, subst, arith, eqb→eq, leb→le}
use Rattle.std.proofs.Math.Bool.{not, or-false}
use Rattle.std.proofs.Math.Decide.{ℕ_discrete}
use Rattle.std.proofs.Math.Dec.{nleb→lt}
use Rattle.cells.specs.Laws.Facts.{fails, both_hold, neither}
use Rattle.cells.specs.Laws.Tests.{when_is, neqb→ne}
use Rattle.tokens.specs.Place.{read_of}
use Rattle.screen.specs.declared.walking.Text.{Text as Scope}
use Rattle.screen.specs.Laws.Found.Model.{end_in, fixed_in, apart_of}
use Rattle.tokens.specs.declared.decoding.Token.{Token}

-- what is read at a place outside bodies
abbrev pub outer : List ℕ → Scope → ℕ → Result Token ℕ
outer rom x p = read_of rom x.length x.wide false p

-- no two tokens from `start` up to `far` overlap, and one that ends a round is at `far`
pub record Apart (rom : List ℕ) (x : Scope) (seen : List ℕ) (start far : ℕ) : Type 0 where
  pub over : (p q : ℕ) → start ≤ p → p < q → q ≤ far → get_or seen p 0 ≢ 0 → get_or seen q 0 ≢ 0 → end_in p (outer rom x p) ≤ q
  pub last : (p : ℕ) → start ≤ p → p ≤ far → get_or seen p 0 ≢ 0 → fixed_in (outer rom x p) ≡ true → p ≡ far

-- two that do, or one that is not
pub data Overlap (rom : List ℕ) (x : Scope) (seen : List ℕ) (start far : ℕ) : Type 0 where
  over : (p q : ℕ) → start ≤ p → p < q → q ≤ far → get_or seen p 0 ≢ 0 → get_or seen q 0 ≢ 0 → q < end_in p (outer rom x p)
      → Overlap rom x seen start far
  early : (p : ℕ) → start ≤ p → p ≤ far → get_or seen p 0 ≢ 0 → fixed_in (outer rom x p) ≡ true → p ≢ far → Overlap rom x seen start far

-- the answer of the pass, from a place on
data ApartIs (rom : List ℕ) (x : Scope) (seen : List ℕ) (start far p free : ℕ) : Bool → Type 0 where
  good : ((q : ℕ) → p ≤ q → q ≤ far → get_or seen q 0 ≢ 0 → free ≤ q) → Apart rom x seen p far → ApartIs rom x seen start far p free true
  bad : Overlap rom x seen start far → ApartIs rom x seen start far p free false

-- `free` is no place, or the end of a token that was met before p
data Free (rom : List ℕ) (x : Scope) (seen : List ℕ) (start p : ℕ) : ℕ → Type 0 where
  nowhere : Free rom x seen start p 0
  behind : (r : ℕ) → start ≤ r → r < p → get_or seen r 0 ≢ 0 → Free rom x seen start p (end_in r (outer rom x r))

-- one place further
later : {rom : List ℕ} {x : Scope} {seen : List ℕ} {start p free : ℕ} → Free rom x seen start p free → Free rom x seen start (suc p) free
later nowhere = nowhere
later (behind r l h n) = behind r l (omega arith) n

-- a token that ends a round passed the test
highest : (p far : ℕ) (b : Bool) → T (eqb p far || not b) → b ≡ true → p ≡ far
highest p far true t e = eqb→eq p far (rw (or-false (eqb p far)) at t)
highest p far false t e = absurd (subst T (sym e) tt)

module _ {rom : List ℕ} {x : Scope} {seen : List ℕ} {start far : ℕ} where
  -- a place without a token
  skipped : {p free : ℕ} {b : Bool} → get_or seen p 0 ≡ 0 → ApartIs rom x seen start far (suc p) free b
      → ApartIs rom x seen start far p free b
  skipped {p} z (bad o) = bad o
  skipped {p} z (good ahead a) =
      good (λ q l h n. ahead q (above q l n) h n)
      (record {
        over = λ q r l h u n o. a.over q r (above q l n) h u n o;
        last = λ q l h n e. a.last q (above q l n) h n e;
      })
    where
      above : (q : ℕ) → p ≤ q → get_or seen q 0 ≢ 0 → suc p ≤ q
      above q l n = elim (ℕ_discrete q p) [ yes e ↦ absurd (n (rw e z)) | no e ↦ omega arith ]

  -- a place with one that fits
  taken : {p free : ℕ} {b : Bool} → free ≤ p → (fixed_in (outer rom x p) ≡ true → p ≡ far)
      → ApartIs rom x seen start far (suc p) (end_in p (outer rom x p)) b → ApartIs rom x seen start far p free b
  taken {p} f t (bad o) = bad o
  taken {p} f t (good ahead a) =
      good (λ q l h n. omega arith)
      (record {
        over = λ q r l h u n o.
            elim (ℕ_discrete q p) [ yes e ↦ rw e (ahead r (omega arith) u o) | no e ↦ a.over q r (omega arith) h u n o ];
        last = λ q l h n e. elim (ℕ_discrete q p) [ yes d ↦ d ∙ t (rw d at e) | no d ↦ a.last q (omega arith) h n e ];
      })

  -- a place with one that starts too early, or ends a round and is not the highest
  clash : {p free : ℕ} → start ≤ p → p ≤ far → get_or seen p 0 ≢ 0 → Free rom x seen start p free
      → T (not (leb free p && (eqb p far || not (fixed_in (outer rom x p))))) → Overlap rom x seen start far
  clash {p} {free} l h n f t = by (leb free p) refl t
    where
      before : {m : ℕ} → Free rom x seen start p m → p < m → Overlap rom x seen start far
      before nowhere u = absurd (omega arith)
      before (behind r s v o) u = over r p s v h o n u

      ends : (b : Bool) → fixed_in (outer rom x p) ≡ b → T (not (not b)) → p ≢ far → Overlap rom x seen start far
      ends true e u v = early p l h n e v
      ends false e u v = absurd u

      by : (b : Bool) → leb free p ≡ b → T (not (b && (eqb p far || not (fixed_in (outer rom x p))))) → Overlap rom x seen start far
      by true e u =
          let v = neither (eqb p far) (not (fixed_in (outer rom x p))) u in
          ends (fixed_in (outer rom x p)) refl v.1 (neqb→ne p far v.0)
      by false e u = before f (nleb→lt free p (fails (leb free p) e))

  -- so many places from p on
  apart_is : (k p free : ℕ) → start ≤ p → p + k ≡ suc far → Free rom x seen start p free
      → ApartIs rom x seen start far p free (apart_of rom x seen far k p free)
  unfolding apart_of
  apart_is zero p free l e f =
      good (λ q u h n. omega arith) (record { over = λ q r u h v n o. absurd (omega arith); last = λ q u h n d. absurd (omega arith) })
  apart_is (suc k) p free l e f =
      when_is (ApartIs rom x seen start far p free) (eqb (get_or seen p 0) 0) _ _
      (λ t. skipped (eqb→eq (get_or seen p 0) 0 t) (apart_is k (suc p) free (omega arith) (omega arith) (later f)))
      (λ t.
      let n = neqb→ne (get_or seen p 0) 0 t in
      when_is (ApartIs rom x seen start far p free) (leb free p && (eqb p far || not (fixed_in (outer rom x p)))) _ _
      (λ u.
      let v = both_hold (leb free p) (eqb p far || not (fixed_in (outer rom x p))) u in
      taken (leb→le free p v.0) (highest p far (fixed_in (outer rom x p)) v.1)
      (apart_is k (suc p) (end_in p (outer rom x p)) (omega arith) (omega arith) (behind p l (omega arith) n)))
      (λ u. bad (clash l (omega arith) n f u)))

-- the pass over a round
pass : (rom : List ℕ) (x : Scope) (seen : List ℕ) (start far : ℕ) → start ≤ far
    → ApartIs rom x seen start far start 0 (apart_of rom x seen far (suc far - start) start 0)
pass rom x seen start far l = apart_is (suc far - start) start 0 (omega arith) (omega arith) nowhere

-- where it is good the tokens are apart
pub apart_good : (rom : List ℕ) (x : Scope) (seen : List ℕ) (start far : ℕ) → start ≤ far
    → apart_of rom x seen far (suc far - start) start 0 ≡ true → Apart rom x seen start far
apart_good rom x seen start far l e = of (rw e at (pass rom x seen start far l))
  where
    of : ApartIs rom x seen start far start 0 true → Apart rom x seen start far
    of (good ahead a) = a

-- where it is not two overlap, or one that ends a round is too early
pub apart_bad : (rom : List ℕ) (x : Scope) (seen : List ℕ) (start far : ℕ) → start ≤ far
    → apart_of rom x seen far (suc far - start) start 0 ≡ false → Overlap rom x seen start far
apart_bad rom x seen start far l e = of (rw e at (pass rom x seen start far l))
  where
    of : ApartIs rom x seen start far start 0 false → Overlap rom x seen start far
    of (bad o) = o
