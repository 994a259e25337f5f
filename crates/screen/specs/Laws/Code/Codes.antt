-- Laws that the code is proved by: how large an effect can be, and what is known of a token that fits. Assumes nothing.
use Rattle.std.specs.Prelude.{ℕ, ◌+◌, ◌-◌, ◌<◌, ◌≤◌, ◌≡◌, refl, Bool, true, false, ◌&&◌, List, T, leb, eqb, get_or}
use Rattle.std.proofs.Common.{sym, arith, leb→le, le-leb}
use Rattle.cells.specs.Laws.Tests.{when_is}
use Rattle.cells.specs.Laws.Facts.{holds, both_hold, never_true}
use Rattle.rom.specs.Sizes.{return_most, frames_most}
use Rattle.tokens.specs.Family.{define, call}
use Rattle.tokens.specs.Code.{family_in, takes_in, code_of}
use Rattle.tokens.specs.Definition.{kind_in, takes_here}
use Rattle.tokens.specs.declared.decoding.Token.{Token}
use Rattle.screen.specs.Effect.{is_a, called, own_effect, effect_of}
use Rattle.screen.specs.Laws.Found.Model.{cap_of, own_of, height_after, back_after, sum_at, fits_of, slot}
use Rattle.screen.specs.declared.effect.Sum.{Sum}
use Rattle.screen.specs.declared.effect.Effect.{Effect}
use Rattle.screen.specs.Laws.Found.Cell.{height_in, back_in, body_most}
use Rattle.screen.specs.Laws.Found.Sums.{SmallSum, unpacked_small}

-- ---- effects
-- each part of an effect has two hexadecimal digits at most
pub record SmallEffect (e : Effect) : Type 0 where
  pub takes : e.takes < 256
  pub gives : e.gives < 256
  pub rise : e.rise < 256
  pub return_takes : e.return_takes < 256
  pub return_gives : e.return_gives < 256
  pub return_rise : e.return_rise < 256
  pub frames : e.frames < 256

-- and so has each part of a sum
pub sum_small : (sums : List ℕ) (n : ℕ) (s : Sum) → s ≡ sum_at sums n → SmallSum s
unfolding sum_at
sum_small sums n s e = rw e (unpacked_small (get_or sums (slot n) 0))

pub takes_small : (t : Token) → takes_here t < 256
takes_small t =
    when_is (λ n. takes_in t.code + n < 256) (eqb (family_in t.code) define) (takes_in (code_of (kind_in t.operand))) 0
    (λ h. omega arith)
    (λ h. omega arith)

pub effect_small : (sums : List ℕ) (t : Token) → SmallEffect (effect_of (sum_at sums) t)
unfolding effect_of
effect_small sums t =
    let s = takes_small t in
    let u = sum_small sums t.number (sum_at sums t.number) refl in
    when_is SmallEffect (is_a call t) (called (sum_at sums t.number)) (own_effect t)
    (λ h. record {
      takes = u.need;
      gives = u.out;
      rise = u.peak;
      return_takes = omega arith;
      return_gives = omega arith;
      return_rise = u.return_peak;
      frames = u.frames;
    })
    (λ h. record {
      takes = s;
      gives = omega arith;
      rise = s;
      return_takes = omega arith;
      return_gives = omega arith;
      return_rise = omega arith;
      frames = omega arith;
    })

-- what a token that fits has: its cells, and room
pub record EffectRoom (within : Bool) (e : Effect) (cell : ℕ) : Type 0 where
  pub takes : e.takes ≤ height_in cell
  pub most : height_after e cell ≤ cap_of within
  pub rise : height_in cell - e.takes + e.rise ≤ cap_of within
  pub return_takes : e.return_takes ≤ back_in cell
  pub return_high : back_after e cell ≤ return_most
  pub return_rise : back_in cell + e.return_rise ≤ return_most
  pub frames : own_of within + e.frames ≤ frames_most

pub fits_known : (within : Bool) (e : Effect) (cell : ℕ) → T (fits_of within e cell) → EffectRoom within e cell
unfolding fits_of
fits_known within e cell f =
    let a = leb e.takes (height_in cell) in
    let b = leb (height_after e cell) (cap_of within) in
    let d = leb (height_in cell - e.takes + e.rise) (cap_of within) in
    let g = leb e.return_takes (back_in cell) in
    let h = leb (back_after e cell) return_most in
    let i = leb (back_in cell + e.return_rise) return_most in
    let j = leb (own_of within + e.frames) frames_most in
    let k6 = both_hold (a && b && d && g && h && i) j f in
    let k5 = both_hold (a && b && d && g && h) i k6.0 in
    let k4 = both_hold (a && b && d && g) h k5.0 in
    let k3 = both_hold (a && b && d) g k4.0 in
    let k2 = both_hold (a && b) d k3.0 in
    let k1 = both_hold a b k2.0 in
    record {
      takes = leb→le e.takes (height_in cell) k1.0;
      most = leb→le (height_after e cell) (cap_of within) k1.1;
      rise = leb→le (height_in cell - e.takes + e.rise) (cap_of within) k2.1;
      return_takes = leb→le e.return_takes (back_in cell) k3.1;
      return_high = leb→le (back_after e cell) return_most k4.1;
      return_rise = leb→le (back_in cell + e.return_rise) return_most k5.1;
      frames = leb→le (own_of within + e.frames) frames_most k6.1;
    }

-- a token that does not fit, by any of the tests
pub unfit : (within : Bool) (e : Effect) (cell : ℕ) → (EffectRoom within e cell → ⊥) → false ≡ fits_of within e cell
unfit within e cell f = sym (never_true (fits_of within e cell) (λ t. f (fits_known within e cell t)))

-- the last test decides where the others hold
pub fits_last : (within : Bool) (e : Effect) (cell : ℕ) → e.takes ≤ height_in cell → height_after e cell ≤ cap_of within
    → height_in cell - e.takes + e.rise ≤ cap_of within → e.return_takes ≤ back_in cell → back_after e cell ≤ return_most
    → back_in cell + e.return_rise ≤ return_most → fits_of within e cell ≡ leb (own_of within + e.frames) frames_most
unfolding fits_of
fits_last within e cell a b d g h i =
    rw (le-leb _ _ a, le-leb _ _ b, le-leb _ _ d, le-leb _ _ g, le-leb _ _ h, le-leb _ _ i) refl

-- what the heights behind a token are reckoned by
pub record Fitting (e : Effect) (cell : ℕ) : Type 0 where
  pub takes : e.takes ≤ height_in cell
  pub most : height_after e cell ≤ body_most
  pub return_takes : e.return_takes ≤ back_in cell
  pub return_high : back_after e cell ≤ return_most

pub cap_most : (within : Bool) → cap_of within ≤ body_most
cap_most true = omega arith
cap_most false = omega arith

pub own_most : (within : Bool) → own_of within ≤ 1
own_most true = omega arith
own_most false = omega arith

pub fitting : (within : Bool) (e : Effect) (cell : ℕ) → fits_of within e cell ≡ true → Fitting e cell
fitting within e cell f =
    let k = fits_known within e cell (holds (fits_of within e cell) f) in
    let m = cap_most within in
    record {
      takes = k.takes;
      most = omega arith;
      return_takes = k.return_takes;
      return_high = k.return_high;
    }
