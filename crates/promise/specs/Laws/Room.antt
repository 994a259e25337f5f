-- What the call chain says of the state, and the room that it leaves: by rules 2 and 3 a body has the room that it wants wherever it is
-- called from. Assumes nothing.
use Rattle.std.specs.Prelude.{ℕ, suc, ◌+◌, ◌-◌, ◌≤◌, ◌≡◌, refl, not, ◌||◌, List, [], T, ltb}
use Rattle.std.proofs.Common.{arith, ap, subst, T_not, lt-ltb}
use Rattle.rom.specs.Sizes.{data_most, return_most, frames_most}
use Rattle.rom.specs.Header.{length_of}
use Rattle.tokens.specs.Definition.{new_number}
use Rattle.tokens.specs.declared.decoding.Token.{Token}
use Rattle.state.specs.State.{base_of}
use Rattle.state.specs.declared.state.Calls.{Calls}
use Rattle.cells.specs.Laws.Facts.{fails}
use Rattle.tokens.specs.Family.{finish, leave}
use Rattle.screen.specs.Effect.{is_a, fixes, is_colon, effect_of}
use Rattle.screen.specs.Laws.Rules.Tokens.{fixes_outside, leave_inside}
use Rattle.screen.specs.Reach.{Setting, in_body, Holds, Reach, Met, Body}
use Rattle.screen.specs.Laws.Rules.Reach.{ExtendsBy, extends_by}
use Rattle.screen.specs.Rules.{Assignment}
use Rattle.screen.specs.Laws.Rules.Ways.{effect_call}
use Rattle.promise.specs.Laws.Standing.{Defined, AtHome, CallChain, outside, within}
use Rattle.promise.specs.Laws.Before.{body_within}
use Rattle.promise.specs.Trail.{OpenCall}

-- a b(:) reaches through the C2 that its body is read to
pub body_of : {rom : List ℕ} {d e n : ℕ} (f : Defined rom d e) → T (is_colon f.token) → new_number f.token.operand ≡ n
    → (c : ℕ) × Body rom f.setting d f.token n c × (e ≡ suc c)
body_of {rom} {d} {e} {n} f k i = by (extends_by f.ends)
  where
    by : {q : ℕ} → ExtendsBy rom f.setting.wide f.token q → (c : ℕ) × Body rom f.setting d f.token n c × (q ≡ suc c)
    by (ExtendsBy.short z) = absurd (T_not (is_colon f.token) z k)
    by (ExtendsBy.long {c = c} z r) = (c, record { met = f.met; colon = k; number = i; reads = r }, refl)

-- the room that a token finds
pub record Room {rom : List ℕ} (a : Assignment rom) (k x floor base p : ℕ) (t : Token) : Type 0 where
  pub height : floor + a.height x p ≤ data_most
  pub rise : floor + (a.height x p - (effect_of a.sum t).takes + (effect_of a.sum t).rise) ≤ data_most
  pub back : base + (a.back x p + (effect_of a.sum t).return_rise) ≤ return_most
  pub frames : k + (effect_of a.sum t).frames ≤ frames_most

module _ {rom : List ℕ} (a : Assignment rom) {calls : Calls} {home : ℕ} {outer : Setting} where
  -- ---- what the chain says of the frames
  -- a call is open exactly in a body
  pub open_is : {es : List OpenCall} {k x floor base : ℕ} → CallChain a calls home outer es k x floor base → ltb 0 k ≡ in_body x
  open_is outside = refl
  open_is (within {k = k} c g h p w b) = lt-ltb 0 (suc k) (omega arith)

  -- the youngest frame's base is that of the heights
  pub base_is : {es : List OpenCall} {k x floor base : ℕ} → CallChain a calls home outer es k x floor base → calls.count ≡ k
      → base_of calls ≡ base
  base_is outside e = rw e
  base_is (within {k = k} c g h p w b) e =
      let z : suc k - 1 ≡ k = omega arith in
      rw (e, lt-ltb 0 (suc k) (omega arith), z) b

  -- ---- the room that it leaves
  pub room : {es : List OpenCall} {k x floor base p : ℕ} {s : Setting} {t : Token} → CallChain a calls home outer es k x floor base
      → Met rom x s p t → Room a k x floor base p t
  room outside m =
      let l = a.data_limit m in
      let r = a.return_limit m in
      let f = a.frame_limit m in
      record { height = omega (arith, l.0); rise = omega (arith, l.1); back = omega arith; frames = omega arith }
  room {p = q} {t = u} (within {open_calls = es} {k = k} {x = x} {floor = floor} {base = base} {p = p} {d = d} {e = e} {s = s} {t = t} c g h
      y w v) m =
      let r = room c g.met in
      let b = body_of g.defined g.colon g.number in
      let i = effect_call a.sum t g.calls in
      let rise = r.rise in
      let back = r.back in
      let frames = r.frames in
      let rise' : floor + (a.height x p - (a.sum t.number).need + (a.sum t.number).peak) ≤ data_most = rw i at rise in
      let back' : base + (a.back x p + (a.sum t.number).return_peak) ≤ return_most = rw i at back in
      let frames' : k + (a.sum t.number).frames ≤ frames_most = rw i at frames in
      let peak = (a.peak b.1).all m in
      let returns = (a.return_peak b.1).all m in
      let most = (a.frames b.1).all m in
      record { height = omega arith; rise = omega arith; back = omega arith; frames = omega arith }

-- a body that is called has at least its own frame
pub own_frame_lem : {rom : List ℕ} (a : Assignment rom) {d e n : ℕ} (f : Defined rom d e) → T (is_colon f.token)
    → new_number f.token.operand ≡ n → 1 ≤ (a.sum n).frames
own_frame_lem {rom} a {d} {e} {n} f k i =
    let b = body_of f k i in
    let r : Reach rom (suc d) f.setting f.token.next = Holds.body f.met.reach f.met.is k b.1.reads in
    let t = a.whole r in
    let m = (a.frames b.1).all (record { reach = r; is = t.1 }) in
    omega arith

-- ---- where the state stands is not past home
pub not_past : {rom : List ℕ} (a : Assignment rom) {calls : Calls} {home : ℕ} {es : List OpenCall} {k x floor base p : ℕ}
    {outer s : Setting} → CallChain a calls home outer es k x floor base → Reach rom x s p → AtHome x p s home outer → p ≤ home
not_past a outside r h = let e = h.0 in omega arith
not_past a (within c g y q w v) r h =
    let b = body_within a g.defined g.colon r in
    let e = b.1 in
    let f = g.before in
    omega arith

-- ---- a token that is met exactly once stands outside bodies
-- what is known of a state there
pub record Outer {rom : List ℕ} (a : Assignment rom) (es : List OpenCall) (k x floor base p home : ℕ) (s outer : Setting)
    (t : Token) : Type 0 where
  pub met : Met rom 0 outer home t
  pub place : p ≡ home
  pub setting : s ≡ outer
  pub text : x ≡ 0
  pub none : es ≡ []
  pub count : k ≡ 0
  pub low : floor ≡ 0
  pub bottom : base ≡ 0
  pub height : a.height x p ≡ a.height 0 home
  pub back : a.back x p ≡ a.back 0 home

pub fixed_outer : {rom : List ℕ} (a : Assignment rom) {calls : Calls} {home : ℕ} {es : List OpenCall} {k x floor base p : ℕ}
    {outer s : Setting} {t : Token}
    → CallChain a calls home outer es k x floor base → Met rom x s p t → AtHome x p s home outer → T (fixes t || is_a finish t)
    → Outer a es k x floor base p home s outer t
fixed_outer {rom} a {home = home} {s = s} {t = t} outside m h f =
    record {
      met = subst (λ v. Met rom 0 v home t) h.1 (subst (λ v. Met rom 0 s v t) h.0 m);
      place = h.0;
      setting = h.1;
      text = refl;
      none = refl;
      count = refl;
      low = refl;
      bottom = refl;
      height = ap (λ v. a.height 0 v) h.0;
      back = ap (λ v. a.back 0 v) h.0;
    }
fixed_outer {rom} a {p = p} {s = s} {t = t} (within c g y q w v) m h f =
    let i = fixes_outside rom (length_of rom) s.wide p t m.is in
    let n : T (not (fixes t || is_a finish t)) = rw (i.0, i.1) tt in
    absurd (T_not (fixes t || is_a finish t) n f)

-- leaving a body is done at its base
pub leave_base : {rom : List ℕ} (a : Assignment rom) {calls : Calls} {home : ℕ} {es : List OpenCall} {k x floor base p : ℕ}
    {outer s : Setting} {t : Token}
    → CallChain a calls home outer es k x floor base → Met rom x s p t → T (is_a leave t) → a.back x p ≡ 0
leave_base {rom} a {p = p} {s = s} {t = t} outside m l =
    absurd (T_not (is_a leave t) (fails (is_a leave t) (leave_inside rom (length_of rom) s.wide p t m.is)) l)
leave_base a (within c g y q w v) m l = let b = body_of g.defined g.colon g.number in (a.ends b.1 m l).1
