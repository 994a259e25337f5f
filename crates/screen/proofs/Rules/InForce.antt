-- What is in force at a place is one thing, by the rules alone: nothing here knows how heights are found.
--
-- No way leads around, or twice through, a reachable defining token, CC, 11F or 127 outside bodies: it gets past such a token's place by
-- falling through, and then carries it out or overlaps it, or by a branch, and then the place is in the branch's span; and back to it by a
-- branch alone. So one step outside bodies changes which of these tokens lie before the place by no more than the one that it carries out
-- (`step_passes`), every way to a place has carried out all that lie before it, each once and in their order (`reach_passed`), and the
-- same is in force at the end of each (`one_fixed`). What is reachable in a body is a token start of it, with what is in force at its b(:)
-- (`in_body`). Assumes nothing.
use Rattle.std.specs.Prelude.{ℕ, suc, ◌≤◌, ◌<◌, min, max, ◌≡◌, refl, Bool, true, false, not, List, T, Ok}
use Rattle.std.proofs.Common.{arith, sym, ◌∙◌, subst, T_not}
use Rattle.std.proofs.Math.Decide.{dec_lt, ℕ_discrete}
use Rattle.cells.specs.Laws.Facts.{never_true, fails}
use Rattle.rom.specs.Header.{length_of, wide_of}
use Rattle.rom.specs.Sizes.{first_place}
use Rattle.tokens.specs.Laws.Tokens.{next_ahead}
use Rattle.tokens.specs.Definition.{new_number}
use Rattle.tokens.specs.declared.decoding.Token.{Token}
use Rattle.screen.specs.Effect.{fixes, is_colon, is_branch, leads_of}
use Rattle.screen.specs.Reach.{In, Setting, setting, after, token_at, extends, leads, Holds, Reach, Met, Body, Starts}
use Rattle.screen.specs.Reach.{first, body, next, to_next, entry, behind}
use Rattle.screen.specs.Laws.Rules.Reach.{LeadsBy, leads_by, extends_ahead, one_good}
use Rattle.screen.specs.Rules.{Assignment}
use Rattle.screen.specs.Laws.Rules.Tokens.{none_in, after_same, aims_fit, fixed_wide, fixes_outside, fixes_no_branch, end_is}
use Rattle.screen.specs.Laws.Rules.Ways.{FallOrJump, falls, jumps, fall_or_jump, colon_leads, leave_leads, colon_fixes}

-- ---- what is fixed by the place alone
-- Of what travels with the place, it is the part that only tokens change which are met exactly once. Today that is all of a setting. What
-- other tokens change too is no part of it: rule 4 says nothing of that, and the heights that are assigned to a place have to fix it
-- there.
abbrev pub Fixed : Type 0
Fixed = Setting

abbrev pub fixed_of : Setting → Fixed
fixed_of s = s

-- what a token leaves of it, whichever way it leads
abbrev pub fixed_after : Token → Fixed → Fixed
fixed_after t f = after t f

-- no other token changes it
fixed_same : (t : Token) (f : Fixed) → T (not (fixes t)) → fixed_after t f ≡ f
fixed_same t f n = after_same t f n

-- a token that changes it reads the same whatever is in force
pub fixed_read : {rom : List ℕ} {s r : Setting} {p : ℕ} {t u : Token} → Met rom 0 s p t → T (fixes t) → Met rom 0 r p u → t ≡ u
fixed_read {rom} {s} {r} {p} {t} m f n = one_good (fixed_wide rom (length_of rom) s.wide false p t m.is f r.wide) n.is

-- ---- what a step passes
-- a reachable token outside bodies that is met exactly once
pub record Fixing (rom : List ℕ) (c : ℕ) : Type 0 where
  pub setting : Setting
  pub token : Token
  pub met : Met rom 0 setting c token
  pub once : T (fixes token)

pub fixing : {rom : List ℕ} {s : Setting} {c : ℕ} {t : Token} → Met rom 0 s c t → T (fixes t) → Fixing rom c
fixing {s = s} {t = t} m f = record { setting = s; token = t; met = m; once = f }

-- A step outside bodies from a token to a place: up to where the token reaches, "by falling through"; or over a span in which no such
-- token starts, by a branch. Whatever branches there are, a step is one of the two.
pub data Step (rom : List ℕ) (w : Bool) (p : ℕ) (t : Token) (q : ℕ) : Type 0 where
  past : Holds rom (extends w t q) → Step rom w p t q
  over : ((c : ℕ) → Fixing rom c → min p q ≤ c → c < max p q → ⊥) → T (not (fixes t)) → Step rom w p t q

-- those that lie before q are those that lie before p, and the one at p itself
pub record Passes (rom : List ℕ) (p q : ℕ) : Type 0 where
  pub keeps : (c : ℕ) → Fixing rom c → c < p → c < q
  pub adds : (c : ℕ) → Fixing rom c → c < q → c ≤ p

-- The tokens that are met exactly once and lie before a place, the last of them outermost, and what they leave in force.
pub data PassedBy (rom : List ℕ) : Fixed → ℕ → Type 0 where
  none : {p : ℕ} → ((c : ℕ) → Fixing rom c → p ≤ c) → PassedBy rom (fixed_of (setting (wide_of rom))) p
  last : {s : Setting} {c p : ℕ} {t : Token} → PassedBy rom (fixed_of s) c → Met rom 0 s c t → T (fixes t) → c < p
      → ((d : ℕ) → Fixing rom d → d < p → d ≤ c) → PassedBy rom (fixed_after t (fixed_of s)) p

-- it is one thing: two that are last lie at one place, and there by induction the same is in force
pub one_passed : {rom : List ℕ} {p : ℕ} {f g : Fixed} → PassedBy rom f p → PassedBy rom g p → f ≡ g
one_passed (none h) (none k) = refl
one_passed (none h) (last {c = c} x m f l k) = let z = h c (fixing m f) in absurd (omega arith)
one_passed (last {c = c} x m f l k) (none h) = let z = h c (fixing m f) in absurd (omega arith)
one_passed {rom} (last {s = s} {c = c} {t = t} x m f l h) (last {s = r} {c = d} {t = u} y n g k i) =
    let a = h d (fixing n g) k in
    let b = i c (fixing m f) l in
    let e : d ≡ c = omega arith in
    let same = one_passed x (subst (λ v. PassedBy rom (fixed_of r) v) e y) in
    let token = fixed_read m f (subst (λ v. Met rom 0 r v u) e n) in
    cc

-- a place of which the same lie before has passed the same
same_passed : {rom : List ℕ} {f : Fixed} {p q : ℕ} → ((c : ℕ) → Fixing rom c → c < p → c < q) → ((c : ℕ) → Fixing rom c → c < q → c < p)
    → PassedBy rom f p → PassedBy rom f q
same_passed {rom} {q = q} up down (none h) = none {p = q} (λ c x. not_before c x (dec_lt c q))
  where
    not_before : (c : ℕ) → Fixing rom c → Dec (c < q) → q ≤ c
    not_before c x (yes l) = let a = down c x l in let b = h c x in absurd (omega arith)
    not_before c x (no n) = omega arith
same_passed up down (last {c = c} x m f l h) = last x m f (up c (fixing m f) l) (λ d y k. h d y (down d y k))

-- a token that leads on by itself is no b(:), so it reaches up to the place behind it
extends_next : {rom : List ℕ} {w : Bool} {q : ℕ} {t : Token} → In q (leads_of t) → Holds rom (extends w t t.next)
extends_next {q = q} {t = t} i =
    to_next (fails (is_colon t) (never_true (is_colon t) (λ c. none_in (subst (λ l. In q l) (colon_leads t c) i))))

-- nothing is reachable in the header
pub reach_first : {rom : List ℕ} {p : ℕ} {s : Setting} → Reach rom 0 s p → first_place ≤ p
reach_first first = omega arith
reach_first {rom} (next {s = s} {p = p} {q = q} {t = t} r i l) = by (reach_first r) (leads_by l)
  where
    by : first_place ≤ p → LeadsBy rom s.wide p t q → first_place ≤ q
    by low (LeadsBy.itself k j) = way (fall_or_jump t q j)
      where
        way : FallOrJump t q → first_place ≤ q
        way (falls e) = let y = next_ahead rom (length_of rom) s.wide false p t i in omega arith
        way (jumps b j) = (aims_fit rom (length_of rom) s.wide false p t i q j).0
    by low (LeadsBy.behind c x) = let y = extends_ahead (record { reach = r; is = i }) x in omega arith

module _ {rom : List ℕ} (a : Assignment rom) where
  -- a successor is met
  pub next_met : {x p q : ℕ} {s : Setting} {t : Token} → Met rom x s p t → Holds rom (leads s.wide p t q) → (u : Token)
      × Met rom x (after t s) q u
  next_met m l = let r = next m.reach m.is l in let w = a.whole r in (w.0, record { reach = r; is = w.1 })

  -- ---- outside bodies
  -- each step is of one of the two kinds, by rule 4's second sentence
  pub step_of : {p q : ℕ} {s : Setting} {t : Token} → Met rom 0 s p t → Holds rom (leads s.wide p t q) → Step rom s.wide p t q
  step_of {p} {q} {s} {t} m h = by (leads_by h)
    where
      by : LeadsBy rom s.wide p t q → Step rom s.wide p t q
      by (LeadsBy.itself k i) = way (fall_or_jump t q i)
        where
          way : FallOrJump t q → Step rom s.wide p t q
          way (falls e) = past (subst (λ v. Holds rom (extends s.wide t v)) (sym e) (extends_next i))
          way (jumps b j) = over (λ c x. a.clear m b j x.met x.once)
              (fails (fixes t) (never_true (fixes t) (λ f. T_not (is_branch t) (fixes_no_branch t f) b)))
      by (LeadsBy.behind c x) = past x

  -- it passes no token that is met exactly once but its own: by rule 4's first sentence where it falls through
  pub step_passes : {p q : ℕ} {s : Setting} {t : Token} → Met rom 0 s p t → Step rom s.wide p t q → Passes rom p q
  step_passes {p} {q} m (past x) =
      record {
        keeps = λ c f l. let k = extends_ahead m x in omega arith;
        adds = λ c f l.
            elim (dec_lt p c) [
              | yes u ↦ let v = a.apart m x f.met u in absurd (omega arith)
              | no u ↦ omega arith
            ];
      }
  step_passes {p} {q} m (over n z) =
      record {
        keeps = λ c f l. elim (dec_lt c q) [ yes u ↦ u | no u ↦ absurd (n c f (omega arith) (omega arith)) ];
        adds = λ c f l. elim (dec_lt p c) [ yes u ↦ absurd (n c f (omega arith) (omega arith)) | no u ↦ omega arith ];
      }

  -- what is passed where the token is one of them, and where it is none
  pub step_passed : {p q : ℕ} {s : Setting} {t : Token} → Met rom 0 s p t → Step rom s.wide p t q → PassedBy rom (fixed_of s) p
      → PassedBy rom (fixed_after t (fixed_of s)) q
  step_passed {p} {q} {s} {t} m h x = by (fixes t) refl h
    where
      moves : Passes rom p q
      moves = step_passes m h

      -- none of them stands at the place of another token
      here : fixes t ≡ false → (c : ℕ) → Fixing rom c → c ≡ p → ⊥
      here n c f e =
          let u = fixed_read f.met f.once (subst (λ v. Met rom 0 s v t) (sym e) m) in
          T_not (fixes t) (fails (fixes t) n) (subst (λ v. T (fixes v)) u f.once)

      by : (b : Bool) → fixes t ≡ b → Step rom s.wide p t q → PassedBy rom (fixed_after t (fixed_of s)) q
      by true e (past y) = let f : T (fixes t) = rw e tt in last x m f (extends_ahead m y) moves.adds
      by true e (over n z) = absurd (rw e at z)
      by false e y =
          subst (λ v. PassedBy rom v q) (sym (fixed_same t (fixed_of s) (fails (fixes t) e)))
          (same_passed moves.keeps (λ c f l. let k = moves.adds c f l in
          elim (ℕ_discrete c p) [ yes i ↦ absurd (here e c f i) | no i ↦ omega arith ]) x)

  -- every way to a place has passed all that lie before it
  pub reach_passed : {p : ℕ} {s : Setting} → Reach rom 0 s p → PassedBy rom (fixed_of s) p
  reach_passed first = none (λ c f. reach_first f.met.reach)
  reach_passed (next {s = s} {p = p} {t = t} r i l) =
      let m : Met rom 0 s p t = record { reach = r; is = i } in
      step_passed m (step_of m l) (reach_passed r)

  -- what is in force at a place is one thing
  pub one_fixed : {p : ℕ} {s r : Setting} → Reach rom 0 s p → Reach rom 0 r p → fixed_of s ≡ fixed_of r
  one_fixed x y = one_passed (reach_passed x) (reach_passed y)

  -- ---- in bodies
  -- from a start of a body a token leads to a start of it: no C2 leads on, and by rule 2 its branches stay on its starts
  pub start_on : {d n c p q : ℕ} {s r : Setting} {t u : Token} → Body rom s d t n c → Met rom (suc d) r p u
      → token_at rom 1 s.wide p ≡ Ok u
      → Starts rom s.wide t.next p → In q (leads_of u) → Starts rom s.wide t.next q
  start_on {p = p} {q = q} {s = s} {t = t} {u = u} b m i start l = by (fall_or_jump u q l)
    where
      goes_on : u.number ≡ 0xC2 → ⊥
      goes_on e = none_in (subst (λ v. In q v) (leave_leads u (end_is rom (length_of rom) s.wide true p u i e).0) l)

      by : FallOrJump u q → Starts rom s.wide t.next q
      by (falls e) = subst (λ v. Starts rom s.wide t.next v) (sym e) (behind start i goes_on)
      by (jumps k j) = a.stays b m k j

  -- what is reachable in the body of the b(:) at d
  pub record InBody (d : ℕ) (s : Setting) (p : ℕ) : Type 0 where
    pub outer : Setting
    pub token : Token
    pub number : ℕ
    pub end : ℕ
    pub body : Body rom outer d token number end
    pub same : fixed_of s ≡ fixed_of outer
    pub start : Starts rom outer.wide token.next p

  -- it is a start of the body, with what is in force at the b(:), for nothing in it is met exactly once
  pub in_body : {d p : ℕ} {s : Setting} → Reach rom (suc d) s p → InBody d s p
  in_body (body {s = s} {c = c} {t = t} r i k h) =
      record {
        outer = s;
        token = t;
        number = new_number t.operand;
        end = c;
        body = record { met = record { reach = r; is = i }; colon = k; number = refl; reads = h };
        same = refl;
        start = entry;
      }
  in_body {d} (next {s = s} {p = p} {q = q} {t = t} r i l) = by (in_body r)
    where
      quiet : T (not (fixes t))
      quiet = fails (fixes t) (fixes_outside rom (length_of rom) s.wide p t i).0

      by : InBody d s p → InBody d (after t s) q
      by z =
          record {
            outer = z.outer;
            token = z.token;
            number = z.number;
            end = z.end;
            body = z.body;
            same = fixed_same t (fixed_of s) quiet ∙ z.same;
            start = on (leads_by l);
          }
        where
          here : token_at rom 1 z.outer.wide p ≡ Ok t
          here = subst (λ (f : Fixed). token_at rom 1 f.wide p ≡ Ok t) z.same i

          on : LeadsBy rom s.wide p t q → Starts rom z.outer.wide z.token.next q
          on (LeadsBy.itself k j) = start_on z.body (record { reach = r; is = i }) here z.start j
          on (LeadsBy.behind c x) = absurd (T_not (fixes t) quiet (colon_fixes t c))
