-- What is told along a walk of a body is the greatest of what its tokens ask for, and the height of its ends. Assumes nothing.
use Rattle.std.specs.Prelude.{ℕ, suc, ◌+◌, ◌-◌, ◌≤◌, ◌<◌, max, ◌≡◌, ◌≢◌, Bool, true, false, not, ◌&&◌, ◌||◌, List, [], ◌∷◌}
use Rattle.std.specs.Prelude.{get_or, T, eqb, Ok}
use Rattle.std.proofs.Math.Path.{refl}
use Rattle.std.proofs.Common.{sym, subst, inl, inr, arith, ne_eqb, T_not, eqb→eq}
use Rattle.std.proofs.Math.Bool.{and-true}
use Rattle.std.proofs.Math.Decide.{dec_lt}
use Rattle.cells.specs.Choice.{pick}
use Rattle.cells.specs.Laws.Facts.{holds, fails, neither, and_first, and_second}
use Rattle.cells.specs.Laws.Tests.{neqb→ne}
use Rattle.rom.specs.Header.{length_of}
use Rattle.tokens.specs.Family.{leave}
use Rattle.tokens.specs.Place.{read_of}
use Rattle.tokens.specs.declared.decoding.Token.{Token}
use Rattle.screen.specs.Laws.Found.Model.{Tally}
use Rattle.screen.specs.declared.walking.Text.{Text as Scope}
use Rattle.screen.specs.Effect.{is_a, effect_of}
use Rattle.screen.specs.Reach.{In}
use Rattle.screen.specs.Laws.Rules.Tokens.{none_in}
use Rattle.screen.specs.Laws.Found.Model.{Path, Marked, sum_at, no_tally, tallied, tallied_in, body_text}
use Rattle.screen.specs.Laws.Walk.Visits.{Fits, visit_fits}
use Rattle.screen.specs.Laws.Walk.Walking.{in_parts, At, Told, untold, telling, Given, Walked, at_real}
use Rattle.screen.specs.Laws.Walk.Marking.{MarksBody, marks_only, walked_met}
use Rattle.screen.specs.Laws.Found.Cell.{height_in, back_in, entered, unmet, is_met}

-- a place of a body that was met, with its token
pub record Visited (rom : List ℕ) (length : ℕ) (wide : Bool) (seen : List ℕ) (p : ℕ) (t : Token) : Type 0 where
  pub met : is_met (get_or seen p 0) ≡ true
  pub is : read_of rom length wide true p ≡ Ok t

-- the same, not below the first place, and below the other
pub record Among (rom : List ℕ) (length : ℕ) (wide : Bool) (seen : List ℕ) (from to p : ℕ) (t : Token) : Type 0 where
  pub low : from ≤ p
  pub high : p < to
  pub visited : Visited rom length wide seen p t

-- a number that is what some token among them asks for
pub record Attained (rom : List ℕ) (length : ℕ) (wide : Bool) (seen : List ℕ) (from to : ℕ) (value : Token → ℕ → ℕ) (n : ℕ) : Type 0 where
  pub place : ℕ
  pub token : Token
  pub among : Among rom length wide seen from to place token
  pub is : value token (get_or seen place 0) ≡ n

-- the greatest of what they ask for, 0 where there are none
pub record Greatest (rom : List ℕ) (length : ℕ) (wide : Bool) (seen : List ℕ) (from to : ℕ) (value : Token → ℕ → ℕ) (n : ℕ) : Type 0 where
  pub all : {p : ℕ} {t : Token} → Among rom length wide seen from to p t → value t (get_or seen p 0) ≤ n
  pub got : n ≢ 0 → Attained rom length wide seen from to value n

-- an end among them, with one more than its height
pub record Leaving (rom : List ℕ) (length : ℕ) (wide : Bool) (seen : List ℕ) (from to n : ℕ) : Type 0 where
  pub place : ℕ
  pub token : Token
  pub among : Among rom length wide seen from to place token
  pub leaves : T (is_a leave token)
  pub is : suc (height_in (get_or seen place 0)) ≡ n

-- two ends among them with different heights
pub record Differ (rom : List ℕ) (length : ℕ) (wide : Bool) (seen : List ℕ) (from to : ℕ) : Type 0 where
  pub m : ℕ
  pub n : ℕ
  pub one : Leaving rom length wide seen from to m
  pub other : Leaving rom length wide seen from to n
  pub differ : m ≢ n

-- what is known of the ends: `out` is one more than the height of them all where that is one, and 0 where there is none
pub record TallyEnds (rom : List ℕ) (length : ℕ) (wide : Bool) (seen : List ℕ) (from to : ℕ) (good : Bool) (out : ℕ) : Type 0 where
  pub same : good ≡ true → {p : ℕ} {t : Token} → Among rom length wide seen from to p t → T (is_a leave t)
      → suc (height_in (get_or seen p 0)) ≡ out
  pub got : out ≢ 0 → Leaving rom length wide seen from to out
  pub none : out ≡ 0 → {p : ℕ} {t : Token} → Among rom length wide seen from to p t → T (is_a leave t) → ⊥
  pub clash : good ≡ false → Differ rom length wide seen from to

-- ---- the tally
-- what a token asks for, with the cell of its place
abbrev pub need_at : List ℕ → Token → ℕ → ℕ
need_at sums t cell = entered + (effect_of (sum_at sums) t).takes - height_in cell

abbrev pub peak_at : List ℕ → Token → ℕ → ℕ
peak_at sums t cell = max (height_in cell) (height_in cell - (effect_of (sum_at sums) t).takes + (effect_of (sum_at sums) t).rise)

abbrev pub back_at : List ℕ → Token → ℕ → ℕ
back_at sums t cell = back_in cell + (effect_of (sum_at sums) t).return_rise

abbrev pub frames_at : List ℕ → Token → ℕ → ℕ
frames_at sums t cell = 1 + (effect_of (sum_at sums) t).frames

-- a tally has the greatest of each, and what is known of the ends
pub record TallyIs (rom : List ℕ) (length : ℕ) (wide : Bool) (sums seen : List ℕ) (entry end : ℕ) (y : Tally) : Type 0 where
  pub need : Greatest rom length wide seen entry (suc end) (need_at sums) y.need
  pub peak : Greatest rom length wide seen entry (suc end) (peak_at sums) y.peak
  pub back : Greatest rom length wide seen entry (suc end) (back_at sums) y.return_peak
  pub frames : Greatest rom length wide seen entry (suc end) (frames_at sums) y.frames
  pub ends : TallyEnds rom length wide seen entry (suc end) y.good y.out

-- one token at a place
one_token : {rom : List ℕ} {length : ℕ} {wide : Bool} {seen : List ℕ} {p : ℕ} {t u : Token} → Visited rom length wide seen p t
    → Visited rom length wide seen p u → t ≡ u
one_token v w = let e = v.is in let f = w.is in cc (e, f)

-- an end that agrees with another has its height
agree : (out n : ℕ) → T (eqb out 0 || eqb out n) → out ≢ 0 → out ≡ n
agree out n t z = by (eqb out 0) refl t
  where
    by : (b : Bool) → eqb out 0 ≡ b → T (b || eqb out n) → out ≡ n
    by true e u = absurd (z (eqb→eq out 0 (holds (eqb out 0) e)))
    by false e u = eqb→eq out n u

-- ---- a body that was walked: before its starts were marked, all its cells were 0
module _ {rom : List ℕ} {wide : Bool} {kinds sums seen : List ℕ} {entry cell : ℕ} {m : Marked} {a : Path}
    (y : MarksBody rom wide kinds entry seen m) (plain : (p : ℕ) → entry ≤ p → get_or seen p 0 ≡ 0)
    (given : Given rom (body_text (length_of rom) wide entry) kinds sums entry cell m.seen)
    (w : Walked rom (body_text (length_of rom) wide entry) kinds sums entry cell m.seen a) where
  -- the body, and the cells that the walk brings to its places
  abbrev text : Scope
  text = body_text (length_of rom) wide entry

  abbrev BodyAt : ℕ → ℕ → Type 0
  BodyAt p c = At rom text kinds sums entry cell p c

  -- the cell that it leaves
  abbrev cell_at : ℕ → ℕ
  cell_at p = get_or a.seen p 0

  -- a place with its token: one that was met, and one of the body that was met
  abbrev Known : ℕ → Token → Type 0
  Known p t = Visited rom (length_of rom) wide a.seen p t

  abbrev Here : ℕ → Token → Type 0
  Here p t = Among rom (length_of rom) wide a.seen entry (suc m.end) p t

  -- ---- the places of the walk are those of the body that were met
  come_here : {p c : ℕ} {t : Token} → BodyAt p c → read_of rom (length_of rom) wide true p ≡ Ok t → Here p t
  come_here {p} {c} i e =
      let n = at_real rom text kinds sums entry cell given i in
      let f = w.inside i in
      let z = plain p f.0 in
      let s = y.starts (marks_only y p f.3 (λ g. absurd (omega arith))) in
      record {
        low = f.0;
        high = omega (arith, s.1);
        visited = record { met = rw (w.marked i, ne_eqb c 0 n.0, ne_eqb c unmet n.1); is = e };
      }

  -- so that the tally was told of each
  here_past : {p : ℕ} {t : Token} → Here p t → In p w.past
  here_past {p} b = w.every (walked_met y w p (plain p b.low) b.visited.met)

  -- what holds of no tally, and of one that was told of a place more, holds of every tally that was told
  told_by : (P : List ℕ → Tally → Type 0) → P [] no_tally
      → ((p : ℕ) (t : Token) (ps : List ℕ) (k : Tally) → Here p t → P ps k
      → P (p ∷ ps) (tallied k t (effect_of (sum_at sums) t) (cell_at p)))
      → {ps : List ℕ} {k : Tally} → Told rom text kinds sums entry cell ps k → P ps k
  told_by P none more untold = none
  told_by P none more (telling {ps = ps} {y = k} {p = p} {c = c} s i) =
      by (visit_fits rom text kinds sums p c (w.fine i)) (told_by P none more s)
    where
      by : Fits rom text kinds sums p c → P ps k → P (p ∷ ps) (tallied_in sums k c (read_of rom (length_of rom) wide true p))
      by f h =
          let t = f.token in
          rw f.meets.is
          (subst (λ (n : ℕ). P (p ∷ ps) (tallied k t (effect_of (sum_at sums) t) n)) (w.marked i)
          (more p t ps k (come_here i f.meets.is) h))

  -- ---- the greatest
  -- of what the places of a list ask for, which a place of the body does ask for
  record Most (ps : List ℕ) (value : Token → ℕ → ℕ) (n : ℕ) : Type 0 where
    all : {p : ℕ} {t : Token} → In p ps → Known p t → value t (cell_at p) ≤ n
    got : n ≢ 0 → Attained rom (length_of rom) wide a.seen entry (suc m.end) value n

  -- what holds of the places of a list, and of one more, holds of them all
  past_is : {p q : ℕ} {ps : List ℕ} {u : Token} (Q : ℕ → Type 0) → In q (p ∷ ps) → Known q u → (In q ps → Q q) → (Known p u → Q p)
      → Q q
  past_is {u = u} Q i v old new =
      elim (in_parts i) [ inl e ↦ subst Q e (new (subst (λ (n : ℕ). Known n u) (sym e) v)) | inr j ↦ old j ]

  -- of no places
  most_none : (value : Token → ℕ → ℕ) → Most [] value 0
  most_none value = record { all = λ i. none_in i; got = λ n. absurd (n refl) }

  -- of a place more
  most_more : {value : Token → ℕ → ℕ} {p : ℕ} {t : Token} {ps : List ℕ} {n : ℕ} → Here p t → Most ps value n
      → Most (p ∷ ps) value (max n (value t (cell_at p)))
  most_more {value} {p} {t} {ps} {n} b g =
      record {
        all = λ {t = u} i v.
            past_is (λ q. value u (cell_at q) ≤ max n (value t (cell_at p))) i v (λ j. let h = g.all j v in omega arith)
            (λ k. rw (one_token k b.visited) (omega arith));
        got = λ z.
            elim (dec_lt n (value t (cell_at p))) [
              | yes h ↦ record { place = p; token = t; among = b; is = omega arith }
              | no h ↦
                  let o = g.got (λ e. z (omega arith)) in
                  record { place = o.place; token = o.token; among = o.among; is = omega (arith, o.is) }
            ];
      }

  -- of all places
  most_all : {value : Token → ℕ → ℕ} {n : ℕ} → Most w.past value n
      → Greatest rom (length_of rom) wide a.seen entry (suc m.end) value n
  most_all g = record { all = λ b. g.all (here_past b) b.visited; got = g.got }

  -- ---- the ends
  -- among the places of a list, which a place of the body is
  record Ending (ps : List ℕ) (good : Bool) (out : ℕ) : Type 0 where
    same : good ≡ true → {p : ℕ} {t : Token} → In p ps → Known p t → T (is_a leave t) → suc (height_in (cell_at p)) ≡ out
    got : out ≢ 0 → Leaving rom (length_of rom) wide a.seen entry (suc m.end) out
    none : out ≡ 0 → {p : ℕ} {t : Token} → In p ps → Known p t → T (is_a leave t) → ⊥
    clash : good ≡ false → Differ rom (length_of rom) wide a.seen entry (suc m.end)

  -- a place with no end
  passed : {p out : ℕ} {ps : List ℕ} {good : Bool} → ((t : Token) → Known p t → T (is_a leave t) → ⊥) → Ending ps good out
      → Ending (p ∷ ps) good out
  passed {out = out} out_of_lem s =
      record {
        same = λ g {t = u} i v.
            past_is (λ q. T (is_a leave u) → suc (height_in (cell_at q)) ≡ out) i v (λ j. s.same g j v) (λ k l. absurd (out_of_lem u k l));
        got = s.got;
        none = λ z {t = u} i v. past_is (λ q. T (is_a leave u) → ⊥) i v (λ j. s.none z j v) (λ k. out_of_lem u k);
        clash = s.clash;
      }

  -- an end
  ended : {p out : ℕ} {ps : List ℕ} {good : Bool} {t : Token} → Here p t → T (is_a leave t) → Ending ps good out
      → Ending (p ∷ ps) (good && (eqb out 0 || eqb out (suc (height_in (cell_at p))))) (suc (height_in (cell_at p)))
  ended {p} {out} {ps} {good} {t} b l s =
      record {
        same = λ g {t = u} i v.
            past_is (λ q. T (is_a leave u) → suc (height_in (cell_at q)) ≡ suc (height_in (cell_at p))) i v
            (λ j k.
            let e = s.same (and_first good agrees g) j v k in
            let d = agree out (suc (height_in (cell_at p))) (holds agrees (and_second good agrees g)) (λ z. omega arith) in
            omega arith)
            (λ k j. refl);
        got = λ n. it;
        none = λ z. absurd (omega arith);
        clash = λ g. parting good refl g;
      }
    where
      agrees : Bool
      agrees = eqb out 0 || eqb out (suc (height_in (cell_at p)))

      it : Leaving rom (length_of rom) wide a.seen entry (suc m.end) (suc (height_in (cell_at p)))
      it = record { place = p; token = t; among = b; leaves = l; is = refl }

      parting : (g : Bool) → good ≡ g → (g && agrees) ≡ false → Differ rom (length_of rom) wide a.seen entry (suc m.end)
      parting false e f = s.clash e
      parting true e f =
          let d = neither (eqb out 0) (eqb out (suc (height_in (cell_at p)))) (fails agrees f) in
          record {
            m = out;
            n = suc (height_in (cell_at p));
            one = s.got (neqb→ne out 0 d.0);
            other = it;
            differ = neqb→ne out (suc (height_in (cell_at p))) d.1;
          }

  -- a token, whether it is an end or not
  ends_more : {p out : ℕ} {ps : List ℕ} {good : Bool} {t : Token} (b : Bool) → is_a leave t ≡ b → Here p t → Ending ps good out
      → Ending (p ∷ ps) (good && (not b || (eqb out 0 || eqb out (suc (height_in (cell_at p)))))) (pick b (suc (height_in (cell_at p))) out)
  ends_more {t = t} true e b s = ended b (holds (is_a leave t) e) s
  ends_more {good = good} {t = t} false e b s =
      rw (and-true good) (passed (λ u k l. T_not (is_a leave t) (fails (is_a leave t) e) (rw (one_token b.visited k) l)) s)

  -- the ends among no places
  ends_none : Ending [] true 0
  ends_none =
      record { same = λ g i. none_in i; got = λ n. absurd (n refl); none = λ z i. none_in i; clash = λ g. absurd (subst T g tt) }

  -- and among all
  ends_all : {good : Bool} {out : ℕ} → Ending w.past good out → TallyEnds rom (length_of rom) wide a.seen entry (suc m.end) good out
  ends_all s =
      record {
        same = λ g b. s.same g (here_past b) b.visited;
        got = s.got;
        none = λ z b. s.none z (here_past b) b.visited;
        clash = s.clash;
      }

  -- ---- the tally of a body that was walked is so
  pub tally_is : TallyIs rom (length_of rom) wide sums a.seen entry m.end a.walk.tally
  unfolding tallied
  tally_is =
      record {
        need = most_all (told_by (λ ps k. Most ps (need_at sums) k.need) (most_none _) (λ p t ps k b g. most_more b g) w.told);
        peak = most_all (told_by (λ ps k. Most ps (peak_at sums) k.peak) (most_none _) (λ p t ps k b g. most_more b g) w.told);
        back =
            most_all (told_by (λ ps k. Most ps (back_at sums) k.return_peak) (most_none _) (λ p t ps k b g. most_more b g) w.told);
        frames = most_all (told_by (λ ps k. Most ps (frames_at sums) k.frames) (most_none _) (λ p t ps k b g. most_more b g) w.told);
        ends =
            ends_all
            (told_by (λ ps k. Ending ps k.good k.out) ends_none (λ p t ps k b s. ends_more (is_a leave t) refl b s) w.told);
      }
