-- What a visit says of the token at a place, and what it takes for it to be good; and where the walk goes on from there.
-- Assumes nothing.
use Rattle.std.specs.Prelude.{ℕ, ◌+◌, ◌-◌, ◌≤◌, ◌≡◌, Bool, false, not, ◌&&◌, ◌||◌, List, [], ◌∷◌, ◌≢◌, leb, Err, None, Ok, Result, Some}
use Rattle.std.proofs.Math.Path.{refl}
use Rattle.std.proofs.Common.{sym, ◌∙◌, ap, subst, le→leb, T_not, eq-eqb}
use Rattle.std.proofs.Math.Bool.{true}
use Rattle.std.proofs.Math.Dec.{T, eqb, eqb→eq}
use Rattle.cells.specs.Laws.Tests.{when_is}
use Rattle.cells.specs.Laws.Facts.{holds, fails, is_true, is_false, both_hold, join_hold, four_hold, join_four, follows, when_true}
use Rattle.cells.specs.Laws.Facts.{either, or_second}
use Rattle.rom.specs.Sizes.{return_most, frames_most}
use Rattle.tokens.specs.Family.{finish, always, choice, leave}
use Rattle.tokens.specs.Code.{family_in}
use Rattle.tokens.specs.Place.{read_of}
use Rattle.tokens.specs.Body.{unknown_of}
use Rattle.tokens.specs.declared.decoding.Operand.{Operand}
use Rattle.tokens.specs.declared.decoding.Operand.TheVariants.{Nothing, Literal, Text, Branch, Number, Definition}
use Rattle.tokens.specs.declared.decoding.Token.{Token}
use Rattle.screen.specs.Effect.{is_a, allowed, fixes, is_branch, aims, no_places, astray, both_ways, leads_of, effect_of}
use Rattle.screen.specs.Reach.{In, here, there}
use Rattle.screen.specs.Laws.Code.Codes.{fits_known}
use Rattle.screen.specs.Laws.Found.Model.{sum_at, cap_of, own_of, height_after, back_after, fits_of, sound_of, heights_after}
use Rattle.screen.specs.Laws.Found.Model.{aim_on, stops, next_on, branch_in, bad_visit, token_visit, read_visit, visit_of}
use Rattle.screen.specs.Laws.Rules.Ways.{Ways, ending, jumping, choosing, skipping, fixing, falling, ways_of, colon_fixes, in_one}
use Rattle.screen.specs.Laws.Rules.Ways.{WaySplit, first, second, split, aimed_some, leads_ahead}
use Rattle.screen.specs.Laws.Rules.Tokens.{none_in, fixes_no_branch}
use Rattle.screen.specs.declared.effect.Effect.{Effect}
use Rattle.screen.specs.declared.walking.Text.{Text as Scope}
use Rattle.screen.specs.Laws.Found.Model.{Visit}
use Rattle.screen.specs.Laws.Found.Cell.{cell_with, height_in, back_in}

-- ---- tests
-- one that holds where another does
imply : (a b : Bool) → (T a → T b) → T (not a || b)
imply true b f = f tt
imply false b f = tt

-- the walk goes on to a place, behind the token or where its branch leads
pub data WayIn (t : Token) (q : ℕ) : Type 0 where
  by_next : next_on t ≡ q → WayIn t q
  by_aim : branch_in t ≡ q → WayIn t q

-- the place that a branch leads to is its aim
pub aim_is : (o : Operand) (q : ℕ) → In q (aims o) → aim_on o ≡ q
aim_is Nothing q i = none_in i
aim_is (Literal n) q i = none_in i
aim_is (Text start count) q i = none_in i
aim_is (Branch bits (Some to)) q i = sym (in_one i)
aim_is (Branch bits None) q i = none_in i
aim_is (Number n) q i = none_in i
aim_is (Definition n k) q i = none_in i

-- an aim that is a place is the one that the branch leads to
pub is_aim : (o : Operand) (q : ℕ) → aim_on o ≡ q → q ≢ 0 → aims o ≡ q ∷ []
is_aim Nothing q e n = absurd (n (sym e))
is_aim (Literal k) q e n = absurd (n (sym e))
is_aim (Text start count) q e n = absurd (n (sym e))
is_aim (Branch bits (Some to)) q e n = rw e
is_aim (Branch bits None) q e n = absurd (n (sym e))
is_aim (Number k) q e n = absurd (n (sym e))
is_aim (Definition k m) q e n = absurd (n (sym e))

-- b?branch leads behind itself where it is not astray
first_way : (n : ℕ) (xs : List ℕ) → T (not (no_places xs)) → In n (both_ways n xs)
first_way n [] h = absurd h
first_way n (x ∷ xs) h = here

module _ (t : Token) where
  -- what is met exactly once ends the walk: it does not go on behind it
  pub fixes_next : T (fixes t) → next_on t ≡ 0
  fixes_next h = rw (is_true (stops t) (or_second (is_a finish t || is_a leave t || is_a always t) (fixes t) h))

  -- nor elsewhere
  pub fixes_aim : T (fixes t) → branch_in t ≡ 0
  fixes_aim h = rw (is_false (is_branch t) (fixes_no_branch t h))

  -- nor where it ends
  ends_walk : T (is_a finish t || is_a leave t) → (next_on t ≡ 0) × (branch_in t ≡ 0)
  ends_walk h =
      either (is_a finish t) (is_a leave t) ((next_on t ≡ 0) × (branch_in t ≡ 0)) h (λ i. let f = eqb→eq (family_in t.code) finish i in
      (rw f, rw f))
      (λ i. let f = eqb→eq (family_in t.code) leave i in (rw f, rw f))

  -- from a branch it goes on to its aim, from b?branch behind it too
  always_walk : T (is_a always t) → (next_on t ≡ 0) × (branch_in t ≡ aim_on t.operand)
  always_walk h = let f = eqb→eq (family_in t.code) always h in (rw f, rw f)

  choice_walk : T (is_a choice t) → (next_on t ≡ t.next) × (branch_in t ≡ aim_on t.operand)
  choice_walk h = let f = eqb→eq (family_in t.code) choice h in (rw f, rw f)

  -- and from any other behind it alone
  falls_walk : T (not (stops t)) → T (not (is_branch t)) → (next_on t ≡ t.next) × (branch_in t ≡ 0)
  falls_walk n b = (rw (is_false (stops t) n), rw (is_false (is_branch t) b))

  -- where the walk goes on, the token leads
  pub way_in : T (not (astray t)) → (q : ℕ) → WayIn t q → q ≢ 0 → In q (leads_of t)
  way_in a q w z = by (ways_of t) w
    where
      by : Ways t → WayIn t q → In q (leads_of t)
      by (ending h l) (by_next e) = absurd (z (sym e ∙ (ends_walk h).0))
      by (ending h l) (by_aim e) = absurd (z (sym e ∙ (ends_walk h).1))
      by (jumping h l) (by_next e) = absurd (z (sym e ∙ (always_walk h).0))
      by (jumping h l) (by_aim e) = rw (l, is_aim t.operand q (sym (always_walk h).1 ∙ e) z) here
      by (choosing h l) (by_next e) =
          let s = sym e ∙ (choice_walk h).0 in
          rw (l, s) (first_way t.next (aims t.operand) (aimed_some t (or_second (is_a always t) (is_a choice t) h) a))
      by (choosing h l) (by_aim e) = rw (l, is_aim t.operand q (sym (choice_walk h).1 ∙ e) z) (there here)
      by (skipping h l) (by_next e) = absurd (z (sym e ∙ fixes_next (colon_fixes t h)))
      by (skipping h l) (by_aim e) = absurd (z (sym e ∙ fixes_aim (colon_fixes t h)))
      by (fixing h c l) (by_next e) = absurd (z (sym e ∙ fixes_next h))
      by (fixing h c l) (by_aim e) = absurd (z (sym e ∙ fixes_aim h))
      by (falling h c l) (by_next e) = let s = sym e ∙ (falls_walk h c).0 in rw (l, s) here
      by (falling h c l) (by_aim e) = absurd (z (sym e ∙ (falls_walk h c).1))

module _ (rom : List ℕ) (len : ℕ) (wide within : Bool) (p : ℕ) (t : Token) (e : read_of rom len wide within p ≡ Ok t) where
  -- where the token leads, the walk goes on
  pub in_way : T (not (fixes t)) → (q : ℕ) → In q (leads_of t) → WayIn t q × (q ≢ 0)
  in_way f q i = (by (ways_of t), leads_ahead rom len wide within p t e q i)
    where
      way : WaySplit t.next q (aims t.operand) → T (is_a choice t) → WayIn t q
      way (first s) h = by_next ((choice_walk t h).0 ∙ sym s)
      way (second j) h = by_aim ((choice_walk t h).1 ∙ aim_is t.operand q j)

      by : Ways t → WayIn t q
      by (ending h l) = none_in (rw l at i)
      by (jumping h l) = by_aim ((always_walk t h).1 ∙ aim_is t.operand q (rw l at i))
      by (choosing h l) = way (split t.next q (aims t.operand) (rw l at i)) h
      by (skipping h l) = none_in (rw l at i)
      by (fixing h c l) = absurd (T_not (fixes t) f h)
      by (falling h c l) = by_next ((falls_walk t h c).0 ∙ sym (in_one (rw l at i)))

-- ---- a visit
-- what is asked of the token at a place that is come to with heights
pub record Meets (rom : List ℕ) (x : Scope) (kinds sums : List ℕ) (p c : ℕ) (t : Token) : Type 0 where
  pub is : read_of rom x.length x.wide x.within p ≡ Ok t
  pub allowed : T (allowed t)
  pub named : unknown_of kinds t ≡ false
  pub aimed : T (not (astray t))
  pub childless : T (is_a finish t) → x.children ≡ 0
  pub based : T (is_a leave t) → back_in c ≡ 0
  pub takes : (effect_of (sum_at sums) t).takes ≤ height_in c
  pub high : height_after (effect_of (sum_at sums) t) c ≤ cap_of x.within
  pub rise : height_in c - (effect_of (sum_at sums) t).takes + (effect_of (sum_at sums) t).rise ≤ cap_of x.within
  pub return_takes : (effect_of (sum_at sums) t).return_takes ≤ back_in c
  pub return_high : back_after (effect_of (sum_at sums) t) c ≤ return_most
  pub return_rise : back_in c + (effect_of (sum_at sums) t).return_rise ≤ return_most
  pub frames : own_of x.within + (effect_of (sum_at sums) t).frames ≤ frames_most

-- the same, with what the visit tells
pub record Fits (rom : List ℕ) (x : Scope) (kinds sums : List ℕ) (p c : ℕ) : Type 0 where
  pub token : Token
  pub meets : Meets rom x kinds sums p c token
  pub cell : (visit_of rom x kinds sums p c).cell ≡ cell_with (heights_after (effect_of (sum_at sums) token) c)
  pub next : (visit_of rom x kinds sums p c).next ≡ next_on token
  pub aim : (visit_of rom x kinds sums p c).aim ≡ branch_in token

-- what a good visit tells of a token
abbrev pub good_visit : List ℕ → ℕ → Token → Visit
good_visit sums c t =
    record {
      good = true;
      cell = cell_with (heights_after (effect_of (sum_at sums) t) c);
      next = next_on t;
      aim = branch_in t;
    }

-- five tests joined, and seven
five_hold : (a b c d e : Bool) → T (a && b && c && d && e) → T a × T b × T c × T d × T e
five_hold a b c d e t =
    let p = both_hold (a && b && c && d) e t in
    let q = four_hold a b c d p.0 in
    (q.0, q.1, q.2, q.3, p.1)

join_five : (a b c d e : Bool) → T a → T b → T c → T d → T e → T (a && b && c && d && e)
join_five a b c d e s t u v w = join_hold (a && b && c && d) e (join_four a b c d s t u v) w

join_seven : (a b c d e f g : Bool) → T a → T b → T c → T d → T e → T f → T g → T (a && b && c && d && e && f && g)
join_seven a b c d e f g s t u v w y z =
    join_hold (a && b && c && d && e && f) g (join_hold (a && b && c && d && e) f (join_five a b c d e s t u v w) y) z

module _ (rom : List ℕ) (x : Scope) (kinds sums : List ℕ) (p c : ℕ) where
  -- the visit of a token that was read
  visit_read : (t : Token) → read_of rom x.length x.wide x.within p ≡ Ok t
      → visit_of rom x kinds sums p c ≡ token_visit x kinds sums c t
  unfolding visit_of
  visit_read t e = rw e

  module _ (t : Token) where
    -- what the token does, and what the visit tests of it
    abbrev effect : Effect
    effect = effect_of (sum_at sums) t

    abbrev passed : Bool
    passed = sound_of x kinds t c && fits_of x.within effect c

    -- where the tests hold, the visit is good
    passed_good : passed ≡ true → token_visit x kinds sums c t ≡ good_visit sums c t
    unfolding token_visit
    passed_good h = when_true (good_visit sums c t) bad_visit passed h

    -- and back
    good_passed : (token_visit x kinds sums c t).good ≡ true → passed ≡ true
    unfolding token_visit
    good_passed = when_is (λ v. v.good ≡ true → passed ≡ true) passed (good_visit sums c t) bad_visit (λ h e. is_true passed h)
        (λ h e. absurd (subst T (sym e) tt))

    -- the tests say what is asked
    passed_meets : read_of rom x.length x.wide x.within p ≡ Ok t → T passed → Meets rom x kinds sums p c t
    unfolding sound_of
    passed_meets e h =
        let b = both_hold (sound_of x kinds t c) (fits_of x.within effect c) h in
        let r =
        five_hold (allowed t) (not (unknown_of kinds t)) (not (astray t)) (not (is_a finish t) || eqb x.children 0)
        (not (is_a leave t) || eqb (back_in c) 0) b.0 in
        let l = fits_known x.within effect c b.1 in
        record {
          is = e;
          allowed = r.0;
          named = is_false (unknown_of kinds t) r.1;
          aimed = r.2;
          childless = λ f. eqb→eq x.children 0 (follows (is_a finish t) (eqb x.children 0) r.3 f);
          based = λ f. eqb→eq (back_in c) 0 (follows (is_a leave t) (eqb (back_in c) 0) r.4 f);
          takes = l.takes;
          high = l.most;
          rise = l.rise;
          return_takes = l.return_takes;
          return_high = l.return_high;
          return_rise = l.return_rise;
          frames = l.frames;
        }

    -- and back
    meets_passed : Meets rom x kinds sums p c t → T passed
    unfolding sound_of fits_of
    meets_passed m =
        join_hold (sound_of x kinds t c) (fits_of x.within effect c)
        (join_five (allowed t) (not (unknown_of kinds t)) (not (astray t)) (not (is_a finish t) || eqb x.children 0)
        (not (is_a leave t) || eqb (back_in c) 0) m.allowed (fails (unknown_of kinds t) m.named) m.aimed
        (imply (is_a finish t) (eqb x.children 0) (λ f. holds (eqb x.children 0) (eq-eqb x.children 0 (m.childless f))))
        (imply (is_a leave t) (eqb (back_in c) 0) (λ f. holds (eqb (back_in c) 0) (eq-eqb (back_in c) 0 (m.based f)))))
        (join_seven (leb effect.takes (height_in c)) (leb (height_after effect c) (cap_of x.within))
        (leb (height_in c - effect.takes + effect.rise) (cap_of x.within)) (leb effect.return_takes (back_in c))
        (leb (back_after effect c) return_most) (leb (back_in c + effect.return_rise) return_most)
        (leb (own_of x.within + effect.frames) frames_most)
        (le→leb effect.takes (height_in c) m.takes)
        (le→leb (height_after effect c) (cap_of x.within) m.high)
        (le→leb (height_in c - effect.takes + effect.rise) (cap_of x.within) m.rise)
        (le→leb effect.return_takes (back_in c) m.return_takes)
        (le→leb (back_after effect c) return_most m.return_high)
        (le→leb (back_in c + effect.return_rise) return_most m.return_rise)
        (le→leb (own_of x.within + effect.frames) frames_most m.frames))

-- the visit of a token that meets what is asked
pub visited : {rom : List ℕ} {x : Scope} {kinds sums : List ℕ} {p c : ℕ} {t : Token} → Meets rom x kinds sums p c t
    → visit_of rom x kinds sums p c ≡ good_visit sums c t
visited {rom} {x} {kinds} {sums} {p} {c} {t} m =
    visit_read rom x kinds sums p c t m.is
    ∙ passed_good rom x kinds sums p c t (is_true (passed rom x kinds sums p c t) (meets_passed rom x kinds sums p c t m))

-- it is good
pub fits_visit : {rom : List ℕ} {x : Scope} {kinds sums : List ℕ} {p c : ℕ} {t : Token} → Meets rom x kinds sums p c t
    → (visit_of rom x kinds sums p c).good ≡ true
fits_visit m = ap (λ v. v.good) (visited m)

-- and tells the heights behind the token and where to go on
pub meets_fits : {rom : List ℕ} {x : Scope} {kinds sums : List ℕ} {p c : ℕ} {t : Token} → Meets rom x kinds sums p c t
    → Fits rom x kinds sums p c
meets_fits {rom} {x} {kinds} {sums} {p} {c} {t} m =
    record {
      token = t;
      meets = m;
      cell = ap (λ v. v.cell) (visited m);
      next = ap (λ v. v.next) (visited m);
      aim = ap (λ v. v.aim) (visited m);
    }

module _ (rom : List ℕ) (x : Scope) (kinds sums : List ℕ) (p c : ℕ) where
  -- by what was read
  read_fits : (r : Result Token ℕ) → read_of rom x.length x.wide x.within p ≡ r → (read_visit x kinds sums c r).good ≡ true
      → Fits rom x kinds sums p c
  read_fits (Err why) e g = absurd (subst T (sym g) tt)
  read_fits (Ok t) e g =
      meets_fits
      (passed_meets rom x kinds sums p c t e (holds (passed rom x kinds sums p c t) (good_passed rom x kinds sums p c t g)))

  -- a good visit is that of a token that meets what is asked
  pub visit_fits : (visit_of rom x kinds sums p c).good ≡ true → Fits rom x kinds sums p c
  unfolding visit_of
  visit_fits g = read_fits (read_of rom x.length x.wide x.within p) refl g
