-- Where a token leads, what it does to heights, and when its number is known: what the list and Effect.antt say, whatever finds heights.
-- Assumes nothing.
use Rattle.std.specs.Prelude.{ℕ, ◌≡◌, refl, Bool, true, false, not, ◌||◌, List, [], ◌∷◌, ◌≢◌, T, eqb, Ok}
use Rattle.std.proofs.Common.{arith, T_not, ne_eqb}
use Rattle.std.proofs.Math.Dec.{eqb→eq}
use Rattle.cells.specs.Laws.Tests.{neqb→ne}
use Rattle.cells.specs.Laws.Facts.{holds, fails, is_true, is_false, both_hold, neither, not_both, not_on, when_true, when_false}
use Rattle.cells.specs.Laws.Facts.{either, or_first, or_second}
use Rattle.tokens.specs.Family.{finish, always, choice, widen, leave, define, assign, call, new_device, finish_device}
use Rattle.tokens.specs.Code.{family_in}
use Rattle.tokens.specs.Place.{read_of}
use Rattle.tokens.specs.Body.{kind_of, number_in, unknown_of}
use Rattle.tokens.specs.Laws.Tokens.{next_ahead}
use Rattle.tokens.specs.Definition.{colon, kind_in}
use Rattle.tokens.specs.declared.decoding.Token.{Token}
use Rattle.screen.specs.Effect.{is_a, fixes, is_colon, is_branch, aims, no_places, astray, both_ways, leads_of, called, own_effect}
use Rattle.screen.specs.Effect.{effect_of}
use Rattle.screen.specs.Effect.{names}
use Rattle.screen.specs.Reach.{In, here, there}
use Rattle.screen.specs.Laws.Rules.Tokens.{none_in, fixes_no_branch, fixes_no_end, fixes_no_name}
use Rattle.screen.specs.Laws.Rules.Tokens.{aims_fit, stops_quiet}
use Rattle.screen.specs.declared.effect.Sum.{Sum}

-- ---- what a token does
-- a call does what its number does
pub effect_call : (sum : ℕ → Sum) (t : Token) → T (is_a call t) → effect_of sum t ≡ called (sum t.number)
unfolding effect_of
effect_call sum t h = when_true (called (sum t.number)) (own_effect t) (is_a call t) (is_true (is_a call t) h)

-- any other does what its row says
pub effect_own : (sum : ℕ → Sum) (t : Token) → T (not (is_a call t)) → effect_of sum t ≡ own_effect t
unfolding effect_of
effect_own sum t h = when_false (called (sum t.number)) (own_effect t) (is_a call t) (is_false (is_a call t) h)

-- ---- the numbers that a token names
-- a call's number is defined where the token is not unknown
pub unknown_call : (kinds : List ℕ) (t : Token) → T (is_a call t) → unknown_of kinds t ≡ false → kind_of kinds t.number ≢ 0
unfolding unknown_of
unknown_call kinds t c u =
    let v = rw (is_true (is_a call t) c) at u in
    neqb→ne (kind_of kinds t.number) 0 (fails (eqb (kind_of kinds t.number) 0) v)

-- and back
pub call_known : (kinds : List ℕ) (t : Token) → T (is_a call t) → kind_of kinds t.number ≢ 0 → unknown_of kinds t ≡ false
unfolding unknown_of
call_known kinds t c n = rw (is_true (is_a call t) c) (ne_eqb (kind_of kinds t.number) 0 n)

-- the number behind b(to) is a value's where the token is not unknown
pub unknown_assign : (kinds : List ℕ) (t : Token) → T (is_a assign t) → unknown_of kinds t ≡ false
    → kind_of kinds (number_in t.operand) ≡ 0xB8
unfolding unknown_of
unknown_assign kinds t c u =
    let v = rw (eqb→eq (family_in t.code) assign c) at u in
    let n = kind_of kinds (number_in t.operand) in
    eqb→eq n 0xB8 (holds (eqb n 0xB8) (not_on (eqb n 0xB8) v))

-- and back
pub assign_known : (kinds : List ℕ) (t : Token) → T (is_a assign t) → kind_of kinds (number_in t.operand) ≡ 0xB8
    → unknown_of kinds t ≡ false
unfolding unknown_of
assign_known kinds t c n = rw (eqb→eq (family_in t.code) assign c, n)

-- what names no number is not unknown
pub unnamed_known : (kinds : List ℕ) (t : Token) → names t ≡ false → unknown_of kinds t ≡ false
unfolding unknown_of
unnamed_known kinds t n =
    let b = neither (is_a call t) (is_a assign t) (fails (names t) n) in
    rw (is_false (is_a call t) b.0, is_false (is_a assign t) b.1)

-- ---- ways
-- where a token leads
pub data Ways (t : Token) : Type 0 where
  -- finishing, leaving a body
  ending : T (is_a finish t || is_a leave t) → leads_of t ≡ [] → Ways t
  -- bbranch
  jumping : T (is_a always t) → leads_of t ≡ aims t.operand → Ways t
  -- b?branch
  choosing : T (is_a choice t) → leads_of t ≡ both_ways t.next (aims t.operand) → Ways t
  -- b(:), and what else is met exactly once
  skipping : T (is_colon t) → leads_of t ≡ [] → Ways t
  fixing : T (fixes t) → T (not (is_colon t)) → leads_of t ≡ t.next ∷ [] → Ways t
  -- any other
  falling : T (not (is_a finish t || is_a leave t || is_a always t || fixes t)) → T (not (is_branch t)) → leads_of t ≡ t.next ∷ [] → Ways t

-- a test holds or fails
by_test : (b : Bool) (X : Type 0) → (T b → X) → (T (not b) → X) → X
by_test true X f g = f tt
by_test false X f g = g tt

module _ (t : Token) where
  -- a defining token is met exactly once
  pub define_fixes : T (is_a define t) → T (fixes t)
  define_fixes d = rw (is_true (is_a define t) d) tt

  -- a b(:) is a defining token
  pub colon_defines : T (is_colon t) → T (is_a define t)
  colon_defines h = (both_hold (is_a define t) (eqb (kind_in t.operand) colon) h).0

  -- and so it is met exactly once
  pub colon_fixes : T (is_colon t) → T (fixes t)
  colon_fixes c = define_fixes (colon_defines c)

  -- a defining token's ways
  define_ways : T (is_a define t) → Ways t
  unfolding leads_of
  define_ways d =
      let f = eqb→eq (family_in t.code) define d in
      by_test (is_colon t) (Ways t) (λ c. skipping c (rw (is_true (is_colon t) c)))
      (λ c. fixing (rw f tt) c (rw (is_false (is_colon t) c, f)))

  -- a token's ways
  pub ways_of : Ways t
  unfolding leads_of
  ways_of =
      by_test (is_a finish t) (Ways t) (λ h. let f = eqb→eq (family_in t.code) finish h in ending (rw f tt) (rw f))
      (λ n1. by_test (is_a leave t) (Ways t) (λ h. let f = eqb→eq (family_in t.code) leave h in ending (rw f tt) (rw f))
      (λ n2. by_test (is_a always t) (Ways t) (λ h. let f = eqb→eq (family_in t.code) always h in jumping h (rw f))
      (λ n3. by_test (is_a choice t) (Ways t) (λ h. let f = eqb→eq (family_in t.code) choice h in choosing h (rw f))
      (λ n4. by_test (is_a define t) (Ways t) define_ways
      (λ n5. by_test (is_a widen t) (Ways t) (λ h. let f = eqb→eq (family_in t.code) widen h in fixing (rw f tt) (rw f tt) (rw f))
      (λ n6. by_test (is_a new_device t) (Ways t) (λ h. let f = eqb→eq (family_in t.code) new_device h in fixing (rw f tt) (rw f tt) (rw f))
      (λ n7. by_test (is_a finish_device t) (Ways t)
      (λ h. let f = eqb→eq (family_in t.code) finish_device h in fixing (rw f tt) (rw f tt) (rw f))
      (λ n8.
      let e1 = is_false (is_a finish t) n1 in
      let e2 = is_false (is_a leave t) n2 in
      let e3 = is_false (is_a always t) n3 in
      let e4 = is_false (is_a choice t) n4 in
      let e5 = is_false (is_a define t) n5 in
      let e6 = is_false (is_a widen t) n6 in
      let e7 = is_false (is_a new_device t) n7 in
      let e8 = is_false (is_a finish_device t) n8 in
      falling (rw (e1, e2, e3, e5, e6, e7, e8) tt) (rw (e3, e4) tt) (rw (e5, e1, e2, e3, e4)))
      )))))))

-- ---- the places that a token leads to
-- what is in a list of one is that one
pub in_one : {q r : ℕ} → In q (r ∷ []) → q ≡ r
in_one here = refl
in_one (there i) = none_in i

-- a place that a token leads to is behind it, or its branch leads there
pub data FallOrJump (t : Token) (q : ℕ) : Type 0 where
  falls : q ≡ t.next → FallOrJump t q
  jumps : T (is_branch t) → In q (aims t.operand) → FallOrJump t q

-- of b?branch, the place behind or one of the others
pub data WaySplit (n q : ℕ) (xs : List ℕ) : Type 0 where
  first : q ≡ n → WaySplit n q xs
  second : In q xs → WaySplit n q xs

-- a place that b?branch leads to
pub split : (n q : ℕ) (xs : List ℕ) → In q (both_ways n xs) → WaySplit n q xs
split n q [] i = none_in i
split n q (x ∷ xs) here = first refl
split n q (x ∷ xs) (there here) = second here
split n q (x ∷ xs) (there (there i)) = none_in i

module _ (t : Token) where
  -- a branch that is not astray has an aim
  pub aimed_some : T (is_branch t) → T (not (astray t)) → T (not (no_places (aims t.operand)))
  aimed_some b a = not_both (is_branch t) (no_places (aims t.operand)) b a

  -- b(:) leads nowhere by its own bytes
  pub colon_leads : T (is_colon t) → leads_of t ≡ []
  unfolding leads_of
  colon_leads c = rw (is_true (is_colon t) c)

  -- leaving a body leads nowhere
  pub leave_leads : T (is_a leave t) → leads_of t ≡ []
  unfolding leads_of
  leave_leads h = rw (eqb→eq (family_in t.code) leave h)

  -- each place that a token leads to is of one of the two
  pub fall_or_jump : (q : ℕ) → In q (leads_of t) → FallOrJump t q
  fall_or_jump q i = by (ways_of t)
    where
      way : WaySplit t.next q (aims t.operand) → T (is_branch t) → FallOrJump t q
      way (first e) b = falls e
      way (second j) b = jumps b j

      by : Ways t → FallOrJump t q
      by (ending h l) = none_in (rw l at i)
      by (jumping h l) = jumps (or_first (is_a always t) (is_a choice t) h) (rw l at i)
      by (choosing h l) = way (split t.next q (aims t.operand) (rw l at i)) (or_second (is_a always t) (is_a choice t) h)
      by (skipping h l) = none_in (rw l at i)
      by (fixing h c l) = falls (in_one (rw l at i))
      by (falling h c l) = falls (in_one (rw l at i))

  -- what is met exactly once leads behind itself alone
  pub fixes_leads : T (fixes t) → (q : ℕ) → In q (leads_of t) → q ≡ t.next
  fixes_leads h q i = by (fall_or_jump q i)
    where
      by : FallOrJump t q → q ≡ t.next
      by (falls e) = e
      by (jumps b j) = absurd (T_not (is_branch t) (fixes_no_branch t h) b)

  -- and there, where it is no b(:)
  pub fixes_on : T (fixes t) → T (not (is_colon t)) → leads_of t ≡ t.next ∷ []
  fixes_on f c = by (ways_of t)
    where
      by : Ways t → leads_of t ≡ t.next ∷ []
      by (ending h l) = absurd (T_not (is_a finish t || is_a leave t) (fixes_no_end t f) h)
      by (jumping h l) = absurd (T_not (is_branch t) (fixes_no_branch t f) (or_first (is_a always t) (is_a choice t) h))
      by (choosing h l) = absurd (T_not (is_branch t) (fixes_no_branch t f) (or_second (is_a always t) (is_a choice t) h))
      by (skipping h l) = absurd (T_not (is_colon t) c h)
      by (fixing h d l) = l
      by (falling h d l) = l

module _ (rom : List ℕ) (len : ℕ) (wide within : Bool) (p : ℕ) (t : Token) (e : read_of rom len wide within p ≡ Ok t) where
  -- a token leads to no place 0
  pub leads_ahead : (q : ℕ) → In q (leads_of t) → q ≢ 0
  leads_ahead q i = by (fall_or_jump t q i)
    where
      by : FallOrJump t q → q ≢ 0
      by (falls s) = let l = (next_ahead rom len wide within p t e).0 in omega arith
      by (jumps b j) = let l = (aims_fit rom len wide within p t e q j).0 in omega arith

-- ---- what gives something goes on behind itself
pub data GivesOn (sum : ℕ → Sum) (t : Token) : Type 0 where
  quiet : (effect_of sum t).gives ≡ 0 → (effect_of sum t).return_gives ≡ 0 → GivesOn sum t
  goes_on : In t.next (leads_of t) → GivesOn sum t

module _ (rom : List ℕ) (len : ℕ) (wide within : Bool) (p : ℕ) (t : Token) (e : read_of rom len wide within p ≡ Ok t) (sum : ℕ → Sum)
  where
    -- a token that gives nothing
    quiet_by : T (is_a finish t || is_a leave t || is_a always t || is_a choice t || fixes t) → T (not (is_a call t)) → GivesOn sum t
    quiet_by h n =
        let o = effect_own sum t n in
        let q = stops_quiet rom len wide within p t e h in
        quiet (rw o q.0) (rw o q.1)

    -- one that is met exactly once
    fixes_quiet : T (fixes t) → GivesOn sum t
    fixes_quiet h =
        quiet_by (or_second (is_a finish t || is_a leave t || is_a always t || is_a choice t) (fixes t) h)
        (neither (is_a call t) (is_a assign t) (fixes_no_name t h)).0

    -- a token gives nothing, or leads behind itself
    pub gives_leads : GivesOn sum t
    gives_leads = by (ways_of t)
      where
        by : Ways t → GivesOn sum t
        by (ending h l) =
            either (is_a finish t) (is_a leave t) (GivesOn sum t) h
            (λ i. let f = eqb→eq (family_in t.code) finish i in quiet_by (rw f tt) (rw f tt))
            (λ i. let f = eqb→eq (family_in t.code) leave i in quiet_by (rw f tt) (rw f tt))
        by (jumping h l) = let f = eqb→eq (family_in t.code) always h in quiet_by (rw f tt) (rw f tt)
        by (choosing h l) = let f = eqb→eq (family_in t.code) choice h in quiet_by (rw f tt) (rw f tt)
        by (skipping h l) =
            let f = eqb→eq (family_in t.code) define (colon_defines t h) in
            fixes_quiet (rw f tt)
        by (fixing h c l) = fixes_quiet h
        by (falling h c l) = goes_on (rw l here)
