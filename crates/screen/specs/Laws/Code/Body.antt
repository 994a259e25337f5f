-- A body's definitions, by what the code has learnt where it returns. Assumes nothing.
use Prim.Native.Nat.{ℕ, zero, suc, ◌+◌, ◌-◌, ◌<◌, ◌≤◌}
use Rattle.std.specs.Prelude.{◌≡◌, Bool, false, not, ◌&&◌, ◌||◌, List, ◌≢◌, get_or, set, T, leb, eqb, Option, Some, None, Err, Ok, Result}
use Rattle.std.proofs.Math.Path.{refl, ap}
use Rattle.std.proofs.Common.{sym, ◌∙◌, subst, add-one, eq-eqb, ne_eqb, eqb-true, get_or-set_other, eqb→eq, leb→le}
use Rattle.std.proofs.Math.Bool.{true, or-false, not-not}
use native.Mathlib.Omega.{arith}
use Rattle.std.proofs.lemmas.Bool.{eqb-false}
use Rattle.cells.specs.Laws.Tests.{pick_is}
use Rattle.cells.specs.Laws.Facts.{holds, both_hold, follows, not_on, not_off, when_true, when_false}
use Rattle.rom.specs.Bytes.{byte_of, word16_of}
use Rattle.rom.specs.Sizes.{rom_most}
use Rattle.tokens.specs.Family.{unlisted, plain, always, choice, leave, assign, call}
use Rattle.tokens.specs.Code.{family_in}
use Rattle.tokens.specs.Decode.{is_double, number_of}
use Rattle.tokens.specs.Laws.Tokens.{none_starts, next_ahead}
use Rattle.tokens.specs.Body.{kind_of, unknown_of}
use Rattle.tokens.specs.Place.{misplaced_of, read_of}
use Rattle.tokens.specs.Joints.Glance.{glance_of}
use Rattle.tokens.specs.Laws.Glance.{glance_refused, glance_misplaced, glance_coded, glance_read}
use Rattle.tokens.specs.Joints.Quick.{QuickRead}
use Rattle.tokens.specs.declared.decoding.Token.{Token}
use Rattle.tokens.specs.declared.glance.Glance.{Glance}
use Rattle.tokens.specs.declared.quick.Quick.{Quick}
use Rattle.tokens.specs.Laws.Stands.{stands}
use Rattle.screen.specs.Effect.{is_a, astray}
use Rattle.screen.specs.Laws.Rules.Ways.{unnamed_known}
use Rattle.screen.specs.Laws.Code.Codes.{SmallEffect}
use Rattle.screen.specs.Laws.Code.Visit.{tally_in, VisitShown, shown, same_family, called_number, assigned_number, astray_aim}
use Rattle.screen.specs.Laws.Code.Visit.{families_fit}
use Rattle.screen.specs.Laws.Code.Walk.{EndsWell}
use Rattle.screen.specs.Laws.Found.Model.{Path, walk_all, Marked, marked, start_in, starts_of, Tally, no_tally}
use Rattle.screen.specs.Laws.Found.Model.{tallied, sum_told, passes_of, shifted_cell, shift_of, Board, board, RoundEnd, round_end}
use Rattle.screen.specs.Laws.Found.Model.{body_text, entry_of, places}
use Rattle.screen.specs.Laws.Found.Model.{body_walked, body_shifted, on_seen, colon_of}
use Rattle.screen.specs.declared.effect.Effect.{Effect}
use Rattle.screen.specs.declared.walking.Walk.{Walk as Walked}
use Rattle.screen.specs.declared.body.Survey.{Survey}
use Rattle.screen.specs.declared.rounds.Stand.{Stand}
use Rattle.screen.specs.Laws.Found.Cell.{unmet, height_in, is_met, entry_cell, height_low, body_most}

-- no cell is above a bound
pub record Bounded (b : ℕ) (seen : List ℕ) : Type 0 where
  pub each : (p : ℕ) → get_or seen p 0 ≤ b

pub off_on {ℓ} : {X : Type ℓ} → false ≡ true → X
off_on e = absurd (subst (λ (b : Bool). T (not b)) e tt)

-- ---- a token that a body may have
abbrev pub stands_in : List ℕ → Result Token ℕ → Bool
stands_in kinds (Err why) = false
stands_in kinds (Ok t) = not (astray t || unknown_of kinds t)

-- by a glance at it, wherever that was taken
abbrev pub StandsBy : List ℕ → Glance → Bool → Type 0
StandsBy kinds g r =
    (rom : List ℕ) (length : ℕ) (wide : Bool) (p : ℕ) → glance_of rom length wide p ≡ g
    → r ≡ stands_in kinds (read_of rom length wide true p)

abbrev pub is_branch_code : ℕ → Bool
is_branch_code c = eqb (family_in c) always || eqb (family_in c) choice

plain_stands : (kinds : List ℕ) (t : Token) → family_in t.code ≡ plain → stands_in kinds (Ok t) ≡ true
plain_stands kinds t f = rw (unnamed_known kinds t (rw f), f)

module _ (kinds : List ℕ) (g : Glance) where
  pub stands_misplaced : misplaced_of g.code true ≡ true → StandsBy kinds g false
  stands_misplaced m rom length wide p e = rw (glance_misplaced rom length wide true p g e m)

  pub stands_unlisted : family_in g.code ≡ unlisted → StandsBy kinds g false
  stands_unlisted f rom length wide p e = by (eqb g.code 0) refl
    where
      by : (z : Bool) → eqb g.code 0 ≡ z → false ≡ stands_in kinds (read_of rom length wide true p)
      by true z = rw (glance_refused rom length wide true p g e (eqb-true _ _ z)).1
      by false z =
          let c = glance_coded rom length wide true p g e (eqb-false _ _ z) in
          let h = rw (← c) at (families_fit (number_of rom p)) in
          absurd (eqb-false _ _ z (eqb→eq g.code 0
          (follows (eqb (family_in g.code) unlisted) (eqb g.code 0) h (holds _ (eq-eqb _ _ f)))))

  module _ (m : misplaced_of g.code true ≡ false) where
    abbrev OfToken : (Token → Type 0) → Type 0
    OfToken Q = (rom : List ℕ) (length : ℕ) (wide : Bool) (p : ℕ) (t : Token) → VisitShown rom (body_text length wide 0) p g t → Q t

    -- the token that the glance was taken of
    of_token : family_in g.code ≢ unlisted → (r : Bool) → OfToken (λ t. r ≡ stands_in kinds (Ok t)) → StandsBy kinds g r
    of_token n r h rom length wide p e =
        let a = glance_read rom length wide true p g e (λ z. omega arith) m in
        rw a.1 (h rom length wide p a.0 (shown rom (body_text length wide 0) p g a.0 a.1 e))

    pub stands_call : family_in g.code ≡ call → (r : Bool) → r ≡ not (eqb (kind_of kinds g.number) 0) → StandsBy kinds g r
    unfolding unknown_of
    stands_call f r d =
        of_token (λ z. omega arith) r
        (λ rom length wide p t s.
        let k = same_family rom (body_text length wide 0) p g t s call f in
        let n = called_number rom (body_text length wide 0) p g t s f in
        d ∙ rw (k, n))

    pub stands_assign : family_in g.code ≡ assign → (r : Bool) → r ≡ eqb (kind_of kinds g.number) 0xB8 → StandsBy kinds g r
    unfolding unknown_of
    stands_assign f r d =
        of_token (λ z. omega arith) r
        (λ rom length wide p t s.
        let k = same_family rom (body_text length wide 0) p g t s assign f in
        let n = assigned_number rom (body_text length wide 0) p g t s f in
        d ∙ rw (k, n) (sym (not-not (eqb (kind_of kinds g.number) 0xB8))))

    -- what names no number stands where it does not lead astray
    unnamed : family_in g.code ≢ unlisted → family_in g.code ≢ call → family_in g.code ≢ assign → (r : Bool)
        → OfToken (λ t. astray t ≡ not r) → StandsBy kinds g r
    unnamed z n b r h =
        of_token z r
        (λ rom length wide p t s.
        let u = unnamed_known kinds t (rw (s.code, ne_eqb _ _ n, ne_eqb _ _ b) refl) in
        rw (h rom length wide p t s, u, or-false, not-not))

    pub stands_branch : is_branch_code g.code ≡ true → (r : Bool) → r ≡ not (eqb g.aim 0) → StandsBy kinds g r
    stands_branch f r d =
        unnamed (λ z. off_on (rw z at f)) (λ z. off_on (rw z at f)) (λ z. off_on (rw z at f)) r
        (λ rom length wide p t s.
        rw (astray_aim rom (body_text length wide 0) p g t s, s.code, f, d) (sym (not-not (eqb g.aim 0))))

    pub stands_other : family_in g.code ≢ unlisted → family_in g.code ≢ call → family_in g.code ≢ assign → family_in g.code ≢ always
        → family_in g.code ≢ choice → StandsBy kinds g true
    stands_other z n b a f = unnamed z n b true (λ rom length wide p t s. rw (s.code, ne_eqb _ _ a, ne_eqb _ _ f))

-- ---- token starts
-- b(;) is known by its first byte
ends_first : (rom : List ℕ) (p b : ℕ) → b ≡ byte_of rom p → (b ≡ 0xC2 → number_of rom p ≡ 0xC2) × (number_of rom p ≡ 0xC2 → b ≡ 0xC2)
ends_first rom p b e =
    pick_is (λ n. (b ≡ 0xC2 → n ≡ 0xC2) × (n ≡ 0xC2 → b ≡ 0xC2)) (is_double (byte_of rom p)) (word16_of rom p) (byte_of rom p)
    (λ d. let k = both_hold (leb 0x01 (byte_of rom p)) (leb (byte_of rom p) 0x0F) d in
    let l = leb→le 0x01 (byte_of rom p) k.0 in
    let u = leb→le (byte_of rom p) 0x0F k.1 in
    ((λ q. absurd (omega arith)), (λ q. absurd (omega arith))))
    (λ d. ((λ q. sym e ∙ q), (λ q. e ∙ q)))

module _ (rom : List ℕ) (length : ℕ) (wide : Bool) (kinds : List ℕ) where
  starts_are : (k p : ℕ) (seen : List ℕ) → 0 < k
      → starts_of rom length wide kinds k p seen
      ≡ start_in kinds seen p (λ q m. starts_of rom length wide kinds (k - 1) q m) (read_of rom length wide true p)
  unfolding starts_of
  starts_are zero p seen h = absurd (omega arith)
  starts_are (suc k) p seen h = let z : suc k - 1 ≡ k = omega arith in rw z refl

  start_stops : (seen : List ℕ) (p : ℕ) (go : ℕ → List ℕ → Marked) (r : Result Token ℕ) → stands_in kinds r ≡ false
      → start_in kinds seen p go r ≡ marked false p seen
  start_stops seen p go (Err why) s = refl
  start_stops seen p go (Ok t) s = when_true _ _ (astray t || unknown_of kinds t) (not_on (astray t || unknown_of kinds t) s)

  start_goes : (seen : List ℕ) (p : ℕ) (go : ℕ → List ℕ → Marked) (t : Token) → stands_in kinds (Ok t) ≡ true
      → start_in kinds seen p go (Ok t)
      ≡ elim (eqb t.number 0xC2) [ true ↦ marked true p (set seen p unmet) | false ↦ go t.next (set seen p unmet) ]
  start_goes seen p go t s = when_false _ _ (astray t || unknown_of kinds t) (not_off (astray t || unknown_of kinds t) s)

  starts_past : (k p : ℕ) (seen : List ℕ) → length ≤ p → starts_of rom length wide kinds k p seen ≡ marked false p seen
  unfolding starts_of
  starts_past zero p seen h = refl
  starts_past (suc k) p seen h = rw (none_starts rom length wide true p h)

  -- a token that stands, of which a glance was taken
  good_read : (r : Result Token ℕ) → stands_in kinds r ≡ true → (t : Token) × (r ≡ Ok t)
  good_read (Err why) s = off_on s
  good_read (Ok t) s = (t, refl)

  -- the next token is ahead of one that stands
  pub quick_ahead : (p : ℕ) (q : Quick) → QuickRead rom length p q → p < q.next
  quick_ahead p q r =
      let s = r.read wide true in
      rw (← s.3) (next_ahead rom length wide true p s.0 s.1).0

  pub stood_ahead : (p : ℕ) (g : Glance) → g ≡ glance_of rom length wide p → stands_in kinds (read_of rom length wide true p) ≡ true
      → p < g.next
  stood_ahead p g e s =
      let r = good_read (read_of rom length wide true p) s in
      let d = (shown rom (body_text length wide 0) p g r.0 r.1 (sym e)).next in
      rw (← d) (next_ahead rom length wide true p r.0 r.1).0

  module _ (entry : ℕ) (seen₀ : List ℕ) where
    -- where marking is: what is left to mark by so many turns comes to what the whole comes to, and there are turns for every place
    pub record Marking (p : ℕ) (seen : List ℕ) : Type 0 where
      pub turns : ℕ
      pub enough : length ≤ p + turns
      pub same : starts_of rom length wide kinds turns p seen ≡ starts_of rom length wide kinds rom_most entry seen₀

    pub marking_first : length ≤ rom_most → Marking entry seen₀
    marking_first l = record { turns = rom_most; enough = omega arith; same = refl }

    module _ (p : ℕ) (seen : List ℕ) (k : Marking p seen) where
      pub marking_past : length ≤ p → marked false p seen ≡ starts_of rom length wide kinds rom_most entry seen₀
      marking_past l = sym (starts_past k.turns p seen l) ∙ k.same

      module _ (l : p < length) where
        abbrev on : ℕ → List ℕ → Marked
        on q m = starts_of rom length wide kinds (k.turns - 1) q m

        begun : starts_of rom length wide kinds rom_most entry seen₀ ≡ start_in kinds seen p on (read_of rom length wide true p)
        begun = let e = k.enough in sym k.same ∙ starts_are k.turns p seen (omega arith)

        pub marking_stops : stands_in kinds (read_of rom length wide true p) ≡ false
            → marked false p seen ≡ starts_of rom length wide kinds rom_most entry seen₀
        marking_stops s = sym (begun ∙ start_stops seen p on (read_of rom length wide true p) s)

        goes : (t : Token) → read_of rom length wide true p ≡ Ok t → stands_in kinds (Ok t) ≡ true → (t.number ≡ 0xC2 → ⊥)
            → Marking t.next (set seen p unmet)
        goes t e s n =
            let u = k.enough in
            let a = next_ahead rom length wide true p t e in
            record {
              turns = k.turns - 1;
              enough = omega arith;
              same =
                  sym (begun ∙ ap (λ (r : Result Token ℕ). start_in kinds seen p on r) e ∙ start_goes seen p on t s
                  ∙ when_false _ _ (eqb t.number 0xC2) (ne_eqb _ _ n));
            }

        -- a token that was read quickly
        pub marking_quick : (q : Quick) → QuickRead rom length p q → Marking q.next (set seen p unmet)
        marking_quick q r =
            let s = r.read wide true in
            let f : family_in s.0.code ≡ plain = rw s.2 r.plainly in
            subst (λ (n : ℕ). Marking n (set seen p unmet)) s.3 (goes s.0 s.1 (plain_stands kinds s.0 f) s.4)

        -- one that a glance was taken of
        module _ (g : Glance) (e : g ≡ glance_of rom length wide p) (s : stands_in kinds (read_of rom length wide true p) ≡ true) (b : ℕ)
            (f : b ≡ byte_of rom p) where
          pub marking_ends : b ≡ 0xC2 → marked true p (set seen p unmet) ≡ starts_of rom length wide kinds rom_most entry seen₀
          marking_ends n =
              let r = good_read (read_of rom length wide true p) s in
              let t = r.0 in
              let h : t.number ≡ 0xC2 = (stands rom length wide true p t r.1).number ∙ (ends_first rom p b f).0 n in
              sym (begun ∙ ap (λ (y : Result Token ℕ). start_in kinds seen p on y) r.1
              ∙ start_goes seen p on t (subst (λ (y : Result Token ℕ). stands_in kinds y ≡ true) r.1 s)
              ∙ when_true _ _ (eqb t.number 0xC2) (eq-eqb _ _ h))

          pub marking_goes : (b ≡ 0xC2 → ⊥) → Marking g.next (set seen p unmet)
          marking_goes n =
              let r = good_read (read_of rom length wide true p) s in
              let t = r.0 in
              let h = (stands rom length wide true p t r.1).number in
              let d = (shown rom (body_text length wide 0) p g t r.1 (sym e)).next in
              subst (λ (q : ℕ). Marking q (set seen p unmet)) d
              (goes t r.1 (subst (λ (y : Result Token ℕ). stands_in kinds y ≡ true) r.1 s) (λ q. n ((ends_first rom p b f).1 (sym h ∙ q))))

-- how far they were marked: up to the C2, whose place that is, or not
pub record MarksGood (length : ℕ) (m : Marked) (end : ℕ) (seen' : List ℕ) : Type 0 where
  pub same : marked true end seen' ≡ m
  pub inside : end < length

abbrev pub MarksIs : ℕ → Marked → Option ℕ → List ℕ → Type 0
MarksIs length m None seen' = m.good ≡ false
MarksIs length m (Some end) seen' = MarksGood length m end seen'

-- ---- the tally
pub record Low (a : Tally) : Type 0 where
  pub need : a.need < 1024
  pub peak : a.peak < 1024
  pub out : a.out < 1024

pub low_none : Low no_tally
low_none = record { need = omega arith; peak = omega arith; out = omega arith }

pub low_tallied : (a : Tally) (t : Token) (e : Effect) (cell : ℕ) → SmallEffect e → Low a → Low (tallied a t e cell)
unfolding tallied
low_tallied a t e cell s l =
    let h = height_low cell in
    record {
      need = omega arith;
      peak = omega arith;
      out = pick_is (λ n. n < 1024) (is_a leave t) (suc (height_in cell)) a.out (λ i. omega arith) (λ i. l.out);
    }

-- ---- the shift
pub met : (cell : ℕ) → (cell ≡ 0 → ⊥) → (cell ≡ unmet → ⊥) → is_met cell ≡ true
met cell z u = rw (ne_eqb _ _ z, ne_eqb _ _ u) refl

pub unmet_none : (cell : ℕ) → cell ≡ 0 → is_met cell ≡ false
unmet_none cell z = rw z refl

pub unmet_blank : (cell : ℕ) → cell ≡ unmet → is_met cell ≡ false
unmet_blank cell z = rw z refl

shift_spent : (need k p : ℕ) (seen : List ℕ) → k ≡ 0 → shift_of need k p seen ≡ seen
unfolding shift_of
shift_spent need zero p seen e = refl
shift_spent need (suc k) p seen e = absurd (omega arith)

shift_turn : (need k p to : ℕ) (seen : List ℕ) → 0 < k → to ≡ shifted_cell need (get_or seen p 0)
    → shift_of need (k - 1) (p + 1) (set seen p to) ≡ shift_of need k p seen
unfolding shift_of
shift_turn need zero p to seen h m = absurd (omega arith)
shift_turn need (suc k) p to seen h m =
    let z : suc k - 1 ≡ k = omega arith in
    rw (z, m, add-one) refl

-- where the shift is: what is left of it up to an end comes to what the whole comes to, and what it has not come to is as it was
pub record Shifting (need end : ℕ) (whole : List ℕ) (p : ℕ) (seen : List ℕ) : Type 0 where
  pub left : p ≤ end
  pub same : shift_of need (end - p) p seen ≡ whole
  pub above : (j : ℕ) → p ≤ j → get_or seen j 0 ≤ 0x4000_0000

pub shifting_first : (need entry count : ℕ) (seen : List ℕ) → Bounded 0x4000_0000 seen
    → Shifting need (entry + count) (shift_of need count entry seen) entry seen
shifting_first need entry count seen b =
    let z : entry + count - entry ≡ count = omega arith in
    record { left = omega arith; same = rw z refl; above = λ j l. b.each j }

module _ (need end : ℕ) (whole : List ℕ) (p : ℕ) (seen : List ℕ) (k : Shifting need end whole p seen) where
  pub shifting_done : end ≤ p → seen ≡ whole
  shifting_done l = let h = k.left in sym (shift_spent need (end - p) p seen (omega arith)) ∙ k.same

  pub shifting_turn : (to : ℕ) → p < end → to ≡ shifted_cell need (get_or seen p 0) → Shifting need end whole (p + 1) (set seen p to)
  shifting_turn to l m =
      let z : end - (p + 1) ≡ end - p - 1 = omega arith in
      record {
        left = omega arith;
        same = rw z (shift_turn need (end - p) p to seen (omega arith) m ∙ k.same);
        above = λ j h. let n : j ≢ p = λ q. omega arith in rw (get_or-set_other seen p j to 0 n) (k.above j (omega arith));
      }

-- ---- a body
-- what is known of a body that was surveyed: where it passes, and where it does not
pub record SurveyGood (rom : List ℕ) (length : ℕ) (kinds sums seen : List ℕ) (s : Stand) (entry : ℕ) (r : Survey)
    (seen' : List ℕ) : Type 0 where
  pub accepts : (st : Stand) (n : ℕ) → colon_of rom length (board seen kinds sums st) s n entry
      ≡ round_end true
      (entry_of (board (shift_of r.tally.need (places entry r.end) entry seen') kinds sums s) s n 0xB7 (sum_told (tally_in r.tally))
      (suc r.end))
  pub inside : r.end < length
  pub low : Low (tally_in r.tally)
  pub fits : r.tally.need ≤ body_most
  pub bounded : (b : ℕ) → 65536 ≤ b → Bounded b seen → Bounded b seen'

abbrev pub SurveyIs : List ℕ → ℕ → List ℕ → List ℕ → List ℕ → Stand → ℕ → Option Survey → List ℕ → Type 0
SurveyIs rom length kinds sums seen s entry None seen' =
    (st : Stand) (n : ℕ) → (colon_of rom length (board seen kinds sums st) s n entry).good ≡ false
SurveyIs rom length kinds sums seen s entry (Some r) seen' = SurveyGood rom length kinds sums seen s entry r seen'

passes_need : (y : Tally) → passes_of y ≡ true → y.need ≤ body_most
unfolding passes_of
passes_need y p =
    let k = (both_hold (y.good && not (eqb y.out 0)) (leb (y.peak + y.need) body_most) (holds (passes_of y) p)).1 in
    let l = leb→le (y.peak + y.need) body_most k in
    omega arith

module _ (rom : List ℕ) (length : ℕ) (seen kinds sums : List ℕ) (s : Stand) (entry : ℕ) where
  -- ---- the ways of a b(:)
  module _ (st : Stand) (n : ℕ) where
    abbrev b : Board
    b = board seen kinds sums st

    -- behind the walk of a body
    walked : ℕ → Path → RoundEnd
    walked end a =
        elim a.walk.good [ true ↦ body_shifted b s n entry end a a.walk.tally | false ↦ round_end false (on_seen b a.seen) ]

    -- behind the marking of its starts
    begun_at : Marked → RoundEnd
    begun_at m =
        elim m.good [ true ↦ walked m.end (body_walked rom length s.wide b entry m) | false ↦ round_end false (on_seen b m.seen) ]

    colon_is : colon_of rom length b s n entry ≡ begun_at (starts_of rom length s.wide kinds rom_most entry seen)
    unfolding colon_of begun_at walked
    colon_is = refl

    colon_unmarked : (starts_of rom length s.wide kinds rom_most entry seen).good ≡ false
        → (colon_of rom length b s n entry).good ≡ false
    unfolding begun_at
    colon_unmarked g =
        ap (λ (y : RoundEnd). y.good) (colon_is ∙ when_false _ _ (starts_of rom length s.wide kinds rom_most entry seen).good g)

    module _ (end : ℕ) (seen₁ : List ℕ) (h : marked true end seen₁ ≡ starts_of rom length s.wide kinds rom_most entry seen) where
      abbrev way : Path
      way = walk_all rom (body_text length s.wide entry) kinds sums seen₁ entry entry_cell

      colon_walked : colon_of rom length b s n entry ≡ walked end way
      unfolding begun_at body_walked
      colon_walked = colon_is ∙ ap (λ (m : Marked). begun_at m) (sym h)

      colon_lost : way.walk.good ≡ false → (colon_of rom length b s n entry).good ≡ false
      unfolding walked
      colon_lost l = ap (λ (y : RoundEnd). y.good) (colon_walked ∙ when_false _ _ way.walk.good l)

      module _ (l : way.walk.good ≡ true) where
        colon_tallied : colon_of rom length b s n entry ≡ body_shifted b s n entry end way way.walk.tally
        unfolding walked
        colon_tallied = colon_walked ∙ when_true _ _ way.walk.good l

        colon_unfit : passes_of way.walk.tally ≡ false → (colon_of rom length b s n entry).good ≡ false
        unfolding body_shifted
        colon_unfit p = ap (λ (z : RoundEnd). z.good) colon_tallied ∙ p

        colon_passes : (y : Tally) → y ≡ way.walk.tally → (seen₂ : List ℕ) → seen₂ ≡ way.seen → passes_of y ≡ true
            → colon_of rom length b s n entry
            ≡ round_end true (entry_of (board (shift_of y.need (places entry end) entry seen₂) kinds sums s) s n 0xB7 (sum_told y)
            (suc end))
        unfolding body_shifted
        colon_passes y f seen₂ d p = colon_tallied ∙ rw (← f, ← d, p) refl

  module _ (seen' : List ℕ) where
    pub survey_unmarked : (starts_of rom length s.wide kinds rom_most entry seen).good ≡ false
        → SurveyIs rom length kinds sums seen s entry None seen'
    survey_unmarked g = λ st n. colon_unmarked st n g

    module _ (end : ℕ) (seen₁ : List ℕ) (h : marked true end seen₁ ≡ starts_of rom length s.wide kinds rom_most entry seen) where
      pub survey_lost : (walk_all rom (body_text length s.wide entry) kinds sums seen₁ entry entry_cell).walk.good ≡ false
          → SurveyIs rom length kinds sums seen s entry None seen'
      survey_lost l = λ st n. colon_lost st n end seen₁ h l

      module _ (w : Walked) (k : EndsWell (walk_all rom (body_text length s.wide entry) kinds sums seen₁ entry entry_cell) w seen') where
        pub survey_unfit : passes_of (tally_in w.tally) ≡ false → SurveyIs rom length kinds sums seen s entry None seen'
        survey_unfit p = λ st n. colon_unfit st n end seen₁ h k.good (rw (← k.tally) p)

        pub survey_judged : Low (tally_in w.tally) → end < length → ((b : ℕ) → 65536 ≤ b → Bounded b seen → Bounded b seen')
            → passes_of (tally_in w.tally) ≡ true
            → SurveyGood rom length kinds sums seen s entry (record { end = end; tally = w.tally }) seen'
        survey_judged low inside bounded p =
            record {
              accepts = λ st n. colon_passes st n end seen₁ h k.good (tally_in w.tally) k.tally seen' k.seen p;
              inside = inside;
              low = low;
              fits = passes_need (tally_in w.tally) p;
              bounded = bounded;
            }
