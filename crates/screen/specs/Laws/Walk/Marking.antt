-- The pass over a body's bytes marks its token starts, and finds its C2: exactly where the body ends with one, and no token before it is
-- refused. Assumes nothing.
use Rattle.std.specs.Prelude.{ℕ, zero, suc, ◌-◌, ◌≤◌, ◌<◌, ◌≡◌, refl, ◌⊎◌, ◌≢◌, Bool, true, false, ◌||◌, List}
use Rattle.std.specs.Prelude.{length, get_or, set, T, eqb, Result, Ok, Err}
use Rattle.std.proofs.Common.{sym, ap, ◌∙◌, subst, inl, inr, arith, length-set, get_or-set_same, get_or-set_other, eqb→eq}
use Rattle.std.proofs.Math.Decide.{ℕ_discrete}
use Rattle.cells.specs.Laws.Facts.{is_false, neither}
use Rattle.cells.specs.Laws.Tests.{when_is, neqb→ne}
use Rattle.rom.specs.Header.{length_of}
use Rattle.rom.specs.Sizes.{rom_most}
use Rattle.tokens.specs.Body.{unknown_of}
use Rattle.tokens.specs.Laws.Tokens.{next_ahead}
use Rattle.tokens.specs.declared.decoding.Token.{Token}
use Rattle.screen.specs.Effect.{astray}
use Rattle.screen.specs.Reach.{token_at, Claim, Holds, Starts}
use Rattle.screen.specs.Laws.Rules.Reach.{by_start, prepend}
use Rattle.screen.specs.Laws.Found.Model.{Path, Marked, marked, start_in, starts_of}
use Rattle.screen.specs.Laws.Walk.Walking.{At, Walked}
use Rattle.screen.specs.declared.walking.Text.{Text as Scope}
use Rattle.screen.specs.Laws.Found.Cell.{unmet, is_met}

-- ---- what the pass finds
-- a place is a start, and marked, or none, and as it was
pub data Cell (rom : List ℕ) (w : Bool) (entry : ℕ) (seen then : List ℕ) (p : ℕ) : Type 0 where
  start : Starts rom w entry p → get_or then p 0 ≡ unmet → Cell rom w entry seen then p
  other : (Starts rom w entry p → ⊥) → get_or then p 0 ≡ get_or seen p 0 → Cell rom w entry seen then p

-- what is known of a body whose starts are marked: `reads` asks that what the numbers' kinds tell is so
pub record MarksBody (rom : List ℕ) (w : Bool) (kinds : List ℕ) (entry : ℕ) (seen : List ℕ) (m : Marked) : Type 0 where
  pub low : entry ≤ m.end
  pub high : m.end < length_of rom
  pub reads : ((p : ℕ) (t : Token) → entry ≤ p → unknown_of kinds t ≡ false → Holds rom (Claim.known p t))
      → Holds rom (Claim.reads w entry m.end)
  pub starts : {p : ℕ} → Starts rom w entry p → (entry ≤ p) × (p ≤ m.end) × (get_or m.seen p 0 ≡ unmet)
  pub whole : {p : ℕ} → Starts rom w entry p → (t : Token) × (token_at rom 1 w p ≡ Ok t)
  pub fine : {p : ℕ} {t : Token} → Starts rom w entry p → token_at rom 1 w p ≡ Ok t → (astray t ≡ false) × (unknown_of kinds t ≡ false)
  pub each : (p : ℕ) → Cell rom w entry seen m.seen p
  pub size : length m.seen ≡ length seen

module _ {rom : List ℕ} {w : Bool} {kinds : List ℕ} {p : ℕ} {seen : List ℕ} {t : Token} where
  -- the last token
  marks_last : p < length seen → token_at rom 1 w p ≡ Ok t → astray t ≡ false → unknown_of kinds t ≡ false → t.number ≡ 0xC2
      → MarksBody rom w kinds p seen (marked true p (set seen p unmet))
  marks_last i e a u n =
      let b = next_ahead rom (length_of rom) w true p t e in
      record {
        low = omega arith;
        high = omega arith;
        reads = λ k. Holds.last e n;
        starts = λ s.
            by_start (λ q. (p ≤ q) × (q ≤ p) × (get_or (set seen p unmet) q 0 ≡ unmet)) e s
            (omega arith, omega arith, get_or-set_same seen p unmet 0 i) (λ m s'. absurd (m n));
        whole = λ s. by_start (λ q. (t : Token) × (token_at rom 1 w q ≡ Ok t)) e s (t, e) (λ m s'. absurd (m n));
        fine = λ {p = q} {t = v} s.
            by_start (λ r. token_at rom 1 w r ≡ Ok v → (astray v ≡ false) × (unknown_of kinds v ≡ false)) e s
            (λ f. let d : v ≡ t = cc (e, f) in rw d (a, u)) (λ m s'. absurd (m n));
        each = λ q.
            elim (ℕ_discrete q p) [
              | yes d ↦ rw d (start Starts.entry (get_or-set_same seen p unmet 0 i))
              | no d ↦
                  other (λ s. by_start (λ r. (r ≡ p → ⊥) → ⊥) e s (λ h. h refl) (λ m s'. absurd (m n)) d)
                  (get_or-set_other seen p q unmet 0 d)
            ];
        size = length-set seen p unmet;
      }

  -- a token before the last
  marks_more : {m : Marked} → p < length seen → token_at rom 1 w p ≡ Ok t → astray t ≡ false → unknown_of kinds t ≡ false
      → (t.number ≡ 0xC2 → ⊥) → MarksBody rom w kinds t.next (set seen p unmet) m → MarksBody rom w kinds p seen m
  marks_more {m} i e a u n y =
      let b = next_ahead rom (length_of rom) w true p t e in
      let lo = y.low in
      record {
        low = omega arith;
        high = y.high;
        reads = λ k. Holds.more e n (k p t (omega arith) u) (y.reads (λ q v l x. k q v (omega arith) x));
        starts = λ s.
            by_start (λ q. (p ≤ q) × (q ≤ m.end) × (get_or m.seen q 0 ≡ unmet)) e s (omega arith, omega arith, first (y.each p))
            (λ o s'. let z = y.starts s' in (omega arith, z.1, z.2));
        whole = λ s. by_start (λ q. (t : Token) × (token_at rom 1 w q ≡ Ok t)) e s (t, e) (λ o s'. y.whole s');
        fine = λ {p = q} {t = v} s.
            by_start (λ r. token_at rom 1 w r ≡ Ok v → (astray v ≡ false) × (unknown_of kinds v ≡ false)) e s
            (λ f. let d : v ≡ t = cc (e, f) in rw d (a, u)) (λ o s'. y.fine s');
        each = λ q.
            elim (ℕ_discrete q p) [
              | yes d ↦ rw d (start Starts.entry (first (y.each p)))
              | no d ↦ later d (y.each q)
            ];
        size = y.size ∙ length-set seen p unmet;
      }
    where
      first : Cell rom w t.next (set seen p unmet) m.seen p → get_or m.seen p 0 ≡ unmet
      first (start s f) = f
      first (other o f) = f ∙ get_or-set_same seen p unmet 0 i

      later : {q : ℕ} → (q ≡ p → ⊥) → Cell rom w t.next (set seen p unmet) m.seen q → Cell rom w p seen m.seen q
      later d (start s f) = start (prepend e n s) f
      later {q} d (other o f) =
          other (λ s. by_start (λ r. (r ≡ p → ⊥) → (Starts rom w t.next r → ⊥) → ⊥) e s (λ h k. h refl) (λ x s' h k. k s') d o)
          (f ∙ get_or-set_other seen p q unmet 0 d)

-- one token, whatever is behind it
marks_in_lem : (rom : List ℕ) (w : Bool) (kinds : List ℕ) (go : ℕ → List ℕ → Marked)
    → ((q : ℕ) (m : List ℕ) → length_of rom ≤ length m → (go q m).good ≡ true → MarksBody rom w kinds q m (go q m))
    → (p : ℕ) (seen : List ℕ) → length_of rom ≤ length seen → (r : Result Token ℕ) → token_at rom 1 w p ≡ r
    → (start_in kinds seen p go r).good ≡ true
    → MarksBody rom w kinds p seen (start_in kinds seen p go r)
marks_in_lem rom w kinds go f p seen l (Err why) e = λ g. absurd (subst T (sym g) tt)
marks_in_lem rom w kinds go f p seen l (Ok t) e =
    let b = next_ahead rom (length_of rom) w true p t e in
    when_is (λ m. m.good ≡ true → MarksBody rom w kinds p seen m) (astray t || unknown_of kinds t) _ _ (λ x g. absurd (subst T (sym g) tt))
    (λ x.
    let y = neither (astray t) (unknown_of kinds t) x in
    when_is (λ m. m.good ≡ true → MarksBody rom w kinds p seen m) (eqb t.number 0xC2) _ _
    (λ n g. marks_last (omega arith) e (is_false (astray t) y.0) (is_false (unknown_of kinds t) y.1) (eqb→eq t.number 0xC2 n))
    (λ n g.
    marks_more (omega arith) e (is_false (astray t) y.0) (is_false (unknown_of kinds t) y.1) (neqb→ne t.number 0xC2 n)
    (f t.next (set seen p unmet) (rw length-set l) g)))

-- the pass from a place on, by the tokens that it may read
marks_from : (rom : List ℕ) (w : Bool) (kinds : List ℕ) (k p : ℕ) (seen : List ℕ) → length_of rom ≤ length seen
    → (starts_of rom (length_of rom) w kinds k p seen).good ≡ true
    → MarksBody rom w kinds p seen (starts_of rom (length_of rom) w kinds k p seen)
unfolding starts_of
marks_from rom w kinds zero p seen l g = absurd (subst T (sym g) tt)
marks_from rom w kinds (suc k) p seen l g =
    marks_in_lem rom w kinds (λ q m. starts_of rom (length_of rom) w kinds k q m) (λ q m h. marks_from rom w kinds k q m h) p seen l
    (token_at rom 1 w p) refl g

-- where the pass is good it has marked the starts of a body that ends with a C2
pub marks_good : (rom : List ℕ) (w : Bool) (kinds : List ℕ) (entry : ℕ) (seen : List ℕ) → length_of rom ≤ length seen
    → (starts_of rom (length_of rom) w kinds rom_most entry seen).good ≡ true
    → MarksBody rom w kinds entry seen (starts_of rom (length_of rom) w kinds rom_most entry seen)
marks_good rom w kinds entry seen l g = marks_from rom w kinds rom_most entry seen l g

-- what is outside of the body is as it was
pub marks_kept : {rom : List ℕ} {w : Bool} {kinds : List ℕ} {entry : ℕ} {seen : List ℕ} {m : Marked} → MarksBody rom w kinds entry seen m
    → (p : ℕ) → (entry ≤ p → p ≤ m.end → ⊥) → get_or m.seen p 0 ≡ get_or seen p 0
marks_kept {rom} {w} {kinds} {entry} {seen} {m} y p out = by (y.each p)
  where
    by : Cell rom w entry seen m.seen p → get_or m.seen p 0 ≡ get_or seen p 0
    by (start s e) = let z = y.starts s in absurd (out z.0 z.1)
    by (other o e) = e

-- what is marked and was not is a start
pub marks_only : {rom : List ℕ} {w : Bool} {kinds : List ℕ} {entry : ℕ} {seen : List ℕ} {m : Marked} → MarksBody rom w kinds entry seen m
    → (p : ℕ) → get_or m.seen p 0 ≡ unmet → get_or seen p 0 ≢ unmet → Starts rom w entry p
marks_only {rom} {w} {kinds} {entry} {seen} {m} y p now then = by (y.each p)
  where
    by : Cell rom w entry seen m.seen p → Starts rom w entry p
    by (start s e) = s
    by (other o e) = absurd (then (sym e ∙ now))

-- ---- what it does not miss
-- the pass is good, and finds this C2
pub record Found (m : Marked) (c : ℕ) : Type 0 where
  pub good : m.good ≡ true
  pub end : m.end ≡ c

-- no token of a body names an unknown number or branches to outside
abbrev pub FineMarks : List ℕ → Bool → List ℕ → ℕ → Type 0
FineMarks rom w kinds entry =
    (p : ℕ) (t : Token) → Starts rom w entry p → token_at rom 1 w p ≡ Ok t → (unknown_of kinds t ≡ false) × (astray t ≡ false)

-- a token that is not refused
found_in : (kinds seen : List ℕ) (p c : ℕ) (go : ℕ → List ℕ → Marked) (r : Result Token ℕ) (t : Token) → r ≡ Ok t
    → (unknown_of kinds t ≡ false) × (astray t ≡ false)
    → (t.number ≡ 0xC2 → p ≡ c) → ((t.number ≡ 0xC2 → ⊥) → Found (go t.next (set seen p unmet)) c)
    → Found (start_in kinds seen p go r) c
found_in kinds seen p c go r t e f last more =
    rw e
    (when_is (λ m. Found m c) (astray t || unknown_of kinds t) _ _ (λ x. absurd (rw (f.1, f.0) at x))
    (λ x.
    when_is (λ m. Found m c) (eqb t.number 0xC2) _ _ (λ n. record { good = refl; end = last (eqb→eq t.number 0xC2 n) })
    (λ n. more (neqb→ne t.number 0xC2 n))))

-- the pass from a place on, where there are as many turns as places: a token is at least one byte
found_from : {rom : List ℕ} {w : Bool} {p c : ℕ} (kinds : List ℕ) → Holds rom (Claim.reads w p c) → FineMarks rom w kinds p
    → (k : ℕ) (seen : List ℕ)
    → length_of rom - p ≤ k → Found (starts_of rom (length_of rom) w kinds k p seen) c
unfolding starts_of
found_from {rom} {w} {p} kinds (Holds.last {t = t} e n) fine zero seen l =
    let a = next_ahead rom (length_of rom) w true p t e in absurd (omega arith)
found_from {rom} {w} {p} kinds (Holds.more {t = t} e n x r) fine zero seen l =
    let a = next_ahead rom (length_of rom) w true p t e in absurd (omega arith)
found_from {rom} {w} {p} kinds (Holds.last {t = t} e n) fine (suc k) seen l =
    found_in kinds seen p p (λ q m. starts_of rom (length_of rom) w kinds k q m) (token_at rom 1 w p) t e (fine p t Starts.entry e)
    (λ z. refl)
    (λ z. absurd (z n))
found_from {rom} {w} {p} {c} kinds (Holds.more {t = t} e n x r) fine (suc k) seen l =
    let a = next_ahead rom (length_of rom) w true p t e in
    found_in kinds seen p c (λ q m. starts_of rom (length_of rom) w kinds k q m) (token_at rom 1 w p) t e (fine p t Starts.entry e)
    (λ z. absurd (n z)) (λ z. found_from kinds r (λ q u s f. fine q u (prepend e n s) f) k (set seen p unmet) (omega arith))

-- where a body ends with a C2, and none of its tokens is refused, the pass is good, and finds that C2
pub marks_found : {rom : List ℕ} {w : Bool} {entry c : ℕ} (kinds seen : List ℕ) → length_of rom ≤ rom_most
    → Holds rom (Claim.reads w entry c)
    → FineMarks rom w kinds entry → Found (starts_of rom (length_of rom) w kinds rom_most entry seen) c
marks_found {rom} {w} {entry} kinds seen l r fine = found_from kinds r fine rom_most seen (omega arith)

-- ---- a walk behind it
-- of a place that was not marked before, a walk leaves a met token's cell where it was come to, and there alone
module _ {rom : List ℕ} {w : Bool} {kinds : List ℕ} {entry : ℕ} {seen : List ℕ} {m : Marked} (y : MarksBody rom w kinds entry seen m) where
  unmet_before : (p : ℕ) → get_or seen p 0 ≡ 0 → is_met (get_or m.seen p 0) ≡ false
  unmet_before p z = by (y.each p)
    where
      by : Cell rom w entry seen m.seen p → is_met (get_or m.seen p 0) ≡ false
      by (start s e) = ap is_met e
      by (other n e) = ap is_met (e ∙ z)

  pub walked_met : {x : Scope} {sums : List ℕ} {first cell : ℕ} {a : Path} → Walked rom x kinds sums first cell m.seen a
      → (p : ℕ) → get_or seen p 0 ≡ 0 → is_met (get_or a.seen p 0) ≡ true → At rom x kinds sums first cell p (get_or a.seen p 0)
  walked_met {x} {sums} {first} {cell} {a} k p z e = by (k.kept p)
    where
      by : (get_or a.seen p 0 ≡ get_or m.seen p 0) ⊎ At rom x kinds sums first cell p (get_or a.seen p 0)
          → At rom x kinds sums first cell p (get_or a.seen p 0)
      by (inl q) = absurd (subst T (sym e ∙ ap is_met q ∙ unmet_before p z) tt)
      by (inr q) = q
