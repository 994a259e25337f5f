-- The place behind a token that a body goes on behind, by the token's first byte. Assumes nothing.
use Prim.Native.Nat.{ℕ, zero, suc, ◌+◌, ◌*◌, ◌≤◌, ◌<◌}
use mathlib.Core.Path.{◌≡◌, refl, sym, subst, ◌∙◌}
use mathlib.Core.Bool.{Bool, true, false, not, ◌&&◌, ◌||◌}
use mathlib.Core.List.{List}
use native.Mathlib.Omega.{arith}
use borrow.Author.Tests.{eq-eqb, ne_eqb, leb-true}
use lib.Dec.{T, eqb, ltb, leb, eqb→eq, ltb→lt}
use Rattle.cells.specs.Choice.{pick, among}
use Rattle.cells.specs.Laws.Tests.{neqb→ne}
use Rattle.cells.specs.Laws.Facts.{holds, fails, both_hold, either, and_first, and_second, four_hold, is_false}
use Rattle.rom.specs.Bytes.{byte_of}
use Rattle.tokens.specs.Family.{call, assign}
use Rattle.tokens.specs.Row.{none}
use Rattle.tokens.specs.Table.{ends, lows, highs, doubles, table, row_of, not_listed}
use Rattle.tokens.specs.Code.{packed, code_of, family_in, form_in}
use Rattle.tokens.specs.Decode.{is_double, number_of, behind_number, behind_string, behind_of}
use Rattle.tokens.specs.Place.{misplaced_of}
use Rattle.tokens.specs.Body.{kind_of}
use Rattle.tokens.specs.Laws.Rows.{found, Beside, none_left}
use Rattle.tokens.specs.Laws.Glance.{double_plain}
use Rattle.tokens.proofs.Codes.{listed, a_program}
use Rattle.tokens.proofs.Ranges.{bounds}
use Rattle.tokens.specs.Joints.Body.{beyond, passes, passed_of, frequent}

-- ---- a test of so many numbers from one on
abbrev every_from : (ℕ → Bool) → ℕ → ℕ → Bool
every_from f zero low = true
every_from f (suc many) low = f low && every_from f many (suc low)

every_one : (f : ℕ → Bool) (many low n : ℕ) → T (every_from f many low) → low ≤ n → n < low + many → T (f n)
every_one f zero low n h l u = absurd (omega arith)
every_one f (suc many) low n h l u =
    let b = both_hold (f low) (every_from f many (suc low)) h in
    by (eqb n low) refl b.0 (λ k. every_one f many (suc low) n b.1 k (omega arith))
  where
    by : (e : Bool) → eqb n low ≡ e → T (f low) → (suc low ≤ n → T (f n)) → T (f n)
    by true e t later = rw (eqb→eq n low (holds (eqb n low) e)) t
    by false e t later =
        let z = neqb→ne n low (fails (eqb n low) e) in
        later (omega (arith, z))

-- a byte that is a whole token, which a body goes on behind whatever it knows
abbrev plain : ℕ → Bool
plain b =
    (not (is_double b) && not (eqb (code_of b) 0) && not (misplaced_of (code_of b) true) && not (eqb b 0xC2))
    && (not (eqb (family_in (code_of b)) call) && not (eqb (family_in (code_of b)) assign) && eqb (form_in (code_of b)) none)

-- one that no body goes on behind
abbrev blocked : ℕ → Bool
blocked b = not (is_double b) && (eqb (code_of b) 0 || misplaced_of (code_of b) true || eqb b 0xC2)

-- one that is blocked, frequent, or among some
abbrev blocked_but : List ℕ → ℕ → Bool
blocked_but ks b = frequent b || (blocked b || among b ks)

stays : (kinds : List ℕ) (b m : ℕ) (z x e : Bool) → eqb (code_of b) 0 ≡ z → misplaced_of (code_of b) true ≡ x → eqb b 0xC2 ≡ e
    → T (z || x || e) → passes kinds b m ≡ false
stays kinds b m true x e p q r h = rw p
stays kinds b m false true e p q r h = rw (p, q)
stays kinds b m false false true p q r h = rw (p, q, r)
stays kinds b m false false false p q r h = absurd h

module _ (rom : List ℕ) (wide : Bool) (kinds : List ℕ) (p b : ℕ) (e : b ≡ byte_of rom p) where
  -- the place behind a token of the number n, with q the place behind that
  abbrev behind : ℕ → ℕ → ℕ
  behind n q = pick (passes kinds n (number_of rom q)) (behind_of rom wide q (form_in (code_of n))) beyond

  -- ---- a number of one byte
  one : is_double b ≡ false → behind b (p + 1) ≡ passed_of rom wide kinds p
  unfolding passed_of
  one d = rw (e, rw e at d)

  plain_passed : T (plain b) → p + 1 ≡ passed_of rom wide kinds p
  unfolding behind_of
  plain_passed h =
      let s = both_hold (not (is_double b) && not (eqb (code_of b) 0) && not (misplaced_of (code_of b) true) && not (eqb b 0xC2))
      (not (eqb (family_in (code_of b)) call) && not (eqb (family_in (code_of b)) assign) && eqb (form_in (code_of b)) none) h in
      let f = four_hold (not (is_double b)) (not (eqb (code_of b) 0)) (not (misplaced_of (code_of b) true)) (not (eqb b 0xC2)) s.0 in
      let g = both_hold (not (eqb (family_in (code_of b)) call) && not (eqb (family_in (code_of b)) assign))
      (eqb (form_in (code_of b)) none)
      s.1 in
      let k = both_hold (not (eqb (family_in (code_of b)) call)) (not (eqb (family_in (code_of b)) assign)) g.0 in
      let w : passes kinds b (number_of rom (p + 1)) ≡ true =
      rw (
        is_false (eqb (code_of b) 0) f.1,
        is_false (misplaced_of (code_of b) true) f.2,
        is_false (eqb b 0xC2) f.3,
        is_false (eqb (family_in (code_of b)) call) k.0,
        is_false (eqb (family_in (code_of b)) assign) k.1,
      ) in
      let o : form_in (code_of b) ≡ none = eqb→eq (form_in (code_of b)) none g.1 in
      let x : p + 1 ≡ behind b (p + 1) = rw (w, o) in
      x ∙ one (is_false (is_double b) f.0)

  pub one_passed : (k : ℕ) → b ≡ k → T (plain k) → p + 1 ≡ passed_of rom wide kinds p
  one_passed k i h = plain_passed (rw i h)

  pub range_passed : (many low : ℕ) → T (every_from plain many low) → low ≤ b → b < low + many → p + 1 ≡ passed_of rom wide kinds p
  range_passed many low h l u = plain_passed (every_one plain many low b h l u)

  pub frequent_passed : frequent b ≡ true → p + 1 ≡ passed_of rom wide kinds p
  unfolding misplaced_of code_of row_of table ends lows highs doubles
  frequent_passed h = by (leb b 0x59) refl
    where
      by : (s : Bool) → leb b 0x59 ≡ s → p + 1 ≡ passed_of rom wide kinds p
      by true s =
          let l = leb-true 0x2B b (rw s at h) in
          let u = leb-true b 0x59 s in
          range_passed 0x2F 0x2B tt l (omega arith)
      by false s =
          let r = rw s at h in
          let l = leb-true 0xA4 b (and_second (leb b 0xA8) (leb 0xA4 b) r) in
          let u = leb-true b 0xA8 (and_first (leb b 0xA8) (leb 0xA4 b) r) in
          range_passed 5 0xA4 tt l (omega arith)

  blocked_passed : T (blocked b) → beyond ≡ passed_of rom wide kinds p
  blocked_passed h =
      let s = both_hold (not (is_double b)) (eqb (code_of b) 0 || misplaced_of (code_of b) true || eqb b 0xC2) h in
      let w = stays kinds b (number_of rom (p + 1)) (eqb (code_of b) 0) (misplaced_of (code_of b) true) (eqb b 0xC2) refl refl refl s.1 in
      let x : beyond ≡ behind b (p + 1) = rw w in
      x ∙ one (is_false (is_double b) s.0)

  -- what the match over the bytes leaves over
  pub none_passed : (ks : List ℕ) (many low : ℕ) → T (every_from (blocked_but ks) many low) → low ≤ b → b < low + many → frequent b ≡ false
      → Beside (Unit {0}) ks b → beyond ≡ passed_of rom wide kinds p
  none_passed ks many low h l u f r =
      let t = every_one (blocked_but ks) many low b h l u in
      blocked_passed
      (either (blocked b) (among b ks) (T (blocked b)) (rw f at t) (λ y. y) (λ y. absurd (none_left (Unit {0}) ks b r y)))

  -- ---- with an operand
  coded : (k next : ℕ) → b ≡ k → is_double k ≡ false → next ≡ behind k (p + 1) → next ≡ passed_of rom wide kinds p
  coded k next i d x = x ∙ subst (λ j. behind j (p + 1) ≡ passed_of rom wide kinds p) i (one (rw i d))

  pub literal_passed : b ≡ 0x10 → p + 5 ≡ passed_of rom wide kinds p
  unfolding behind_of misplaced_of code_of row_of table ends lows highs doubles
  literal_passed i = let x : p + 5 ≡ p + 1 + 4 = omega arith in coded 0x10 (p + 5) i refl x

  pub string_passed : b ≡ 0x12 → behind_string rom (p + 1) ≡ passed_of rom wide kinds p
  unfolding behind_of misplaced_of code_of row_of table ends lows highs doubles
  string_passed i = coded 0x12 (behind_string rom (p + 1)) i refl refl

  pub always_passed : b ≡ 0x13 → p + 1 + pick wide 2 1 ≡ passed_of rom wide kinds p
  unfolding behind_of misplaced_of code_of row_of table ends lows highs doubles
  always_passed i = coded 0x13 (p + 1 + pick wide 2 1) i refl refl

  pub choice_passed : b ≡ 0x14 → p + 1 + pick wide 2 1 ≡ passed_of rom wide kinds p
  unfolding behind_of misplaced_of code_of row_of table ends lows highs doubles
  choice_passed i = coded 0x14 (p + 1 + pick wide 2 1) i refl refl

  module _ (i : b ≡ 0xC3) where
    pub value_passed : kind_of kinds (number_of rom (p + 1)) ≡ 0xB8 → behind_number rom (p + 1) ≡ passed_of rom wide kinds p
    unfolding behind_of misplaced_of code_of row_of table ends lows highs doubles
    value_passed v = coded 0xC3 (behind_number rom (p + 1)) i refl (rw (eq-eqb _ _ v))

    pub other_passed : (kind_of kinds (number_of rom (p + 1)) ≡ 0xB8 → ⊥) → beyond ≡ passed_of rom wide kinds p
    unfolding misplaced_of code_of row_of table ends lows highs doubles
    other_passed v = coded 0xC3 beyond i refl (rw (ne_eqb _ _ v))

  -- ---- a number of two bytes
  module _ (d : is_double b ≡ true) (n : ℕ) (w : n ≡ b * 256 + byte_of rom (p + 1)) where
    abbrev far : ℕ
    far = pick (passes kinds n (number_of rom (p + 2))) (p + 2) beyond

    two : far ≡ passed_of rom wide kinds p
    unfolding passed_of behind_of
    two =
        let r = bounds 1 0xF b d in
        let h : 0x100 ≤ n = omega arith in
        let f = double_plain n h in
        let g : behind n (p + 2) ≡ passed_of rom wide kinds p = rw (w, e, rw e at d) in
        rw f at g

    not_end : eqb n 0xC2 ≡ false
    not_end = let r = bounds 1 0xF b d in ne_eqb n 0xC2 (λ i. omega arith)

    pub unlisted_passed : code_of n ≡ 0 → beyond ≡ passed_of rom wide kinds p
    unlisted_passed z = let x : beyond ≡ far = rw (eq-eqb _ _ z) in x ∙ two

    pub misplaced_passed : misplaced_of (code_of n) true ≡ true → beyond ≡ passed_of rom wide kinds p
    misplaced_passed m = let x : beyond ≡ far = by (eqb (code_of n) 0) refl in x ∙ two
      where
        by : (z : Bool) → eqb (code_of n) 0 ≡ z → beyond ≡ far
        by true z = rw z
        by false z = rw (z, m)

    -- a program number
    module _ (l : 0x800 ≤ n) (u : n ≤ 0xFFF) where
      code_is : code_of n ≡ 0x11_00_00_00
      code_is = sym (a_program n l u)

      pub unknown_passed : kind_of kinds n ≡ 0 → beyond ≡ passed_of rom wide kinds p
      unfolding misplaced_of
      unknown_passed k = let x : beyond ≡ far = rw (code_is, not_end, eq-eqb _ _ k) in x ∙ two

      pub known_passed : (kind_of kinds n ≡ 0 → ⊥) → p + 2 ≡ passed_of rom wide kinds p
      unfolding misplaced_of
      known_passed k = let x : p + 2 ≡ far = rw (code_is, not_end, ne_eqb _ _ k) in x ∙ two

    -- one of the list
    abbrev ordinary : ℕ → ℕ → Bool
    ordinary m c = not (eqb (family_in c) call) && not (eqb (family_in c) assign) || ltb m 0x100

    pub listed_passed : n < 0x800 → (code_of n ≡ 0 → ⊥) → misplaced_of (code_of n) true ≡ false → p + 2 ≡ passed_of rom wide kinds p
    unfolding code_of table ends lows highs doubles
    listed_passed l z m =
        let r = bounds 1 0xF b d in
        let h : 0x100 ≤ n = omega arith in
        let t = found (λ k row. ordinary k (packed row)) table not_listed n tt tt in
        let o : T (ordinary n (code_of n)) = rw (listed n l) t in
        let a = not (eqb (family_in (code_of n)) call) in
        let g = not (eqb (family_in (code_of n)) assign) in
        let q = both_hold a g (either (a && g) (ltb n 0x100) (T (a && g)) o (λ y. y) (λ y. absurd (omega (arith, ltb→lt n 0x100 y)))) in
        let i = is_false (eqb (family_in (code_of n)) call) q.0 in
        let j = is_false (eqb (family_in (code_of n)) assign) q.1 in
        let x : p + 2 ≡ far = rw (ne_eqb _ _ z, m, not_end, i, j) in
        x ∙ two
