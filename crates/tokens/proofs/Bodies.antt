-- A body read by the places that it goes on behind: what such a place says of the body from there on. Assumes nothing.
use Rattle.std.proofs.Common.{Err, Ok, Result}
use Prim.Native.Nat.{ℕ, zero, suc, ◌+◌, ◌≤◌, ◌<◌}
use mathlib.Core.Path.{◌≡◌, refl, sym, ap, subst, ◌∙◌}
use mathlib.Core.Bool.{Bool, true, false, not, ◌||◌}
use mathlib.Core.List.{List}
use native.Mathlib.Omega.{arith}
use borrow.Author.Tests.{le-ltb, lt-ltb, eq-eqb, ne_eqb, ltb-true, leb-true}
use lib.Dec.{T, eqb, ltb, leb, ltb→lt, eqb→eq}
use Rattle.cells.specs.Choice.{pick}
use Rattle.cells.specs.Laws.Tests.{neqb→ne}
use Rattle.cells.specs.Laws.Facts.{holds, four_hold, both_hold, and_first, and_second, join_hold, follows, is_true, is_false, not_on}
use Rattle.rom.specs.Bytes.{byte_of, word16_of}
use Rattle.tokens.specs.Family.{call, assign}
use Rattle.tokens.specs.Row.{number}
use Rattle.tokens.specs.Table.{ends, lows, highs, doubles, table, row_of}
use Rattle.tokens.specs.Code.{code_of, family_in, form_in}
use Rattle.tokens.specs.Decode.{is_double, number_of, behind_number, behind_of, operand_of, formed, listed, token_of, token_if_whole}
use Rattle.tokens.specs.Decode.{decode_of}
use Rattle.tokens.specs.Place.{judged, misplaced_of, read_of}
use Rattle.tokens.specs.Body.{kind_of, number_in, unknown_by, unknown_of, body_onward, after_of, body_of}
use Rattle.tokens.specs.Laws.Tokens.{number_ahead, behind_ahead, decoded_is, body_is, body_stops, body_goes}
use Rattle.tokens.specs.Laws.Rows.{code_fact}
use Rattle.tokens.specs.Joints.Body.{beyond, passes, passed_of, ends_at, stopped_of}
use Rattle.tokens.specs.declared.decoding.Token.{Token}
use Rattle.tokens.specs.declared.decoding.Decoded.{Decoded}
use Rattle.tokens.specs.declared.decoding.Decoded.TheVariants.{Whole}
use Rattle.tokens.specs.Body.{BodyRead, Ends, Stops}

-- ---- what the list says of every code
-- what may stand in a body is no definition
in_body : (n : ℕ) → T (misplaced_of (code_of n) true || ltb (form_in (code_of n)) 5)
unfolding misplaced_of table ends lows highs doubles
in_body n = code_fact (λ c. misplaced_of c true || ltb (form_in c) 5) tt tt tt n

-- behind b(to) stands a number
assigns : (n : ℕ) → T (not (eqb (family_in (code_of n)) assign) || eqb (form_in (code_of n)) number)
unfolding table ends lows highs doubles
assigns n = code_fact (λ c. not (eqb (family_in c) assign) || eqb (form_in c) number) tt tt tt n

same_unknown : (a b x y z : Bool) → (T b → y ≡ z) → pick a x (pick b y false) ≡ pick a x (pick b z false)
same_unknown true b x y z e = refl
same_unknown false true x y z e = e tt
same_unknown false false x y z e = refl

module _ (rom : List ℕ) (length : ℕ) (wide : Bool) (p : ℕ) where
  abbrev n : ℕ
  n = number_of rom p

  abbrev q : ℕ
  q = behind_number rom p

  abbrev next : ℕ
  next = behind_of rom wide q (form_in (code_of n))

  abbrev this : Token
  this = token_of n (code_of n) (operand_of rom length wide q (form_in (code_of n))) next

  formed_at : (form : ℕ) → form < 5 → T (formed (operand_of rom length wide q form))
  unfolding operand_of
  formed_at zero h = tt
  formed_at (suc zero) h = tt
  formed_at (suc (suc zero)) h = tt
  formed_at (suc (suc (suc zero))) h = tt
  formed_at (suc (suc (suc (suc zero)))) h = tt
  formed_at (suc (suc (suc (suc (suc k))))) h = absurd (omega arith)

  -- ---- where a body does not go on
  pub ends_here : ends_at rom length p ≡ true → Ends p ≡ stopped_of p (read_of rom length wide true p)
  unfolding read_of decode_of token_if_whole operand_of behind_of misplaced_of code_of row_of table ends lows highs doubles
  ends_here h =
      let l = ltb-true p length (and_first (ltb p length) (eqb (byte_of rom p) 0xC2) h) in
      let e = eqb→eq (byte_of rom p) 0xC2 (holds (eqb (byte_of rom p) 0xC2) (and_second (ltb p length) (eqb (byte_of rom p) 0xC2) h)) in
      let k : p + 1 ≤ length = omega arith in
      rw (e, le-ltb _ _ k)

  -- a number is C2 where the byte is
  same_end : n ≡ 0xC2 → byte_of rom p ≡ 0xC2
  same_end e = by (is_double (byte_of rom p)) refl
    where
      by : (d : Bool) → is_double (byte_of rom p) ≡ d → byte_of rom p ≡ 0xC2
      by true d =
          let l = leb-true 1 (byte_of rom p) (and_first (leb 1 (byte_of rom p)) (leb (byte_of rom p) 0xF) d) in
          let w : number_of rom p ≡ word16_of rom p = rw d in
          absurd (omega arith)
      by false d = let w : number_of rom p ≡ byte_of rom p = rw d in sym w ∙ e

  abbrev pub refused_at : Result Token ℕ → BodyRead
  refused_at (Err why) = Stops p why
  refused_at (Ok t) = Stops p 12

  abbrev Same : Decoded → Type 0
  Same d = stopped_of p (judged true d) ≡ refused_at (judged true d)

  pub refused_here : ends_at rom length p ≡ false → stopped_of p (read_of rom length wide true p) ≡ refused_at
      (read_of rom length wide true p)
  unfolding read_of
  refused_here h = decoded_is Same rom length wide p refl (λ l k. by (misplaced_of (code_of n) true) refl l) (λ l. refl)
    where
      no_end : next ≤ length → n ≡ 0xC2 → ⊥
      no_end l e =
          let m = number_ahead rom p in
          let a = behind_ahead rom wide q (form_in (code_of n)) in
          let k : p < length = omega arith in
          subst T (rw (lt-ltb _ _ k, eq-eqb _ _ (same_end e)) at h) tt

      by : (m : Bool) → misplaced_of (code_of n) true ≡ m → next ≤ length → Same (Whole this)
      by true m l = rw m
      by false m l = rw (m, ne_eqb n 0xC2 (no_end l))

  -- ---- by the program numbers defined so far
  module _ (kinds : List ℕ) where
    abbrev passing : Bool
    passing = passes kinds n (number_of rom q)

    abbrev unknown : Bool
    unknown = unknown_by kinds (code_of n) n (number_of rom q)

    unknown_here_lem : unknown_of kinds this ≡ unknown
    unfolding unknown_of operand_of
    unknown_here_lem =
        same_unknown (eqb (family_in (code_of n)) call) (eqb (family_in (code_of n)) assign) (eqb (kind_of kinds n) 0)
        (not (eqb (kind_of kinds (number_in this.operand)) 0xB8)) (not (eqb (kind_of kinds (number_of rom q)) 0xB8))
        (λ a.
        let f = follows (eqb (family_in (code_of n)) assign) (eqb (form_in (code_of n)) number) (assigns n) a in
        rw (eqb→eq (form_in (code_of n)) number f))

    -- a token that a body goes on behind
    module _ (h : passing ≡ true) where
      abbrev parts : T (not (eqb (code_of n) 0)) × T (not (misplaced_of (code_of n) true)) × T (not (eqb n 0xC2)) × T (not unknown)
      parts = four_hold (not (eqb (code_of n) 0)) (not (misplaced_of (code_of n) true)) (not (eqb n 0xC2)) (not unknown) (holds passing h)

      in_list : listed (code_of n) this.operand ≡ true
      in_list =
          let m = is_false (misplaced_of (code_of n) true) parts.1 in
          let f : T (ltb (form_in (code_of n)) 5) = rw m at (in_body n) in
          is_true (listed (code_of n) this.operand)
          (join_hold (not (eqb (code_of n) 0)) (formed this.operand) parts.0
          (formed_at (form_in (code_of n)) (ltb→lt (form_in (code_of n)) 5 f)))

      read_here : next ≤ length → read_of rom length wide true p ≡ Ok this
      unfolding read_of decode_of token_if_whole
      read_here l = rw (le-ltb _ _ l, in_list, is_false (misplaced_of (code_of n) true) parts.1)

      goes : next ≤ length → body_of rom length wide kinds p ≡ body_of rom length wide kinds next
      goes l =
          body_goes rom length wide kinds p this (read_here l) (neqb→ne n 0xC2 parts.2)
          (unknown_here_lem ∙ is_false unknown parts.3)

      cut : length < next → read_of rom length wide true p ≡ Err 10
      unfolding read_of decode_of token_if_whole
      cut l = rw (lt-ltb _ _ l)

    -- one that it does not
    module _ (h : passing ≡ false) where
      abbrev go : ℕ → BodyRead
      go x = body_of rom length wide kinds x

      abbrev Halts : Decoded → Type 0
      Halts d = after_of kinds p (judged true d) go ≡ stopped_of p (judged true d)

      whole_halts : T (listed (code_of n) this.operand) → Halts (Whole this)
      whole_halts l = by_place (misplaced_of (code_of n) true) refl
        where
          by_end : misplaced_of (code_of n) true ≡ false → (e : Bool) → eqb n 0xC2 ≡ e
              → body_onward (eqb n 0xC2) (unknown_of kinds this) p go next ≡ stopped_of p (Ok this)
          by_end m true e = rw e
          by_end m false e =
              let c = is_false (eqb (code_of n) 0) (both_hold (not (eqb (code_of n) 0)) (formed this.operand) l).0 in
              let u : unknown_of kinds this ≡ true = unknown_here_lem ∙ not_on unknown (rw (c, m, e) at h) in
              rw (e, u)

          by_place : (m : Bool) → misplaced_of (code_of n) true ≡ m → Halts (Whole this)
          by_place true m = rw m
          by_place false m = rw m (by_end m (eqb n 0xC2) refl)

      halts : body_of rom length wide kinds p ≡ stopped_of p (read_of rom length wide true p)
      unfolding read_of
      halts = body_is rom length wide kinds p ∙ decoded_is Halts rom length wide p refl (λ a l. whole_halts l) (λ a. refl)

    -- by the place
    pub passed_on : length < beyond → passed_of rom wide kinds p ≤ length
        → (p < passed_of rom wide kinds p) × (body_of rom length wide kinds p ≡ body_of rom length wide kinds (passed_of rom wide kinds p))
    unfolding passed_of
    passed_on b l = by passing refl
      where
        by : (h : Bool) → passing ≡ h
            → (p < passed_of rom wide kinds p) × (body_of rom length wide kinds p ≡ body_of rom length wide kinds
            (passed_of rom wide kinds p))
        by true h =
            let m = number_ahead rom p in
            let a = behind_ahead rom wide q (form_in (code_of n)) in
            let k : next ≤ length = rw h at l in
            let f : p < next = omega arith in
            rw h (f, goes h k)
        by false h = let k : beyond ≤ length = rw h at l in absurd (omega arith)

    pub passed_not : length < passed_of rom wide kinds p → body_of rom length wide kinds p ≡ stopped_of p (read_of rom length wide true p)
    unfolding passed_of
    passed_not l = by passing refl
      where
        by : (h : Bool) → passing ≡ h → body_of rom length wide kinds p ≡ stopped_of p (read_of rom length wide true p)
        by true h =
            let k : length < next = rw h at l in
            let r = cut h k in
            body_stops rom length wide kinds p 10 r ∙ sym (ap (stopped_of p) r)
        by false h = halts h
