-- A token at a glance, by what the code has found of it: its form, its first byte. Assumes nothing.
use Rattle.std.specs.Prelude.{ℕ, ◌+◌, ◌*◌, ◌≤◌, ◌<◌, ◌≡◌, Bool, not, List, T, eqb, ltb, leb}
use Rattle.std.proofs.Math.Path.{refl, sym}
use Rattle.std.proofs.Common.{◌∙◌}
use Rattle.std.proofs.Math.Bool.{true, false}
use native.Mathlib.Omega.{arith}
use borrow.Author.Tests.{eq-eqb, ne_eqb, eqb-true, eqb-false, le-ltb, lt-ltb, leb-true}
use Rattle.cells.specs.Choice.{pick}
use Rattle.cells.specs.Laws.Facts.{and_first}
use Rattle.rom.specs.Bytes.{byte_of}
use Rattle.tokens.specs.Table.{ends, lows, highs, doubles, table, program, is_program, row_of}
use Rattle.tokens.specs.Code.{packed, code_of, form_in}
use Rattle.tokens.specs.Decode.{is_double, number_of, behind_number, behind_string, behind_of}
use Rattle.tokens.specs.Decode.{operand_of, listed, token_of, token_if_whole, decode_of}
use Rattle.tokens.specs.Laws.Tokens.{number_ahead, behind_ahead}
use Rattle.tokens.specs.Laws.Rows.{code_fact}
use Rattle.tokens.specs.Laws.Glance.{double_plain}
use Rattle.tokens.specs.Joints.Glance.{seen_as, seen_in, nothing_seen, glanced, glance_of}
use Rattle.tokens.specs.Joints.Glance.{two_bytes, first_says, seen_from, ended_of, branched_of, glance_defined}
use Rattle.tokens.specs.declared.decoding.Token.{Token}
use Rattle.tokens.specs.declared.decoding.Operand.TheVariants.{Nothing}
use Rattle.tokens.specs.declared.decoding.Decoded.TheVariants.{Cut, Unlisted, Whole}

-- ---- a glance by its tests
shown : (cut good : Bool) (code : ℕ) (t : Token)
    → glanced (pick cut Cut (pick good (Whole t) (Unlisted code))) ≡ pick cut nothing_seen (pick good (seen_in t) nothing_seen)
shown true good code t = refl
shown false true code t = refl
shown false false code t = refl

either_way : (b : Bool) → pick b nothing_seen nothing_seen ≡ nothing_seen
either_way true = refl
either_way false = refl

module _ (rom : List ℕ) (length : ℕ) (wide : Bool) (code n p : ℕ) where
  abbrev ended_at : ℕ
  ended_at = behind_of rom wide p (form_in code)

  abbrev token : Token
  token = token_of n code (operand_of rom length wide p (form_in code)) ended_at

  seen_by : seen_from rom length wide code n p
      ≡ pick (ltb length ended_at) nothing_seen (pick (listed code token.operand) (seen_in token) nothing_seen)
  unfolding seen_from token_if_whole
  seen_by = shown (ltb length ended_at) (listed code token.operand) code token

  pub not_listed : code ≡ 0 → nothing_seen ≡ seen_from rom length wide code n p
  not_listed z = sym (seen_by ∙ rw (eq-eqb _ _ z) (either_way (ltb length ended_at)))

  module _ (z : code ≡ 0 → ⊥) where
    pub of_literal : form_in code ≡ 1 → ended_of length code n (p + 4) ≡ seen_from rom length wide code n p
    unfolding behind_of operand_of
    of_literal e = sym (seen_by ∙ rw (e, ne_eqb _ _ z))

    pub of_string : form_in code ≡ 2 → ended_of length code n (behind_string rom p) ≡ seen_from rom length wide code n p
    unfolding behind_of operand_of
    of_string e = sym (seen_by ∙ rw (e, ne_eqb _ _ z))

    pub of_branch : form_in code ≡ 3 → branched_of rom length wide code n p ≡ seen_from rom length wide code n p
    unfolding behind_of operand_of
    of_branch e = sym (seen_by ∙ rw (e, ne_eqb _ _ z))

    pub of_number : form_in code ≡ 4 → ended_of length code (number_of rom p) (behind_number rom p) ≡ seen_from rom length wide code n p
    unfolding behind_of operand_of
    of_number e = sym (seen_by ∙ rw (e, ne_eqb _ _ z))

    pub of_head : form_in code ≡ 5 → glance_defined rom length code p ≡ seen_from rom length wide code n p
    unfolding behind_of operand_of
    of_head e = sym (seen_by ∙ rw (e, ne_eqb _ _ z))

    pub of_named : form_in code ≡ 6 → glance_defined rom length code (behind_string rom p) ≡ seen_from rom length wide code n p
    unfolding behind_of operand_of
    of_named e = sym (seen_by ∙ rw (e, ne_eqb _ _ z))

    pub of_none : form_in code ≡ 0 → ended_of length code n p ≡ seen_from rom length wide code n p
    unfolding behind_of operand_of
    of_none e = sym (seen_by ∙ rw (e, ne_eqb _ _ z))

    -- no form at all
    pub of_other : behind_of rom wide p (form_in code) ≡ p → operand_of rom length wide p (form_in code) ≡ Nothing
        → ended_of length code n p ≡ seen_from rom length wide code n p
    of_other b o = sym (seen_by ∙ rw (b, o, ne_eqb _ _ z))

pub in_time : (length code n next : ℕ) → next ≤ length → seen_as code n next 0 0 ≡ ended_of length code n next
in_time length code n next h = rw (le-ltb _ _ h)

-- ---- what a first byte says
no_such_code : (n : ℕ) → T (not (eqb (code_of n) two_bytes))
unfolding table ends lows highs doubles
no_such_code n = code_fact (λ c. not (eqb c two_bytes)) tt tt tt n

module _ (b code : ℕ) (e : code ≡ first_says b) where
  pub has_second : code ≡ two_bytes → is_double b ≡ true
  unfolding first_says
  has_second t = by (is_double b) refl e
    where
      by : (d : Bool) → is_double b ≡ d → code ≡ pick d two_bytes (code_of b) → is_double b ≡ true
      by true h f = h
      by false h f =
          let k : code_of b ≡ two_bytes = sym f ∙ t in
          let m = no_such_code b in
          absurd (rw (eq-eqb _ _ k) at m)

  pub has_none : (code ≡ two_bytes → ⊥) → (is_double b ≡ false) × (code ≡ code_of b)
  unfolding first_says
  has_none t = by (is_double b) refl e
    where
      by : (d : Bool) → is_double b ≡ d → code ≡ pick d two_bytes (code_of b) → (is_double b ≡ false) × (code ≡ code_of b)
      by true h f = absurd (t f)
      by false h f = (h, f)

-- ---- the token at a place, by its first byte
module _ (rom : List ℕ) (length : ℕ) (wide : Bool) (p : ℕ) where
  pub past_end : length ≤ p → nothing_seen ≡ glance_of rom length wide p
  unfolding glance_of decode_of token_if_whole
  past_end h =
      let n = number_ahead rom p in
      let b = behind_ahead rom wide (behind_number rom p) (form_in (code_of (number_of rom p))) in
      let l : length < behind_of rom wide (behind_number rom p) (form_in (code_of (number_of rom p))) = omega arith in
      rw (lt-ltb _ _ l)

  pub of_one : (b code : ℕ) → b ≡ byte_of rom p → is_double b ≡ false → code ≡ code_of b
      → seen_from rom length wide code b (p + 1) ≡ glance_of rom length wide p
  unfolding glance_of decode_of seen_from
  of_one b code e d c = rw (c, e, rw e at d)

  pub of_two : (b n code : ℕ) → b ≡ byte_of rom p → is_double b ≡ true → n ≡ b * 256 + byte_of rom (p + 1) → code ≡ code_of n
      → seen_from rom length wide code n (p + 2) ≡ glance_of rom length wide p
  unfolding glance_of decode_of seen_from
  of_two b n code e d f c = rw (c, f, e, rw e at d)

  -- what is seen at once: a token of one byte without operand, and a program number
  pub seen_one : (b : ℕ) → b ≡ byte_of rom p → p < length → is_double b ≡ false → (code_of b ≡ 0 → ⊥) → form_in (code_of b) ≡ 0
      → glance_of rom length wide p ≡ seen_as (code_of b) b (p + 1) 0 0
  seen_one b e l d z f =
      sym (of_one b (code_of b) e d refl) ∙ sym (of_none rom length wide (code_of b) b (p + 1) z f)
      ∙ sym (in_time length (code_of b) b (p + 1) (omega arith))

  -- a number of two bytes that is cut off, whatever it is
  pub seen_cut : (b : ℕ) → b ≡ byte_of rom p → is_double b ≡ true → length < p + 2 → nothing_seen ≡ glance_of rom length wide p
  seen_cut b e d l = by (b * 256 + byte_of rom (p + 1)) refl (eqb (code_of (b * 256 + byte_of rom (p + 1))) 0) refl
    where
      by : (n : ℕ) → n ≡ b * 256 + byte_of rom (p + 1) → (z : Bool) → eqb (code_of n) 0 ≡ z → nothing_seen ≡ glance_of rom length wide p
      by n q true z = not_listed rom length wide (code_of n) n (p + 2) (eqb-true _ _ z) ∙ of_two b n (code_of n) e d q refl
      by n q false z =
          let g = leb-true 1 b (and_first (leb 1 b) (leb b 0xF) d) in
          let f : form_in (code_of n) ≡ 0 = double_plain n (omega arith) in
          let u : nothing_seen ≡ ended_of length (code_of n) n (p + 2) = rw (lt-ltb _ _ l) in
          u ∙ of_none rom length wide (code_of n) n (p + 2) (eqb-false _ _ z) f ∙ of_two b n (code_of n) e d q refl

  pub seen_program : (b n : ℕ) → b ≡ byte_of rom p → is_double b ≡ true → n ≡ b * 256 + byte_of rom (p + 1) → is_program n ≡ true
      → p + 2 ≤ length → glance_of rom length wide p ≡ seen_as (packed program) n (p + 2) 0 0
  unfolding code_of row_of
  seen_program b n e d f q l =
      let c : packed program ≡ code_of n = rw q in
      sym (of_two b n (packed program) e d f c) ∙ sym (of_none rom length wide (packed program) n (p + 2) (λ z. omega arith) refl)
      ∙ sym (in_time length (packed program) n (p + 2) l)
