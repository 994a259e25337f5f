-- "Bytes past the length are ignored": a token is read alike from two ROMs whose bytes are the same below the length. A token that
-- ends before the length was told by bytes before it; one that does not end there is cut off, whatever lies behind. Assumes nothing.
use Prim.Native.Nat.{ℕ, zero, suc, ◌+◌, ◌≤◌, ◌<◌}
use native.Mathlib.Omega.{arith}
use Rattle.std.proofs.Math.Decide.{dec_le}
use Rattle.std.specs.Prelude.{◌≡◌, Bool, false, List, eqb}
use Rattle.std.proofs.Math.Path.{refl, ap}
use Rattle.std.proofs.Common.{sym, ◌∙◌, subst, lt-ltb}
use Rattle.std.proofs.Math.Bool.{true}
use Rattle.cells.specs.Choice.{pick}
use Rattle.rom.specs.Bytes.{byte_of, word16_of}
use Rattle.rom.specs.Alike.{SameBelow, Alike}
use Rattle.rom.specs.Header.{length_of, wide_of, header_of}
use Rattle.rom.specs.Laws.Past.{SameFrom, same_back, same_all, same_word16, same_word32, same_offset, same_aim}
use Rattle.rom.specs.Laws.Past.{same_length, same_wide, same_header}
use Rattle.tokens.specs.Row.{literal, string, offset, number, head, named_head}
use Rattle.tokens.specs.Code.{code_of, form_in}
use Rattle.tokens.specs.Decode.{is_double, number_of, behind_string, behind_number, behind_of, definition_of, operand_of, token_if_whole}
use Rattle.tokens.specs.Decode.{decode_of}
use Rattle.tokens.specs.Laws.Tokens.{number_ahead, behind_ahead}
use Rattle.tokens.specs.Place.{read_of}
use Rattle.tokens.specs.Body.{after_of, body_from}
use Rattle.tokens.specs.declared.decoding.Operand.{Operand}
use Rattle.tokens.specs.declared.decoding.Operand.TheVariants.{Literal, Text, Branch, Number}
use Rattle.tokens.specs.declared.decoding.Decoded.TheVariants.{Cut}

-- what holds of both ways of a choice in two ROMs, of where an operand ends and of what it is, holds of the way that the test takes
by_form : (Q : ℕ → ℕ → Operand → Operand → Type 0) (b : Bool) (x x' y y' : ℕ) (u u' v v' : Operand) → Q x y u v → Q x' y' u' v'
    → Q (pick b x x') (pick b y y') (pick b u u') (pick b v v')
by_form Q true x x' y y' u u' v v' p q = p
by_form Q false x x' y y' u u' v v' p q = q

module _ (from size : ℕ) (rom other : List ℕ) (same : SameFrom from size rom other) where
  -- a number
  number_as : (b : Bool) (p : ℕ) → from ≤ p → p + pick b 2 1 ≤ size
      → pick b (word16_of rom p) (byte_of rom p) ≡ pick b (word16_of other p) (byte_of other p)
  number_as true p f l = same_word16 from size rom other same p f l
  number_as false p f l = same p f (omega arith)

  module _ (p : ℕ) (f : from ≤ p) (l : behind_number rom p ≤ size) where
    first_byte : byte_of rom p ≡ byte_of other p
    first_byte = same p f (omega (arith, number_ahead rom p))

    pub same_number : number_of rom p ≡ number_of other p
    same_number =
        number_as (is_double (byte_of rom p)) p f l ∙ ap (λ (b : ℕ). pick (is_double b) (word16_of other p) (byte_of other p)) first_byte

    pub same_behind_number : behind_number rom p ≡ behind_number other p
    same_behind_number = ap (λ (b : ℕ). p + pick (is_double b) 2 1) first_byte

  -- a string
  same_behind_string : (p : ℕ) → from ≤ p → p < size → behind_string rom p ≡ behind_string other p
  same_behind_string p f l = ap (λ (b : ℕ). p + 1 + b) (same p f l)

  -- a definition, with its kind byte
  same_definition : (p : ℕ) → from ≤ p → behind_number rom p + 1 ≤ size → definition_of rom p ≡ definition_of other p
  same_definition p f l =
      let g : from ≤ behind_number rom p = omega (arith, number_ahead rom p) in
      let e : byte_of rom (behind_number rom p) ≡ byte_of other (behind_number other p) =
      same (behind_number rom p) g (omega arith) ∙ ap (λ (q : ℕ). byte_of other q) (same_behind_number p f (omega arith))
      in
      rw (e, same_number p f (omega arith))

  -- an operand that ends before the length, and where it ends
  abbrev Same : ℕ → ℕ → Operand → Operand → Type 0
  Same n m o q = n ≤ size → (n ≡ m) × (o ≡ q)

  same_operand : (wide : Bool) (p form : ℕ) → from ≤ p
      → Same (behind_of rom wide p form) (behind_of other wide p form) (operand_of rom size wide p form) (operand_of other size wide p form)
  unfolding behind_of operand_of
  same_operand wide p form f =
      by_form Same (eqb form literal) _ _ _ _ _ _ _ _ (λ l. (refl, ap (λ (n : ℕ). Literal n) (same_word32 from size rom other same p f l)))
      (by_form Same (eqb form string) _ _ _ _ _ _ _ _
      (λ l. let h : p < size = omega arith in (same_behind_string p f h, ap (λ (n : ℕ). Text (p + 1) n) (same p f h)))
      (by_form Same (eqb form offset) _ _ _ _ _ _ _ _
      (λ l. (refl, λ i. Branch (same_offset from size rom other same wide p f l i) (same_aim from size rom other same size wide p f l i)))
      (by_form Same (eqb form number) _ _ _ _ _ _ _ _ (λ l. (same_behind_number p f l, ap (λ (n : ℕ). Number n) (same_number p f l)))
      (by_form Same (eqb form head) _ _ _ _ _ _ _ _
      (λ l. (ap (λ (q : ℕ). q + 1) (same_behind_number p f (omega arith)), same_definition p f l))
      (by_form Same (eqb form named_head) _ _ _ _ _ _ _ _ (λ l. named l) (λ l. (refl, refl)))))))
    where
      named : Same (behind_number rom (behind_string rom p) + 1) (behind_number other (behind_string other p) + 1)
          (definition_of rom (behind_string rom p)) (definition_of other (behind_string other p))
      named l =
          let s = behind_string rom p in
          let g : from ≤ s = omega arith in
          let h : p < size = omega (arith, number_ahead rom s) in
          let e = same_behind_string p f h in (
            ap (λ (q : ℕ). q + 1) (same_behind_number s g (omega arith) ∙ ap (λ (q : ℕ). behind_number other q) e),
            same_definition s g l ∙ ap (λ (q : ℕ). definition_of other q) e,
          )

  -- where the token at a place ends
  abbrev end_of : Bool → ℕ → ℕ
  end_of wide p = behind_of rom wide (behind_number rom p) (form_in (code_of (number_of rom p)))

  -- a token that ends before the length
  whole_same : (wide : Bool) (p : ℕ) → from ≤ p → end_of wide p ≤ size → decode_of rom size wide p ≡ decode_of other size wide p
  unfolding decode_of
  whole_same wide p f l =
      let h : behind_number rom p ≤ size = omega (arith, behind_ahead rom wide (behind_number rom p) (form_in (code_of (number_of rom p))))
      in
      let g : from ≤ behind_number rom p = omega (arith, number_ahead rom p) in
      let o = same_operand wide (behind_number rom p) (form_in (code_of (number_of rom p))) g l in
      rw (o.0, o.1, same_number p f h, same_behind_number p f h)

  -- one that does not is cut off
  cut_off : (wide : Bool) (p : ℕ) → size < end_of wide p → decode_of rom size wide p ≡ Cut
  unfolding decode_of token_if_whole
  cut_off wide p l = rw (lt-ltb size (end_of wide p) l)

module _ (from size : ℕ) (rom other : List ℕ) (same : SameFrom from size rom other) where
  pub same_decode : (wide : Bool) (p : ℕ) → from ≤ p → decode_of rom size wide p ≡ decode_of other size wide p
  same_decode wide p f =
      elim (dec_le (end_of from size rom other same wide p) size) [
        | yes l ↦ whole_same from size rom other same wide p f l
        | no l ↦
            elim (dec_le (end_of from size other rom back wide p) size) [
              | yes m ↦ sym (whole_same from size other rom back wide p f m)
              | no m ↦
                  cut_off from size rom other same wide p (omega arith) ∙ sym (cut_off from size other rom back wide p (omega arith))
            ]
      ]
    where
      back : SameFrom from size other rom
      back = same_back from size rom other same

-- ---- two ROMs with the same tokens
abbrev pub SameTokens : ℕ → List ℕ → List ℕ → Type 0
SameTokens size rom other = (wide : Bool) (p : ℕ) → decode_of rom size wide p ≡ decode_of other size wide p

pub tokens_below : (size : ℕ) (rom other : List ℕ) → SameBelow size rom other → SameTokens size rom other
tokens_below size rom other same wide p = same_decode 0 size rom other (same_all size rom other same) wide p (omega arith)

module _ (size : ℕ) (rom other : List ℕ) (same : SameTokens size rom other) where
  pub same_read : (wide within : Bool) (p : ℕ) → read_of rom size wide within p ≡ read_of other size wide within p
  unfolding read_of
  same_read wide within p = rw (same wide p)

  pub same_body : (wide : Bool) (kinds : List ℕ) (k p : ℕ) → body_from rom size wide kinds k p ≡ body_from other size wide kinds k p
  unfolding body_from
  same_body wide kinds zero p = refl
  same_body wide kinds (suc k) p = λ i. after_of kinds p (same_read wide true p i) (λ q. same_body wide kinds k q i)

-- What opening and screening ask of a ROM is the same of two: the verdict of the header, the length, the first width, and the tokens.
pub record SamePrograms (rom other : List ℕ) : Type 0 where
  pub header : header_of rom ≡ header_of other
  pub length : length_of rom ≡ length_of other
  pub wide : wide_of rom ≡ wide_of other
  pub tokens : SameTokens (length_of rom) rom other

pub programs_back : {rom other : List ℕ} → SamePrograms rom other → SamePrograms other rom
programs_back {rom} {other} s =
    record {
      header = sym s.header;
      length = sym s.length;
      wide = sym s.wide;
      tokens = λ w p. subst (λ n. decode_of other n w p ≡ decode_of rom n w p) s.length (sym (s.tokens w p));
    }

-- ROMs that differ past their length alone
pub alike_programs : {rom other : List ℕ} → Alike rom other → SamePrograms rom other
alike_programs {rom} {other} a =
    record {
      header = same_header a;
      length = same_length a;
      wide = same_wide a;
      tokens = tokens_below (length_of rom) rom other a.program.same;
    }
