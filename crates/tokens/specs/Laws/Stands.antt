-- What is known of a token that was read: what its bytes and its place say of it. Assumes nothing.
use Rattle.std.specs.Prelude.{ℕ, ◌≡◌, refl, Bool, not, List, T, eqb, Err, Ok, Result}
use Rattle.std.proofs.Common.{subst, arith}
use Rattle.cells.specs.Laws.Tests.{pick_is}
use Rattle.cells.specs.Laws.Facts.{both_hold}
use Rattle.tokens.specs.Code.{code_of, form_in}
use Rattle.tokens.specs.Decode.{behind_number, number_of, operand_of, formed, decode_of}
use Rattle.tokens.specs.Place.{judged, misplaced_of, read_of}
use Rattle.tokens.specs.Laws.Tokens.{Follows, number_ahead, behind_ahead, decoded_is}
use Rattle.tokens.specs.declared.decoding.Token.{Token}
use Rattle.tokens.specs.declared.decoding.Decoded.{Decoded}
use Rattle.tokens.specs.declared.decoding.Decoded.TheVariants.{Cut, Unlisted, Whole}

pub record Stands (rom : List ℕ) (size : ℕ) (wide within : Bool) (p : ℕ) (t : Token) : Type 0 where
  pub follows : Follows size p t
  pub number : t.number ≡ number_of rom p
  pub code : t.code ≡ code_of t.number
  pub formed : T (formed t.operand)
  pub operand : t.operand ≡ operand_of rom size wide (behind_number rom p) (form_in t.code)
  pub placed : T (not (misplaced_of t.code within))

module _ (rom : List ℕ) (size : ℕ) (wide within : Bool) (p : ℕ) where
  -- what its bytes alone say of it
  record Decodes (t : Token) : Type 0 where
    follows : Follows size p t
    number : t.number ≡ number_of rom p
    code : t.code ≡ code_of t.number
    formed : T (formed t.operand)
    operand : t.operand ≡ operand_of rom size wide (behind_number rom p) (form_in t.code)

  abbrev DecodesTo : Decoded → Type 0
  DecodesTo Cut = Unit {0}
  DecodesTo (Unlisted code) = Unit {0}
  DecodesTo (Whole t) = Decodes t

  decodes : DecodesTo (decode_of rom size wide p)
  decodes =
      let c = code_of (number_of rom p) in
      let o = operand_of rom size wide (behind_number rom p) (form_in c) in
      let n = number_ahead rom p in
      let b = behind_ahead rom wide (behind_number rom p) (form_in c) in
      decoded_is DecodesTo rom size wide p tt
      (λ h l. record {
        follows = (omega arith, h);
        number = refl;
        code = refl;
        formed = (both_hold (not (eqb c 0)) (formed o) l).1;
        operand = refl;
      })
      (λ h. tt)

  abbrev StandsAs : Result Token ℕ → Type 0
  StandsAs (Err why) = Unit {0}
  StandsAs (Ok t) = Stands rom size wide within p t

  judged_stands : (d : Decoded) → DecodesTo d → StandsAs (judged within d)
  judged_stands Cut h = tt
  judged_stands (Unlisted code) h = tt
  judged_stands (Whole t) h =
      pick_is StandsAs (misplaced_of t.code within) (Err 18) (Ok t) (λ m. tt)
      (λ m. record {
        follows = h.follows;
        number = h.number;
        code = h.code;
        formed = h.formed;
        operand = h.operand;
        placed = m;
      })

  read_stands : StandsAs (read_of rom size wide within p)
  unfolding read_of
  read_stands = judged_stands (decode_of rom size wide p) decodes

  pub stands : (t : Token) → read_of rom size wide within p ≡ Ok t → Stands rom size wide within p t
  stands t e = subst StandsAs e read_stands
