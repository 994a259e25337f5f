-- The same FCode bytes behind start1 have the same tokens, at the first byte too: no start is in the token list. Assumes nothing.
use Rattle.std.specs.Prelude.{ℕ, ◌≡◌, refl, Bool, true, false, ◌||◌, List, ltb, eqb}
use Rattle.std.proofs.Common.{arith, sym, ◌∙◌, subst, true≢false, eqb-true}
use Rattle.std.proofs.Math.Decide.{dec_le}
use Rattle.cells.specs.Choice.{pick}
use Rattle.rom.specs.Bytes.{byte_of}
use Rattle.rom.specs.Spread.{is_spread, unspread_of}
use Rattle.rom.specs.Header.{wrong_rom}
use Rattle.rom.specs.Laws.Unspread.{unspread_same, unspread_header, unspread_program, unspread_wide}
use Rattle.tokens.specs.Code.{code_of}
use Rattle.tokens.specs.Table.{row_of}
use Rattle.tokens.specs.Decode.{behind_of, operand_of, token_if_whole, decode_of}
use Rattle.tokens.specs.Laws.Past.{SameTokens, SamePrograms, same_decode}
use Rattle.tokens.specs.declared.decoding.Decoded.{Decoded}
use Rattle.tokens.specs.declared.decoding.Decoded.TheVariants.{Cut, Unlisted}

-- what stands at place 0 where that holds a start
abbrev at_start : ℕ → Decoded
at_start size = pick (ltb size 1) Cut (Unlisted 0)

module _ (rom : List ℕ) (size : ℕ) (wide : Bool) where
  start1 : byte_of rom 0 ≡ 0xF1 → decode_of rom size wide 0 ≡ at_start size
  unfolding decode_of token_if_whole operand_of behind_of code_of row_of
  start1 e = rw e

  start2 : byte_of rom 0 ≡ 0xF2 → decode_of rom size wide 0 ≡ at_start size
  unfolding decode_of token_if_whole operand_of behind_of code_of row_of
  start2 e = rw e

  start4 : byte_of rom 0 ≡ 0xF3 → decode_of rom size wide 0 ≡ at_start size
  unfolding decode_of token_if_whole operand_of behind_of code_of row_of
  start4 e = rw e

  spread_start : (x y : Bool) → eqb (byte_of rom 0) 0xF2 ≡ x → eqb (byte_of rom 0) 0xF3 ≡ y → (x || y) ≡ true
      → decode_of rom size wide 0 ≡ at_start size
  spread_start true y e f s = start2 (eqb-true (byte_of rom 0) 0xF2 e)
  spread_start false true e f s = start4 (eqb-true (byte_of rom 0) 0xF3 f)
  spread_start false false e f s = absurd (true≢false (sym s))

module _ (fcode : List ℕ) (s : is_spread fcode ≡ true) where
  pub unspread_tokens : (size : ℕ) → SameTokens size fcode (unspread_of fcode)
  unspread_tokens size wide p =
      elim (dec_le 1 p) [
        | yes h ↦ same_decode 1 size fcode (unspread_of fcode) (unspread_same fcode size) wide p h
        | no h ↦
            let z : 0 ≡ p = omega arith in
            subst (λ q. decode_of fcode size wide q ≡ decode_of (unspread_of fcode) size wide q) z
            (spread_start fcode size wide _ _ refl refl s ∙ sym (start1 (unspread_of fcode) size wide refl))
      ]

  pub unspread_programs : wrong_rom fcode ≡ false → SamePrograms fcode (unspread_of fcode)
  unspread_programs w =
      record {
        header = unspread_header fcode s w;
        length = unspread_program fcode s w;
        wide = unspread_wide fcode s w;
        tokens = unspread_tokens _;
      }
