-- The token at a place, by what the code has found of it: a law for each answer. Assumes nothing.
use Prim.Native.Nat.{ℕ, ◌+◌, ◌≤◌, ◌<◌, ◌^◌}
use mathlib.Core.Path.{◌≡◌}
use mathlib.Core.Bool.{Bool, true, false}
use mathlib.Core.List.{List}
use native.Mathlib.Omega.{arith}
use borrow.Author.Tests.{lt-ltb, le-ltb}
use Rattle.tokens.specs.Code.{code_of, form_in}
use Rattle.tokens.specs.Decode.{number_of, behind_number, behind_of, operand_of, listed, token_of, token_if_whole, decode_of}
use Rattle.tokens.specs.declared.decoding.Operand.{Operand}
use Rattle.tokens.specs.declared.decoding.Decoded.TheVariants.{Cut, Unlisted, Whole}

-- a token's number, its code, where its operand starts and where it ends
pub record Found (rom : List ℕ) (wide : Bool) (p number code start next : ℕ) : Type 0 where
  pub numbered : number ≡ number_of rom p
  pub coded : code ≡ code_of number
  pub starts : start ≡ behind_number rom p
  pub ends : next ≡ behind_of rom wide start (form_in code)

module _ {rom : List ℕ} {wide : Bool} {p number code start next : ℕ} (f : Found rom wide p number code start next) (length : ℕ) where
  decoded : decode_of rom length wide p ≡ token_if_whole length number code (operand_of rom length wide start (form_in code)) next
  unfolding decode_of
  decoded = rw (← f.numbered, ← f.coded, ← f.starts, ← f.ends)

  pub cut_off : length < next → Cut ≡ decode_of rom length wide p
  unfolding token_if_whole
  cut_off h = rw (decoded, lt-ltb _ _ h)

  -- a string that lies whole before the length starts where a place can be counted
  pub string_fits : next ≤ length → length < 2 ^ 32 → form_in code ≡ 2 → start + 1 < 2 ^ 32
  unfolding behind_of
  string_fits h l e =
      let x = f.ends in
      let y = rw e at x in
      omega arith

  module _ (o : Operand) (e : o ≡ operand_of rom length wide start (form_in code)) (h : next ≤ length) where
    pub is_whole : listed code o ≡ true → Whole (token_of number code o next) ≡ decode_of rom length wide p
    unfolding token_if_whole
    is_whole l = rw (decoded, le-ltb _ _ h, ← e, l)

    pub is_unlisted : listed code o ≡ false → Unlisted code ≡ decode_of rom length wide p
    unfolding token_if_whole
    is_unlisted l = rw (decoded, le-ltb _ _ h, ← e, l)
