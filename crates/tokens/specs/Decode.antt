-- The token that stands at a place: whole, with its operand and the place behind it; or cut off by the program length (refusal 10); or
-- none of the list's (refusal 11). Assumes nothing.
use Rattle.std.specs.Prelude.{ℕ, ◌+◌, Bool, true, not, ◌&&◌, List, [], ◌∷◌, ltb, leb, eqb}
use Rattle.cells.specs.Choice.{pick, find}
use Rattle.rom.specs.Bytes.{byte_of, word16_of, word32_of}
use Rattle.rom.specs.Branch.{offset_of, aim_of}
use Rattle.tokens.specs.Row.{literal, string, offset, number, head, named_head}
use Rattle.tokens.specs.Table.{is_program}
use Rattle.tokens.specs.Code.{code_of, form_in}
use Rattle.tokens.specs.declared.decoding.Operand.{Operand}
use Rattle.tokens.specs.declared.decoding.Operand.TheVariants.{Nothing, Literal, Text, Branch, Number, Definition}
use Rattle.tokens.specs.declared.decoding.Token.{Token}
use Rattle.tokens.specs.declared.decoding.Decoded.{Decoded}
use Rattle.tokens.specs.declared.decoding.Decoded.TheVariants.{Cut, Unlisted, Whole}

-- "A number is one byte, or two when the first is 01-0F."
abbrev pub is_double : ℕ → Bool
is_double b = leb 0x01 b && leb b 0x0F

abbrev pub number_of : List ℕ → ℕ → ℕ
number_of rom p = pick (is_double (byte_of rom p)) (word16_of rom p) (byte_of rom p)

abbrev pub number_size : List ℕ → ℕ → ℕ
number_size rom p = pick (is_double (byte_of rom p)) 2 1

-- the place behind the FCode string at a place: "FCode strings are a length byte and that many bytes."
abbrev pub behind_string : List ℕ → ℕ → ℕ
behind_string rom p = p + 1 + byte_of rom p

-- the place behind the number at a place
abbrev pub behind_number : List ℕ → ℕ → ℕ
behind_number rom p = p + number_size rom p

-- the place behind an operand of a form that starts at p; a head ends with its kind byte
abbrev pub behinds : List ℕ → Bool → ℕ → List (ℕ × ℕ)
behinds rom wide p =
    (literal, p + 4) ∷
    (string, behind_string rom p) ∷
    (offset, p + pick wide 2 1) ∷
    (number, behind_number rom p) ∷
    (head, behind_number rom p + 1) ∷
    (named_head, behind_number rom (behind_string rom p) + 1) ∷
    []

unfoldable pub behind_of : List ℕ → Bool → ℕ → ℕ → ℕ
behind_of rom wide p form = find (behinds rom wide p) p form

-- a definition: its number, and the byte behind it
abbrev pub definition_of : List ℕ → ℕ → Operand
definition_of rom p = Definition (number_of rom p) (byte_of rom (behind_number rom p))

abbrev pub operands : List ℕ → ℕ → Bool → ℕ → List (ℕ × Operand)
operands rom length wide p =
    (literal, Literal (word32_of rom p)) ∷
    (string, Text (p + 1) (byte_of rom p)) ∷
    (offset, Branch (offset_of rom wide p) (aim_of rom length wide p)) ∷
    (number, Number (number_of rom p)) ∷
    (head, definition_of rom p) ∷
    (named_head, definition_of rom (behind_string rom p)) ∷
    []

unfoldable pub operand_of : List ℕ → ℕ → Bool → ℕ → ℕ → Operand
operand_of rom length wide p form = find (operands rom length wide p) Nothing form

-- refusal 11: "token not in the list; a new number outside 0x800-0xFFF; B5, B6 or CA without a kind B7-BA behind it"
abbrev pub is_kind : ℕ → Bool
is_kind b = leb 0xB7 b && leb b 0xBA

abbrev pub formed : Operand → Bool
formed Nothing = true
formed (Literal n) = true
formed (Text start count) = true
formed (Branch bits aim) = true
formed (Number n) = true
formed (Definition n k) = is_program n && is_kind k

abbrev pub listed : ℕ → Operand → Bool
listed code o = not (eqb code 0) && formed o

-- a token: its number, its row's code, its operand, and the place behind it
abbrev pub token_of : ℕ → ℕ → Operand → ℕ → Token
token_of n code o next = record { number = n; code = code; operand = o; next = next }

-- what is left to say once it is known where the token ends
unfoldable pub token_if_whole : ℕ → ℕ → ℕ → Operand → ℕ → Decoded
token_if_whole length n code o next = pick (ltb length next) Cut (pick (listed code o) (Whole (token_of n code o next)) (Unlisted code))

unfoldable pub decode_of : List ℕ → ℕ → Bool → ℕ → Decoded
decode_of rom length wide p =
    token_if_whole length (number_of rom p) (code_of (number_of rom p))
    (operand_of rom length wide (behind_number rom p) (form_in (code_of (number_of rom p))))
    (behind_of rom wide (behind_number rom p) (form_in (code_of (number_of rom p))))
