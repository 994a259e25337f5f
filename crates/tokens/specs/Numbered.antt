-- What is read of a token and of a body, as document 01 numbers it: 10, "a token's bytes pass the program length", 11, "token not in the
-- list ..", 18, "token out of place", 12 in a body; or what was read. Assumes nothing.
use Rattle.std.specs.Prelude.{[], ◌∷◌, ◌++◌, List, ℕ, Err, Ok, Result}
use Rattle.cells.specs.Choice.{pick}
use Rattle.cells.specs.Numbered.{Numbered, gives, refuses}
use Rattle.rom.specs.Numbered.{aim_says}
use Rattle.tokens.specs.declared.decoding.Operand.TheVariants.{Nothing, Literal, Text, Branch, Number, Definition}
use Rattle.tokens.specs.declared.decoding.Operand.{Operand}
use Rattle.tokens.specs.declared.decoding.Token.{Token}
use Rattle.tokens.specs.declared.decoding.Decoded.{Decoded}
use Rattle.tokens.specs.declared.decoding.Decoded.TheVariants.{Cut, Unlisted, Whole}
use Rattle.tokens.specs.Body.{BodyRead, Ends, Stops}
use Rattle.tokens.specs.declared.reader.Piece.{Piece}
use Rattle.tokens.specs.declared.reader.Piece.TheVariants.{End, Raw, Listed}

-- the values of a token: its number, its code, the place behind it, and its operand's; of a branch the bits of its offset, and the place it
-- leads to where that is inside
abbrev pub operand_values : Operand → List ℕ
operand_values Nothing = []
operand_values (Literal cell) = cell ∷ []
operand_values (Text start count) = start ∷ count ∷ []
operand_values (Branch bits aim) = bits ∷ (aim_says aim).values
operand_values (Number number) = number ∷ []
operand_values (Definition number kind) = number ∷ kind ∷ []

abbrev pub token_values : Token → List ℕ
token_values t = t.number ∷ t.code ∷ t.next ∷ operand_values t.operand

-- ---- a token by its bytes
abbrev pub decoded_says : Decoded → Numbered
decoded_says Cut = refuses 10
decoded_says (Unlisted code) = record { number = 11; values = code ∷ [] }
decoded_says (Whole t) = gives (token_values t)

-- ---- and by its place
abbrev pub read_says : Result Token ℕ → Numbered
read_says (Err why) = refuses why
read_says (Ok t) = gives (token_values t)

-- ---- a body: the place of its b(;), or the refusal with the place of the token that has it
abbrev pub body_says : BodyRead → Numbered
body_says (Ends at) = gives (at ∷ [])
body_says (Stops at why) = record { number = why; values = at ∷ [] }

-- ---- a piece of the token list, which refuses nothing: nothing more, the place behind bytes of no token, or a token, where its operand
-- starts and whether offsets have 16 bits behind it
abbrev pub piece_says : Piece → Numbered
piece_says End = gives []
piece_says (Raw to) = gives (to ∷ [])
piece_says (Listed t start wide) = gives (token_values t ++ (start ∷ pick wide 1 0 ∷ []))
