-- A token at a glance: what a loop asks of a token, in plain numbers. Code 0 is what is cut off, or not in the list, or badly formed, and
-- says no more: why, is `read_of`'s to say. Assumes nothing.
use Rattle.std.specs.Prelude.{ℕ, ◌+◌, Bool, ◌&&◌, List, ltb, Err, Ok, Result}
use Rattle.cells.specs.Choice.{pick}
use Rattle.rom.specs.Bytes.{byte_of}
use Rattle.rom.specs.Branch.{aim_of, place_in}
use Rattle.tokens.specs.Table.{is_program}
use Rattle.tokens.specs.Code.{code_of, form_in}
use Rattle.tokens.specs.Decode.{is_double, number_of, behind_number, behind_of, operand_of, is_kind, token_if_whole, decode_of}
use Rattle.tokens.specs.Definition.{kind_in}
use Rattle.tokens.specs.declared.decoding.Operand.{Operand}
use Rattle.tokens.specs.declared.decoding.Operand.TheVariants.{Nothing, Literal, Text, Branch, Number, Definition}
use Rattle.tokens.specs.declared.decoding.Token.{Token}
use Rattle.tokens.specs.declared.decoding.Decoded.{Decoded}
use Rattle.tokens.specs.declared.decoding.Decoded.TheVariants.{Cut, Unlisted, Whole}
use Rattle.tokens.specs.declared.glance.Glance.{Glance}

-- the number that a token is about: behind b(to) the one that stands there, of a definition the new one, else its own
abbrev pub about_of : ℕ → Operand → ℕ
about_of n Nothing = n
about_of n (Literal m) = n
about_of n (Text start count) = n
about_of n (Branch bits aim) = n
about_of n (Number m) = m
about_of n (Definition m k) = m

-- where a branch leads, 0 for outside
abbrev pub aim_in : Operand → ℕ
aim_in Nothing = 0
aim_in (Literal n) = 0
aim_in (Text start count) = 0
aim_in (Branch bits aim) = place_in aim
aim_in (Number n) = 0
aim_in (Definition n k) = 0

abbrev pub seen_as : ℕ → ℕ → ℕ → ℕ → ℕ → Glance
seen_as code number next aim kind = record { code = code; number = number; next = next; aim = aim; kind = kind }

abbrev pub nothing_seen : Glance
nothing_seen = seen_as 0 0 0 0 0

abbrev pub seen_in : Token → Glance
seen_in t = seen_as t.code (about_of t.number t.operand) t.next (aim_in t.operand) (kind_in t.operand)

abbrev pub glanced : Decoded → Glance
glanced Cut = nothing_seen
glanced (Unlisted code) = nothing_seen
glanced (Whole t) = seen_in t

unfoldable pub glance_of : List ℕ → ℕ → Bool → ℕ → Glance
glance_of rom length wide p = glanced (decode_of rom length wide p)

-- ---- for the code's own steps
-- why a token is refused
abbrev pub why_glanced : Result Token ℕ → ℕ
why_glanced (Err why) = why
why_glanced (Ok t) = 0

-- what a first byte says: that the number has a second, by a form that no code has, or the code of the number that it is
abbrev pub two_bytes : ℕ
two_bytes = 0x00_07_00_00

unfoldable pub first_says : ℕ → ℕ
first_says b = pick (is_double b) two_bytes (code_of b)

-- a token of the list whose operand starts at a place
unfoldable pub seen_from : List ℕ → ℕ → Bool → ℕ → ℕ → ℕ → Glance
seen_from rom length wide code n p =
    glanced (token_if_whole length n code (operand_of rom length wide p (form_in code)) (behind_of rom wide p (form_in code)))

-- the same where it is known what kind of operand that is: of a branch, of a definition, and of any other, where its end is known
abbrev pub ended_of : ℕ → ℕ → ℕ → ℕ → Glance
ended_of length code n next = pick (ltb length next) nothing_seen (seen_as code n next 0 0)

abbrev pub branched_of : List ℕ → ℕ → Bool → ℕ → ℕ → ℕ → Glance
branched_of rom length wide code n p =
    pick (ltb length (p + pick wide 2 1)) nothing_seen (seen_as code n (p + pick wide 2 1) (place_in (aim_of rom length wide p)) 0)

abbrev pub glance_defined : List ℕ → ℕ → ℕ → ℕ → Glance
glance_defined rom length code p =
    let kind = byte_of rom (behind_number rom p) in
    let next = behind_number rom p + 1 in
    pick (ltb length next) nothing_seen
    (pick (is_program (number_of rom p) && is_kind kind) (seen_as code (number_of rom p) next 0 kind) nothing_seen)
