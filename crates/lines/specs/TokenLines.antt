-- The token list of a ROM, a line for each piece of its program in the order of places, which count FCode bytes. A token of the list: its
-- place, its number, its name, its operand in parts, and a remark for a person to read, `0008 12 b(") 05 7363616C65 "scale"`. Bytes that no
-- token of the list covers: their place and they themselves, "001C raw 01FE". All but the names and the remarks are upper-case hexadecimal
-- digits. Document 01 leaves the lines open. Assumes nothing.
use Rattle.std.specs.Prelude.{ℕ, zero, suc, ◌+◌, ◌-◌, ◌/◌, ◌%◌, Bool, ◌||◌, List, [], ◌∷◌, ◌++◌, ◌≡◌, ltb, eqb, length, None, Option, Some}
use Rattle.cells.specs.Choice.{pick}
use Rattle.rom.specs.Words.{letters_of}
use Rattle.rom.specs.Header.{header_of}
use Rattle.rom.specs.Sizes.{rom_most}
use Rattle.memory.specs.Window.{part_of}
use Rattle.tokens.specs.Row.{string, head, named_head}
use Rattle.tokens.specs.Code.{form_in}
use Rattle.tokens.specs.Decode.{behind_string}
use Rattle.tokens.specs.Name.{name_of}
use Rattle.tokens.specs.Reader.{end_of, piece_of, Stretch, walk_of}
use Rattle.tokens.specs.declared.decoding.Operand.{Operand}
use Rattle.tokens.specs.declared.decoding.Operand.TheVariants.{Nothing, Literal, Text, Branch, Number, Definition}
use Rattle.tokens.specs.declared.decoding.Token.{Token}
use Rattle.tokens.specs.declared.reader.Piece.{Piece}
use Rattle.tokens.specs.declared.reader.Piece.TheVariants.{End, Raw, Listed}
use Rattle.lines.specs.Digits.{hex_of}
use Rattle.lines.specs.Lines.{line_end, shown, refused_line}
use Rattle.lines.specs.Printed.{quoted}
use Rattle.lines.specs.declared.pieces.Cuts.{Cuts}

-- the bytes from a place up to another
abbrev pub between : List ℕ → ℕ → ℕ → List ℕ
between fcode from to = part_of fcode from (to - from)

-- a place in four digits, and in eight where these do not reach: the end of a program of 65,536 bytes is such a place, and no token is
abbrev pub high_digits : ℕ → List ℕ
high_digits p = pick (ltb p 65536) [] (hex_of (p / 16777216 % 256 ∷ p / 65536 % 256 ∷ []))

unfoldable pub place_text : ℕ → List ℕ
place_text p = high_digits p ++ hex_of (p / 256 % 256 ∷ p % 256 ∷ [])

-- where the parts of an operand meet that starts at a place and ends at another: a string's length byte and its bytes; a number and the
-- kind behind it; or a string, a number and a kind. Any other operand is one part
abbrev pub cuts : ℕ → ℕ → ℕ → Cuts
cuts a b c = record { first = a; second = b; third = c }

abbrev pub cuts_of : List ℕ → ℕ → ℕ → ℕ → Cuts
cuts_of fcode start next form =
    pick (eqb form string) (cuts (start + 1) next next)
    (pick (eqb form head) (cuts (next - 1) next next)
    (pick (eqb form named_head) (cuts (start + 1) (behind_string fcode start) (next - 1)) (cuts next next next)))

abbrev pub parts_at : List ℕ → ℕ → Cuts → ℕ → List (List ℕ)
parts_at fcode start c next =
    between fcode start c.first ∷ between fcode c.first c.second ∷ between fcode c.second c.third ∷ between fcode
    c.third next ∷ []

-- those of a token whose operand starts at a place
abbrev pub token_cuts : List ℕ → ℕ → Token → Cuts
token_cuts fcode start t = cuts_of fcode start t.next (form_in t.code)

-- an operand, part by part
abbrev pub operand_parts : List ℕ → ℕ → Token → List (List ℕ)
operand_parts fcode start t = parts_at fcode start (token_cuts fcode start t) t.next

-- parts, each behind a space; an empty one shows nothing
unfoldable pub all_shown : List (List ℕ) → List ℕ
all_shown [] = []
all_shown (x ∷ xs) = shown x ++ all_shown xs

-- ---- the remarks, each of them empty or behind a space
-- where a branch leads
abbrev pub aim_remark : Option ℕ → List ℕ
aim_remark (Some to) = letters_of " to " ++ place_text to
aim_remark None = letters_of " to no place of the program"

abbrev pub branch_remark : Operand → List ℕ
branch_remark Nothing = []
branch_remark (Literal n) = []
branch_remark (Text start count) = []
branch_remark (Branch bits aim) = aim_remark aim
branch_remark (Number n) = []
branch_remark (Definition n k) = []

-- the letters of a string, which stands between the first two cuts
abbrev pub string_remark : List ℕ → Cuts → ℕ → List ℕ
string_remark fcode c form = pick (eqb form string || eqb form named_head) (quoted (between fcode c.first c.second)) []

-- a branch has no string
abbrev pub token_remark : List ℕ → ℕ → Token → List ℕ
token_remark fcode start t = branch_remark t.operand ++ string_remark fcode (token_cuts fcode start t) (form_in t.code)

-- of what is not in the list it is not known how far an operand reaches, so that the lines behind it may show bytes of one as tokens; at
-- the end there are none
abbrev pub raw_remark : List ℕ → ℕ → List ℕ
raw_remark fcode next = pick (ltb next (end_of fcode)) (letters_of " (no token of the list: the next lines may be its operand)") []

-- ---- the lines
-- a line: its place, the parts in front of its word, the word, the parts behind it, and the remark
pub record Line : Type 0 where
  pub place : ℕ
  pub number : List (List ℕ)
  pub word : List ℕ
  pub rest : List (List ℕ)
  pub remark : List ℕ

-- what is written of it, and the bytes that its parts show, one part behind the other
unfoldable pub line_text : Line → List ℕ
line_text l =
    place_text l.place ++ (all_shown l.number ++ (letters_of " " ++ (l.word ++ ((all_shown l.rest ++ l.remark) ++ line_end))))

unfoldable pub parts_joined : List (List ℕ) → List ℕ
parts_joined [] = []
parts_joined (x ∷ xs) = x ++ parts_joined xs

abbrev pub line_bytes : Line → List ℕ
line_bytes l = parts_joined l.number ++ parts_joined l.rest

-- bytes that no token of the list covers
abbrev pub raw_line : List ℕ → ℕ → ℕ → Line
raw_line fcode p next =
    record { place = p; number = []; word = letters_of "raw"; rest = between fcode p next ∷ []; remark = raw_remark fcode next }

-- a token of the list: its number, its name and its operand
abbrev pub token_line : List ℕ → ℕ → ℕ → Token → Line
token_line fcode p start t =
    record {
      place = p;
      number = between fcode p start ∷ [];
      word = name_of t.number;
      rest = operand_parts fcode start t;
      remark = token_remark fcode start t;
    }

-- the line of a piece; the end is none, and stands in no walk
abbrev pub line_of : List ℕ → ℕ → Piece → Line
line_of fcode p End = record { place = p; number = []; word = []; rest = []; remark = [] }
line_of fcode p (Raw next) = raw_line fcode p next
line_of fcode p (Listed t start w) = token_line fcode p start t

unfoldable pub piece_lines : List ℕ → List Stretch → List ℕ
piece_lines fcode [] = []
piece_lines fcode (s ∷ ss) = line_text (line_of fcode s.place s.piece) ++ piece_lines fcode ss

-- all of it; a refused header is its one line
unfoldable pub token_text : List ℕ → List ℕ
token_text fcode = pick (eqb (header_of fcode) 0) (piece_lines fcode (walk_of fcode)) (refused_line (header_of fcode))

-- ---- the list a line at a time, for whoever has no room for all of it
-- what is listed at a place, with the offset width in force there. What is longer than a ROM can be has no lines
abbrev pub listed_at : List ℕ → Bool → ℕ → Piece
listed_at fcode wide p = pick (ltb rom_most (length fcode)) End (piece_of fcode wide p)

-- its line, the place of the next one, and the width in force there. At the end there is no line, and both stay
abbrev pub text_in : List ℕ → ℕ → Piece → List ℕ
text_in fcode p End = []
text_in fcode p (Raw next) = line_text (raw_line fcode p next)
text_in fcode p (Listed t start w) = line_text (token_line fcode p start t)

abbrev pub next_in : ℕ → Piece → ℕ
next_in p End = p
next_in p (Raw next) = next
next_in p (Listed t start w) = t.next

abbrev pub wide_in : Bool → Piece → Bool
wide_in wide End = wide
wide_in wide (Raw next) = wide
wide_in wide (Listed t start w) = w

unfoldable pub piece_text : List ℕ → Bool → ℕ → List ℕ
piece_text fcode wide p = text_in fcode p (listed_at fcode wide p)

unfoldable pub next_of : List ℕ → Bool → ℕ → ℕ
next_of fcode wide p = next_in p (listed_at fcode wide p)

unfoldable pub wide_behind : List ℕ → Bool → ℕ → Bool
wide_behind fcode wide p = wide_in wide (listed_at fcode wide p)

-- so many lines, one behind the other: each from where the one before it led
unfoldable pub lines_from : ℕ → List ℕ → Bool → ℕ → List ℕ
lines_from zero fcode wide p = []
lines_from (suc k) fcode wide p = piece_text fcode wide p ++ lines_from k fcode (wide_behind fcode wide p) (next_of fcode wide p)

-- room for any line: none is longer (`line_short`, Laws/Tokens.antt)
abbrev pub line_most : ℕ
line_most = 1024

-- ---- what is promised of the lines of a walk: each shows its own bytes, those from its place to the next
abbrev pub OwnBytes : List ℕ → List Stretch → Type 0
OwnBytes fcode [] = Unit {0}
OwnBytes fcode (s ∷ ss) = (line_bytes (line_of fcode s.place s.piece) ≡ between fcode s.place s.next) × OwnBytes fcode ss

-- the bytes that they show, one behind the other
unfoldable pub bytes_shown : List ℕ → List Stretch → List ℕ
bytes_shown fcode [] = []
bytes_shown fcode (s ∷ ss) = line_bytes (line_of fcode s.place s.piece) ++ bytes_shown fcode ss
