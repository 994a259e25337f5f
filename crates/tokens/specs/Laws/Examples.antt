-- The definitions at work: antt computes each of these. Every ROM here is its program alone, behind eight bytes that no token reads.
-- Assumes nothing.
use Rattle.std.specs.Prelude.{ℕ, ◌≡◌, refl, true, false, List, [], ◌∷◌, Err, None, Result, Some}
use Rattle.rom.specs.Branch.{aim_of}
use Rattle.tokens.specs.Table.{ends, lows, highs, doubles, table, row_of}
use Rattle.tokens.specs.Code.{code_of}
use Rattle.tokens.specs.Decode.{token_of, behind_of, operand_of, token_if_whole, decode_of}
use Rattle.tokens.specs.Place.{misplaced_of, read_of}
use Rattle.tokens.specs.Body.{unknown_of, body_from, body_of}
use Rattle.tokens.specs.Joints.Glance.{seen_as, nothing_seen, glance_of}
use Rattle.tokens.specs.declared.decoding.Operand.TheVariants.{Nothing, Literal, Text, Branch, Definition}
use Rattle.tokens.specs.declared.decoding.Decoded.{Decoded}
use Rattle.tokens.specs.declared.decoding.Decoded.TheVariants.{Cut, Unlisted, Whole}
use Rattle.tokens.specs.declared.glance.Glance.{Glance}
use Rattle.tokens.specs.Body.{BodyRead, Ends, Stops}
use Rattle.tokens.specs.declared.decoding.Token.{Token}

abbrev behind_header : List ℕ → List ℕ
behind_header l = 0 ∷ 0 ∷ 0 ∷ 0 ∷ 0 ∷ 0 ∷ 0 ∷ 0 ∷ l

-- the kind byte is one of the defining token's bytes, so that a head at the end is cut off; a number not in the list is its own bytes
-- alone, and a prefix as the last byte is cut off
abbrev cuts : List Decoded
cuts =
    decode_of (behind_header (0xB5 ∷ 0x08 ∷ 0x00 ∷ [])) 11 false 8 ∷
    decode_of (behind_header (0xB5 ∷ 0x46 ∷ [])) 10 false 8 ∷
    decode_of (behind_header (0x01 ∷ [])) 9 false 8 ∷
    decode_of (behind_header (0x12 ∷ 0x03 ∷ 0x41 ∷ 0x42 ∷ 0x43 ∷ [])) 12 false 8 ∷
    decode_of (behind_header (0x13 ∷ 0x00 ∷ [])) 10 true 8 ∷
    decode_of (behind_header []) 8 false 8 ∷
    []

all_cut : cuts ≡ Cut ∷ Cut ∷ Cut ∷ Cut ∷ Cut ∷ Cut ∷ []
unfolding decode_of token_if_whole behind_of operand_of aim_of code_of row_of table ends lows highs doubles
all_cut = refl

-- refusal 11: not in the list, a number that no program has, no kind behind a head
abbrev strangers : List Decoded
strangers =
    decode_of (behind_header (0x15 ∷ [])) 9 false 8 ∷
    decode_of (behind_header (0x01 ∷ 0x13 ∷ [])) 10 false 8 ∷
    decode_of (behind_header (0xBB ∷ [])) 9 false 8 ∷
    decode_of (behind_header (0xB5 ∷ 0x07 ∷ 0xFF ∷ 0xB7 ∷ [])) 12 false 8 ∷
    decode_of (behind_header (0xB5 ∷ 0x08 ∷ 0x00 ∷ 0x46 ∷ [])) 12 false 8 ∷
    []

all_strange : strangers ≡ Unlisted 0 ∷ Unlisted 0 ∷ Unlisted 0 ∷ Unlisted 0x0E_15_00_00 ∷ Unlisted 0x0E_15_00_00 ∷ []
unfolding decode_of token_if_whole behind_of operand_of aim_of code_of row_of table ends lows highs doubles
all_strange = refl

-- whole tokens: a literal, a string, a definition with a name, a program's number, and branches back by one from their offset's first byte
abbrev wholes : List Decoded
wholes =
    decode_of (behind_header (0x10 ∷ 0x12 ∷ 0x34 ∷ 0x56 ∷ 0x78 ∷ [])) 13 false 8 ∷
    decode_of (behind_header (0x12 ∷ 0x02 ∷ 0x41 ∷ 0x42 ∷ [])) 12 false 8 ∷
    decode_of (behind_header (0xCA ∷ 0x01 ∷ 0x41 ∷ 0x0F ∷ 0xFF ∷ 0xB8 ∷ [])) 14 false 8 ∷
    decode_of (behind_header (0x08 ∷ 0x01 ∷ [])) 10 false 8 ∷
    decode_of (behind_header (0x13 ∷ 0xFF ∷ 0x00 ∷ [])) 11 false 8 ∷
    decode_of (behind_header (0x14 ∷ 0xFF ∷ 0xFE ∷ [])) 11 true 8 ∷
    []

all_whole : wholes
    ≡ Whole (token_of 0x10 0x01_01_00_01 (Literal 0x1234_5678) 13) ∷
    Whole (token_of 0x12 0x05_02_00_02 (Text 10 2) 12) ∷
    Whole (token_of 0xCA 0x0E_16_00_00 (Definition 0xFFF 0xB8) 14) ∷
    Whole (token_of 0x801 0x11_00_00_00 Nothing 10) ∷
    Whole (token_of 0x13 0x03_03_00_00 (Branch 0xFF (Some 8)) 10) ∷
    Whole (token_of 0x14 0x04_03_00_10 (Branch 0xFFFE None) 11) ∷
    []
unfolding decode_of token_if_whole behind_of operand_of aim_of code_of row_of table ends lows highs doubles
all_whole = refl

-- the same at a glance: a token of one byte, a program's number, a literal, a string, a definition with a name, b(to), and the two branches
abbrev glances : List Glance
glances =
    glance_of (behind_header (0x1E ∷ [])) 9 false 8 ∷
    glance_of (behind_header (0x08 ∷ 0x01 ∷ [])) 10 false 8 ∷
    glance_of (behind_header (0x10 ∷ 0x12 ∷ 0x34 ∷ 0x56 ∷ 0x78 ∷ [])) 13 false 8 ∷
    glance_of (behind_header (0x12 ∷ 0x02 ∷ 0x41 ∷ 0x42 ∷ [])) 12 false 8 ∷
    glance_of (behind_header (0xCA ∷ 0x01 ∷ 0x41 ∷ 0x0F ∷ 0xFF ∷ 0xB8 ∷ [])) 14 false 8 ∷
    glance_of (behind_header (0xC3 ∷ 0x08 ∷ 0x02 ∷ [])) 11 false 8 ∷
    glance_of (behind_header (0x13 ∷ 0xFF ∷ 0x00 ∷ [])) 11 false 8 ∷
    glance_of (behind_header (0x14 ∷ 0xFF ∷ 0xFE ∷ [])) 11 true 8 ∷
    []

all_seen : glances
    ≡ seen_as 0x01_00_00_21 0x1E 9 0 0 ∷
    seen_as 0x11_00_00_00 0x801 10 0 0 ∷
    seen_as 0x01_01_00_01 0x10 13 0 0 ∷
    seen_as 0x05_02_00_02 0x12 12 0 0 ∷
    seen_as 0x0E_16_00_00 0xFFF 14 0 0xB8 ∷
    seen_as 0x10_04_00_10 0x802 11 0 0 ∷
    seen_as 0x03_03_00_00 0x13 10 8 0 ∷
    seen_as 0x04_03_00_10 0x14 11 0 0 ∷
    []
unfolding glance_of decode_of token_if_whole behind_of operand_of aim_of code_of row_of table ends lows highs doubles
all_seen = refl

-- nothing is seen of a number or an operand that is cut off, of a number that is not in the list, and of a head without a kind
abbrev blanks : List Glance
blanks =
    glance_of (behind_header (0x08 ∷ [])) 9 false 8 ∷
    glance_of (behind_header (0x13 ∷ 0x00 ∷ [])) 10 true 8 ∷
    glance_of (behind_header (0x15 ∷ [])) 9 false 8 ∷
    glance_of (behind_header (0xB5 ∷ 0x08 ∷ 0x00 ∷ 0x46 ∷ [])) 12 false 8 ∷
    []

all_blank : blanks ≡ nothing_seen ∷ nothing_seen ∷ nothing_seen ∷ nothing_seen ∷ []
unfolding glance_of decode_of token_if_whole behind_of operand_of aim_of code_of row_of table ends lows highs doubles
all_blank = refl

-- refusal 18 comes before 11, and after 10; a kind without its head is always out of place
abbrev judgements : List (Result Token ℕ)
judgements =
    read_of (behind_header (0xB5 ∷ 0x08 ∷ 0x01 ∷ 0x46 ∷ [])) 12 false true 8 ∷
    read_of (behind_header (0xB5 ∷ 0x08 ∷ 0x01 ∷ 0x46 ∷ [])) 12 false false 8 ∷
    read_of (behind_header (0xB5 ∷ 0x08 ∷ 0x01 ∷ [])) 11 false true 8 ∷
    read_of (behind_header (0xB7 ∷ [])) 9 false false 8 ∷
    read_of (behind_header (0xC2 ∷ [])) 9 false false 8 ∷
    read_of (behind_header (0xCC ∷ [])) 9 false true 8 ∷
    []

all_judged : judgements ≡ Err 18 ∷ Err 11 ∷ Err 10 ∷ Err 18 ∷ Err 18 ∷ Err 18 ∷ []
unfolding read_of misplaced_of decode_of token_if_whole behind_of operand_of aim_of code_of row_of table ends lows highs doubles
all_judged = refl

-- bodies, where 800 is a value and 801 a variable: a C2 inside a literal ends none
abbrev some_kinds : List ℕ
some_kinds = 0xB8 ∷ 0xB9 ∷ []

abbrev bodies : List BodyRead
bodies =
    body_of (behind_header (0x10 ∷ 0 ∷ 0 ∷ 0 ∷ 0xC2 ∷ 0x08 ∷ 0x00 ∷ 0xC2 ∷ [])) 16 false some_kinds 8 ∷
    body_of (behind_header (0xA6 ∷ 0x08 ∷ 0x02 ∷ 0xC2 ∷ [])) 12 false some_kinds 8 ∷
    body_of (behind_header (0xC3 ∷ 0x08 ∷ 0x00 ∷ 0xC3 ∷ 0x08 ∷ 0x01 ∷ 0xC2 ∷ [])) 15 false some_kinds 8 ∷
    body_of (behind_header (0xC3 ∷ 0x50 ∷ 0xC2 ∷ [])) 11 false some_kinds 8 ∷
    body_of (behind_header (0xA6 ∷ 0xB5 ∷ 0x08 ∷ 0x03 ∷ 0x46 ∷ 0xC2 ∷ [])) 14 false some_kinds 8 ∷
    body_of (behind_header (0xA6 ∷ 0x15 ∷ 0xC2 ∷ [])) 11 false some_kinds 8 ∷
    body_of (behind_header (0xA6 ∷ 0x33 ∷ [])) 10 false some_kinds 8 ∷
    []

all_bodies : bodies ≡ Ends 15 ∷ Stops 9 12 ∷ Stops 11 12 ∷ Stops 8 12 ∷ Stops 9 18 ∷ Stops 9 11 ∷ Stops 10 10 ∷ []
unfolding body_from unknown_of read_of misplaced_of decode_of token_if_whole behind_of operand_of aim_of code_of row_of table ends lows
    highs doubles
all_bodies = refl
