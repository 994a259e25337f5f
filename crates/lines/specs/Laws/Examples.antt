-- The lines, run: digits at their ends, the listing of document 01's scale board, and two token lists. Assumes nothing.
use Rattle.std.specs.Prelude.{ℕ, List, [], ◌∷◌, ◌++◌, ◌≡◌, refl, replicate}
use Rattle.rom.specs.Words.{letters_of}
use Rattle.rom.specs.Header.{header_of}
use Rattle.rom.specs.Sum.{sum_of}
use Rattle.rom.specs.Branch.{aim_of}
use Rattle.tokens.specs.Table.{ends, lows, highs, doubles, table, row_of}
use Rattle.tokens.specs.Code.{code_of}
use Rattle.tokens.specs.Decode.{behind_of, operand_of, token_if_whole, decode_of}
use Rattle.tokens.specs.Name.{name_of}
use Rattle.tokens.specs.Reader.{piece_of, walk_from}
use Rattle.tree.specs.Held.{held_from}
use Rattle.tree.specs.Tree.{tree_on_records}
use Rattle.tree.specs.Node.{fresh_tree}
use Rattle.tree.specs.declared.tree.Tree.{Tree}
use Rattle.lines.specs.Digits.{decimal_from, decimal_of, hex_of}
use Rattle.lines.specs.Printed.{all_printed, quoted}
use Rattle.lines.specs.TokenLines.{place_text, all_shown, line_text, piece_lines, token_text}
use Rattle.lines.specs.Lines.{node_line, property_line, own_lines, node_lines, steps_line, refused_line, run_text}

nought : decimal_of 0 ≡ letters_of "0"
unfolding decimal_from letters_of
nought = refl

most : decimal_of 4294967295 ≡ letters_of "4294967295"
unfolding decimal_from letters_of
most = refl

zeros_inside : decimal_of 100000 ≡ letters_of "100000"
unfolding decimal_from letters_of
zeros_inside = refl

all_hex : hex_of (0x01 ∷ 0x23 ∷ 0x45 ∷ 0x67 ∷ 0x89 ∷ 0xAB ∷ 0xCD ∷ 0xEF ∷ []) ≡ letters_of "0123456789ABCDEF"
unfolding hex_of letters_of
all_hex = refl

empty_value : property_line (letters_of "ranges") [] ≡ letters_of "ranges\n"
unfolding property_line letters_of
empty_value = refl

-- node 1 with "name", "scale" and its null, and "lanes", 00000003
scale : Tree
scale = tree_on_records fresh_tree (1 ∷ 1 ∷ replicate 126 0) (4 ∷ 5 ∷ replicate 126 0) (6 ∷ 4 ∷ replicate 126 0) 2

store : List ℕ
store = letters_of "name" ++ (letters_of "scale" ++ (0 ∷ [])) ++ (letters_of "lanes" ++ (0 ∷ 0 ∷ 0 ∷ 3 ∷ [])) ++ replicate 8 0

scale_board : run_text scale store 7 0 ≡ letters_of
    "screen pass\nnode 0 parent 0\nnode 1 parent 0\nname 7363616C6500\nlanes 00000003\nsteps 7\ndone\n"
unfolding scale store run_text node_lines node_line own_lines property_line steps_line refused_line decimal_from hex_of held_from letters_of
scale_board = refl

-- the same where the run was refused
refused_run : run_text scale store 12 27 ≡ letters_of
    "screen pass\nnode 0 parent 0\nnode 1 parent 0\nname 7363616C6500\nlanes 00000003\nsteps 12\nrefused 27\n"
unfolding scale store run_text node_lines node_line own_lines property_line steps_line refused_line decimal_from hex_of held_from letters_of
refused_run = refl

-- ---- the token list of the scale board, and of a ROM with a branch and with bytes that no token covers: a number of one byte and of two,
-- and a literal that is cut off
scale_rom : List ℕ
scale_rom =
    0xFD ∷ 0x08 ∷ 0x05 ∷ 0x17 ∷ 0x00 ∷ 0x00 ∷ 0x00 ∷ 0x1E ∷ 0x12 ∷ 0x05 ∷ 0x73 ∷ 0x63 ∷ 0x61 ∷ 0x6C ∷ 0x65 ∷ 0x02 ∷ 0x01 ∷ 0xA8 ∷ 0x01 ∷
    0x11 ∷ 0x12 ∷ 0x05 ∷ 0x6C ∷ 0x61 ∷ 0x6E ∷ 0x65 ∷ 0x73 ∷ 0x01 ∷ 0x10 ∷ 0x00 ∷ []

scale_tokens : token_text scale_rom
    ≡ letters_of "0008 12 b(\") 05 7363616C65 \"scale\"\n000F 0201 device-name\n0011 A8 3\n0012 0111 encode-int\n"
    ++ letters_of "0014 12 b(\") 05 6C616E6573 \"lanes\"\n001B 0110 property\n001D 00 end0\n"
unfolding scale_rom token_text header_of sum_of piece_lines line_text place_text all_shown quoted all_printed hex_of walk_from piece_of
    decode_of
    token_if_whole behind_of operand_of aim_of code_of name_of row_of table ends lows highs doubles letters_of
scale_tokens = refl

mixed_rom : List ℕ
mixed_rom = 0xFD ∷ 0x08 ∷ 0x05 ∷ 0x71 ∷ 0x00 ∷ 0x00 ∷ 0x00 ∷ 0x16 ∷ 0x15 ∷ 0x01 ∷ 0xFE ∷ 0xCC ∷ 0x13 ∷ 0xFF ∷ 0xFB ∷ 0xB5 ∷ 0x08 ∷ 0x00 ∷
    0xB7 ∷ 0x10 ∷ 0x00 ∷ 0x00 ∷ []

mixed_tokens : token_text mixed_rom
    ≡ letters_of "0008 raw 15 (no token of the list: the next lines may be its operand)\n"
    ++ (letters_of "0009 raw 01FE (no token of the list: the next lines may be its operand)\n000B CC offset16\n"
    ++ letters_of "000C 13 bbranch FFFB to 0008\n000F B5 new-token 0800 B7\n0013 raw 100000\n")
unfolding mixed_rom token_text header_of sum_of piece_lines line_text place_text all_shown quoted all_printed hex_of walk_from piece_of
    decode_of
    token_if_whole behind_of operand_of aim_of code_of name_of row_of table ends lows highs doubles letters_of
mixed_tokens = refl
