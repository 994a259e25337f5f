-- What explain says of a ROM, line by line, for people: the header's fields, the tree with paths and with values as they are read. Header
-- and program are FCode bytes; a file's size counts the gaps of a spread too. Document 01 leaves the lines open. Assumes nothing.
use Rattle.std.specs.Prelude.{ℕ, zero, suc, Bool, true, false, not, ◌&&◌, ◌||◌, List, [], ◌++◌, length, ltb, leb, eqb}
use Rattle.cells.specs.Choice.{pick}
use Rattle.rom.specs.Words.{letters_of}
use Rattle.rom.specs.Sizes.{rom_least, rom_most, nodes_most, store_size}
use Rattle.rom.specs.Bytes.{byte_of}
use Rattle.rom.specs.Header.{checksum_of, length_of, wrong_length}
use Rattle.rom.specs.Sum.{sum_of}
use Rattle.tree.specs.Held.{held_of}
use Rattle.tree.specs.Whole.{parent_of, whole_tree}
use Rattle.tree.specs.Path.{own_value_of}
use Rattle.tree.specs.declared.tree.Tree.{Tree}
use Rattle.lines.specs.Digits.{decimal_of, hex_pair, hex_word}
use Rattle.lines.specs.Printed.{text_of, is_text}
use Rattle.tokens.specs.Reader.{end_of}
use Rattle.lines.specs.Lines.{line_end, own_lines}
use Rattle.lines.specs.TokenLines.{place_text, line_text, raw_line, piece_text}
use Rattle.lines.specs.Tally.{tally_of}
use Rattle.lines.specs.Verdicts.{verdict_of}
use Rattle.lines.specs.declared.tally.Tally.{Tally}

-- ---- the header: "start: FD, 8-bit branch offsets"
abbrev pub start_words : ℕ → List ℕ
start_words b =
    pick (eqb b 0xFD) (letters_of ", 8-bit branch offsets")
    (pick (eqb b 0xF1) (letters_of ", 16-bit branch offsets")
    (pick (eqb b 0xF2) (letters_of ", 16-bit branch offsets, bytes two apart")
    (pick (eqb b 0xF3) (letters_of ", 16-bit branch offsets, bytes four apart") (letters_of ", which starts no FCode program"))))

unfoldable pub start_line : List ℕ → List ℕ
start_line fcode = letters_of "start: " ++ (hex_pair (byte_of fcode 0) ++ (start_words (byte_of fcode 0) ++ line_end))

-- "format: 08"
unfoldable pub format_line : List ℕ → List ℕ
format_line fcode = letters_of "format: " ++ (hex_pair (byte_of fcode 1) ++ line_end)

-- "length: 30"
unfoldable pub length_line : List ℕ → List ℕ
length_line fcode = letters_of "length: " ++ (decimal_of (length_of fcode) ++ line_end)

-- "checksum: 0517, as the program's bytes add up"; both sums where they differ. Where the length is wrong nothing says which bytes are the
-- program's
abbrev pub sum_words : ℕ → ℕ → List ℕ
sum_words field sum =
    pick (eqb field sum) (letters_of ", as the program's bytes add up") (letters_of ", but the program's bytes add up to " ++ hex_word sum)

abbrev pub sums_shown : List ℕ → List ℕ
sums_shown fcode = pick (wrong_length fcode (length_of fcode)) [] (sum_words (checksum_of fcode) (sum_of fcode (length_of fcode)))

unfoldable pub sum_line : List ℕ → List ℕ
sum_line fcode = letters_of "checksum: " ++ (hex_word (checksum_of fcode) ++ (sums_shown fcode ++ line_end))

-- "file: 30 bytes"
unfoldable pub size_line : ℕ → List ℕ
size_line n = letters_of "file: " ++ (decimal_of n ++ (letters_of " bytes" ++ line_end))

abbrev pub over_line : List ℕ
over_line = letters_of "file: more than 65,536 bytes" ++ line_end

unfoldable pub field_lines : List ℕ → List ℕ
field_lines fcode = start_line fcode ++ (format_line fcode ++ (length_line fcode ++ sum_line fcode))

-- a file of so many bytes, with its FCode bytes: one that is no ROM for its size, or too short for its spread header, has none to show
unfoldable pub header_lines : ℕ → List ℕ → List ℕ
header_lines size fcode = pick (ltb rom_most size) over_line (size_line size ++ pick (ltb (length fcode) rom_least) [] (field_lines fcode))

-- ---- the tree: a node's path, and under it its properties
-- a node is called by its "name" where that is text of 1 to 31 letters, as the standard has a node's name; another by its number,
-- "(node 3)"
abbrev pub is_title : List ℕ → Bool
is_title value = leb 2 (length value) && (leb (length value) 32 && is_text value)

unfoldable pub title_shown : Tree → List ℕ → ℕ → List ℕ
title_shown t store k =
    pick (is_title (own_value_of t store k (letters_of "name"))) (text_of (own_value_of t store k (letters_of "name")))
    (letters_of "(node " ++ (decimal_of k ++ letters_of ")"))

-- from the root down to a node that is at most so deep, a slash before each
unfoldable pub path_to : Tree → List ℕ → ℕ → ℕ → List ℕ
path_to t store zero k = []
path_to t store (suc n) k =
    elim (eqb k 0) [ true ↦ [] | false ↦ path_to t store n (parent_of t k) ++ (letters_of "/" ++ title_shown t store k) ]

-- "/scale/hopper"; the root is "/"
unfoldable pub path_line : Tree → List ℕ → ℕ → List ℕ
path_line t store k = pick (eqb k 0) (letters_of "/") (path_to t store nodes_most k) ++ line_end

-- a node's properties; a store of another size or a damaged tree shows none
unfoldable pub read_lines : Tree → List ℕ → ℕ → List ℕ
read_lines t store k = pick (not (eqb (length store) store_size) || not (whole_tree t)) [] (own_lines true (held_of t store) k)

-- ---- the program: "program: 7 tokens, all of the list", or how many of its pieces are none, and the line of the first of these
abbrev pub scope_words : List ℕ
scope_words = letters_of ". A board that uses such a token is outside the scope of this tool, not broken. The first:"

unfoldable pub outside_lines : List ℕ → Tally → List ℕ
outside_lines fcode y =
    letters_of " pieces, " ++ (decimal_of y.raws ++ (letters_of " of them no token of the list" ++ (scope_words ++ (line_end
    ++ line_text (raw_line fcode y.place y.next)))))

unfoldable pub tally_lines : List ℕ → Tally → List ℕ
tally_lines fcode y =
    letters_of "program: " ++ (decimal_of y.pieces
    ++ pick (eqb y.raws 0) (letters_of " tokens, all of the list" ++ line_end) (outside_lines fcode y))

-- more bytes than a ROM has are no program
unfoldable pub program_lines : List ℕ → List ℕ
program_lines fcode = pick (ltb rom_most (length fcode)) [] (tally_lines fcode (tally_of fcode))

-- ---- where a run ended: the token that was refused, or the one that is next where the budget is spent
unfoldable pub end_line : List ℕ → ℕ → List ℕ
end_line fcode p = pick (leb (end_of fcode) p) (place_text p ++ (letters_of " the program's end" ++ line_end)) []

unfoldable pub at_line : List ℕ → Bool → ℕ → List ℕ
at_line fcode wide p = letters_of "at: " ++ (end_line fcode p ++ piece_text fcode wide p)

-- "run: done, steps 7", "run: refused 21: a divisor is zero, steps 2"
unfoldable pub end_words : ℕ → List ℕ
end_words number = pick (eqb number 0) (letters_of "done") (verdict_of number)

unfoldable pub run_line : ℕ → ℕ → List ℕ
run_line number steps = letters_of "run: " ++ (end_words number ++ (letters_of ", steps " ++ (decimal_of steps ++ line_end)))

-- ---- lines between these
unfoldable pub verdict_line : ℕ → List ℕ
verdict_line number = letters_of "verdict: " ++ (verdict_of number ++ line_end)

abbrev pub tree_line : List ℕ
tree_line = letters_of "tree:" ++ line_end

-- before the run of a ROM that the screen refused: any ROM may be run, and where it ends tells its maker more than that no heights can be
-- assigned
abbrev pub anyway_line : List ℕ
anyway_line = letters_of "It does not pass, and is run all the same to show where it leads:" ++ line_end
