-- The listing's lines, each with its line end, as document 01 prints them for the scale board: a node with its parent, under it its
-- properties in store order, the steps, and "done" or "refused" with its number. "A refused run ends with "refused" and its number in place
-- of "done"; an empty value leaves the name alone on its line". Assumes nothing.
use Rattle.std.specs.Prelude.{ℕ, zero, suc, ◌+◌, Bool, true, false, List, [], ◌∷◌, ◌++◌, length, eqb}
use Rattle.cells.specs.Choice.{pick}
use Rattle.rom.specs.Words.{letters_of}
use Rattle.rom.specs.Bytes.{word32_of}
use Rattle.tree.specs.Held.{Property, held_of}
use Rattle.tree.specs.Whole.{parent_of}
use Rattle.tree.specs.declared.tree.Tree.{Tree}
use Rattle.lines.specs.Digits.{decimal_of, hex_of}
use Rattle.lines.specs.Printed.{quoted, text_of, is_text}

abbrev pub line_end : List ℕ
line_end = 10 ∷ []

-- "node 1 parent 0"
unfoldable pub node_line : ℕ → ℕ → List ℕ
node_line k parent = letters_of "node " ++ (decimal_of k ++ (letters_of " parent " ++ (decimal_of parent ++ line_end)))

-- a value behind its name
abbrev pub shown : List ℕ → List ℕ
shown [] = []
shown (b ∷ bs) = 0x20 ∷ hex_of (b ∷ bs)

-- "lanes 00000003"
unfoldable pub property_line : List ℕ → List ℕ → List ℕ
property_line name value = name ++ (shown value ++ line_end)

-- the same for people, below a path: "  lanes 3 = 00000003". The value as text where it is that, as a number where it has four bytes, and
-- in hexadecimal always; an empty value shows nothing
abbrev pub number_read : List ℕ → List ℕ
number_read value = pick (eqb (length value) 4) (0x20 ∷ decimal_of (word32_of value 0)) []

abbrev pub text_read : List ℕ → List ℕ
text_read value = pick (is_text value) (quoted (text_of value)) []

abbrev pub bytes_read : List ℕ → List ℕ
bytes_read [] = []
bytes_read (b ∷ bs) = letters_of " =" ++ shown (b ∷ bs)

unfoldable pub read_line : List ℕ → List ℕ → List ℕ
read_line name value = letters_of "  " ++ (name ++ (text_read value ++ (number_read value ++ (bytes_read value ++ line_end))))

-- for people, or as document 01 prints it
abbrev pub line_for : Bool → List ℕ → List ℕ → List ℕ
line_for true name value = read_line name value
line_for false name value = property_line name value

-- the properties of one node among these, in their order
unfoldable pub own_lines : Bool → List Property → ℕ → List ℕ
own_lines people [] k = []
own_lines people (p ∷ ps) k = pick (eqb p.node k) (line_for people p.name p.value) [] ++ own_lines people ps k

-- so many nodes from node k on, each with its properties
unfoldable pub node_lines : Tree → List Property → ℕ → ℕ → List ℕ
node_lines t ps zero k = []
node_lines t ps (suc n) k = node_line k (parent_of t k) ++ (own_lines false ps k ++ node_lines t ps n (k + 1))

-- "steps 7"
unfoldable pub steps_line : ℕ → List ℕ
steps_line n = letters_of "steps " ++ (decimal_of n ++ line_end)

-- "refused 31"
unfoldable pub refused_line : ℕ → List ℕ
refused_line number = letters_of "refused " ++ (decimal_of number ++ line_end)

abbrev pub done_line : List ℕ
done_line = letters_of "done" ++ line_end

-- how a run ended, by document 01's number for it: 0 is a finish
abbrev pub closing_line : ℕ → List ℕ
closing_line number = pick (eqb number 0) done_line (refused_line number)

abbrev pub pass_line : List ℕ
pass_line = letters_of "screen pass" ++ line_end

-- all of it, for a ROM that passed and whose run left this tree and store, carried out so many tokens and ended so
unfoldable pub run_text : Tree → List ℕ → ℕ → ℕ → List ℕ
run_text t store steps number =
    pass_line ++ (node_lines t (held_of t store) t.nodes 0 ++ (steps_line steps ++ closing_line number))
