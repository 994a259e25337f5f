-- The refusals' numbers in words: the one table of them, for the program, the library and the documents. Assumes nothing.
use Rattle.std.specs.Prelude.{ℕ, Bool, not, List, [], ◌∷◌, ◌++◌, eqb, length}
use Prim.Native.String.{String}
use Rattle.cells.specs.Choice.{pick, find}
use Rattle.rom.specs.Words.{letters_of}
use Rattle.lines.specs.Digits.{decimal_of}
use Rattle.lines.specs.Lines.{line_end}

-- a part of the table: each number with when it is given
abbrev pub Numbers : Type 0
Numbers = List (ℕ × String)

-- of opening: the ROM, its header, and what is lent; there is no 8 or 9
unfoldable pub opening : Numbers
opening =
    (1, "the ROM has fewer than 8 or more than 65,536 bytes, or fewer than its spread header") ∷
    (2, "byte 0 is none of FD, F1, F2 and F3") ∷
    (3, "byte 1 is not 08") ∷
    (4, "the program length is below 9 or above what is there") ∷
    (5, "the program's bytes do not add up to the checksum") ∷
    (6, "a lent buffer has the wrong size") ∷
    (7, "the state is damaged") ∷ []

-- of the tokens and numbers of a program
unfoldable pub naming : Numbers
naming =
    (10, "a token's bytes pass the program length") ∷
    (11, "a token is not in the list, or defines a number or a kind that it may not") ∷
    (12, "a program number is not defined, or is no value after b(to)") ∷
    (13, "a number is defined already, or would be the 257th") ∷ []

-- of the stacks, calls, branches and nodes
unfoldable pub moving : Numbers
moving =
    (14, "the data stack is too low") ∷
    (15, "the data stack would be too high") ∷
    (16, "the return stack would be above 32 cells or below its frame's base, or is not at the base on leaving a body") ∷
    (17, "a call would be the 17th that is open") ∷
    (18, "a token is out of place") ∷
    (19, "a taken branch leads outside the program") ∷
    (20, "a node would be the 33rd, or finish-device is met at node 1") ∷ []

-- those that depend on data
unfoldable pub running : Numbers
running =
    (21, "a divisor is zero") ∷
    (22, "an address range lies in no window, or a store outside work memory") ∷
    (23, "a cell's address is no multiple of 4") ∷
    (24, "work memory is exhausted") ∷
    (25, "the arrays of encode+ do not adjoin") ∷
    (26, "a property's name is too short, too long, or has a byte that may not stand in a name") ∷
    (27, "a property would be the 129th, or live bytes would be above 16,384") ∷ []

-- of a budget, of a lookup, and of the screen
unfoldable pub other : Numbers
other =
    (28, "the budget is spent") ∷
    (29, "the path is malformed") ∷
    (30, "there is no such node or property") ∷
    (31, "no stack heights can be assigned to the ROM") ∷ []

-- the whole table
abbrev pub numbers : Numbers
numbers = opening ++ (naming ++ (moving ++ (running ++ other)))

-- the words of a number; a number that is none has none
unfoldable pub words_of : ℕ → List ℕ
words_of number = letters_of (find numbers "" number)

unfoldable pub has_words : ℕ → Bool
has_words number = not (eqb (length (words_of number)) 0)

-- "14 the data stack is too low"; nothing for a number without words
unfoldable pub number_line : ℕ → List ℕ
number_line number = pick (has_words number) (decimal_of number ++ (letters_of " " ++ (words_of number ++ line_end))) []
