-- What is said of a dump, the ROM that was read from a file: a verdict, a line for a person, and a row of CSV; and the count of many dumps.
-- A file that could not be read has a line and a row too. Assumes nothing.
use Rattle.std.specs.Prelude.{ℕ, Bool, List, [], ◌++◌, eqb}
use Rattle.cells.specs.Choice.{pick}
use Rattle.rom.specs.Words.{letters_of}
use Rattle.lines.specs.Digits.{decimal_of}
use Rattle.lines.specs.Fields.{plain_field, field, text_field, labelled}
use Rattle.lines.specs.Lines.{line_end}
use Rattle.lines.specs.Numbers.{has_words, words_of}
use Rattle.lines.specs.declared.verdicts.Dump.{Dump}
use Rattle.lines.specs.declared.verdicts.Counts.{Counts}

-- ": the data stack is too low"; nothing for a number without words
unfoldable pub reason_of : ℕ → List ℕ
reason_of number = pick (has_words number) (letters_of ": " ++ words_of number) []

-- "passes" for 0, else "refused 14: the data stack is too low"
unfoldable pub verdict_of : ℕ → List ℕ
verdict_of number = pick (eqb number 0) (letters_of "passes") (letters_of "refused " ++ (decimal_of number ++ reason_of number))

-- ", steps 7" where the program was run
unfoldable pub steps_part : Bool → ℕ → List ℕ
steps_part ran steps = pick ran (letters_of ", steps " ++ decimal_of steps) []

-- a dump's line, `scale.bin: passes, steps 7, name "scale", model "X"`: of the properties "name" and "model" those that are text
unfoldable pub scan_line : List ℕ → Dump → List ℕ → List ℕ → List ℕ
scan_line file d name model =
    plain_field file ++
    (letters_of ": " ++
    (verdict_of d.number ++
    (steps_part d.ran d.steps ++ (labelled (letters_of "name") name ++ (labelled (letters_of "model") model ++ line_end)))))

-- the line of a file that could not be read
unfoldable pub lost_line : List ℕ → List ℕ
lost_line file = plain_field file ++ letters_of ": unreadable\n"

-- ---- the same as rows of CSV, the first of which names the fields
abbrev pub csv_head : List ℕ
csv_head = letters_of "file,verdict,number,words,steps,name,model\n"

unfoldable pub bare_verdict : ℕ → List ℕ
bare_verdict number = pick (eqb number 0) (letters_of "passes") (letters_of "refused")

-- the steps, and nothing where the program was not run
unfoldable pub bare_steps : Bool → ℕ → List ℕ
bare_steps ran steps = pick ran (decimal_of steps) []

abbrev pub comma : List ℕ
comma = letters_of ","

-- what a dump was found to be: verdict, number, words and steps
unfoldable pub found_fields : Dump → List ℕ
found_fields d =
    bare_verdict d.number ++
    (comma ++ (decimal_of d.number ++ (comma ++ (field (words_of d.number) ++ (comma ++ bare_steps d.ran d.steps)))))

unfoldable pub scan_csv : List ℕ → Dump → List ℕ → List ℕ → List ℕ
scan_csv file d name model =
    field file ++ (comma ++ (found_fields d ++ (comma ++ (text_field name ++ (comma ++ (text_field model ++ line_end))))))

unfoldable pub lost_csv : List ℕ → List ℕ
lost_csv file = field file ++ letters_of ",unreadable,,\"\",,\"\",\"\"\n"

-- a number and the words behind it
abbrev pub count_words : ℕ → List ℕ → List ℕ
count_words n words = decimal_of n ++ words

-- "8 dumps: 3 passed, 3 refused, 1 out of budget, 1 unreadable"
unfoldable pub count_line : Counts → List ℕ
count_line c =
    count_words c.all (letters_of " dumps: ") ++
    (count_words c.passed (letters_of " passed, ") ++
    (count_words c.refused (letters_of " refused, ") ++
    (count_words c.spent (letters_of " out of budget, ") ++ count_words c.lost (letters_of " unreadable\n"))))
