-- The lines of a scan, run: what passed, what was refused in a run and by its header, names with quotes and control bytes, and the counts.
-- Assumes nothing.
use Rattle.std.specs.Prelude.{ℕ, true, false, List, [], ◌∷◌, ◌++◌, ◌≡◌, refl}
use Rattle.rom.specs.Words.{letters_of}
use Rattle.lines.specs.Digits.{decimal_from}
use Rattle.lines.specs.Fields.{each_as, field, labelled}
use Rattle.lines.specs.Numbers.{opening, naming, moving, running, other, words_of, has_words, number_line}
use Rattle.lines.specs.Printed.{all_printed, quoted, is_text}
use Rattle.lines.specs.Verdicts.{reason_of, verdict_of, steps_part, scan_line, lost_line, count_line}
use Rattle.lines.specs.Verdicts.{bare_verdict, bare_steps, found_fields, scan_csv, lost_csv}
use Rattle.lines.specs.declared.verdicts.Dump.{Dump}

-- a text with its null
abbrev value : List ℕ → List ℕ
value letters = letters ++ (0 ∷ [])

-- what came of a dump
abbrev passed : Dump
passed = record { number = 0; ran = true; steps = 7 }

abbrev stopped : Dump
stopped = record { number = 28; ran = true; steps = 100000 }

abbrev unfit : Dump
unfit = record { number = 5; ran = false; steps = 0 }

-- ---- the numbers
low_stack : number_line 14 ≡ letters_of "14 the data stack is too low\n"
unfolding number_line has_words words_of opening naming moving running other decimal_from letters_of
low_stack = refl

no_such_number : number_line 8 ≡ []
unfolding number_line has_words words_of opening naming moving running other letters_of
no_such_number = refl

past_the_table : words_of 32 ≡ []
unfolding words_of opening naming moving running other letters_of
past_the_table = refl

-- a number without words is a verdict of its own
bare_refusal : verdict_of 8 ≡ letters_of "refused 8"
unfolding verdict_of reason_of has_words words_of opening naming moving running other decimal_from letters_of
bare_refusal = refl

-- ---- lines
whole_line : scan_line (letters_of "scale.bin") passed (value (letters_of "scale")) (value (letters_of "XM-2"))
    ≡ letters_of "scale.bin: passes, steps 7, name \"scale\", model \"XM-2\"\n"
unfolding scan_line verdict_of steps_part labelled quoted is_text all_printed each_as decimal_from letters_of
whole_line = refl

spent_run : scan_line (letters_of "loop.bin") stopped (value (letters_of "loop")) []
    ≡ letters_of "loop.bin: refused 28: the budget is spent, steps 100000, name \"loop\"\n"
unfolding scan_line verdict_of reason_of has_words words_of opening naming moving running other steps_part labelled quoted is_text
    all_printed
    each_as decimal_from letters_of
spent_run = refl

-- a refused header has no steps
bad_header : scan_line (letters_of "a.bin") unfit [] [] ≡ letters_of "a.bin: refused 5: the program's bytes do not add up to the checksum\n"
unfolding scan_line verdict_of reason_of has_words words_of opening naming moving running other steps_part labelled quoted is_text
    all_printed
    each_as decimal_from letters_of
bad_header = refl

-- neither bytes with no null behind them nor a byte that is not printed are text
no_text : scan_line (letters_of "b") passed (letters_of "scale") (value (0x1B ∷ [])) ≡ letters_of "b: passes, steps 7\n"
unfolding scan_line verdict_of steps_part labelled quoted is_text all_printed each_as decimal_from letters_of
no_text = refl

-- an escape sequence in a file's name, a DEL, and a letter beyond 7F
control_bytes : lost_line (0x1B ∷ 0x5B ∷ 0x6D ∷ 0x7F ∷ 0xC3 ∷ 0xA9 ∷ [])
    ≡ 0x3F ∷ 0x5B ∷ 0x6D ∷ 0x3F ∷ 0xC3 ∷ 0xA9 ∷ letters_of ": unreadable\n"
unfolding lost_line each_as letters_of
control_bytes = refl

-- ---- rows
whole_row : scan_csv (letters_of "scale.bin") passed (value (letters_of "scale")) (value (letters_of "XM-2"))
    ≡ letters_of "\"scale.bin\",passes,0,\"\",7,\"scale\",\"XM-2\"\n"
unfolding scan_csv found_fields bare_verdict bare_steps words_of opening naming moving running other field is_text all_printed each_as
    decimal_from
    letters_of
whole_row = refl

-- double quotes in a file's name and in a value
quotes_doubled_lem : scan_csv (letters_of "a\"b") stopped (value (letters_of "\"s\"")) []
    ≡ letters_of "\"a\"\"b\",refused,28,\"the budget is spent\",100000,\"\"\"s\"\"\",\"\"\n"
unfolding scan_csv found_fields bare_verdict bare_steps words_of opening naming moving running other field is_text all_printed each_as
    decimal_from
    letters_of
quotes_doubled_lem = refl

bad_header_row : scan_csv (letters_of "a.bin") unfit [] (letters_of "X")
    ≡ letters_of "\"a.bin\",refused,5,\"the program's bytes do not add up to the checksum\",,\"\",\"\"\n"
unfolding scan_csv found_fields bare_verdict bare_steps words_of opening naming moving running other field is_text all_printed each_as
    decimal_from
    letters_of
bad_header_row = refl

lost_row : lost_csv (letters_of "gone") ≡ letters_of "\"gone\",unreadable,,\"\",,\"\",\"\"\n"
unfolding lost_csv field each_as letters_of
lost_row = refl

-- ---- the count
counts : count_line (record { all = 8; passed = 3; refused = 3; spent = 1; lost = 1 })
    ≡ letters_of "8 dumps: 3 passed, 3 refused, 1 out of budget, 1 unreadable\n"
unfolding count_line decimal_from letters_of
counts = refl
