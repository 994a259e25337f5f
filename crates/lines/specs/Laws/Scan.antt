-- How long each line of a scan is at most, so that a caller knows how much room to keep for it. Assumes nothing.
use Rattle.std.specs.Prelude.{ℕ, ◌+◌, ◌*◌, ◌≤◌, Bool, List, [], ◌++◌, ◌≡◌, eqb, length}
use Rattle.std.proofs.Common.{arith, length-append}
use Rattle.cells.specs.Laws.Tests.{pick_is}
use Rattle.rom.specs.Words.{letters_of}
use Rattle.lines.specs.Digits.{decimal_of}
use Rattle.lines.specs.Laws.Fields.{length_plain, length_field, length_words_field, length_text_field, length_labelled}
use Rattle.lines.specs.Fields.{plain_field, field, text_field, labelled}
use Rattle.lines.specs.Laws.Texts.{length_decimal}
use Rattle.lines.specs.Lines.{line_end}
use Rattle.lines.specs.Laws.Numbers.{length_words}
use Rattle.lines.specs.Numbers.{has_words, words_of, number_line}
use Rattle.lines.specs.Verdicts.{reason_of, verdict_of, steps_part, scan_line, lost_line, count_words, count_line}
use Rattle.lines.specs.Verdicts.{comma, csv_head, bare_verdict, bare_steps, found_fields, scan_csv, lost_csv}
use Rattle.lines.specs.declared.verdicts.Counts.{Counts}
use Rattle.lines.specs.declared.verdicts.Dump.{Dump}

-- a number with words behind it
length_counted : (n : ℕ) (words : List ℕ) → length (decimal_of n ++ words) ≤ 10 + length words
length_counted n words = let a = length-append (decimal_of n) words in let d = length_decimal 10 n in omega arith

pub number_line_most : (n : ℕ) → length (number_line n) ≤ 119
unfolding number_line letters_of
number_line_most n =
    let a = length_counted n (letters_of " " ++ (words_of n ++ line_end)) in
    let b = length-append (words_of n) line_end in
    let w = length_words n in
    pick_is (λ l. length l ≤ 119) (has_words n) (decimal_of n ++ (letters_of " " ++ (words_of n ++ line_end))) []
    (λ t. omega arith)
    (λ t. omega arith)

reason_most : (n : ℕ) → length (reason_of n) ≤ 109
unfolding reason_of letters_of
reason_most n =
    let w = length_words n in
    pick_is (λ l. length l ≤ 109) (has_words n) (letters_of ": " ++ words_of n) [] (λ t. omega arith) (λ t. omega arith)

pub verdict_most : (n : ℕ) → length (verdict_of n) ≤ 127
unfolding verdict_of letters_of
verdict_most n =
    let a = length_counted n (reason_of n) in
    let r = reason_most n in
    pick_is (λ l. length l ≤ 127) (eqb n 0) (letters_of "passes") (letters_of "refused " ++ (decimal_of n ++ reason_of n))
    (λ t. omega arith)
    (λ t. omega arith)

-- the steps, in a line and in a row
steps_most : (ran : Bool) (n : ℕ) → (length (steps_part ran n) ≤ 18) × (length (bare_steps ran n) ≤ 10)
unfolding steps_part bare_steps letters_of
steps_most ran n =
    let d = length_decimal 10 n in (
      pick_is (λ l. length l ≤ 18) ran (letters_of ", steps " ++ decimal_of n) [] (λ t. omega arith) (λ t. omega arith),
      pick_is (λ l. length l ≤ 10) ran (decimal_of n) [] (λ t. omega arith) (λ t. omega arith),
    )

-- ---- the lines
pub scan_line_most : (file : List ℕ) (d : Dump) (name model : List ℕ)
    → length (scan_line file d name model) ≤ length file + length name + length model + 167
unfolding scan_line letters_of
scan_line_most file d name model =
    let n = labelled (letters_of "name") name in
    let m = labelled (letters_of "model") model in
    let s = steps_part d.ran d.steps in
    let v = verdict_of d.number in
    let a = length-append (plain_field file) (letters_of ": " ++ (v ++ (s ++ (n ++ (m ++ line_end))))) in
    let b = length-append v (s ++ (n ++ (m ++ line_end))) in
    let c = length-append s (n ++ (m ++ line_end)) in
    let e = length-append n (m ++ line_end) in
    let f = length-append m line_end in
    let x = length_labelled (letters_of "name") name in
    let y = length_labelled (letters_of "model") model in
    omega (arith, length_plain file, verdict_most d.number, (steps_most d.ran d.steps).0)

pub length_lost_line : (file : List ℕ) → length (lost_line file) ≡ length file + 13
unfolding lost_line letters_of
length_lost_line file = omega (arith, length-append (plain_field file) (letters_of ": unreadable\n"), length_plain file)

-- ---- the rows
pub length_csv_head : length csv_head ≡ 43
unfolding letters_of
length_csv_head = omega arith

verdict_bare : (n : ℕ) → length (bare_verdict n) ≤ 7
unfolding bare_verdict letters_of
verdict_bare n = pick_is (λ l. length l ≤ 7) (eqb n 0) (letters_of "passes") (letters_of "refused") (λ t. omega arith) (λ t. omega arith)

found_most : (d : Dump) → length (found_fields d) ≤ 139
unfolding found_fields letters_of
found_most d =
    let w = field (words_of d.number) in
    let s = bare_steps d.ran d.steps in
    let a = length-append (bare_verdict d.number) (comma ++ (decimal_of d.number ++ (comma ++ (w ++ (comma ++ s))))) in
    let b = length_counted d.number (comma ++ (w ++ (comma ++ s))) in
    let c = length-append w (comma ++ s) in
    omega (arith, verdict_bare d.number, length_words_field d.number, length_words d.number, (steps_most d.ran d.steps).1)

pub scan_csv_most : (file : List ℕ) (d : Dump) (name model : List ℕ)
    → length (scan_csv file d name model) ≤ 2 * (length file + length name + length model) + 149
unfolding scan_csv letters_of
scan_csv_most file d name model =
    let n = text_field name in
    let m = text_field model in
    let a = length-append (field file) (comma ++ (found_fields d ++ (comma ++ (n ++ (comma ++ (m ++ line_end)))))) in
    let b = length-append (found_fields d) (comma ++ (n ++ (comma ++ (m ++ line_end)))) in
    let c = length-append n (comma ++ (m ++ line_end)) in
    let e = length-append m line_end in
    omega (arith, length_field file, found_most d, length_text_field name, length_text_field model)

pub lost_csv_most : (file : List ℕ) → length (lost_csv file) ≤ 2 * length file + 25
unfolding lost_csv letters_of
lost_csv_most file = omega (arith, length-append (field file) (letters_of ",unreadable,,\"\",,\"\",\"\"\n"), length_field file)

-- ---- the count
pub count_line_most : (c : Counts) → length (count_line c) ≤ 105
unfolding count_line letters_of
count_line_most c =
    let p = count_words c.passed (letters_of " passed, ") in
    let r = count_words c.refused (letters_of " refused, ") in
    let s = count_words c.spent (letters_of " out of budget, ") in
    let l = count_words c.lost (letters_of " unreadable\n") in
    let a = length-append (count_words c.all (letters_of " dumps: ")) (p ++ (r ++ (s ++ l))) in
    let b = length-append p (r ++ (s ++ l)) in
    let d = length-append r (s ++ l) in
    let e = length-append s l in
    let most_all = length_counted c.all (letters_of " dumps: ") in
    let most_passed = length_counted c.passed (letters_of " passed, ") in
    let most_refused = length_counted c.refused (letters_of " refused, ") in
    let most_spent = length_counted c.spent (letters_of " out of budget, ") in
    let most_lost = length_counted c.lost (letters_of " unreadable\n") in
    omega arith
