-- What the proofs need of names and fields: bytes from a place on, how long they are as a line or a field has them, and that the words of
-- a number are the same within quotes. Assumes nothing.
use Rattle.std.specs.Prelude.{ℕ, ◌+◌, ◌*◌, ◌-◌, ◌≤◌, ◌<◌, Bool, true, not, ◌&&◌, List, [], ◌∷◌, ◌++◌, ◌≡◌, refl, T, eqb, length, get_or}
use Rattle.std.specs.Prelude.{drop}
use Rattle.std.proofs.Math.Numerals.{add-one}
use Rattle.std.proofs.Common.{arith, length-append, length-take, drop-cons}
use Rattle.cells.specs.Laws.Facts.{both_hold, is_false}
use Rattle.cells.specs.Laws.Tests.{pick_is}
use Rattle.rom.specs.Words.{letters_of}
use Rattle.lines.specs.Fields.{each_as, plain_field, doubled_byte, quotes_doubled, field, text_field, labelled}
use Rattle.lines.specs.Laws.Texts.{drop_none}
use Rattle.lines.specs.Laws.Numbers.{found}
use Rattle.lines.specs.Numbers.{opening, naming, moving, running, other, numbers, words_of}
use Rattle.lines.specs.Printed.{all_printed, quoted, is_text, text_of}

-- bytes from a place on: one more, or none
module _ (f : ℕ → List ℕ) (bs : List ℕ) (k : ℕ) where
  pub each_more : k < length bs → each_as f (drop k bs) ≡ f (get_or bs k 0) ++ each_as f (drop (k + 1) bs)
  unfolding each_as
  each_more h = rw (drop-cons bs k 0 h, add-one k)

  pub each_none : length bs ≤ k → each_as f (drop k bs) ≡ []
  unfolding each_as
  each_none h = rw (drop_none bs k h)

-- words with no double quote are the same with each of them doubled
abbrev quoteless : List ℕ → Bool
quoteless [] = true
quoteless (b ∷ bs) = not (eqb b 0x22) && quoteless bs

same_doubled : (bs : List ℕ) → T (quoteless bs) → quotes_doubled bs ≡ bs
unfolding each_as
same_doubled [] h = refl
same_doubled (b ∷ bs) h = let q = both_hold (not (eqb b 0x22)) (quoteless bs) h in rw (is_false (eqb b 0x22) q.0, same_doubled bs q.1)

pub words_doubled : (n : ℕ) → quotes_doubled (words_of n) ≡ words_of n
unfolding words_of opening naming moving running other letters_of
words_doubled n = same_doubled (words_of n) (found (λ k w. quoteless (letters_of w)) numbers "" n tt tt)

-- ---- how long they are
pub length_plain : (bs : List ℕ) → length (plain_field bs) ≡ length bs
unfolding each_as
length_plain [] = refl
length_plain (b ∷ bs) = let i = length_plain bs in omega arith

length_doubled : (bs : List ℕ) → length (quotes_doubled bs) ≤ 2 * length bs
unfolding each_as
length_doubled [] = omega arith
length_doubled (b ∷ bs) =
    let a = length-append (doubled_byte b) (quotes_doubled bs) in
    let i = length_doubled bs in
    let d = pick_is (λ w. length w ≤ 2) (eqb b 0x22) (0x22 ∷ 0x22 ∷ []) (b ∷ []) (λ t. omega arith) (λ t. omega arith) in
    omega arith

pub length_field : (bs : List ℕ) → length (field bs) ≤ 2 * length bs + 2
unfolding field letters_of
length_field bs = let a = length-append (quotes_doubled bs) (0x22 ∷ []) in let d = length_doubled bs in omega arith

pub length_words_field : (n : ℕ) → length (field (words_of n)) ≡ length (words_of n) + 2
unfolding field letters_of
length_words_field n = rw (words_doubled n) (omega (arith, length-append (words_of n) (0x22 ∷ [])))

length_text : (value : List ℕ) → length (text_of value) ≤ length value
length_text value = let t = length-take (length value - 1) value in omega arith

pub length_text_field : (value : List ℕ) → length (text_field value) ≤ 2 * length value + 2
length_text_field value =
    let a = length_field (text_of value) in
    let b = length_field [] in
    let l = length_text value in
    pick_is (λ w. length (field w) ≤ 2 * length value + 2) (is_text value) (text_of value) [] (λ t. omega arith) (λ t. omega arith)

length_quoted : (bs : List ℕ) → length (quoted bs) ≤ length bs + 3
unfolding quoted letters_of
length_quoted bs =
    let a = length-append bs (0x22 ∷ []) in
    pick_is (λ w. length w ≤ length bs + 3) (all_printed bs) (letters_of " \"" ++ (bs ++ letters_of "\"")) []
    (λ t. omega arith)
    (λ t. omega arith)

pub length_labelled : (label value : List ℕ) → length (labelled label value) ≤ length label + length value + 5
unfolding labelled letters_of
length_labelled label value =
    let a = length-append label (quoted (text_of value)) in
    let q = length_quoted (text_of value) in
    let l = length_text value in
    pick_is (λ w. length w ≤ length label + length value + 5) (is_text value)
    (letters_of ", " ++ (label ++ quoted (text_of value)))
    []
    (λ t. omega arith)
    (λ t. omega arith)
