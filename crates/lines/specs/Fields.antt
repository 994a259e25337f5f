-- A file's name and a value as a line shows them, and as a field of a CSV row holds them. Assumes nothing.
use Rattle.std.specs.Prelude.{ℕ, ◌||◌, List, [], ◌∷◌, ◌++◌, ltb, eqb}
use Rattle.cells.specs.Choice.{pick}
use Rattle.rom.specs.Words.{letters_of}
use Rattle.lines.specs.Printed.{quoted, is_text, text_of}

-- bytes, each as the bytes that stand for it
unfoldable pub each_as : (ℕ → List ℕ) → List ℕ → List ℕ
each_as f [] = []
each_as f (b ∷ bs) = f b ++ each_as f bs

-- a name as a line shows it: a control byte, 00 to 1F and 7F, is a ?, so that no name reaches a terminal as a command
abbrev pub plain_byte : ℕ → ℕ
plain_byte b = pick (ltb b 0x20 || eqb b 0x7F) 0x3F b

abbrev pub plain_field : List ℕ → List ℕ
plain_field bs = each_as (λ b. plain_byte b ∷ []) bs

-- a field of a CSV row: bytes in double quotes, each double quote among them doubled
abbrev pub doubled_byte : ℕ → List ℕ
doubled_byte b = pick (eqb b 0x22) (0x22 ∷ 0x22 ∷ []) (b ∷ [])

abbrev pub quotes_doubled : List ℕ → List ℕ
quotes_doubled bs = each_as doubled_byte bs

unfoldable pub field : List ℕ → List ℕ
field bs = letters_of "\"" ++ (quotes_doubled bs ++ letters_of "\"")

-- that of a value: its text, or nothing within the quotes where it is no text
abbrev pub text_field : List ℕ → List ℕ
text_field value = field (pick (is_text value) (text_of value) [])

-- a value behind its label, as in ", name "scale""; nothing where it is no text
unfoldable pub labelled : List ℕ → List ℕ → List ℕ
labelled label value = pick (is_text value) (letters_of ", " ++ (label ++ quoted (text_of value))) []
