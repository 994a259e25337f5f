-- Bytes as a person reads them: those from 20 to 7E are letters that are printed as they are. Assumes nothing.
use Rattle.std.specs.Prelude.{ℕ, ◌-◌, Bool, true, not, ◌&&◌, List, [], ◌∷◌, ◌++◌, leb, eqb, length, get_or, take}
use Rattle.cells.specs.Choice.{pick}
use Rattle.rom.specs.Words.{letters_of}

abbrev pub printed : ℕ → Bool
printed b = leb 0x20 b && leb b 0x7E

unfoldable pub all_printed : List ℕ → Bool
all_printed [] = true
all_printed (b ∷ bs) = printed b && all_printed bs

-- bytes in quotes behind a space, where all of them are printed; else nothing
unfoldable pub quoted : List ℕ → List ℕ
quoted bs = pick (all_printed bs) (letters_of " \"" ++ (bs ++ letters_of "\"")) []

-- a value less its last byte: its text, where the value is one
abbrev pub text_of : List ℕ → List ℕ
text_of value = take (length value - 1) value

-- a value that is text: it ends with a null, and all before it is printed
unfoldable pub is_text : List ℕ → Bool
is_text value = not (eqb (length value) 0) && (eqb (get_or value (length value - 1) 0) 0 && all_printed (text_of value))
