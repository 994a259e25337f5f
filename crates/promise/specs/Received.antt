-- What C receives, and with what a listing starts, by the rules alone.
--
-- In plain words. C calls `fcode_screen` with any ROM and any mark buffer. It is handed 0 exactly where the buffer has its size, the
-- header is good and stack heights can be assigned to the ROM by document 01's rules (`Zero`), and 31 exactly where the buffer has its
-- size, the header is good and they cannot (`ThirtyOne`). C, or a person's program, calls `fcode_list` with a text of its size and any
-- other buffers. What is written starts with the line `screen pass` exactly where those have their sizes, the header is good and
-- heights can be assigned; whatever else is written is one line `refused N` (`FirstLine`).
--
-- It is said of what the contracts of `fcode_screen` and `fcode_list` (host/src/lib.rt) promise, and so it holds of whatever code
-- meets them. Assumes nothing.
use Rattle.std.specs.Prelude.{ℕ, ◌≡◌, ◌↔◌, ◌⊎◌, List, ◌++◌, length, take}
use Rattle.rom.specs.Sizes.{marks_size, work_size, store_size, text_size}
use Rattle.rom.specs.Header.{header_of}
use Rattle.screen.specs.Rules.{Assignment}
use Rattle.lines.specs.Lines.{refused_line, pass_line}
use Rattle.listing.specs.Listing.{Listed, Lists}
use Rattle.host.specs.Host.{HostScreened}

-- `fcode_screen(rom, marks)` handed this number back, with these marks: the contract in host/src/lib.rt
abbrev pub Zero : Type 0
Zero = (rom before after : List ℕ) (number : ℕ) → HostScreened rom before number after
    → (number ≡ 0) ↔ ((length before ≡ marks_size) × (header_of rom ≡ 0) × Assignment rom)

abbrev pub ThirtyOne : Type 0
ThirtyOne = (rom before after : List ℕ) (number : ℕ) → HostScreened rom before number after
    → (number ≡ 31) ↔ ((length before ≡ marks_size) × (header_of rom ≡ 0) × (Assignment rom → ⊥))

-- what was written into the text's buffer, as far as the length that was handed back says
abbrev pub written : Listed → List ℕ
written l = take l.size l.text

abbrev pub StartsWith : List ℕ → List ℕ → Type 0
StartsWith line words = (rest : List ℕ) × (words ≡ line ++ rest)

-- the three buffers beside the text have their sizes, the header is good, and heights can be assigned
abbrev pub Listable : List ℕ → List ℕ → List ℕ → List ℕ → Type 0
Listable rom marks work store =
    (length marks ≡ marks_size) × (length work ≡ work_size) × (length store ≡ store_size) × (header_of rom ≡ 0) × Assignment rom

-- `fcode_list(rom, marks, work, store, budget, text)` wrote these words: the contract in host/src/lib.rt
abbrev pub FirstLineIs : List ℕ → List ℕ → List ℕ → List ℕ → List ℕ → Type 0
FirstLineIs rom marks work store words =
    (StartsWith pass_line words ↔ Listable rom marks work store) × (StartsWith pass_line words ⊎ ((n : ℕ) × (words ≡ refused_line n)))

abbrev pub FirstLine : Type 0
FirstLine = (rom marks work store text : List ℕ) (budget : ℕ) (l : Listed) → length text ≡ text_size
    → Lists rom marks work store budget text l → FirstLineIs rom marks work store (written l)

-- The theorem.
abbrev pub Received : Type 0
Received = Zero × ThirtyOne × FirstLine
