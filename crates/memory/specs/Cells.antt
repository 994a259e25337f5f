-- Cells and bytes fetched and stored: "6D @ 71 c@ 72 ! 75 c!. Cells are big-endian (house)", with refusal 22, "address range in no window,
-- or a store outside work memory", before 23, "cell address not a multiple of 4". c! stores the low 8 bits. Assumes nothing.
use Rattle.std.specs.Prelude.{ℕ, ◌-◌, ◌%◌, Bool, not, List, [], ◌∷◌, length, eqb, Err, Ok, Result}
use Rattle.cells.specs.Choice.{pick}
use Rattle.rom.specs.Bytes.{byte_of, word32_of}
use Rattle.memory.specs.Window.{work_base, lies, bad_range, resolve_of}
use Rattle.memory.specs.Writing.{written_of, bytes_of}

abbrev pub uneven : ℕ → Bool
uneven address = not (eqb (address % 4) 0)

unfoldable pub fetch_cell_of : List ℕ → List ℕ → ℕ → ℕ → Result ℕ ℕ
fetch_cell_of rom work size address =
    pick (bad_range rom work size address 4) (Err 22)
    (pick (uneven address) (Err 23) (Ok (word32_of (resolve_of rom work size address 4) 0)))

unfoldable pub fetch_byte_of : List ℕ → List ℕ → ℕ → ℕ → Result ℕ ℕ
fetch_byte_of rom work size address =
    pick (bad_range rom work size address 1) (Err 22) (Ok (byte_of (resolve_of rom work size address 1) 0))

-- a store goes to work memory alone: 0, or why it is refused, and the memory then
abbrev pub outside_work : List ℕ → ℕ → ℕ → Bool
outside_work work address count = not (lies work_base (length work) address count)

unfoldable pub cell_refusal : List ℕ → ℕ → ℕ
cell_refusal work address = pick (outside_work work address 4) 22 (pick (uneven address) 23 0)

unfoldable pub byte_refusal : List ℕ → ℕ → ℕ
byte_refusal work address = pick (outside_work work address 1) 22 0

abbrev pub cell_stored : List ℕ → ℕ → ℕ → List ℕ
cell_stored work address cell = pick (eqb (cell_refusal work address) 0) (written_of work (address - work_base) (bytes_of cell)) work

abbrev pub byte_stored : List ℕ → ℕ → ℕ → List ℕ
byte_stored work address cell = pick (eqb (byte_refusal work address) 0) (written_of work (address - work_base) ((cell % 256) ∷ [])) work
