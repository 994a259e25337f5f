-- The two windows of document 01: "ROM byte k has address 10000000+k up to the program length, work byte k 20000000+k. A range is good when
-- it lies wholly in one window, its end included, so a zero length at a window's end is good. A string resolves to a part of the ROM or of
-- work memory, never a copy." Addresses are hexadecimal, and a range's end is counted without wrapping. Request (vii) of document 02: "The
-- ROM window is still numbered by FCode byte, so a string in a spread ROM can't be handed back as a part: such a string gives 22, a house
-- rule, until (xii) is done." A ROM is its FCode bytes here. Assumes nothing.
use Rattle.std.specs.Prelude.{ℕ, ◌+◌, ◌-◌, min, Bool, true, false, ◌&&◌, List, [], length, take, drop, leb}
use Rattle.cells.specs.Choice.{pick}
use Rattle.rom.specs.Spread.{is_spread}
use Rattle.memory.specs.declared.window.Window.{Window}
use Rattle.memory.specs.declared.window.Window.TheVariants.{Rom, Work, Nowhere}

abbrev pub rom_base : ℕ
rom_base = 0x1000_0000

abbrev pub work_base : ℕ
work_base = 0x2000_0000

-- whether `count` bytes at an address lie in a window of `size` bytes
abbrev pub lies : ℕ → ℕ → ℕ → ℕ → Bool
lies base size address count = leb base address && leb (address + count) (base + size)

-- the window that holds a range, with the byte at which the range starts there
unfoldable pub window_of : ℕ → ℕ → ℕ → ℕ → Window
window_of romSize work_size address count =
    pick (lies rom_base romSize address count) (Rom (address - rom_base))
    (pick (lies work_base work_size address count) (Work (address - work_base)) Nowhere)

abbrev pub is_nowhere : Window → Bool
is_nowhere (Rom k) = false
is_nowhere (Work k) = false
is_nowhere Nowhere = true

-- the bytes of a part
abbrev pub part_of : List ℕ → ℕ → ℕ → List ℕ
part_of bytes start count = take count (drop start bytes)

abbrev pub held_by : List ℕ → List ℕ → ℕ → Window → List ℕ
held_by rom work count (Rom k) = part_of rom k count
held_by rom work count (Work k) = part_of work k count
held_by rom work count Nowhere = []

-- the window of a range, where the program has `size` bytes and no more than are lent
abbrev pub range_of : List ℕ → List ℕ → ℕ → ℕ → ℕ → Window
range_of rom work size address count = window_of (min size (length rom)) (length work) address count

-- refusal 22, "address range in no window"
abbrev pub bad_range : List ℕ → List ℕ → ℕ → ℕ → ℕ → Bool
bad_range rom work size address count = is_nowhere (range_of rom work size address count)

-- the same of a string: what lies in a spread ROM's window, an empty one too, may be fetched and is no part that could be handed back
abbrev pub no_part : Bool → Window → Bool
no_part spread (Rom k) = spread
no_part spread (Work k) = false
no_part spread Nowhere = true

abbrev pub bad_string : List ℕ → List ℕ → ℕ → ℕ → ℕ → Bool
bad_string rom work size address count = no_part (is_spread rom) (range_of rom work size address count)

-- the bytes of a range, none where it lies in no window
unfoldable pub resolve_of : List ℕ → List ℕ → ℕ → ℕ → ℕ → List ℕ
resolve_of rom work size address count = held_by rom work count (range_of rom work size address count)
