-- The rooms that the FCode bytes of a spread ROM are laid into, and how many of them a run asks for. Assumes nothing.
use Rattle.std.specs.Prelude.{ℕ, ◌≤◌, ◌≡◌, ◌⊎◌, List, length as count}
use Rattle.rom.specs.Sizes.{rom_least}
use Rattle.rom.specs.Spread.{spread_of, view_of, fcode_most}
use Rattle.rom.specs.declared.spread.Spread.{Spread}
use Rattle.rom.specs.declared.spread.Spread.TheVariants.{One}

abbrev pub small_room : ℕ
small_room = 512

abbrev pub middle_room : ℕ
middle_room = 4096

-- half of what a ROM has at most
abbrev pub large_room : ℕ
large_room = 32768

-- so many bytes have room
pub record RoomFor (size : ℕ) (room : List ℕ) : Type 0 where
  pub fits : size ≤ count room

-- a ROM as it is lent is spread so
pub record SpreadIs (spread : Spread) (rom : List ℕ) : Type 0 where
  pub is : spread ≡ spread_of rom
  pub apart : spread ≡ One → ⊥

-- so many FCode bytes of a ROM of good size are enough for a state of a length: they reach up to it, or are all that there are
pub record Laying (spread : Spread) (rom : List ℕ) (size asked : ℕ) : Type 0 where
  pub least : rom_least ≤ asked
  pub within : asked ≤ count (view_of spread rom)
  pub most : count (view_of spread rom) ≤ fcode_most (view_of spread rom)
  pub enough : (size ≤ asked) ⊎ (asked ≡ count (view_of spread rom))
