-- "Bytes past the length are ignored": ROMs that differ in such bytes alone. All of it is said of their FCode bytes. Assumes nothing.
use Rattle.std.specs.Prelude.{◌≡◌, ℕ, ◌<◌, ◌≤◌, List, length}
use Rattle.rom.specs.Sizes.{rom_least}
use Rattle.rom.specs.Bytes.{byte_of}
use Rattle.rom.specs.Spread.{fcode_most}
use Rattle.rom.specs.Header.{length_of}

-- the bytes below a place are the same
abbrev pub SameBelow : ℕ → List ℕ → List ℕ → Type 0
SameBelow size rom other = (k : ℕ) → k < size → byte_of rom k ≡ byte_of other k

-- Two ROMs of a length: their bytes below it are the same, and both reach up to it. Both have a ROM's size, which refusal 1 tells of
-- the ROM as it is lent. What lies past the length may differ, and how much of it there is.
pub record AlikeTo (size : ℕ) (rom other : List ℕ) : Type 0 where
  pub same : SameBelow size rom other
  -- the first byte tells how far apart the others lie
  pub start : byte_of rom 0 ≡ byte_of other 0
  pub least : (rom_least ≤ length rom) × (rom_least ≤ length other)
  pub most : (length rom ≤ fcode_most rom) × (length other ≤ fcode_most other)
  pub within : (size ≤ length rom) × (size ≤ length other)

-- Two ROMs that differ past the program length alone, which their header tells. The header's bytes are there whatever length it tells.
pub record Alike (rom other : List ℕ) : Type 0 where
  pub header : SameBelow rom_least rom other
  pub program : AlikeTo (length_of rom) rom other
