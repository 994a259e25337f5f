-- The house sizes of document 01, "What the tool covers": "ROM 8 to 16,384 bytes; data stack 64 cells; return stack 32 cells; 16 call
-- frames; 256 program numbers; 32 nodes with the root; 128 properties; work memory, property store and mark buffer exactly 16,384 bytes
-- each", of which request (vi) of document 02 moves two: "Raise the ROM limit and the mark buffer to 65,536 bytes". Assumes nothing.
use Rattle.std.specs.Prelude.{ℕ}
use Rattle.rom.specs.declared.sizes.House.{House}

abbrev pub rom_least : ℕ
rom_least = 8

abbrev pub rom_most : ℕ
rom_most = 65536

-- the header has bytes 0 to 7, so that a program's first place is 8
abbrev pub first_place : ℕ
first_place = 8

abbrev pub data_most : ℕ
data_most = 64

abbrev pub return_most : ℕ
return_most = 32

abbrev pub frames_most : ℕ
frames_most = 16

abbrev pub numbers_most : ℕ
numbers_most = 256

abbrev pub nodes_most : ℕ
nodes_most = 32

abbrev pub properties_most : ℕ
properties_most = 128

abbrev pub work_size : ℕ
work_size = 16384

abbrev pub store_size : ℕ
store_size = 16384

abbrev pub marks_size : ℕ
marks_size = 65536

-- the buffer that the listing's text is written to, which document 01 leaves open
abbrev pub text_size : ℕ
text_size = 65536

-- all of them, as the code has them
abbrev pub house : House
house =
    record {
      rom_least = rom_least;
      rom_most = rom_most;
      first_place = first_place;
      data_most = data_most;
      return_most = return_most;
      frames_most = frames_most;
      numbers_most = numbers_most;
      nodes_most = nodes_most;
      properties_most = properties_most;
      work_size = work_size;
      store_size = store_size;
      marks_size = marks_size;
      text_size = text_size;
    }
