-- The header of document 01: "Byte 0 is the start: 0xFD (version1, 8-bit offsets) or 0xF1 (start1, 16-bit offsets). Byte 1 is the format,
-- 0x08. Bytes 2-3 are the checksum and 4-7 the program length, big-endian. The length counts the header. The checksum is the sum of
-- bytes 8 to length-1, modulo 65,536. .. Tests run in the order 6, 1, 2, 3, 4, 5." No buffer is lent to the header test, so that 6 does not
-- arise in it. Request (vii) of document 02 adds 0xF2 (start2) and 0xF3 (start4), with 16-bit offsets too, and all bytes here are FCode
-- bytes: "Refusal 4 compares the bytes needed, which is the last one's place plus one. A ROM too short for its spread header gives 1, after
-- 2." What this asks of the ROM as it is lent, in that order, is a law (`lent_header_lem`, Laws/Lent.antt). Assumes nothing.
use Rattle.std.specs.Prelude.{ℕ, Bool, not, ◌||◌, List, length, ◌==◌, nat_lt}
use Rattle.cells.specs.Choice.{pick}
use Rattle.rom.specs.Sizes.{rom_least}
use Rattle.rom.specs.Bytes.{byte_of, word16_of, word32_of}
use Rattle.rom.specs.Spread.{is_spread, fcode_most}
use Rattle.rom.specs.Sum.{sum_of}

-- start1, start2 and start4 have 16-bit offsets
abbrev pub wide_of : List ℕ → Bool
wide_of rom = byte_of rom 0 == 0xF1 || is_spread rom

abbrev pub start_of : List ℕ → Bool
start_of rom = byte_of rom 0 == 0xFD || wide_of rom

abbrev pub format_of : List ℕ → Bool
format_of rom = byte_of rom 1 == 0x08

abbrev pub checksum_of : List ℕ → ℕ
checksum_of rom = word16_of rom 2

abbrev pub length_of : List ℕ → ℕ
length_of rom = word32_of rom 4

-- 1: "ROM under 8 or over 16,384 bytes", 65,536 with request (vi), "or too short for its spread header": a ROM of either shortness has
-- fewer than 8 FCode bytes, and one of over 65,536 bytes more FCode bytes than the largest
abbrev pub wrong_rom : List ℕ → Bool
wrong_rom rom = nat_lt (length rom) rom_least || nat_lt (fcode_most rom) (length rom)

-- 4: "length below 9 or above the ROM lent": the last FCode byte's place is not in the ROM
abbrev pub wrong_length : List ℕ → ℕ → Bool
wrong_length rom size = nat_lt size 9 || nat_lt (length rom) size

-- 0, or the first refusal whose condition holds
unfoldable pub header_of : List ℕ → ℕ
header_of rom =
    pick (wrong_rom rom) 1
    (pick (not (start_of rom)) 2
    (pick (not (format_of rom)) 3
    (pick (wrong_length rom (length_of rom)) 4
    (pick (not (sum_of rom (length_of rom) == checksum_of rom)) 5 0))))
