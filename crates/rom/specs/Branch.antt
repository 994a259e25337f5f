-- Where a branch leads: "A branch offset is signed two's complement, counted from the offset's first byte", of 8 bits or of 16, by the
-- offset width in force. Refusal 19: "taken branch to outside 8..length-1". Assumes nothing.
use Rattle.std.specs.Prelude.{ℕ, Bool, ◌&&◌, List, ℤ, pos, negsuc, ◌+ℤ◌, nat_le, nat_lt, None, Option, Some}
use Rattle.cells.specs.Choice.{pick}
use Rattle.cells.specs.Signed.{signed_in}
use Rattle.rom.specs.Bytes.{byte_of, word16_of}
use Rattle.rom.specs.Sizes.{first_place}

-- the bits of an offset, as they stand; wide where the width in force is 16
abbrev pub offset_of : List ℕ → Bool → ℕ → ℕ
offset_of rom wide at = pick wide (word16_of rom at) (byte_of rom at)

-- the place that the offset at a place leads to, which may be negative
abbrev pub destination_of : List ℕ → Bool → ℕ → ℤ
destination_of rom wide at = pos at +ℤ signed_in (pick wide 16 8) (offset_of rom wide at)

-- whether a branch may go there
abbrev pub landing : ℕ → ℤ → Option ℕ
landing length (pos to) = pick (nat_le first_place to && nat_lt to length) (Some to) None
landing length (negsuc n) = None

unfoldable pub aim_of : List ℕ → ℕ → Bool → ℕ → Option ℕ
aim_of rom length wide at = landing length (destination_of rom wide at)

-- an aim as a number: 0, which is no place of a branch, for outside
abbrev pub place_in : Option ℕ → ℕ
place_in (Some to) = to
place_in None = 0
