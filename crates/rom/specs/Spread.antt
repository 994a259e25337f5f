-- Request (vii) of document 02, spread bytes: "Accept 0xF2 (start2) and 0xF3 (start4): FCode byte k sits at ROM byte k times the spread,
-- the header included, and offsets and program length count FCode bytes." All else that is said of a ROM is said of its FCode bytes. That
-- byte k of them is the ROM's byte at k times the spread is a law (`sits`, Laws/Spread.antt). Assumes nothing.
use Rattle.std.specs.Prelude.{ℕ, ◌/◌, Bool, ◌||◌, List, [], ◌∷◌, drop, ◌==◌}
use Rattle.cells.specs.Choice.{pick}
use Rattle.rom.specs.Sizes.{rom_most}
use Rattle.rom.specs.Bytes.{byte_of}
use Rattle.rom.specs.declared.spread.Spread.{Spread}
use Rattle.rom.specs.declared.spread.Spread.TheVariants.{One, Two, Four}

-- a spread as a number
abbrev pub distance_of : Spread → ℕ
distance_of One = 1
distance_of Two = 2
distance_of Four = 4

-- the first byte tells it, and any other than these two says that nothing is spread
abbrev pub spread_of : List ℕ → Spread
spread_of rom = pick (byte_of rom 0 == 0xF2) Two (pick (byte_of rom 0 == 0xF3) Four One)

abbrev pub is_spread : List ℕ → Bool
is_spread fcode = byte_of fcode 0 == 0xF2 || byte_of fcode 0 == 0xF3

-- every second byte, from the first on
unfoldable pub seconds_of : List ℕ → List ℕ
seconds_of [] = []
seconds_of (b ∷ []) = b ∷ []
seconds_of (b ∷ c ∷ bs) = b ∷ seconds_of bs

-- every byte, every second, or every second of every second, which is every fourth
abbrev pub view_of : Spread → List ℕ → List ℕ
view_of One rom = rom
view_of Two rom = seconds_of rom
view_of Four rom = seconds_of (seconds_of rom)

-- the FCode bytes of a ROM
abbrev pub fcode_of : List ℕ → List ℕ
fcode_of rom = view_of (spread_of rom) rom

-- the same FCode bytes behind start1, which are a ROM that is not spread
abbrev pub unspread_of : List ℕ → List ℕ
unspread_of fcode = 0xF1 ∷ drop 1 fcode

-- how many FCode bytes a ROM of the largest size has, by its start: gaps count among the ROM's 65,536 bytes
abbrev pub fcode_most : List ℕ → ℕ
fcode_most fcode = rom_most / distance_of (spread_of fcode)

-- bytes laid into a room from its front on, as many as there are and have room
unfoldable pub laid_on : List ℕ → List ℕ → List ℕ
laid_on [] bytes = []
laid_on (r ∷ rs) [] = r ∷ rs
laid_on (r ∷ rs) (b ∷ bs) = b ∷ laid_on rs bs
