-- "FCode byte k sits at ROM byte k times the spread", and how many FCode bytes a ROM has. Assumes nothing.
use Rattle.std.specs.Prelude.{◌≡◌, ℕ, zero, suc, ◌+◌, ◌-◌, ◌*◌, ◌/◌, ◌<◌, ◌≤◌, List, [], ◌∷◌, length, take, ◌≢◌, nat_lt, slice_index, refl}
use Rattle.std.proofs.Common.{arith, lt-ltb, le-ltb, sym, ap, ◌∙◌, ext_get_or, get_or-take, length-take-le}
use Rattle.std.proofs.Math.Decide.{dec_le}
use Rattle.rom.specs.Sizes.{rom_most}
use Rattle.rom.specs.Bytes.{byte_of}
use Rattle.rom.specs.Spread.{distance_of, spread_of, seconds_of, view_of, fcode_of, fcode_most, laid_on}
use Rattle.rom.specs.declared.spread.Spread.{Spread}
use Rattle.rom.specs.declared.spread.Spread.TheVariants.{One, Two, Four}

-- ---- every second byte
seconds_length : (l : List ℕ) → length (seconds_of l) ≡ (length l + 1) / 2
unfolding seconds_of
seconds_length [] = refl
seconds_length (b ∷ []) = refl
seconds_length (b ∷ c ∷ bs) = let e = seconds_length bs in omega arith

seconds_at : (l : List ℕ) (k : ℕ) → slice_index (seconds_of l) k ≡ slice_index l (k * 2)
unfolding seconds_of
seconds_at [] k = refl
seconds_at (b ∷ []) zero = refl
seconds_at (b ∷ []) (suc k) = let e : suc k * 2 ≡ suc (suc (k * 2)) = omega arith in rw e
seconds_at (b ∷ c ∷ bs) zero = refl
seconds_at (b ∷ c ∷ bs) (suc k) = let e : suc k * 2 ≡ suc (suc (k * 2)) = omega arith in rw e (seconds_at bs k)

-- ---- the reading, once over the spread
pub view_at : (s : Spread) (rom : List ℕ) (k : ℕ) → byte_of (view_of s rom) k ≡ byte_of rom (k * distance_of s)
view_at One rom k = let e : k * 1 ≡ k = omega arith in rw e
view_at Two rom k = seconds_at rom k
view_at Four rom k =
    let e : k * 2 * 2 ≡ k * 4 = omega arith in
    seconds_at (seconds_of rom) k ∙ seconds_at rom (k * 2) ∙ ap (λ n. slice_index rom n) e

-- how many there are: so many that the last one's place is in the ROM, and one more's is not
pub view_length : (s : Spread) (rom : List ℕ) → length (view_of s rom) ≡ (length rom + (distance_of s - 1)) / distance_of s
view_length One rom = omega arith
view_length Two rom = seconds_length rom
view_length Four rom =
    let e = seconds_length rom in
    let f = seconds_length (seconds_of rom) in
    omega arith

pub sits : (rom : List ℕ) (k : ℕ) → byte_of (fcode_of rom) k ≡ byte_of rom (k * distance_of (spread_of rom))
sits rom k = view_at (spread_of rom) rom k

-- the first byte is the first FCode byte, so that the FCode bytes tell the spread that they had
pub same_start : (s : Spread) (rom : List ℕ) → byte_of (view_of s rom) 0 ≡ byte_of rom 0
same_start s rom = view_at s rom 0 ∙ ap (λ n. slice_index rom n) (none s)
  where
    none : (s : Spread) → 0 * distance_of s ≡ 0
    none s = omega arith

pub same_most : (s : Spread) (rom : List ℕ) → fcode_most (view_of s rom) ≡ fcode_most rom
same_most s rom = rw (same_start s rom)

pub same_spread : (s : Spread) (rom : List ℕ) → spread_of (view_of s rom) ≡ spread_of rom
same_spread s rom = rw (same_start s rom)

-- a place is an FCode byte's exactly where it is in the ROM
pub view_within : (s : Spread) (rom : List ℕ) (k : ℕ) → k < length (view_of s rom) → k * distance_of s < length rom
view_within One rom k h = omega arith
view_within Two rom k h = let e = view_length Two rom in omega arith
view_within Four rom k h = let e = view_length Four rom in omega arith

pub view_past : (s : Spread) (rom : List ℕ) (k : ℕ) → length (view_of s rom) ≤ k → length rom ≤ k * distance_of s
view_past One rom k h = omega arith
view_past Two rom k h = let e = view_length Two rom in omega arith
view_past Four rom k h = let e = view_length Four rom in omega arith

-- no FCode byte is not a byte of the ROM
pub view_fewer : (s : Spread) (rom : List ℕ) → length (view_of s rom) ≤ length rom
view_fewer One rom = omega arith
view_fewer Two rom = let e = view_length Two rom in omega arith
view_fewer Four rom = let e = view_length Four rom in omega arith

-- ---- the largest
most_at : (s : Spread) (rom : List ℕ) → length rom ≤ rom_most → length (view_of s rom) ≤ rom_most / distance_of s
most_at One rom h = omega arith
most_at Two rom h = let e = view_length Two rom in omega arith
most_at Four rom h = let e = view_length Four rom in omega arith

over_at : (s : Spread) (rom : List ℕ) → rom_most < length rom → rom_most / distance_of s < length (view_of s rom)
over_at One rom h = omega arith
over_at Two rom h = let e = view_length Two rom in omega arith
over_at Four rom h = let e = view_length Four rom in omega arith

pub fcode_most_lem : (rom : List ℕ) → length rom ≤ rom_most → length (fcode_of rom) ≤ fcode_most (fcode_of rom)
fcode_most_lem rom h = rw (same_spread (spread_of rom) rom) (most_at (spread_of rom) rom h)

pub fcode_over : (rom : List ℕ) → rom_most < length rom → fcode_most (fcode_of rom) < length (fcode_of rom)
fcode_over rom h = rw (same_spread (spread_of rom) rom) (over_at (spread_of rom) rom h)

-- so that either may be asked
pub over_told : (rom : List ℕ) → nat_lt rom_most (length rom) ≡ nat_lt (fcode_most (fcode_of rom)) (length (fcode_of rom))
over_told rom =
    elim (dec_le (length rom) rom_most) [
      | yes h ↦ le-ltb rom_most (length rom) h ∙ sym (le-ltb (fcode_most (fcode_of rom)) (length (fcode_of rom)) (fcode_most_lem rom h))
      | no h ↦
          let l : rom_most < length rom = omega arith in
          lt-ltb rom_most (length rom) l ∙ sym (lt-ltb (fcode_most (fcode_of rom)) (length (fcode_of rom)) (fcode_over rom l))
    ]

-- a spread ROM has half as many at most
pub half_most : (s : Spread) (rom : List ℕ) → (s ≢ One) → s ≡ spread_of rom → fcode_most (view_of s rom) ≤ rom_most / 2
half_most s rom n e = rw (same_spread s rom, ← e) (halved s n)
  where
    halved : (s : Spread) → (s ≢ One) → rom_most / distance_of s ≤ rom_most / 2
    halved One n = absurd (n refl)
    halved Two n = omega arith
    halved Four n = omega arith

-- and no ROM has more FCode bytes than the largest that is not spread
most_of : (s : Spread) → rom_most / distance_of s ≤ rom_most
most_of One = omega arith
most_of Two = omega arith
most_of Four = omega arith

pub most_most : (fcode : List ℕ) → fcode_most fcode ≤ rom_most
most_most fcode = most_of (spread_of fcode)

-- ---- bytes laid into a room
pub laid_length : (room bytes : List ℕ) → length (laid_on room bytes) ≡ length room
unfolding laid_on
laid_length [] bytes = refl
laid_length (r ∷ rs) [] = refl
laid_length (r ∷ rs) (b ∷ bs) = ap suc (laid_length rs bs)

pub laid_at : (room bytes : List ℕ) (k : ℕ) → k < length room → k < length bytes → slice_index (laid_on room bytes) k ≡ slice_index bytes k
unfolding laid_on
laid_at [] bytes k h l = absurd (omega arith)
laid_at (r ∷ rs) [] k h l = absurd (omega arith)
laid_at (r ∷ rs) (b ∷ bs) zero h l = refl
laid_at (r ∷ rs) (b ∷ bs) (suc k) h l = laid_at rs bs k (omega arith) (omega arith)

pub laid_behind : (room bytes : List ℕ) (k : ℕ) → length bytes ≤ k → slice_index (laid_on room bytes) k ≡ slice_index room k
unfolding laid_on
laid_behind [] bytes k h = refl
laid_behind (r ∷ rs) [] k h = refl
laid_behind (r ∷ rs) (b ∷ bs) zero h = absurd (omega arith)
laid_behind (r ∷ rs) (b ∷ bs) (suc k) h = laid_behind rs bs k (omega arith)

-- a room that is no larger holds the first of them
pub laid_all : (room bytes : List ℕ) → length room ≤ length bytes → laid_on room bytes ≡ take (length room) bytes
laid_all room bytes h =
    ext_get_or 0 (laid_on room bytes) (take (length room) bytes) (laid_length room bytes ∙ sym (length-take-le (length room) bytes h))
    (λ k l.
    let e = laid_length room bytes in
    laid_at room bytes k (omega arith) (omega arith) ∙ sym (get_or-take (length room) bytes k 0 (omega arith)))
