-- Bytes that lie so far apart, laid one behind the other. Assumes nothing.
use Rattle.std.specs.Prelude.{◌≡◌, ℕ, ◌*◌, ◌<◌, ◌≤◌, List, length, slice_index}

-- the bytes from one place up to another are in the ROM
pub record InRom (apart from end : ℕ) (rom : List ℕ) : Type 0 where
  pub each : (k : ℕ) → from ≤ k → k < end → k * apart < length rom

-- so many are laid, and the rest of the room is as it was
pub record LaidBy (apart : ℕ) (rom before : List ℕ) (count : ℕ) (after : List ℕ) : Type 0 where
  pub size : length after ≡ length before
  pub laid : (k : ℕ) → k < count → slice_index after k ≡ slice_index rom (k * apart)
  pub behind : (k : ℕ) → count ≤ k → slice_index after k ≡ slice_index before k
