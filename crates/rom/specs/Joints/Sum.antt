-- A sum on its way from the last byte down to the first, and one of bytes that lie apart. Assumes nothing.
use Rattle.std.specs.Prelude.{ℕ, zero, suc, ◌+◌, ◌*◌, ◌%◌, ◌^◌, List, slice_index}
use Rattle.rom.specs.Sizes.{first_place}
use Rattle.rom.specs.Sum.{total}

-- what a sum comes to with some bytes more
abbrev pub sum_with : ℕ → List ℕ → ℕ
sum_with sum bytes = (sum + total bytes) % 2 ^ 16

-- so many bytes from the first place on that lie so far apart
unfoldable pub apart_sum : ℕ → List ℕ → ℕ → ℕ
apart_sum apart rom zero = 0
apart_sum apart rom (suc n) = apart_sum apart rom n + slice_index rom ((first_place + n) * apart)
