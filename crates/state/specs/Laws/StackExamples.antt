-- The definitions at work, computed: each cell and each height below is what document 01 says. Assumes nothing.
use Rattle.std.specs.Prelude.{ℕ, ◌≡◌, refl, List, [], ◌∷◌, replicate}
use Rattle.tokens.specs.Table.{ends, lows, highs, doubles, table, row_of}
use Rattle.tokens.specs.Code.{code_of}
use Rattle.state.specs.Stacks.{Stacks, stacks, left_of, cells_from, plain_of}
use Rattle.state.specs.Joints.Reckoning.{reckoned_as, reckon_of, divide_of, pick_up_of, roll_up_of, maybe_of}
use Rattle.rom.specs.Sizes.{data_most}

abbrev only : List ℕ → ℕ → Stacks
only cells height = stacks cells height [] 0

-- 1 2 3 2 roll gives 2 3 1, and 1 2 3 2 pick gives 1 2 3 1: the count is taken first
roll_two : roll_up_of (only (1 ∷ 2 ∷ 3 ∷ 2 ∷ []) 4) ≡ reckoned_as 0 (only (2 ∷ 3 ∷ 1 ∷ 2 ∷ []) 3)
unfolding left_of cells_from
roll_two = refl

roll_too_deep : roll_up_of (only (1 ∷ 2 ∷ 3 ∷ 3 ∷ []) 4) ≡ reckoned_as 14 (only (1 ∷ 2 ∷ 3 ∷ 3 ∷ []) 4)
roll_too_deep = refl

pick_two : pick_up_of (only (1 ∷ 2 ∷ 3 ∷ 2 ∷ []) 4) ≡ reckoned_as 0 (only (1 ∷ 2 ∷ 3 ∷ 1 ∷ []) 4)
pick_two = refl

-- the remainder under the quotient
divide_seven : divide_of (only (7 ∷ 2 ∷ []) 2) ≡ reckoned_as 0 (only (1 ∷ 3 ∷ []) 2)
unfolding left_of plain_of code_of row_of table ends lows highs doubles
divide_seven = refl

divide_by_zero : divide_of (only (7 ∷ 0 ∷ []) 2) ≡ reckoned_as 21 (only (7 ∷ 0 ∷ []) 2)
divide_by_zero = refl

-- ?dup of 0 asks for no room
maybe_of_zero : maybe_of (only (replicate data_most 0) data_most) ≡ reckoned_as 0 (only (replicate data_most 0) data_most)
maybe_of_zero = refl

maybe_of_one : maybe_of (only (replicate data_most 1) data_most) ≡ reckoned_as 15 (only (replicate data_most 1) data_most)
maybe_of_one = refl

-- 2rot
rot_two : reckon_of 0x56 0 (only (1 ∷ 2 ∷ 3 ∷ 4 ∷ 5 ∷ 6 ∷ []) 6) 0 ≡ reckoned_as 0 (only (3 ∷ 4 ∷ 5 ∷ 6 ∷ 1 ∷ 2 ∷ []) 6)
unfolding left_of reckon_of plain_of code_of row_of table ends lows highs doubles
rot_two = refl

-- r> below its frame's base: 16 comes before 15
below_base : reckon_of 0x31 0 (stacks (replicate data_most 0) data_most (5 ∷ []) 1) 1 ≡ reckoned_as 16
    (stacks (replicate data_most 0) data_most (5 ∷ []) 1)
unfolding reckon_of code_of row_of table ends lows highs doubles
below_base = refl

from_return : reckon_of 0x31 0 (stacks (0 ∷ []) 0 (5 ∷ []) 1) 0 ≡ reckoned_as 0 (stacks (5 ∷ []) 1 (5 ∷ []) 0)
unfolding left_of reckon_of plain_of code_of row_of table ends lows highs doubles
from_return = refl
