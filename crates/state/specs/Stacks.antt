-- The two stacks, and what a token does that works on them alone: document 01's list of arithmetic, comparison, stack words and numbers.
-- What such a token takes and gives stands in its row of the list; here is what a row means. Assumes nothing.
use Rattle.std.specs.Prelude.{ℕ, zero, suc, ◌+◌, ◌-◌, Bool, ◌||◌, List, [], ◌∷◌, ◌++◌, map, get_or, set, ltb}
use Rattle.rom.specs.Sizes.{return_most}
use Rattle.tokens.specs.Row.{Seen, Result}
use Rattle.tokens.specs.Table.{row_of}
use Rattle.tokens.specs.Code.{code_of, takes_in, gives_in, return_takes_in, return_gives_in}

-- both stacks: the cells below a height are the stack, those above are left as they are
pub record Stacks : Type 0 where
  pub cells : List ℕ
  pub height : ℕ
  pub back : List ℕ
  pub returns : ℕ

abbrev pub stacks : List ℕ → ℕ → List ℕ → ℕ → Stacks
stacks cells height back returns = record { cells = cells; height = height; back = back; returns = returns }

-- cells put from a base on, the first the lowest
unfoldable pub left_of : List ℕ → ℕ → List ℕ → List ℕ
left_of cells base [] = cells
left_of cells base (v ∷ vs) = left_of (set cells base v) (base + 1) vs

-- so many cells from a place on
unfoldable pub cells_from : List ℕ → ℕ → ℕ → List ℕ
cells_from cells place zero = []
cells_from cells place (suc k) = get_or cells place 0 ∷ cells_from cells (place + 1) k

-- the k-th cell from the top
abbrev pub top_of : List ℕ → ℕ → ℕ → ℕ
top_of cells height k = get_or cells (height - 1 - k) 0

abbrev pub seen_of : ℕ → Stacks → Seen
seen_of operand s =
    record {
      operand = operand;
      cell = λ k. top_of s.cells s.height k;
      height = s.height;
      back = λ k. top_of s.back s.returns k;
    }

abbrev pub reckoned_of : List Result → Seen → List ℕ
reckoned_of results seen = map (λ (f : Result). f seen) results

-- the stacks after a token of a number, which has an operand
unfoldable pub plain_of : ℕ → ℕ → Stacks → Stacks
plain_of n operand s =
    stacks
    (left_of s.cells (s.height - takes_in (code_of n)) (reckoned_of (row_of n).results (seen_of operand s)))
    (s.height - takes_in (code_of n) + gives_in (code_of n))
    (left_of s.back (s.returns - return_takes_in (code_of n)) (reckoned_of (row_of n).return_results (seen_of operand s)))
    (s.returns - return_takes_in (code_of n) + return_gives_in (code_of n))

-- refusal 16, "return stack above 32, below its frame's base"
abbrev pub back_trouble : ℕ → ℕ → ℕ → Bool
back_trouble code returns base = ltb (returns - base) (return_takes_in code) || ltb return_most
    (returns - return_takes_in code + return_gives_in code)

-- pick and roll: "need the count and count + 1 cells below it, the count unsigned; else 14"
abbrev pub too_deep : Stacks → Bool
too_deep s = ltb s.height 1 || ltb s.height (top_of s.cells s.height 0 + 2)

-- pick: the cell that has `count` cells between itself and the count takes the count's place
abbrev pub picked_of : Stacks → Stacks
picked_of s =
    stacks (set s.cells (s.height - 1) (top_of s.cells s.height (top_of s.cells s.height 0 + 1))) s.height s.back
    s.returns

-- roll: that cell is moved to the top, those above it one down; `start` is where it stood
abbrev pub turned_of : List ℕ → ℕ → ℕ → List ℕ
turned_of cells start count = left_of cells start (cells_from cells (start + 1) count ++ (get_or cells start 0 ∷ []))

abbrev pub rolled_of : Stacks → Stacks
rolled_of s =
    stacks (turned_of s.cells (s.height - 2 - top_of s.cells s.height 0) (top_of s.cells s.height 0)) (s.height - 1) s.back
    s.returns

-- ?dup: 0 is left alone, so that it never asks for room
abbrev pub doubled_of : Stacks → Stacks
doubled_of s = stacks (set s.cells s.height (top_of s.cells s.height 0)) (s.height + 1) s.back s.returns
