-- A budget as a person writes it: one decimal digit or more and nothing else, of a number of 32 bits. Assumes nothing.
use Rattle.std.specs.Prelude.{ℕ, ◌+◌, ◌-◌, ◌*◌, ◌&&◌, List, [], ◌∷◌, ltb, leb, Option, Some, None}
use Rattle.cells.specs.Choice.{pick}

abbrev pub most : ℕ
most = 4294967295

-- digits behind others that came to a number; none where a byte is no digit, or where they come to too much
unfoldable pub steps_from : ℕ → List ℕ → Option ℕ
steps_from sum [] = Some sum
steps_from sum (b ∷ bs) =
    pick (leb 0x30 b && leb b 0x39) (pick (ltb most (sum * 10 + (b - 0x30))) None (steps_from (sum * 10 + (b - 0x30)) bs)) None

abbrev pub budget_of : List ℕ → Option ℕ
budget_of [] = None
budget_of (b ∷ bs) = steps_from 0 (b ∷ bs)
