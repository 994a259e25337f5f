-- Tables by program number, one look-up each: what a number's entry holds, and where it stands. Assumes nothing.
use Rattle.std.specs.Prelude.{ℕ, zero, suc, ◌+◌, ◌-◌, List, [], ◌∷◌, ltb}
use Rattle.cells.specs.Choice.{pick}
use Rattle.state.specs.Numbers.{seek_from}
use Rattle.tokens.specs.Table.{programs_most, first_program}
use Rattle.state.specs.declared.state.Numbers.{Numbers}

-- ---- the kinds, as a function of the number listed from n on
unfoldable pub table_from : ℕ → ℕ → (ℕ → ℕ) → List ℕ
table_from zero n f = []
table_from (suc k) n f = f n ∷ table_from k (n + 1) f

-- ---- tables by program number: of each, what f says of the oldest entry from i on that has it, 0 where none has
abbrev pub holds_from : (ℕ → ℕ) → Numbers → ℕ → ℕ → ℕ
holds_from f ns i n = pick (ltb (seek_from ns.programs n (ns.count - i) i) ns.count) (f (seek_from ns.programs n (ns.count - i) i))
    0

abbrev pub table_past : (ℕ → ℕ) → Numbers → ℕ → List ℕ
table_past f ns i = table_from programs_most first_program (holds_from f ns i)

-- ---- where each number stands, one more than that, and 0 where it is not held
abbrev pub slots_past : Numbers → ℕ → List ℕ
slots_past ns i = table_past (λ j. j + 1) ns i

abbrev pub slots_of : Numbers → List ℕ
slots_of ns = slots_past ns 0
