-- What is no token has the code 0. Assumes nothing.
use Prim.Native.Nat.{ℕ, ◌≤◌, ◌<◌}
use mathlib.Core.Path.{◌≡◌, refl, ◌∙◌, ap}
use mathlib.Core.List.{List, [], ◌++◌}
use native.Mathlib.Omega.{arith}
use borrow.Author.Tests.{le-leb, lt-leb}
use lib.Dec.{T}
use Rattle.cells.specs.Choice.{find}
use Rattle.cells.specs.Laws.Tests.{Rest, find_none}
use Rattle.tokens.specs.Row.{Row}
use Rattle.tokens.specs.Table.{ends, lows, highs, doubles, table, row_of, not_listed}
use Rattle.tokens.specs.Code.{code_of}
use Rattle.tokens.specs.Joints.Glance.{first_says}
use Rattle.tokens.proofs.Lookup.{clear, find_clear, find_append}

nothing : (n : ℕ) → row_of n ≡ not_listed → 0 ≡ code_of n
unfolding code_of
nothing n e = rw e

-- below 800 a number is looked up in the list
pub listed : (n : ℕ) → n < 0x800 → row_of n ≡ find table not_listed n
unfolding row_of
listed n h = rw (lt-leb _ _ h)

-- a number in a stretch of the list where only the part m has keys, and none of those
pub left_over : (s m t : List (ℕ × Row)) (low high n : ℕ) → table ≡ s ++ (m ++ t) → T (clear low high s) → T (clear low high t)
    → high < 0x800
    → low ≤ n → n ≤ high → Rest (Unit {0}) m n → 0 ≡ code_of n
left_over s m t low high n e c d b l h r =
    nothing n
    (listed n (omega arith)
    ∙ ap (λ (rows : List (ℕ × Row)). find rows not_listed n) e
    ∙ find_append s (m ++ t) not_listed n
    ∙ find_clear low high s _ n c l h
    ∙ find_append m t not_listed n
    ∙ find_none (Unit {0}) m _ n r
    ∙ find_clear low high t not_listed n d l h)

-- what the code's matches leave over
pub no_single : (n : ℕ) → n ≤ 0xFF → Rest (Unit {0}) (ends ++ (lows ++ highs)) n → 0 ≡ code_of n
unfolding table ends lows highs doubles
no_single n h r = left_over [] (ends ++ (lows ++ highs)) doubles 0 0xFF n refl tt tt (omega arith) (omega arith) h r

pub no_double : (n : ℕ) → 0x110 ≤ n → n ≤ 0x201 → Rest (Unit {0}) doubles n → 0 ≡ code_of n
unfolding table ends lows highs doubles
no_double n l h r = left_over (ends ++ (lows ++ highs)) doubles [] 0x110 0x201 n refl tt tt (omega arith) l h r

-- a gap of the list
gap : (low high n : ℕ) → T (clear low high table) → high < 0x800 → low ≤ n → n ≤ high → 0 ≡ code_of n
gap low high n c b l h = left_over [] [] table low high n refl tt c b l h tt

-- above the program numbers
pub beyond : (n : ℕ) → 0xFFF < n → n < 0x1_0000_0000 → 0 ≡ code_of n
unfolding row_of table ends lows highs doubles
beyond n l h =
    let m : 0x800 ≤ n = omega arith in
    nothing n (rw (le-leb _ _ m, lt-leb _ _ l) (find_clear 0x1000 0xFFFF_FFFF table not_listed n tt l (omega arith)))

pub a_program : (n : ℕ) → 0x800 ≤ n → n ≤ 0xFFF → 0x11_00_00_00 ≡ code_of n
unfolding code_of row_of
a_program n l h = rw (le-leb _ _ l, le-leb _ _ h)

-- the gaps that the code falls into behind its ranges
pub before_lows : (n : ℕ) → (n ≡ 0 → ⊥) → n < 0x10 → 0 ≡ code_of n
unfolding table ends lows highs doubles
before_lows n z h = gap 1 0xF n tt (omega arith) (omega (arith, z)) (omega arith)

pub before_doubles : (n : ℕ) → 0x100 ≤ n → n < 0x110 → 0 ≡ code_of n
unfolding table ends lows highs doubles
before_doubles n l h = gap 0x100 0x10F n tt (omega arith) l (omega arith)

pub before_programs : (n : ℕ) → 0x201 < n → n < 0x800 → 0 ≡ code_of n
unfolding table ends lows highs doubles
before_programs n l h = gap 0x202 0x7FF n tt (omega arith) l (omega arith)

-- ---- what a first byte says
pub first_of_none : (b : ℕ) → 0x10 ≤ b → b ≤ 0xFF → Rest (Unit {0}) (ends ++ (lows ++ highs)) b → 0 ≡ first_says b
unfolding first_says
first_of_none b l h r =
    let k : 1 ≤ b = omega arith in
    rw (le-leb _ _ k, lt-leb _ _ l) (no_single b h r)
