-- What the default arms of the names' matches leave over: a program number, a number that is not in the list, and a name of eight letters
-- or less. Assumes nothing.
use Prim.Native.Nat.{ℕ}
use mathlib.Core.Path.{◌≡◌, sym, ◌∙◌}
use mathlib.Core.Bool.{true, false, ◌||◌}
use mathlib.Core.List.{List, [], ◌∷◌}
use lib.ListN.{drop}
use lib.Dec.{T, eqb, eqb→eq}
use Rattle.cells.specs.Choice.{find, among}
use Rattle.cells.specs.Laws.Tests.{Rest, find_none}
use Rattle.cells.specs.Laws.Facts.{either, or_second}
use Rattle.rom.specs.Words.{letters_of}
use Rattle.tokens.specs.Row.{Row}
use Rattle.tokens.specs.Table.{ends, lows, highs, doubles, table, row_of, is_program, program, not_listed}
use Rattle.tokens.specs.Laws.Rows.{found, Beside, none_left}
use Rattle.tokens.specs.Name.{name_of, packed_from, front_of, rest_of}

a_program : (n : ℕ) → is_program n ≡ true → row_of n ≡ program
unfolding row_of
a_program n e = rw e

from_list : (n : ℕ) → is_program n ≡ false → row_of n ≡ find table not_listed n
unfolding row_of
from_list n e = rw e

pub program_front : (n : ℕ) → is_program n ≡ true → 0x70_72_6F_67_72_61_6D_20 ≡ front_of n
unfolding front_of name_of packed_from letters_of
program_front n e = rw (a_program n e)

pub program_rest : (n : ℕ) → is_program n ≡ true → 0x6E_75_6D_62_65_72 ≡ rest_of n
unfolding rest_of name_of packed_from letters_of
program_rest n e = rw (a_program n e)

pub no_front : (n : ℕ) → is_program n ≡ false → Rest (Unit {0}) table n → 0 ≡ front_of n
unfolding front_of name_of packed_from letters_of
no_front n e r = rw (from_list n e ∙ find_none (Unit {0}) table not_listed n r)

-- the numbers whose names have more than eight letters
abbrev pub longs : List ℕ
longs = 0xB2 ∷ 0xB5 ∷ 0xB6 ∷ 0xB9 ∷ 0xBA ∷ 0xCA ∷ 0x111 ∷ 0x114 ∷ 0x11A ∷ 0x11F ∷ 0x127 ∷ 0x201 ∷ []

abbrev rest_in : Row → ℕ
rest_in r = packed_from 0 (drop 8 (letters_of r.name))

pub no_rest : (n : ℕ) → is_program n ≡ false → Beside (Unit {0}) longs n → 0 ≡ rest_of n
unfolding rest_of name_of table ends lows highs doubles packed_from letters_of
no_rest n e b =
    sym
    (rw (from_list n e)
    (eqb→eq (rest_in (find table not_listed n)) 0
    (either (among n longs) (eqb (rest_in (find table not_listed n)) 0) (T (eqb (rest_in (find table not_listed n)) 0))
    (found (λ m r. among m longs || eqb (rest_in r) 0) table not_listed n tt (or_second (among n longs) true tt))
    (λ l. absurd (none_left (Unit {0}) longs n b l)) (λ z. z))))
