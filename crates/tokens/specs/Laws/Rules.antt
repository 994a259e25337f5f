-- The rules of the token list, each one test over the whole table that antt computes: its numbers are distinct and in range, its names are
-- distinct, and a row's code has the row's digits. Assumes nothing.
use Rattle.std.specs.Prelude.{ℕ, ◌≡◌, refl, Bool, true, not, ◌&&◌, ◌||◌, List, [], ◌∷◌, T, ltb, leb, eqb, length}
use Rattle.std.proofs.Math.Dec.{eqb→eq}
use lib.Text.{eqt}
use Rattle.tokens.specs.Family.{unlisted, plain, divide}
use Rattle.tokens.specs.Row.{Row}
use Rattle.tokens.specs.Table.{ends, lows, highs, doubles, table, program, not_listed, row_of}
use Rattle.tokens.specs.Code.{packed, code_of, family_in, out_of_place_in, form_in, return_takes_in, return_gives_in, takes_in, gives_in}
use Rattle.tokens.specs.Laws.Rows.{every_row, rows_pass}

-- a test of every row, with its number and the rows behind it
abbrev every_tail : (ℕ → Row → List (ℕ × Row) → Bool) → List (ℕ × Row) → Bool
every_tail f [] = true
every_tail f (x ∷ xs) = f x.0 x.1 xs && every_tail f xs

-- ---- document 01 lists 94 numbers beside those of a program
how_many : length table ≡ 94
unfolding table ends lows highs doubles
how_many = refl

numbers_distinct : T (every_tail (λ n r rest. every_tail (λ m s _. not (eqb n m)) rest) table)
unfolding table ends lows highs doubles
numbers_distinct = tt

names_distinct : T (every_tail (λ n r rest. every_tail (λ m s _. not (eqt r.name s.name)) rest) table)
unfolding table ends lows highs doubles
names_distinct = tt

-- "A number is one byte, or two when the first is 01-0F": no number is 01 to 0F, and none of the list is a program's
numbers_in_range : T (every_tail (λ n r _. eqb n 0 || (leb 0x10 n && ltb n 0x800)) table)
unfolding table ends lows highs doubles
numbers_in_range = tt

-- what is reckoned is what is given
results_given : T (every_tail
    (λ n r _. not (eqb r.family plain || eqb r.family divide)
    || (eqb r.gives (length r.results) && eqb r.return_gives (length r.return_results)))
    table)
unfolding table ends lows highs doubles
results_given = tt

-- every row's family is some work, so that no row's code is 0
all_listed : T (every_tail (λ n r _. not (eqb r.family unlisted)) table)
unfolding table ends lows highs doubles
all_listed = tt

-- ---- a digit of a code is the row's own
module _ (digit : ℕ → ℕ) (field : Row → ℕ) where
  abbrev tells : Row → Bool
  tells r = eqb (digit (packed r)) (field r)

  told : T (every_row (λ n r. tells r) table) → T (tells program) → T (tells not_listed) → (n : ℕ) → digit (code_of n) ≡ field (row_of n)
  unfolding code_of
  told h p u n = eqb→eq (digit (code_of n)) (field (row_of n)) (rows_pass (λ m r. tells r) h (λ m. p) (λ m. u) n)

pub family_told : (n : ℕ) → family_in (code_of n) ≡ (row_of n).family
unfolding table ends lows highs doubles
family_told n = told family_in (λ r. r.family) tt tt tt n

pub out_of_place_told : (n : ℕ) → out_of_place_in (code_of n) ≡ (row_of n).out_of_place
unfolding table ends lows highs doubles
out_of_place_told n = told out_of_place_in (λ r. r.out_of_place) tt tt tt n

pub form_told : (n : ℕ) → form_in (code_of n) ≡ (row_of n).form
unfolding table ends lows highs doubles
form_told n = told form_in (λ r. r.form) tt tt tt n

pub return_takes_told : (n : ℕ) → return_takes_in (code_of n) ≡ (row_of n).return_takes
unfolding table ends lows highs doubles
return_takes_told n = told return_takes_in (λ r. r.return_takes) tt tt tt n

pub return_gives_told : (n : ℕ) → return_gives_in (code_of n) ≡ (row_of n).return_gives
unfolding table ends lows highs doubles
return_gives_told n = told return_gives_in (λ r. r.return_gives) tt tt tt n

pub takes_told : (n : ℕ) → takes_in (code_of n) ≡ (row_of n).takes
unfolding table ends lows highs doubles
takes_told n = told takes_in (λ r. r.takes) tt tt tt n

pub gives_told : (n : ℕ) → gives_in (code_of n) ≡ (row_of n).gives
unfolding table ends lows highs doubles
gives_told n = told gives_in (λ r. r.gives) tt tt tt n
