-- A row as one number, for code that looks tokens up fast: two hexadecimal digits of family, one of where it is out of place, one of its
-- form, two of cells taken from and given to the return stack, and two of those of the data stack: FF_PO_RR_DD. 0 is what is not in the
-- list. Assumes nothing.
use Rattle.std.specs.Prelude.{ℕ, ◌+◌, ◌*◌, ◌/◌, ◌%◌}
use Rattle.tokens.specs.Row.{Row}
use Rattle.tokens.specs.Table.{row_of}

abbrev pub packed : Row → ℕ
packed r =
    r.family * 0x100_0000 + r.out_of_place * 0x10_0000 + r.form * 0x1_0000 + r.return_takes * 0x1000 + r.return_gives * 0x100 + r.takes *
    0x10
    + r.gives

unfoldable pub code_of : ℕ → ℕ
code_of n = packed (row_of n)

-- its digits again
abbrev pub family_in : ℕ → ℕ
family_in code = code / 0x100_0000

abbrev pub out_of_place_in : ℕ → ℕ
out_of_place_in code = code / 0x10_0000 % 16

abbrev pub form_in : ℕ → ℕ
form_in code = code / 0x1_0000 % 16

abbrev pub return_takes_in : ℕ → ℕ
return_takes_in code = code / 0x1000 % 16

abbrev pub return_gives_in : ℕ → ℕ
return_gives_in code = code / 0x100 % 16

abbrev pub takes_in : ℕ → ℕ
takes_in code = code / 0x10 % 16

abbrev pub gives_in : ℕ → ℕ
gives_in code = code % 16
