use Rattle.std.proofs.Common.{sym, rules}
use Rattle.tokens.proofs.Ranges.{among, under, over}
use Rattle.rom.specs.Words.{letters_of}
use Rattle.tokens.specs.Table.{ends, lows, highs, doubles, table, row_of}
use Rattle.tokens.specs.Name.{name_of, packed_from, rest_of}
use Rattle.tokens.proofs.Names.{program_rest, no_rest}
use Rattle.tokens.proofs.name.name_rest.Goals as goal

pub returns-in-178 : goal.returns-in-178
unfolding rest_of name_of packed_from row_of table ends lows highs doubles letters_of
returns-in-178 c = rw c.in-178.is

pub returns-in-181 : goal.returns-in-181
unfolding rest_of name_of packed_from row_of table ends lows highs doubles letters_of
returns-in-181 c = rw c.in-181.is

pub returns-in-182 : goal.returns-in-182
unfolding rest_of name_of packed_from row_of table ends lows highs doubles letters_of
returns-in-182 c = rw c.in-182.is

pub returns-in-185 : goal.returns-in-185
unfolding rest_of name_of packed_from row_of table ends lows highs doubles letters_of
returns-in-185 c = rw c.in-185.is

pub returns-in-186 : goal.returns-in-186
unfolding rest_of name_of packed_from row_of table ends lows highs doubles letters_of
returns-in-186 c = rw c.in-186.is

pub returns-in-202 : goal.returns-in-202
unfolding rest_of name_of packed_from row_of table ends lows highs doubles letters_of
returns-in-202 c = rw c.in-202.is

pub returns-in-273 : goal.returns-in-273
unfolding rest_of name_of packed_from row_of table ends lows highs doubles letters_of
returns-in-273 c = rw c.in-273.is

pub returns-in-276 : goal.returns-in-276
unfolding rest_of name_of packed_from row_of table ends lows highs doubles letters_of
returns-in-276 c = rw c.in-276.is

pub returns-in-282 : goal.returns-in-282
unfolding rest_of name_of packed_from row_of table ends lows highs doubles letters_of
returns-in-282 c = rw c.in-282.is

pub returns-in-287 : goal.returns-in-287
unfolding rest_of name_of packed_from row_of table ends lows highs doubles letters_of
returns-in-287 c = rw c.in-287.is

pub returns-in-295 : goal.returns-in-295
unfolding rest_of name_of packed_from row_of table ends lows highs doubles letters_of
returns-in-295 c = rw c.in-295.is

pub returns-in-513 : goal.returns-in-513
unfolding rest_of name_of packed_from row_of table ends lows highs doubles letters_of
returns-in-513 c = rw c.in-513.is

pub returns-in-2048-to-4095 : goal.returns-in-2048-to-4095
unfolding rest_of name_of packed_from row_of table ends lows highs doubles letters_of
returns-in-2048-to-4095 c =
    let args = c.args in
    program_rest args.number (sym (among 0x800 0xFFF args.number (search rules) (search rules)))

pub returns-in_default : goal.returns-in_default
unfolding rest_of name_of packed_from row_of table ends lows highs doubles letters_of
returns-in_default c =
    let args = c.args in
    no_rest args.number (sym (under 0x800 0xFFF args.number (search rules))) c.in_default.in_default-own.rest

pub returns-in_default-2 : goal.returns-in_default-2
unfolding rest_of name_of packed_from row_of table ends lows highs doubles letters_of
returns-in_default-2 c =
    let args = c.args in
    no_rest args.number (sym (over 0x800 0xFFF args.number (search rules) (search rules))) c.in_default.in_default-own.rest
