use Rattle.std.proofs.Common.{sym, rules}
use Rattle.tokens.proofs.Ranges.{among, under, over}
use Rattle.rom.specs.Words.{letters_of}
use Rattle.tokens.specs.Table.{ends, lows, highs, doubles, table, row_of}
use Rattle.tokens.specs.Name.{name_of, packed_from, front_of}
use Rattle.tokens.proofs.Names.{program_front, no_front}
use Rattle.tokens.proofs.name.name_front.Goals as goal

pub returns-in-0 : goal.returns-in-0
unfolding front_of name_of packed_from row_of table ends lows highs doubles letters_of
returns-in-0 c = rw c.in-0.is

pub returns-in-255 : goal.returns-in-255
unfolding front_of name_of packed_from row_of table ends lows highs doubles letters_of
returns-in-255 c = rw c.in-255.is

pub returns-in-16 : goal.returns-in-16
unfolding front_of name_of packed_from row_of table ends lows highs doubles letters_of
returns-in-16 c = rw c.in-16.is

pub returns-in-18 : goal.returns-in-18
unfolding front_of name_of packed_from row_of table ends lows highs doubles letters_of
returns-in-18 c = rw c.in-18.is

pub returns-in-19 : goal.returns-in-19
unfolding front_of name_of packed_from row_of table ends lows highs doubles letters_of
returns-in-19 c = rw c.in-19.is

pub returns-in-20 : goal.returns-in-20
unfolding front_of name_of packed_from row_of table ends lows highs doubles letters_of
returns-in-20 c = rw c.in-20.is

pub returns-in-30 : goal.returns-in-30
unfolding front_of name_of packed_from row_of table ends lows highs doubles letters_of
returns-in-30 c = rw c.in-30.is

pub returns-in-31 : goal.returns-in-31
unfolding front_of name_of packed_from row_of table ends lows highs doubles letters_of
returns-in-31 c = rw c.in-31.is

pub returns-in-32 : goal.returns-in-32
unfolding front_of name_of packed_from row_of table ends lows highs doubles letters_of
returns-in-32 c = rw c.in-32.is

pub returns-in-35 : goal.returns-in-35
unfolding front_of name_of packed_from row_of table ends lows highs doubles letters_of
returns-in-35 c = rw c.in-35.is

pub returns-in-36 : goal.returns-in-36
unfolding front_of name_of packed_from row_of table ends lows highs doubles letters_of
returns-in-36 c = rw c.in-36.is

pub returns-in-37 : goal.returns-in-37
unfolding front_of name_of packed_from row_of table ends lows highs doubles letters_of
returns-in-37 c = rw c.in-37.is

pub returns-in-38 : goal.returns-in-38
unfolding front_of name_of packed_from row_of table ends lows highs doubles letters_of
returns-in-38 c = rw c.in-38.is

pub returns-in-39 : goal.returns-in-39
unfolding front_of name_of packed_from row_of table ends lows highs doubles letters_of
returns-in-39 c = rw c.in-39.is

pub returns-in-40 : goal.returns-in-40
unfolding front_of name_of packed_from row_of table ends lows highs doubles letters_of
returns-in-40 c = rw c.in-40.is

pub returns-in-41 : goal.returns-in-41
unfolding front_of name_of packed_from row_of table ends lows highs doubles letters_of
returns-in-41 c = rw c.in-41.is

pub returns-in-43 : goal.returns-in-43
unfolding front_of name_of packed_from row_of table ends lows highs doubles letters_of
returns-in-43 c = rw c.in-43.is

pub returns-in-44 : goal.returns-in-44
unfolding front_of name_of packed_from row_of table ends lows highs doubles letters_of
returns-in-44 c = rw c.in-44.is

pub returns-in-45 : goal.returns-in-45
unfolding front_of name_of packed_from row_of table ends lows highs doubles letters_of
returns-in-45 c = rw c.in-45.is

pub returns-in-46 : goal.returns-in-46
unfolding front_of name_of packed_from row_of table ends lows highs doubles letters_of
returns-in-46 c = rw c.in-46.is

pub returns-in-47 : goal.returns-in-47
unfolding front_of name_of packed_from row_of table ends lows highs doubles letters_of
returns-in-47 c = rw c.in-47.is

pub returns-in-48 : goal.returns-in-48
unfolding front_of name_of packed_from row_of table ends lows highs doubles letters_of
returns-in-48 c = rw c.in-48.is

pub returns-in-49 : goal.returns-in-49
unfolding front_of name_of packed_from row_of table ends lows highs doubles letters_of
returns-in-49 c = rw c.in-49.is

pub returns-in-50 : goal.returns-in-50
unfolding front_of name_of packed_from row_of table ends lows highs doubles letters_of
returns-in-50 c = rw c.in-50.is

pub returns-in-51 : goal.returns-in-51
unfolding front_of name_of packed_from row_of table ends lows highs doubles letters_of
returns-in-51 c = rw c.in-51.is

pub returns-in-52 : goal.returns-in-52
unfolding front_of name_of packed_from row_of table ends lows highs doubles letters_of
returns-in-52 c = rw c.in-52.is

pub returns-in-53 : goal.returns-in-53
unfolding front_of name_of packed_from row_of table ends lows highs doubles letters_of
returns-in-53 c = rw c.in-53.is

pub returns-in-54 : goal.returns-in-54
unfolding front_of name_of packed_from row_of table ends lows highs doubles letters_of
returns-in-54 c = rw c.in-54.is

pub returns-in-55 : goal.returns-in-55
unfolding front_of name_of packed_from row_of table ends lows highs doubles letters_of
returns-in-55 c = rw c.in-55.is

pub returns-in-56 : goal.returns-in-56
unfolding front_of name_of packed_from row_of table ends lows highs doubles letters_of
returns-in-56 c = rw c.in-56.is

pub returns-in-57 : goal.returns-in-57
unfolding front_of name_of packed_from row_of table ends lows highs doubles letters_of
returns-in-57 c = rw c.in-57.is

pub returns-in-58 : goal.returns-in-58
unfolding front_of name_of packed_from row_of table ends lows highs doubles letters_of
returns-in-58 c = rw c.in-58.is

pub returns-in-59 : goal.returns-in-59
unfolding front_of name_of packed_from row_of table ends lows highs doubles letters_of
returns-in-59 c = rw c.in-59.is

pub returns-in-60 : goal.returns-in-60
unfolding front_of name_of packed_from row_of table ends lows highs doubles letters_of
returns-in-60 c = rw c.in-60.is

pub returns-in-61 : goal.returns-in-61
unfolding front_of name_of packed_from row_of table ends lows highs doubles letters_of
returns-in-61 c = rw c.in-61.is

pub returns-in-62 : goal.returns-in-62
unfolding front_of name_of packed_from row_of table ends lows highs doubles letters_of
returns-in-62 c = rw c.in-62.is

pub returns-in-63 : goal.returns-in-63
unfolding front_of name_of packed_from row_of table ends lows highs doubles letters_of
returns-in-63 c = rw c.in-63.is

pub returns-in-64 : goal.returns-in-64
unfolding front_of name_of packed_from row_of table ends lows highs doubles letters_of
returns-in-64 c = rw c.in-64.is

pub returns-in-65 : goal.returns-in-65
unfolding front_of name_of packed_from row_of table ends lows highs doubles letters_of
returns-in-65 c = rw c.in-65.is

pub returns-in-66 : goal.returns-in-66
unfolding front_of name_of packed_from row_of table ends lows highs doubles letters_of
returns-in-66 c = rw c.in-66.is

pub returns-in-67 : goal.returns-in-67
unfolding front_of name_of packed_from row_of table ends lows highs doubles letters_of
returns-in-67 c = rw c.in-67.is

pub returns-in-68 : goal.returns-in-68
unfolding front_of name_of packed_from row_of table ends lows highs doubles letters_of
returns-in-68 c = rw c.in-68.is

pub returns-in-69 : goal.returns-in-69
unfolding front_of name_of packed_from row_of table ends lows highs doubles letters_of
returns-in-69 c = rw c.in-69.is

pub returns-in-70 : goal.returns-in-70
unfolding front_of name_of packed_from row_of table ends lows highs doubles letters_of
returns-in-70 c = rw c.in-70.is

pub returns-in-71 : goal.returns-in-71
unfolding front_of name_of packed_from row_of table ends lows highs doubles letters_of
returns-in-71 c = rw c.in-71.is

pub returns-in-72 : goal.returns-in-72
unfolding front_of name_of packed_from row_of table ends lows highs doubles letters_of
returns-in-72 c = rw c.in-72.is

pub returns-in-73 : goal.returns-in-73
unfolding front_of name_of packed_from row_of table ends lows highs doubles letters_of
returns-in-73 c = rw c.in-73.is

pub returns-in-74 : goal.returns-in-74
unfolding front_of name_of packed_from row_of table ends lows highs doubles letters_of
returns-in-74 c = rw c.in-74.is

pub returns-in-75 : goal.returns-in-75
unfolding front_of name_of packed_from row_of table ends lows highs doubles letters_of
returns-in-75 c = rw c.in-75.is

pub returns-in-76 : goal.returns-in-76
unfolding front_of name_of packed_from row_of table ends lows highs doubles letters_of
returns-in-76 c = rw c.in-76.is

pub returns-in-77 : goal.returns-in-77
unfolding front_of name_of packed_from row_of table ends lows highs doubles letters_of
returns-in-77 c = rw c.in-77.is

pub returns-in-78 : goal.returns-in-78
unfolding front_of name_of packed_from row_of table ends lows highs doubles letters_of
returns-in-78 c = rw c.in-78.is

pub returns-in-79 : goal.returns-in-79
unfolding front_of name_of packed_from row_of table ends lows highs doubles letters_of
returns-in-79 c = rw c.in-79.is

pub returns-in-80 : goal.returns-in-80
unfolding front_of name_of packed_from row_of table ends lows highs doubles letters_of
returns-in-80 c = rw c.in-80.is

pub returns-in-81 : goal.returns-in-81
unfolding front_of name_of packed_from row_of table ends lows highs doubles letters_of
returns-in-81 c = rw c.in-81.is

pub returns-in-82 : goal.returns-in-82
unfolding front_of name_of packed_from row_of table ends lows highs doubles letters_of
returns-in-82 c = rw c.in-82.is

pub returns-in-83 : goal.returns-in-83
unfolding front_of name_of packed_from row_of table ends lows highs doubles letters_of
returns-in-83 c = rw c.in-83.is

pub returns-in-84 : goal.returns-in-84
unfolding front_of name_of packed_from row_of table ends lows highs doubles letters_of
returns-in-84 c = rw c.in-84.is

pub returns-in-85 : goal.returns-in-85
unfolding front_of name_of packed_from row_of table ends lows highs doubles letters_of
returns-in-85 c = rw c.in-85.is

pub returns-in-86 : goal.returns-in-86
unfolding front_of name_of packed_from row_of table ends lows highs doubles letters_of
returns-in-86 c = rw c.in-86.is

pub returns-in-87 : goal.returns-in-87
unfolding front_of name_of packed_from row_of table ends lows highs doubles letters_of
returns-in-87 c = rw c.in-87.is

pub returns-in-88 : goal.returns-in-88
unfolding front_of name_of packed_from row_of table ends lows highs doubles letters_of
returns-in-88 c = rw c.in-88.is

pub returns-in-89 : goal.returns-in-89
unfolding front_of name_of packed_from row_of table ends lows highs doubles letters_of
returns-in-89 c = rw c.in-89.is

pub returns-in-109 : goal.returns-in-109
unfolding front_of name_of packed_from row_of table ends lows highs doubles letters_of
returns-in-109 c = rw c.in-109.is

pub returns-in-113 : goal.returns-in-113
unfolding front_of name_of packed_from row_of table ends lows highs doubles letters_of
returns-in-113 c = rw c.in-113.is

pub returns-in-114 : goal.returns-in-114
unfolding front_of name_of packed_from row_of table ends lows highs doubles letters_of
returns-in-114 c = rw c.in-114.is

pub returns-in-117 : goal.returns-in-117
unfolding front_of name_of packed_from row_of table ends lows highs doubles letters_of
returns-in-117 c = rw c.in-117.is

pub returns-in-123 : goal.returns-in-123
unfolding front_of name_of packed_from row_of table ends lows highs doubles letters_of
returns-in-123 c = rw c.in-123.is

pub returns-in-164 : goal.returns-in-164
unfolding front_of name_of packed_from row_of table ends lows highs doubles letters_of
returns-in-164 c = rw c.in-164.is

pub returns-in-165 : goal.returns-in-165
unfolding front_of name_of packed_from row_of table ends lows highs doubles letters_of
returns-in-165 c = rw c.in-165.is

pub returns-in-166 : goal.returns-in-166
unfolding front_of name_of packed_from row_of table ends lows highs doubles letters_of
returns-in-166 c = rw c.in-166.is

pub returns-in-167 : goal.returns-in-167
unfolding front_of name_of packed_from row_of table ends lows highs doubles letters_of
returns-in-167 c = rw c.in-167.is

pub returns-in-168 : goal.returns-in-168
unfolding front_of name_of packed_from row_of table ends lows highs doubles letters_of
returns-in-168 c = rw c.in-168.is

pub returns-in-177 : goal.returns-in-177
unfolding front_of name_of packed_from row_of table ends lows highs doubles letters_of
returns-in-177 c = rw c.in-177.is

pub returns-in-178 : goal.returns-in-178
unfolding front_of name_of packed_from row_of table ends lows highs doubles letters_of
returns-in-178 c = rw c.in-178.is

pub returns-in-181 : goal.returns-in-181
unfolding front_of name_of packed_from row_of table ends lows highs doubles letters_of
returns-in-181 c = rw c.in-181.is

pub returns-in-182 : goal.returns-in-182
unfolding front_of name_of packed_from row_of table ends lows highs doubles letters_of
returns-in-182 c = rw c.in-182.is

pub returns-in-183 : goal.returns-in-183
unfolding front_of name_of packed_from row_of table ends lows highs doubles letters_of
returns-in-183 c = rw c.in-183.is

pub returns-in-184 : goal.returns-in-184
unfolding front_of name_of packed_from row_of table ends lows highs doubles letters_of
returns-in-184 c = rw c.in-184.is

pub returns-in-185 : goal.returns-in-185
unfolding front_of name_of packed_from row_of table ends lows highs doubles letters_of
returns-in-185 c = rw c.in-185.is

pub returns-in-186 : goal.returns-in-186
unfolding front_of name_of packed_from row_of table ends lows highs doubles letters_of
returns-in-186 c = rw c.in-186.is

pub returns-in-194 : goal.returns-in-194
unfolding front_of name_of packed_from row_of table ends lows highs doubles letters_of
returns-in-194 c = rw c.in-194.is

pub returns-in-195 : goal.returns-in-195
unfolding front_of name_of packed_from row_of table ends lows highs doubles letters_of
returns-in-195 c = rw c.in-195.is

pub returns-in-202 : goal.returns-in-202
unfolding front_of name_of packed_from row_of table ends lows highs doubles letters_of
returns-in-202 c = rw c.in-202.is

pub returns-in-204 : goal.returns-in-204
unfolding front_of name_of packed_from row_of table ends lows highs doubles letters_of
returns-in-204 c = rw c.in-204.is

pub returns-in-272 : goal.returns-in-272
unfolding front_of name_of packed_from row_of table ends lows highs doubles letters_of
returns-in-272 c = rw c.in-272.is

pub returns-in-273 : goal.returns-in-273
unfolding front_of name_of packed_from row_of table ends lows highs doubles letters_of
returns-in-273 c = rw c.in-273.is

pub returns-in-274 : goal.returns-in-274
unfolding front_of name_of packed_from row_of table ends lows highs doubles letters_of
returns-in-274 c = rw c.in-274.is

pub returns-in-276 : goal.returns-in-276
unfolding front_of name_of packed_from row_of table ends lows highs doubles letters_of
returns-in-276 c = rw c.in-276.is

pub returns-in-281 : goal.returns-in-281
unfolding front_of name_of packed_from row_of table ends lows highs doubles letters_of
returns-in-281 c = rw c.in-281.is

pub returns-in-282 : goal.returns-in-282
unfolding front_of name_of packed_from row_of table ends lows highs doubles letters_of
returns-in-282 c = rw c.in-282.is

pub returns-in-287 : goal.returns-in-287
unfolding front_of name_of packed_from row_of table ends lows highs doubles letters_of
returns-in-287 c = rw c.in-287.is

pub returns-in-295 : goal.returns-in-295
unfolding front_of name_of packed_from row_of table ends lows highs doubles letters_of
returns-in-295 c = rw c.in-295.is

pub returns-in-513 : goal.returns-in-513
unfolding front_of name_of packed_from row_of table ends lows highs doubles letters_of
returns-in-513 c = rw c.in-513.is

pub returns-in-2048-to-4095 : goal.returns-in-2048-to-4095
unfolding front_of name_of packed_from row_of table ends lows highs doubles letters_of
returns-in-2048-to-4095 c =
    let args = c.args in
    program_front args.number (sym (among 0x800 0xFFF args.number (search rules) (search rules)))

pub returns-in_default : goal.returns-in_default
unfolding front_of name_of packed_from row_of table ends lows highs doubles letters_of
returns-in_default c =
    let args = c.args in
    no_front args.number (sym (under 0x800 0xFFF args.number (search rules))) c.in_default.in_default-own.rest

pub returns-in_default-2 : goal.returns-in_default-2
unfolding front_of name_of packed_from row_of table ends lows highs doubles letters_of
returns-in_default-2 c =
    let args = c.args in
    no_front args.number (sym (over 0x800 0xFFF args.number (search rules) (search rules))) c.in_default.in_default-own.rest
