use Rattle.std.proofs.Common.{rules, ℕ, List, [], ◌∷◌, sym, ◌∙◌}
use Rattle.tokens.specs.Table.{ends, lows, highs, doubles, table, row_of}
use Rattle.tokens.specs.Code.{code_of}
use Rattle.tokens.specs.Place.{misplaced_of}
use Rattle.tokens.proofs.Ranges.{among}
use Rattle.tokens.proofs.Passes.{frequent_passed, literal_passed, string_passed, always_passed, choice_passed, one_passed, range_passed}
use Rattle.tokens.proofs.Passes.{none_passed}
use Rattle.tokens.proofs.body.passed.Goals as goal

-- the bytes that stand by themselves
abbrev keys : List ℕ
keys = 0x10 ∷ 0x12 ∷ 0x13 ∷ 0x14 ∷ 0x6D ∷ 0x71 ∷ 0x72 ∷ 0x75 ∷ 0x7B ∷ 0xB1 ∷ 0xB2 ∷ 0xC3 ∷ []

pub returns-then-is_frequent : goal.returns-then-is_frequent
unfolding misplaced_of code_of row_of table ends lows highs doubles
returns-then-is_frequent c =
    let a = c.args in
    frequent_passed a.rom.now a.wide a.kinds.now a.place c.byte-first.result c.byte-first.ensures
    (sym c.is_frequent.ensures ∙ c.if-is_frequent.true)

pub passed_to-requires : goal.passed_to-requires
unfolding misplaced_of code_of row_of table ends lows highs doubles
passed_to-requires c = sym c.byte-first.ensures ∙ c.in-195.is

pub passed_double-requires : goal.passed_double-requires
unfolding misplaced_of code_of row_of table ends lows highs doubles
passed_double-requires c = (c.byte-first.ensures, sym (among 1 0xF c.byte-first.result (search rules) (search rules)))

pub returns-in-16 : goal.returns-in-16
unfolding misplaced_of code_of row_of table ends lows highs doubles
returns-in-16 c =
    let a = c.args in
    literal_passed a.rom.now a.wide a.kinds.now a.place c.byte-first.result c.byte-first.ensures c.in-16.is

pub returns-in-18 : goal.returns-in-18
unfolding misplaced_of code_of row_of table ends lows highs doubles
returns-in-18 c =
    let a = c.args in
    c.behind_string.ensures.0 ∙ string_passed a.rom.now a.wide a.kinds.now a.place c.byte-first.result c.byte-first.ensures
    c.in-18.is

pub returns-in-19 : goal.returns-in-19
unfolding misplaced_of code_of row_of table ends lows highs doubles
returns-in-19 c =
    let a = c.args in
    c.behind_offset.ensures.0 ∙ always_passed a.rom.now a.wide a.kinds.now a.place c.byte-first.result c.byte-first.ensures
    c.in-19.is

pub returns-in-20 : goal.returns-in-20
unfolding misplaced_of code_of row_of table ends lows highs doubles
returns-in-20 c =
    let a = c.args in
    c.behind_offset-in-20.ensures.0 ∙ choice_passed a.rom.now a.wide a.kinds.now a.place c.byte-first.result c.byte-first.ensures
    c.in-20.is

pub returns-in-109 : goal.returns-in-109
unfolding misplaced_of code_of row_of table ends lows highs doubles
returns-in-109 c =
    let a = c.args in
    one_passed a.rom.now a.wide a.kinds.now a.place c.byte-first.result c.byte-first.ensures _ c.in-109.is tt

pub returns-in-113 : goal.returns-in-113
unfolding misplaced_of code_of row_of table ends lows highs doubles
returns-in-113 c =
    let a = c.args in
    one_passed a.rom.now a.wide a.kinds.now a.place c.byte-first.result c.byte-first.ensures _ c.in-113.is tt

pub returns-in-114 : goal.returns-in-114
unfolding misplaced_of code_of row_of table ends lows highs doubles
returns-in-114 c =
    let a = c.args in
    one_passed a.rom.now a.wide a.kinds.now a.place c.byte-first.result c.byte-first.ensures _ c.in-114.is tt

pub returns-in-117 : goal.returns-in-117
unfolding misplaced_of code_of row_of table ends lows highs doubles
returns-in-117 c =
    let a = c.args in
    one_passed a.rom.now a.wide a.kinds.now a.place c.byte-first.result c.byte-first.ensures _ c.in-117.is tt

pub returns-in-123 : goal.returns-in-123
unfolding misplaced_of code_of row_of table ends lows highs doubles
returns-in-123 c =
    let a = c.args in
    one_passed a.rom.now a.wide a.kinds.now a.place c.byte-first.result c.byte-first.ensures _ c.in-123.is tt

pub returns-in-177 : goal.returns-in-177
unfolding misplaced_of code_of row_of table ends lows highs doubles
returns-in-177 c =
    let a = c.args in
    one_passed a.rom.now a.wide a.kinds.now a.place c.byte-first.result c.byte-first.ensures _ c.in-177.is tt

pub returns-in-178 : goal.returns-in-178
unfolding misplaced_of code_of row_of table ends lows highs doubles
returns-in-178 c =
    let a = c.args in
    one_passed a.rom.now a.wide a.kinds.now a.place c.byte-first.result c.byte-first.ensures _ c.in-178.is tt

pub returns-in-195 : goal.returns-in-195
unfolding misplaced_of code_of row_of table ends lows highs doubles
returns-in-195 c =
    let args = c.args in
    c.passed_to.ensures args.wide

pub returns-in-1-to-15 : goal.returns-in-1-to-15
unfolding misplaced_of code_of row_of table ends lows highs doubles
returns-in-1-to-15 c =
    let args = c.args in
    c.passed_double.ensures args.wide

pub returns-in-30-to-32 : goal.returns-in-30-to-32
unfolding misplaced_of code_of row_of table ends lows highs doubles
returns-in-30-to-32 c =
    let a = c.args in
    range_passed a.rom.now a.wide a.kinds.now a.place c.byte-first.result c.byte-first.ensures 3 0x1E tt (search rules)
    (search rules)

pub returns-in-35-to-41 : goal.returns-in-35-to-41
unfolding misplaced_of code_of row_of table ends lows highs doubles
returns-in-35-to-41 c =
    let a = c.args in
    range_passed a.rom.now a.wide a.kinds.now a.place c.byte-first.result c.byte-first.ensures 7 0x23 tt (search rules)
    (search rules)

pub returns-in_default : goal.returns-in_default
unfolding misplaced_of code_of row_of table ends lows highs doubles
returns-in_default c =
    let a = c.args in
    none_passed a.rom.now a.wide a.kinds.now a.place c.byte-first.result c.byte-first.ensures keys 0x01 0x00 tt (search rules)
    (search rules) (sym c.is_frequent.ensures ∙ c.if-is_frequent.false) c.in_default.in_default-own.rest

pub returns-in_default-2 : goal.returns-in_default-2
unfolding misplaced_of code_of row_of table ends lows highs doubles
returns-in_default-2 c =
    let a = c.args in
    none_passed a.rom.now a.wide a.kinds.now a.place c.byte-first.result c.byte-first.ensures keys 0x0E 0x10 tt (search rules)
    (search rules) (sym c.is_frequent.ensures ∙ c.if-is_frequent.false) c.in_default.in_default-own.rest

pub returns-in_default-3 : goal.returns-in_default-3
unfolding misplaced_of code_of row_of table ends lows highs doubles
returns-in_default-3 c =
    let a = c.args in
    none_passed a.rom.now a.wide a.kinds.now a.place c.byte-first.result c.byte-first.ensures keys 0x02 0x21 tt (search rules)
    (search rules) (sym c.is_frequent.ensures ∙ c.if-is_frequent.false) c.in_default.in_default-own.rest

pub returns-in_default-4 : goal.returns-in_default-4
unfolding misplaced_of code_of row_of table ends lows highs doubles
returns-in_default-4 c =
    let a = c.args in
    none_passed a.rom.now a.wide a.kinds.now a.place c.byte-first.result c.byte-first.ensures keys 0xD6 0x2A tt (search rules)
    (search rules) (sym c.is_frequent.ensures ∙ c.if-is_frequent.false) c.in_default.in_default-own.rest
