use Rattle.std.proofs.Common.{refl}
use Rattle.cells.specs.Arithmetic.{invert_of, negate_of, abs_of, half_of, u_half_of, double_of}
use Rattle.cells.specs.Comparison.{zero_equal_of, zero_unequal_of, zero_less_of, zero_at_most_of, zero_greater_of, zero_at_least_of}
use Rattle.tokens.specs.Table.{ends, lows, highs, doubles, table, row_of}
use Rattle.tokens.specs.Laws.Rows.{none_left}
use Rattle.reckon.proofs.Given.{one_by, ones, one_coded}
use Rattle.reckon.proofs.reckon.one.Goals as goal

pub returns-in-38 : goal.returns-in-38
unfolding row_of table ends lows highs doubles
returns-in-38 c = one_by 0x26 invert_of (λ s. refl) c.in-38.is c.invert.ensures

pub returns-in-44 : goal.returns-in-44
unfolding row_of table ends lows highs doubles
returns-in-44 c = one_by 0x2C negate_of (λ s. refl) c.in-44.is c.negate.ensures

pub returns-in-45 : goal.returns-in-45
unfolding row_of table ends lows highs doubles
returns-in-45 c = one_by 0x2D abs_of (λ s. refl) c.in-45.is c.abs.ensures

pub returns-in-52 : goal.returns-in-52
unfolding row_of table ends lows highs doubles
returns-in-52 c = one_by 0x34 zero_equal_of (λ s. refl) c.in-52.is c.zero_equal.ensures

pub returns-in-53 : goal.returns-in-53
unfolding row_of table ends lows highs doubles
returns-in-53 c = one_by 0x35 zero_unequal_of (λ s. refl) c.in-53.is c.zero_unequal.ensures

pub returns-in-54 : goal.returns-in-54
unfolding row_of table ends lows highs doubles
returns-in-54 c = one_by 0x36 zero_less_of (λ s. refl) c.in-54.is c.zero_less.ensures

pub returns-in-55 : goal.returns-in-55
unfolding row_of table ends lows highs doubles
returns-in-55 c = one_by 0x37 zero_at_most_of (λ s. refl) c.in-55.is c.zero_at_most.ensures

pub returns-in-56 : goal.returns-in-56
unfolding row_of table ends lows highs doubles
returns-in-56 c = one_by 0x38 zero_greater_of (λ s. refl) c.in-56.is c.zero_greater.ensures

pub returns-in-57 : goal.returns-in-57
unfolding row_of table ends lows highs doubles
returns-in-57 c = one_by 0x39 zero_at_least_of (λ s. refl) c.in-57.is c.zero_at_least.ensures

pub returns-in-87 : goal.returns-in-87
unfolding row_of table ends lows highs doubles
returns-in-87 c = one_by 0x57 half_of (λ s. refl) c.in-87.is c.half.ensures

pub returns-in-88 : goal.returns-in-88
unfolding row_of table ends lows highs doubles
returns-in-88 c = one_by 0x58 u_half_of (λ s. refl) c.in-88.is c.u_half.ensures

pub returns-in-89 : goal.returns-in-89
unfolding row_of table ends lows highs doubles
returns-in-89 c = one_by 0x59 double_of (λ s. refl) c.in-89.is c.double.ensures

pub returns-in_default : goal.returns-in_default
unfolding row_of table ends lows highs doubles
returns-in_default c = absurd (none_left (Unit {0}) ones c.args.number c.in_default.in_default-own.rest
    (one_coded c.args.number c.requires))
