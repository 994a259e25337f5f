use Rattle.std.proofs.Common.{refl}
use Rattle.cells.specs.Arithmetic.{plus_of, minus_of, times_of, and_of, or_of, xor_of, lshift_of, rshift_of, ashift_of, min_of, max_of}
use Rattle.cells.specs.Comparison.{less_of, greater_of, equal_of, unequal_of, u_greater_of, u_at_most_of, u_less_of, u_at_least_of}
use Rattle.cells.specs.Comparison.{at_least_of, at_most_of}
use Rattle.tokens.specs.Table.{ends, lows, highs, doubles, table, row_of}
use Rattle.tokens.specs.Laws.Rows.{none_left}
use Rattle.reckon.proofs.Given.{two_by, twos, two_coded}
use Rattle.reckon.proofs.reckon.two.Goals as goal

pub returns-in-30 : goal.returns-in-30
unfolding row_of table ends lows highs doubles
returns-in-30 c = two_by 0x1E plus_of (λ s. refl) c.in-30.is c.plus.ensures

pub returns-in-31 : goal.returns-in-31
unfolding row_of table ends lows highs doubles
returns-in-31 c = two_by 0x1F minus_of (λ s. refl) c.in-31.is c.minus.ensures

pub returns-in-32 : goal.returns-in-32
unfolding row_of table ends lows highs doubles
returns-in-32 c = two_by 0x20 times_of (λ s. refl) c.in-32.is c.times.ensures

pub returns-in-35 : goal.returns-in-35
unfolding row_of table ends lows highs doubles
returns-in-35 c = two_by 0x23 and_of (λ s. refl) c.in-35.is c.and.ensures

pub returns-in-36 : goal.returns-in-36
unfolding row_of table ends lows highs doubles
returns-in-36 c = two_by 0x24 or_of (λ s. refl) c.in-36.is c.or.ensures

pub returns-in-37 : goal.returns-in-37
unfolding row_of table ends lows highs doubles
returns-in-37 c = two_by 0x25 xor_of (λ s. refl) c.in-37.is c.xor.ensures

pub returns-in-39 : goal.returns-in-39
unfolding row_of table ends lows highs doubles
returns-in-39 c = two_by 0x27 lshift_of (λ s. refl) c.in-39.is c.lshift.ensures

pub returns-in-40 : goal.returns-in-40
unfolding row_of table ends lows highs doubles
returns-in-40 c = two_by 0x28 rshift_of (λ s. refl) c.in-40.is c.rshift.ensures

pub returns-in-41 : goal.returns-in-41
unfolding row_of table ends lows highs doubles
returns-in-41 c = two_by 0x29 ashift_of (λ s. refl) c.in-41.is c.ashift.ensures

pub returns-in-46 : goal.returns-in-46
unfolding row_of table ends lows highs doubles
returns-in-46 c = two_by 0x2E min_of (λ s. refl) c.in-46.is c.min.ensures

pub returns-in-47 : goal.returns-in-47
unfolding row_of table ends lows highs doubles
returns-in-47 c = two_by 0x2F max_of (λ s. refl) c.in-47.is c.max.ensures

pub returns-in-58 : goal.returns-in-58
unfolding row_of table ends lows highs doubles
returns-in-58 c = two_by 0x3A less_of (λ s. refl) c.in-58.is c.less.ensures

pub returns-in-59 : goal.returns-in-59
unfolding row_of table ends lows highs doubles
returns-in-59 c = two_by 0x3B greater_of (λ s. refl) c.in-59.is c.greater.ensures

pub returns-in-60 : goal.returns-in-60
unfolding row_of table ends lows highs doubles
returns-in-60 c = two_by 0x3C equal_of (λ s. refl) c.in-60.is c.equal.ensures

pub returns-in-61 : goal.returns-in-61
unfolding row_of table ends lows highs doubles
returns-in-61 c = two_by 0x3D unequal_of (λ s. refl) c.in-61.is c.unequal.ensures

pub returns-in-62 : goal.returns-in-62
unfolding row_of table ends lows highs doubles
returns-in-62 c = two_by 0x3E u_greater_of (λ s. refl) c.in-62.is c.u_greater.ensures

pub returns-in-63 : goal.returns-in-63
unfolding row_of table ends lows highs doubles
returns-in-63 c = two_by 0x3F u_at_most_of (λ s. refl) c.in-63.is c.u_at_most.ensures

pub returns-in-64 : goal.returns-in-64
unfolding row_of table ends lows highs doubles
returns-in-64 c = two_by 0x40 u_less_of (λ s. refl) c.in-64.is c.u_less.ensures

pub returns-in-65 : goal.returns-in-65
unfolding row_of table ends lows highs doubles
returns-in-65 c = two_by 0x41 u_at_least_of (λ s. refl) c.in-65.is c.u_at_least.ensures

pub returns-in-66 : goal.returns-in-66
unfolding row_of table ends lows highs doubles
returns-in-66 c = two_by 0x42 at_least_of (λ s. refl) c.in-66.is c.at_least.ensures

pub returns-in-67 : goal.returns-in-67
unfolding row_of table ends lows highs doubles
returns-in-67 c = two_by 0x43 at_most_of (λ s. refl) c.in-67.is c.at_most.ensures

pub returns-in-77 : goal.returns-in-77
unfolding row_of table ends lows highs doubles
returns-in-77 c = two_by 0x4D (λ b a. a) (λ s. refl) c.in-77.is refl

pub returns-in_default : goal.returns-in_default
unfolding row_of table ends lows highs doubles
returns-in_default c = absurd (none_left (Unit {0}) twos c.args.number c.in_default.in_default-own.rest
    (two_coded c.args.number c.requires))
