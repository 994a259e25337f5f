use Rattle.std.proofs.Common.{refl}
use Rattle.cells.specs.Comparison.{between_of, within_of}
use Rattle.tokens.specs.Table.{ends, lows, highs, doubles, table, row_of}
use Rattle.tokens.specs.Laws.Rows.{none_left}
use Rattle.reckon.proofs.Given.{three_by, threes, three_coded}
use Rattle.reckon.proofs.reckon.three.Goals as goal

pub returns-in-68 : goal.returns-in-68
unfolding row_of table ends lows highs doubles
returns-in-68 c = three_by 0x44 between_of (λ s. refl) c.in-68.is c.between.ensures

pub returns-in-69 : goal.returns-in-69
unfolding row_of table ends lows highs doubles
returns-in-69 c = three_by 0x45 within_of (λ s. refl) c.in-69.is c.within.ensures

pub returns-in_default : goal.returns-in_default
unfolding row_of table ends lows highs doubles
returns-in_default c = absurd (none_left (Unit {0}) threes c.args.number c.in_default.in_default-own.rest
    (three_coded c.args.number c.requires))
