use Rattle.reckon.proofs.Arms.{tuck_fine}
use Rattle.reckon.proofs.Paths.{data_low, data_high}
use Rattle.tokens.specs.Code.{code_of}
use Rattle.tokens.specs.Table.{ends, lows, highs, doubles, table, row_of}
use Rattle.std.proofs.Common.{refl, rules}
use Rattle.reckon.proofs.reckon.tuck.Goals as goal

pub returns-then-h-lt2 : goal.returns-then-h-lt2
unfolding code_of row_of table ends lows highs doubles
returns-then-h-lt2 c =
    let a = c.args in
    rw c.refuse.ensures (data_low 0x4C a.h a.b a.place 0x0100_0023 a.stack.now refl (refl, refl, refl, refl)
    c.requires.0 c.requires.1 (search rules))

pub returns-then-h-ge-DATA_MOST : goal.returns-then-h-ge-DATA_MOST
unfolding code_of row_of table ends lows highs doubles
returns-then-h-ge-DATA_MOST c =
    let a = c.args in
    rw c.refuse-then-h-ge-DATA_MOST.ensures (data_high 0x4C a.h a.b a.place 0x0100_0023 a.stack.now refl (refl, refl, refl, refl)
    c.requires.0 c.requires.1 (search rules) (search rules))

pub returns : goal.returns
unfolding code_of row_of table ends lows highs doubles
returns c =
    let a = c.args in
    rw c.on.ensures (tuck_fine a.h a.b a.place a.stack.now c.requires.0 c.requires.1 (search rules) (search rules))
