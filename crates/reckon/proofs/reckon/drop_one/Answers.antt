use Rattle.reckon.proofs.Arms.{drop_fine}
use Rattle.reckon.proofs.Paths.{data_low}
use Rattle.tokens.specs.Code.{code_of}
use Rattle.tokens.specs.Table.{ends, lows, highs, doubles, table, row_of}
use Rattle.std.proofs.Common.{refl, rules}
use Rattle.reckon.proofs.reckon.drop_one.Goals as goal

pub returns-then-h-lt1 : goal.returns-then-h-lt1
unfolding code_of row_of table ends lows highs doubles
returns-then-h-lt1 c =
    let a = c.args in
    rw c.refuse.ensures (λ cells. data_low 0x46 a.h a.b a.place 0x0100_0010 cells refl (refl, refl, refl, refl) c.requires.0
    c.requires.1 (search rules))

pub returns : goal.returns
unfolding code_of row_of table ends lows highs doubles
returns c =
    let a = c.args in
    rw c.on.ensures (λ cells. drop_fine a.h a.b a.place cells c.requires.0 c.requires.1 (search rules))
