use Rattle.reckon.proofs.Arms.{drop_two_fine}
use Rattle.reckon.proofs.Paths.{data_low}
use Rattle.tokens.specs.Code.{code_of}
use Rattle.tokens.specs.Table.{ends, lows, highs, doubles, table, row_of}
use Rattle.std.proofs.Common.{refl, rules}
use Rattle.reckon.proofs.reckon.drop_two.Goals as goal

pub returns-then-h-lt2 : goal.returns-then-h-lt2
unfolding code_of row_of table ends lows highs doubles
returns-then-h-lt2 c =
    let a = c.args in
    rw c.refuse.ensures (λ cells. data_low 0x52 a.h a.b a.place 0x0100_0020 cells refl (refl, refl, refl, refl) c.requires.0
    c.requires.1 (search rules))

pub returns : goal.returns
unfolding code_of row_of table ends lows highs doubles
returns c =
    let a = c.args in
    rw c.on.ensures (λ cells. drop_two_fine a.h a.b a.place cells c.requires.0 c.requires.1 (search rules))
