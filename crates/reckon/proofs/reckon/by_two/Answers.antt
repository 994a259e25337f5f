use Rattle.reckon.proofs.Arms.{two_fine}
use Rattle.reckon.proofs.Given.{two_code}
use Rattle.reckon.proofs.Paths.{data_low}
use Rattle.std.proofs.Common.{refl, rules}
use Rattle.reckon.proofs.reckon.by_two.Goals as goal

pub returns-then-h-lt2 : goal.returns-then-h-lt2
returns-then-h-lt2 c =
    let a = c.args in
    rw c.refuse.ensures (data_low a.number a.h a.b a.place 0x0100_0021 a.stack.now
    (two_code a.number c.requires.0) (refl, refl, refl, refl) c.requires.1 c.requires.2 (search rules))

pub returns : goal.returns
returns c =
    let a = c.args in
    rw c.on.ensures (two_fine a.h a.b a.place a.stack.now c.requires.1 c.requires.2 a.number c.two.result
    c.requires.0 (search rules) c.two.ensures)
