use Rattle.reckon.proofs.Arms.{one_fine}
use Rattle.reckon.proofs.Given.{one_code}
use Rattle.reckon.proofs.Paths.{data_low}
use Rattle.std.proofs.Common.{refl, rules}
use Rattle.reckon.proofs.reckon.by_one.Goals as goal

pub returns-then-h-lt1 : goal.returns-then-h-lt1
returns-then-h-lt1 c =
    let a = c.args in
    rw c.refuse.ensures (data_low a.number a.h a.b a.place 0x0100_0011 a.stack.now
    (one_code a.number c.requires.0) (refl, refl, refl, refl) c.requires.1 c.requires.2 (search rules))

pub returns : goal.returns
returns c =
    let a = c.args in
    rw c.on.ensures (one_fine a.h a.b a.place a.stack.now c.requires.1 c.requires.2 a.number c.one.result
    c.requires.0 (search rules) c.one.ensures)
