use Rattle.reckon.proofs.Arms.{push_fine}
use Rattle.reckon.proofs.Given.{none_code}
use Rattle.reckon.proofs.Paths.{data_high}
use Rattle.std.proofs.Common.{refl, rules}
use Rattle.reckon.proofs.reckon.push.Goals as goal

pub returns-then-h-ge-DATA_MOST : goal.returns-then-h-ge-DATA_MOST
returns-then-h-ge-DATA_MOST c =
    let a = c.args in
    rw c.refuse.ensures (data_high a.number a.h a.b a.place 0x0100_0001 a.stack.now
    (none_code a.number c.requires.0) (refl, refl, refl, refl) c.requires.1 c.requires.2 (search rules) (search rules))

pub returns : goal.returns
returns c =
    let a = c.args in
    rw c.on.ensures (push_fine a.h a.b a.place a.stack.now c.requires.1 c.requires.2 a.number (search rules)
    c.said.result c.requires.0 c.said.ensures)
