use Rattle.reckon.proofs.Arms.{nothing_fine}
use Rattle.reckon.proofs.reckon.nothing.Goals as goal

pub returns : goal.returns
returns c =
    let a = c.args in
    rw c.on.ensures (λ cells. nothing_fine a.h a.b a.place cells c.requires.1 c.requires.2 a.number c.requires.0)
