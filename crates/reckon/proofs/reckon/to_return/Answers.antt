use Rattle.reckon.proofs.Returns.{to_low, to_high, to_fine}
use Rattle.std.proofs.Common.{rules}
use Rattle.reckon.proofs.reckon.to_return.Goals as goal

pub returns-then-h-lt1 : goal.returns-then-h-lt1
returns-then-h-lt1 c =
    let a = c.args in
    rw c.refuse.ensures (λ base. to_low base a.h a.b a.place a.stack.now a.back.now c.requires.0 c.requires.1
    (search rules))

pub returns-then-b-ge-RETURN_MOST : goal.returns-then-b-ge-RETURN_MOST
returns-then-b-ge-RETURN_MOST c =
    let a = c.args in
    rw c.refuse-then-b-ge-RETURN_MOST.ensures (λ base. to_high base a.h a.b a.place a.stack.now a.back.now c.requires.0 c.requires.1
    (search rules) (search rules))

pub returns : goal.returns
returns c =
    let a = c.args in
    rw c.on.ensures (λ base. to_fine base a.h a.b a.place a.stack.now a.back.now c.requires.0 c.requires.1
    (search rules) (search rules))
