use Rattle.reckon.proofs.Returns.{from_low, from_high, from_fine}
use Rattle.std.proofs.Common.{rules}
use Rattle.reckon.proofs.reckon.from_return.Goals as goal

pub returns-then-b-base : goal.returns-then-b-base
returns-then-b-base c =
    let a = c.args in
    rw c.refuse.ensures (from_low a.base a.h a.b a.place a.stack.now a.back.now c.requires.0 c.requires.1
    (search rules))

pub returns-then-h-ge-DATA_MOST : goal.returns-then-h-ge-DATA_MOST
returns-then-h-ge-DATA_MOST c =
    let a = c.args in
    rw c.refuse-then-h-ge-DATA_MOST.ensures (from_high a.base a.h a.b a.place a.stack.now a.back.now c.requires.0 c.requires.1
    (search rules) (search rules))

pub returns : goal.returns
returns c =
    let a = c.args in
    rw c.on.ensures (from_fine a.base a.h a.b a.place a.stack.now a.back.now c.requires.0 c.requires.1
    (search rules) (search rules))
