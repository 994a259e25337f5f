use Rattle.reckon.proofs.Deep.{roll_low, roll_deep, roll_fine}
use Rattle.reckon.proofs.Made.{roll_made}
use Rattle.std.proofs.Common.{rules}
use Rattle.reckon.proofs.reckon.roll_up.Goals as goal

pub returns-then-h-lt1 : goal.returns-then-h-lt1
returns-then-h-lt1 c =
    let a = c.args in
    rw c.refuse.ensures (roll_made a.h a.b a.place a.stack.now c.requires.0 c.requires.1 14 a.h _
    (roll_low a.h a.b a.stack.now c.requires.0 (search rules)))

pub returns-then-h-count : goal.returns-then-h-count
returns-then-h-count c =
    let a = c.args in
    rw c.refuse-then-h-count.ensures (roll_made a.h a.b a.place a.stack.now c.requires.0 c.requires.1 14 a.h _
    (roll_deep a.h a.b a.stack.now c.requires.0 c.count_of-count.result c.count_of-count.ensures.0 (search rules) (search rules)))

pub returns : goal.returns
returns c =
    let a = c.args in
    rw c.on.ensures (roll_made a.h a.b a.place a.stack.now c.requires.0 c.requires.1 0 _ _
    (roll_fine a.h a.b a.stack.now c.requires.0 c.count_of-count.result c.count_of-count.ensures.0 (search rules) (search rules) _
    c.turn.ensures))
