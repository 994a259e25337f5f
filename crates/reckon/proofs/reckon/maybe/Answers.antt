use Rattle.std.proofs.Common.{◌+◌, rules}
use Rattle.reckon.proofs.Deep.{maybe_low, maybe_zero, maybe_high, maybe_fine}
use Rattle.reckon.proofs.Made.{maybe_made}
use Rattle.reckon.proofs.reckon.maybe.Goals as goal

pub returns-then-h-lt1 : goal.returns-then-h-lt1
returns-then-h-lt1 c =
    let a = c.args in
    rw c.refuse.ensures (maybe_made a.h a.b a.place a.stack.now c.requires.0 c.requires.1 14 a.h _
    (maybe_low a.h a.b a.stack.now c.requires.0 (search rules)))

pub returns-then-top-eq0 : goal.returns-then-top-eq0
returns-then-top-eq0 c =
    let a = c.args in
    rw c.on.ensures (maybe_made a.h a.b a.place a.stack.now c.requires.0 c.requires.1 0 a.h _
    (maybe_zero a.h a.b a.stack.now c.requires.0 (search rules) c.if-top-eq0.true))

pub returns-then-h-ge-DATA_MOST : goal.returns-then-h-ge-DATA_MOST
returns-then-h-ge-DATA_MOST c =
    let a = c.args in
    rw c.refuse-then-h-ge-DATA_MOST.ensures (maybe_made a.h a.b a.place a.stack.now c.requires.0 c.requires.1 15 a.h _
    (maybe_high a.h a.b a.stack.now c.requires.0 (search rules) c.if-top-eq0.false (search rules)))

pub returns : goal.returns
returns c =
    let a = c.args in
    rw c.on-2.ensures (maybe_made a.h a.b a.place a.stack.now c.requires.0 c.requires.1 0 (a.h + 1) _
    (maybe_fine a.h a.b a.stack.now c.requires.0 (search rules) c.if-top-eq0.false (search rules)))
