use Rattle.std.proofs.Common.{sym, arith}
use Rattle.rom.specs.Laws.Spread.{view_at, view_within}
use Rattle.rom.proofs.spread.fcode_byte.Goals as goal

pub overflow_mul-at : goal.overflow_mul-at
overflow_mul-at c =
    let a = c.args in
    let b = view_within a.spread a.rom.now a.k (omega (arith, c.fcode_count.ensures, c.if-k-fcode_count.true)) in
    rw c.distance.ensures (record { fits = omega arith })

pub bounds-rom-at : goal.bounds-rom-at
bounds-rom-at c =
    let a = c.args in
    rw c.distance.ensures
    (view_within a.spread a.rom.now a.k
    (omega (arith, c.fcode_count.ensures, c.if-k-fcode_count.true)))

pub returns-then-k-fcode_count : goal.returns-then-k-fcode_count
returns-then-k-fcode_count c =
    let a = c.args in
    rw c.distance.ensures (sym (view_at a.spread a.rom.now a.k))
