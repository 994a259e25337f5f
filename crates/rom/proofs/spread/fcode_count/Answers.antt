use Rattle.std.proofs.Common.{arith}
use Rattle.rom.specs.Laws.Spread.{view_length}
use Rattle.rom.specs.declared.spread.Spread.TheVariants.{Two, Four}
use Rattle.rom.proofs.spread.fcode_count.Goals as goal

pub returns-in-Two : goal.returns-in-Two
returns-in-Two c =
    let e = view_length Two c.args.rom.now in
    rw c.in-Two.is (omega arith)

pub returns-in-Four : goal.returns-in-Four
returns-in-Four c =
    let e = view_length Four c.args.rom.now in
    rw c.in-Four.is (omega arith)
