use Rattle.std.proofs.Common.{le-ltb}
use Rattle.rom.specs.Laws.Spread.{same_most}
use Rattle.rom.proofs.header.wrong_rom.Goals as goal

pub returns-else-count-lt-ROM_LEAST : goal.returns-else-count-lt-ROM_LEAST
returns-else-count-lt-ROM_LEAST c =
    let a = c.args in
    rw (
      ← c.fcode_count-count.ensures,
      le-ltb _ _ c.if-count-lt-ROM_LEAST.false,
      same_most a.spread
          a.rom.now,
      ← c.fcode_most.ensures,
    )
