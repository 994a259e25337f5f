use Rattle.std.proofs.Common.{rules}
use Rattle.memory.proofs.Accesses.{no_byte, one_byte}
use Rattle.memory.proofs.cell.fetch_byte.Goals as goal

pub returns-then-is_empty : goal.returns-then-is_empty
returns-then-is_empty c =
    let a = c.args in
    no_byte a.rom.now a.work.now a.size a.address (rw (← c.resolve-part.ensures) (search rules))

pub returns : goal.returns
returns c =
    let a = c.args in
    rw (c.from.ensures, c.byte.ensures, c.resolve-part.ensures)
    (one_byte a.rom.now a.work.now a.size a.address (rw (← c.resolve-part.ensures) (search rules)))
