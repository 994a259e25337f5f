use Rattle.memory.proofs.Accesses.{no_cell, uneven_cell, whole_cell}
use Rattle.memory.proofs.cell.fetch_cell.Goals as goal

pub returns-then-part-lt4 : goal.returns-then-part-lt4
returns-then-part-lt4 c =
    let a = c.args in
    no_cell a.rom.now a.work.now a.size a.address (rw (← c.resolve-part.ensures) c.if-part-lt4.true)

pub returns-then-address-ne0 : goal.returns-then-address-ne0
returns-then-address-ne0 c =
    let a = c.args in
    uneven_cell a.rom.now a.work.now a.size a.address (rw (← c.resolve-part.ensures) c.if-part-lt4.false) c.if-address-ne0.true

pub returns : goal.returns
returns c =
    let a = c.args in
    rw (c.word32.ensures, c.resolve-part.ensures)
    (whole_cell a.rom.now a.work.now a.size a.address (rw (← c.resolve-part.ensures) c.if-part-lt4.false) c.if-address-ne0.false)
