use Rattle.std.proofs.Common.{◌∙◌, arith, length, rules}
use Rattle.memory.specs.Window.{work_base}
use Rattle.memory.specs.Laws.Memory.{lies_within}
use Rattle.memory.proofs.Accesses.{cell_outside, cell_uneven, cell_inside}
use Rattle.memory.proofs.cell.store_cell.Goals as goal

pub returns-then-not-lies : goal.returns-then-not-lies
returns-then-not-lies c = let a = c.args in cell_outside a.work.now a.address a.cell (search rules)

pub returns-then-address-ne0 : goal.returns-then-address-ne0
returns-then-address-ne0 c = let a = c.args in cell_uneven a.work.now a.address a.cell (search rules) (search rules)

pub overflow_sub-address : goal.overflow_sub-address
overflow_sub-address c =
    let a = c.args in
    let w = lies_within work_base (length a.work.now) a.address 4 (search rules) in
    omega arith

pub returns : goal.returns
returns c =
    let a = c.args in
    let i = cell_inside a.work.now a.address a.cell (search rules) (search rules) in
    (i.0, c.write_cell.ensures ∙ i.1)
