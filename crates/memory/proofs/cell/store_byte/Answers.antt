use Rattle.std.proofs.Common.{◌∙◌, arith, length, rules}
use Rattle.memory.specs.Window.{work_base}
use Rattle.memory.specs.Writing.{written_of}
use Rattle.memory.specs.Laws.Memory.{lies_within}
use Rattle.memory.proofs.Accesses.{byte_outside, byte_inside}
use Rattle.memory.proofs.cell.store_byte.Goals as goal

pub returns-then-not-lies : goal.returns-then-not-lies
returns-then-not-lies c = let a = c.args in byte_outside a.work.now a.address a.cell (search rules)

pub overflow_sub-k : goal.overflow_sub-k
overflow_sub-k c =
    let a = c.args in
    let w = lies_within work_base (length a.work.now) a.address 1 (search rules) in
    omega arith

pub returns : goal.returns
unfolding written_of
returns c =
    let a = c.args in
    let i = byte_inside a.work.now a.address a.cell (search rules) in
    (i.0, c.put.ensures ∙ i.1)
