use Rattle.std.proofs.Common.{sym, ◌∙◌, length-take-le, rules}
use Rattle.memory.specs.Laws.Memory.{written_out}
use Rattle.memory.proofs.Moves.{laid_cut}
use Rattle.memory.proofs.writing.copy_in.Goals as goal

pub returns-then-memory-k : goal.returns-then-memory-k
returns-then-memory-k c = let a = c.args in sym (written_out a.memory.now a.at a.bytes.now (search rules))

pub lay-requires : goal.lay-requires
lay-requires c =
    let a = c.args in
    let e = length-take-le c.min-n.result a.bytes.now (search rules) in
    rw e (search rules)

pub returns : goal.returns
returns c =
    let a = c.args in
    c.lay.ensures ∙ laid_cut a.memory.now a.at a.bytes.now c.min-n.result (search rules)
