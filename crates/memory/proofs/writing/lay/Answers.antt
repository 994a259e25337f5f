use Rattle.std.proofs.Common.{◌+◌, sym, ◌∙◌, rules}
use Rattle.memory.proofs.Moves.{laid_more, laid_all}
use Rattle.memory.proofs.writing.lay.Goals as goal

pub loop-i-preserved : goal.loop-i-preserved
loop-i-preserved c =
    let a = c.args in
    laid_more c.loop-i.memory a.at a.bytes.now c.loop-i.i (search rules) ∙ c.loop-i.invariant

pub returns : goal.returns
returns c =
    let a = c.args in
    sym (laid_all c.loop-i.memory (a.at + c.loop-i.i) a.bytes.now c.loop-i.i (search rules)) ∙ c.loop-i.invariant
