use Rattle.std.proofs.Common.{◌+◌, ◌-◌, sym, ◌∙◌, rules}
use Rattle.memory.proofs.Moves.{moved_next, moved_none}
use Rattle.memory.proofs.writing.move_down.Goals as goal

pub loop-i-preserved : goal.loop-i-preserved
loop-i-preserved c =
    let a = c.args in
    moved_next c.loop-i.memory a.start a.to a.count c.loop-i.i (search rules) (search rules) (search rules) ∙ c.loop-i.invariant

pub returns : goal.returns
returns c =
    let a = c.args in
    sym (moved_none c.loop-i.memory (a.start + c.loop-i.i) (a.to + c.loop-i.i) (a.count - c.loop-i.i) (search rules)) ∙ c.loop-i.invariant
