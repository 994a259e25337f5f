use Rattle.std.proofs.Common.{◌∙◌, rules}
use Rattle.memory.proofs.Moves.{none_within, moved_cut}
use Rattle.memory.proofs.writing.copy_within.Goals as goal

pub returns-then-n-eq0 : goal.returns-then-n-eq0
returns-then-n-eq0 c =
    let a = c.args in
    none_within a.memory.now a.start a.to a.count c.min-n.result (search rules) (search rules)

pub returns-then-goal-from : goal.returns-then-goal-from
returns-then-goal-from c =
    let a = c.args in
    c.move_down.ensures ∙ moved_cut a.memory.now a.start a.to a.count c.min-n.result (search rules)

pub returns-else-goal-from : goal.returns-else-goal-from
returns-else-goal-from c =
    let a = c.args in
    c.move_up.ensures ∙ moved_cut a.memory.now a.start a.to a.count c.min-n.result (search rules)
