use Rattle.std.proofs.Common.{sym, rules}
use Rattle.tree.specs.Laws.Clean.{zeros_none}
use Rattle.tree.proofs.Lists.{zeroed_part}
use Rattle.tree.proofs.in_place.clear_up_to.Goals as goal

pub returns-then-at-end : goal.returns-then-at-end
returns-then-at-end c =
    let a = c.args in
    rw (c.fill.ensures.after (search rules)) (zeroed_part a.memory.now a.at a.end _ (search rules) (search rules) (search rules))

pub returns-else-at-end : goal.returns-else-at-end
returns-else-at-end c = let a = c.args in sym (zeros_none a.memory.now a.at a.end (search rules))
