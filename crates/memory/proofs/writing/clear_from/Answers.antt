use Rattle.std.proofs.Common.{rules}
use Rattle.memory.proofs.Moves.{cleared_part}
use Rattle.memory.proofs.writing.clear_from.Goals as goal

pub returns : goal.returns
returns c =
    let a = c.args in
    rw (c.fill.ensures.after (search rules)) (cleared_part a.memory.now a.at c.min-k.result _ (search rules) (search rules))
