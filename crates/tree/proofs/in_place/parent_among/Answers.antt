use lib.ListN.{get_or-eq_default}
use Rattle.tree.proofs.in_place.parent_among.Goals as goal

pub returns-else-k-parents : goal.returns-else-k-parents
returns-else-k-parents c = rw (get_or-eq_default c.args.parents.now 0 {n = c.args.k} c.if-k-parents.false)
