use Rattle.std.proofs.Common.{rules}
use Rattle.tree.proofs.property.size_of.Goals as goal

pub returns-then-null : goal.returns-then-null
returns-then-null c = (rw c.if-null.true, search rules)

pub returns-else-null : goal.returns-else-null
returns-else-null c = (rw c.if-null.false, search rules)
