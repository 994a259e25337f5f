use Rattle.std.proofs.Common.{sym}
use Rattle.tree.specs.Laws.Trees.{same_unlike}
use Rattle.tree.proofs.property.same_bytes.Goals as goal

pub returns-then-a-b : goal.returns-then-a-b
returns-then-a-b c = let a = c.args in sym (same_unlike a.a.now a.b.now c.if-a-b.true)
