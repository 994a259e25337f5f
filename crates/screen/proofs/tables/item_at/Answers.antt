use lib.ListN.{get_or-eq_default}
use Rattle.std.proofs.Common.{rules}
use Rattle.screen.proofs.tables.item_at.Goals as goal

pub returns-else-k-items : goal.returns-else-k-items
returns-else-k-items g c = let a = c.args in rw (get_or-eq_default a.items.now a.none {n = a.at} (search rules))
