use Rattle.std.proofs.Common.{rules}
use Rattle.screen.specs.Laws.Found.Cell.{mark_in}
use Rattle.screen.proofs.cell.mark_in.Goals as goal

pub returns : goal.returns
unfolding mark_in
returns c = search rules
