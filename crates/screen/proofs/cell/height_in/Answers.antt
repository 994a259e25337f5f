use Rattle.std.proofs.Common.{rules}
use Rattle.screen.specs.Laws.Found.Cell.{heights_in}
use Rattle.screen.proofs.cell.height_in.Goals as goal

pub returns : goal.returns
unfolding heights_in
returns c = search rules
