use Rattle.std.proofs.Common.{rules}
use Rattle.screen.specs.Laws.Found.Cell.{cell_with}
use Rattle.screen.proofs.cell.cell_of.Goals as goal

pub returns : goal.returns
unfolding cell_with
returns c = search rules
