use Rattle.screen.specs.Laws.Found.Cell.{moved_cell}
use Rattle.screen.proofs.cell.moved.Goals as goal

pub returns : goal.returns
unfolding moved_cell
returns c = c.saturating_sub.ensures
