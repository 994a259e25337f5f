use Rattle.lines.specs.Lines.{property_line}
use Rattle.lines.specs.Laws.Wrote.{wrote_then}
use Rattle.lines.proofs.lines.property_line.Goals as goal

pub returns : goal.returns
unfolding property_line
returns c = wrote_then c.say-at.ensures (wrote_then c.shown-at.ensures c.letter.ensures)
