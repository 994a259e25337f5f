use Rattle.lines.specs.Laws.Wrote.{wrote_then}
use Rattle.lines.proofs.verdicts.counted.Goals as goal

pub returns : goal.returns
returns c = wrote_then c.decimal-at.ensures c.say.ensures
