use Rattle.rom.specs.Words.{letters_of}
use Rattle.lines.specs.Verdicts.{lost_csv}
use Rattle.lines.specs.Laws.Wrote.{wrote_then}
use Rattle.lines.proofs.verdicts.lost_csv.Goals as goal

pub returns : goal.returns
unfolding lost_csv letters_of
returns c = wrote_then c.field-at.ensures c.say.ensures
