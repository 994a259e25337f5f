use Rattle.rom.specs.Words.{letters_of}
use Rattle.lines.specs.Verdicts.{lost_line}
use Rattle.lines.specs.Laws.Wrote.{wrote_then}
use Rattle.lines.proofs.verdicts.lost_line.Goals as goal

pub returns : goal.returns
unfolding lost_line letters_of
returns c = wrote_then c.plain-at.ensures c.say.ensures
