use Rattle.rom.specs.Words.{letters_of}
use Rattle.lines.proofs.verdicts.csv_head.Goals as goal

pub returns : goal.returns
unfolding letters_of
returns c = c.say.ensures
