use Rattle.rom.specs.Words.{letters_of}
use Rattle.lines.specs.Laws.Wrote.{wrote_then}
use Rattle.lines.proofs.pieces.aim_remark.Goals as goal

pub returns-in-Some : goal.returns-in-Some
unfolding letters_of
returns-in-Some c = rw c.in-Some.is (wrote_then c.say-at.ensures c.place_digits.ensures)

pub returns-in-None : goal.returns-in-None
unfolding letters_of
returns-in-None c = rw c.in-None.is c.say.ensures
