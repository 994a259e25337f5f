use Rattle.rom.specs.Words.{letters_of}
use Rattle.lines.specs.Laws.Wrote.{wrote_then}
use Rattle.lines.proofs.explain.tree_line.Goals as goal

pub returns : goal.returns
unfolding letters_of
returns c = wrote_then c.say-at.ensures c.letter.ensures
