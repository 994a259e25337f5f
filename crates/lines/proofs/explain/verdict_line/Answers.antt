use Rattle.lines.specs.Explain.{verdict_line}
use Rattle.rom.specs.Words.{letters_of}
use Rattle.lines.specs.Laws.Wrote.{wrote_then}
use Rattle.lines.proofs.explain.verdict_line.Goals as goal

pub returns : goal.returns
unfolding verdict_line letters_of
returns c = wrote_then c.say-at.ensures (wrote_then c.verdict-at.ensures c.letter.ensures)
