use Rattle.lines.specs.Explain.{sum_line}
use Rattle.rom.specs.Words.{letters_of}
use Rattle.lines.specs.Laws.Wrote.{wrote_then}
use Rattle.lines.proofs.explain.sum_line.Goals as goal

pub returns : goal.returns
unfolding sum_line letters_of
returns c = wrote_then c.say-at.ensures (wrote_then (rw c.word16.ensures at c.hex_word-at.ensures)
    (wrote_then c.sums-at.ensures c.letter.ensures))
