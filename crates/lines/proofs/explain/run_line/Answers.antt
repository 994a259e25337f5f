use Rattle.lines.specs.Explain.{run_line}
use Rattle.rom.specs.Words.{letters_of}
use Rattle.lines.specs.Laws.Wrote.{wrote_then}
use Rattle.lines.proofs.explain.run_line.Goals as goal

pub returns : goal.returns
unfolding run_line letters_of
returns c =
    wrote_then c.say-at.ensures (wrote_then c.end_words-at.ensures
    (wrote_then c.say-at-2.ensures (wrote_then c.decimal-at.ensures c.letter.ensures)))
