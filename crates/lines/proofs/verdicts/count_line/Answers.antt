use Rattle.rom.specs.Words.{letters_of}
use Rattle.lines.specs.Verdicts.{count_line}
use Rattle.lines.specs.Laws.Wrote.{wrote_then}
use Rattle.lines.proofs.verdicts.count_line.Goals as goal

pub returns : goal.returns
unfolding count_line letters_of
returns c =
    wrote_then c.counted-at.ensures (wrote_then c.counted-at-2.ensures
    (wrote_then c.counted-at-3.ensures (wrote_then c.counted-at-4.ensures c.counted.ensures)))
