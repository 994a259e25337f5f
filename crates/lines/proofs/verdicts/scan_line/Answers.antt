use Rattle.rom.specs.Words.{letters_of}
use Rattle.lines.specs.Verdicts.{scan_line}
use Rattle.lines.specs.Laws.Wrote.{wrote_then}
use Rattle.lines.proofs.verdicts.scan_line.Goals as goal

pub returns : goal.returns
unfolding scan_line letters_of
returns c =
    wrote_then c.plain-at.ensures (wrote_then c.say-at.ensures
    (wrote_then c.verdict-at.ensures
    (wrote_then c.steps_part-at.ensures (wrote_then c.labelled-at.ensures
    (wrote_then c.labelled-at-2.ensures c.letter.ensures)))))
