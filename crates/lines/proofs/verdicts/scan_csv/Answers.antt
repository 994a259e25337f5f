use Rattle.rom.specs.Words.{letters_of}
use Rattle.lines.specs.Verdicts.{scan_csv}
use Rattle.lines.specs.Laws.Wrote.{wrote_then}
use Rattle.lines.proofs.verdicts.scan_csv.Goals as goal

pub returns : goal.returns
unfolding scan_csv letters_of
returns c =
    wrote_then c.field-at.ensures (wrote_then c.letter-at.ensures
    (wrote_then c.found_fields-at.ensures (wrote_then c.letter-at-2.ensures
    (wrote_then c.text_field-at.ensures (wrote_then c.letter-at-3.ensures
    (wrote_then c.text_field-at-2.ensures c.letter.ensures))))))
