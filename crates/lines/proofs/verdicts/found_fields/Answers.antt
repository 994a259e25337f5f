use Rattle.rom.specs.Words.{letters_of}
use Rattle.lines.specs.Verdicts.{found_fields}
use Rattle.lines.specs.Laws.Wrote.{wrote_then}
use Rattle.lines.proofs.verdicts.found_fields.Goals as goal

pub returns : goal.returns
unfolding found_fields letters_of
returns c =
    wrote_then c.bare_verdict-at.ensures
    (wrote_then c.letter-at.ensures (wrote_then c.decimal-at.ensures
    (wrote_then c.letter-at-2.ensures (wrote_then c.words_field-at.ensures
    (wrote_then c.letter-at-3.ensures c.bare_steps.ensures)))))
