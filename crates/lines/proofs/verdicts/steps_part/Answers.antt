use Rattle.cells.specs.Laws.Facts.{not_off, not_on}
use Rattle.rom.specs.Words.{letters_of}
use Rattle.lines.specs.Verdicts.{steps_part}
use Rattle.lines.specs.Laws.Wrote.{wrote_none, wrote_then}
use Rattle.lines.proofs.verdicts.steps_part.Goals as goal

pub returns-then-not-ran : goal.returns-then-not-ran
unfolding steps_part letters_of
returns-then-not-ran c =
    let args = c.args in
    rw (not_off args.ran c.if-not-ran.true-raw) wrote_none

pub returns : goal.returns
unfolding steps_part letters_of
returns c =
    rw (not_on c.args.ran c.if-not-ran.false-raw)
    (wrote_then c.say-at.ensures c.decimal.ensures)
