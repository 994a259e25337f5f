use Rattle.cells.specs.Laws.Facts.{not_off, not_on}
use Rattle.lines.specs.Verdicts.{bare_steps}
use Rattle.lines.specs.Laws.Wrote.{wrote_none}
use Rattle.lines.proofs.verdicts.bare_steps.Goals as goal

pub returns-then-not-ran : goal.returns-then-not-ran
unfolding bare_steps
returns-then-not-ran c =
    let args = c.args in
    rw (not_off args.ran c.if-not-ran.true-raw) wrote_none

pub returns : goal.returns
unfolding bare_steps
returns c =
    rw (not_on c.args.ran c.if-not-ran.false-raw)
    c.decimal.ensures
