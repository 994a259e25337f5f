use Rattle.std.proofs.Common.{arith}
use Rattle.lines.specs.Laws.Texts.{shown_none, shown_some}
use Rattle.lines.specs.Laws.Wrote.{wrote_none, wrote_then}
use Rattle.lines.proofs.lines.shown.Goals as goal

pub returns-then-value-eq0 : goal.returns-then-value-eq0
returns-then-value-eq0 c =
    let args = c.args in
    rw (shown_none args.value.now (omega arith)) wrote_none

pub returns : goal.returns
returns c =
    let args = c.args in
    rw (shown_some args.value.now (λ e. omega arith)) (wrote_then c.letter-at.ensures c.hex.ensures)
