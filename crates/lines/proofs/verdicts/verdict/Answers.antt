use Rattle.std.proofs.Common.{eq-eqb, ne_eqb}
use Rattle.rom.specs.Words.{letters_of}
use Rattle.lines.specs.Verdicts.{verdict_of}
use Rattle.lines.specs.Laws.Wrote.{wrote_then}
use Rattle.lines.proofs.verdicts.verdict.Goals as goal

pub returns-then-number-eq0 : goal.returns-then-number-eq0
unfolding verdict_of letters_of
returns-then-number-eq0 c =
    rw (eq-eqb _ _ c.if-number-eq0.true)
    c.say.ensures

pub returns : goal.returns
unfolding verdict_of letters_of
returns c =
    rw (ne_eqb _ _ c.if-number-eq0.false)
    (wrote_then c.say-at.ensures (wrote_then c.decimal-at.ensures c.reason.ensures))
