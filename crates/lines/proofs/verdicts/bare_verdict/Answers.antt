use Rattle.std.proofs.Common.{eq-eqb, ne_eqb}
use Rattle.rom.specs.Words.{letters_of}
use Rattle.lines.specs.Verdicts.{bare_verdict}
use Rattle.lines.proofs.verdicts.bare_verdict.Goals as goal

pub returns-then-number-eq0 : goal.returns-then-number-eq0
unfolding bare_verdict letters_of
returns-then-number-eq0 c =
    rw (eq-eqb _ _ c.if-number-eq0.true)
    c.say.ensures

pub returns : goal.returns
unfolding bare_verdict letters_of
returns c =
    rw (ne_eqb _ _ c.if-number-eq0.false)
    c.say-2.ensures
