use Rattle.std.proofs.Common.{eq-eqb, ne_eqb}
use Rattle.lines.specs.Explain.{end_words}
use Rattle.rom.specs.Words.{letters_of}
use Rattle.lines.proofs.explain.end_words.Goals as goal

pub returns-then-number-eq0 : goal.returns-then-number-eq0
unfolding end_words letters_of
returns-then-number-eq0 c = rw (eq-eqb _ _ c.if-number-eq0.true) c.say.ensures

pub returns : goal.returns
unfolding end_words letters_of
returns c = rw (ne_eqb _ _ c.if-number-eq0.false) c.verdict.ensures
