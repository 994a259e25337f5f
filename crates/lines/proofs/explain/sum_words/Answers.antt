use Rattle.std.proofs.Common.{eq-eqb, ne_eqb}
use Rattle.rom.specs.Words.{letters_of}
use Rattle.lines.specs.Laws.Wrote.{wrote_then}
use Rattle.lines.proofs.explain.sum_words.Goals as goal

pub returns-then-field-sum : goal.returns-then-field-sum
unfolding letters_of
returns-then-field-sum c = rw (eq-eqb _ _ c.if-field-sum.true) c.say.ensures

pub returns : goal.returns
unfolding letters_of
returns c = rw (ne_eqb _ _ c.if-field-sum.false) (wrote_then c.say-at.ensures c.hex_word.ensures)
