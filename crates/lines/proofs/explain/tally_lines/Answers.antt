use Rattle.std.proofs.Common.{eq-eqb, ne_eqb}
use Rattle.lines.specs.Explain.{tally_lines}
use Rattle.rom.specs.Words.{letters_of}
use Rattle.lines.specs.Laws.Wrote.{wrote_then}
use Rattle.lines.proofs.explain.tally_lines.Goals as goal

pub returns-then-tally-eq0 : goal.returns-then-tally-eq0
unfolding tally_lines letters_of
returns-then-tally-eq0 c = rw (eq-eqb _ _ c.if-tally-eq0.true)
    (wrote_then c.say-at.ensures (wrote_then c.decimal-at.ensures (wrote_then c.say-at-then-tally-eq0.ensures c.letter.ensures)))

pub returns : goal.returns
unfolding tally_lines letters_of
returns c = rw (ne_eqb _ _ c.if-tally-eq0.false) (wrote_then c.say-at.ensures (wrote_then c.decimal-at.ensures c.outside_lines.ensures))
