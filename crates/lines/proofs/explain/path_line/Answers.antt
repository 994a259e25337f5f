use Rattle.std.proofs.Common.{eq-eqb, ne_eqb}
use Rattle.lines.specs.Explain.{path_line}
use Rattle.rom.specs.Words.{letters_of}
use Rattle.lines.specs.Laws.Wrote.{wrote_then}
use Rattle.lines.proofs.explain.path_line.Goals as goal

pub returns-then-node-eq0 : goal.returns-then-node-eq0
unfolding path_line letters_of
returns-then-node-eq0 c = rw (eq-eqb _ _ c.if-node-eq0.true) (wrote_then c.letter-at.ensures c.letter.ensures)

pub returns : goal.returns
unfolding path_line letters_of
returns c = rw (ne_eqb _ _ c.if-node-eq0.false) (wrote_then c.path_to-at.ensures c.letter-2.ensures)
