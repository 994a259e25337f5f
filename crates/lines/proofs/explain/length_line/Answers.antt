use Rattle.lines.specs.Explain.{length_line}
use Rattle.rom.specs.Words.{letters_of}
use Rattle.lines.specs.Laws.Wrote.{wrote_then}
use Rattle.lines.proofs.explain.length_line.Goals as goal

pub returns : goal.returns
unfolding length_line letters_of
returns c = rw (← c.program_length.ensures) (wrote_then c.say-at.ensures (wrote_then c.decimal-at.ensures c.letter.ensures))
