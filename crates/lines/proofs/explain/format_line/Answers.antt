use Rattle.lines.specs.Explain.{format_line}
use Rattle.rom.specs.Words.{letters_of}
use Rattle.lines.specs.Laws.Wrote.{wrote_then}
use Rattle.lines.proofs.explain.format_line.Goals as goal

pub returns : goal.returns
unfolding format_line letters_of
returns c = rw (← c.byte.ensures) (wrote_then c.say-at.ensures (wrote_then c.hex_byte-at.ensures c.letter.ensures))
