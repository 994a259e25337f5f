use Rattle.lines.specs.Explain.{start_line}
use Rattle.rom.specs.Words.{letters_of}
use Rattle.lines.specs.Laws.Wrote.{wrote_then}
use Rattle.lines.proofs.explain.start_line.Goals as goal

pub returns : goal.returns
unfolding start_line letters_of
returns c =
    rw (← c.byte-start.ensures) (wrote_then c.say-at.ensures
    (wrote_then c.hex_byte-at.ensures (wrote_then c.start_words-at.ensures c.letter.ensures)))
