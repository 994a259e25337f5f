use Rattle.rom.specs.Words.{letters_of}
use Rattle.lines.specs.Lines.{read_line}
use Rattle.lines.specs.Laws.Wrote.{wrote_then}
use Rattle.lines.proofs.lines.read_line.Goals as goal

pub returns : goal.returns
unfolding read_line letters_of
returns c =
    wrote_then c.say-at.ensures (wrote_then c.say-at-2.ensures
    (wrote_then c.text_read-at.ensures (wrote_then c.number_read-at.ensures (wrote_then c.bytes_read-at.ensures c.letter.ensures))))
