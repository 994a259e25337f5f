use Rattle.lines.specs.Explain.{outside_lines}
use Rattle.rom.specs.Words.{letters_of}
use Rattle.lines.specs.Laws.Wrote.{wrote_then}
use Rattle.lines.proofs.explain.outside_lines.Goals as goal

pub returns : goal.returns
unfolding outside_lines letters_of
returns c =
    wrote_then c.say-at.ensures (wrote_then c.decimal-at.ensures
    (wrote_then c.say-at-2.ensures (wrote_then c.say-at-3.ensures (wrote_then c.letter-at.ensures c.raw_line.ensures))))
