use Rattle.rom.specs.Words.{letters_of}
use Rattle.lines.specs.Laws.Fields.{words_doubled}
use Rattle.lines.specs.Fields.{field}
use Rattle.lines.specs.Laws.Wrote.{wrote_then}
use Rattle.lines.proofs.verdicts.words_field.Goals as goal

pub returns : goal.returns
unfolding field letters_of
returns c =
    rw (words_doubled c.args.number)
    (wrote_then c.letter-at.ensures (wrote_then c.words_of-at.ensures c.letter.ensures))
