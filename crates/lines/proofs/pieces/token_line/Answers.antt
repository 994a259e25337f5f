use Rattle.rom.specs.Words.{letters_of}
use Rattle.lines.specs.TokenLines.{all_shown, line_text}
use Rattle.lines.specs.Laws.Wrote.{wrote_none, wrote_then}
use Rattle.lines.proofs.pieces.token_line.Goals as goal

pub returns : goal.returns
unfolding line_text all_shown letters_of
returns c =
    wrote_then c.place_digits-at.ensures
    (wrote_then (wrote_then c.shown-at.ensures wrote_none)
    (wrote_then c.letter-at.ensures
    (wrote_then c.name-at.ensures (wrote_then c.operand_shown-at.ensures c.letter.ensures))))
