use Rattle.std.proofs.Common.{sym, ◌∙◌}
use Rattle.cells.specs.Laws.Facts.{not_off, not_on}
use Rattle.rom.specs.Words.{letters_of}
use Rattle.lines.specs.Numbers.{number_line}
use Rattle.lines.specs.Laws.Wrote.{wrote_none, wrote_then}
use Rattle.lines.proofs.numbers.number_line.Goals as goal

pub returns-then-not-has_words : goal.returns-then-not-has_words
unfolding number_line letters_of
returns-then-not-has_words c = rw (sym c.has_words.ensures ∙ not_off _ c.if-not-has_words.true-raw) wrote_none

pub returns : goal.returns
unfolding number_line letters_of
returns c =
    rw (sym c.has_words.ensures ∙ not_on _ c.if-not-has_words.false-raw)
    (wrote_then c.decimal-at.ensures (wrote_then c.letter-at.ensures
    (wrote_then c.words_of-at.ensures c.letter.ensures)))
