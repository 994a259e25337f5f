use Rattle.std.proofs.Common.{sym, ◌∙◌}
use Rattle.cells.specs.Laws.Facts.{not_off, not_on}
use Rattle.rom.specs.Words.{letters_of}
use Rattle.lines.specs.Verdicts.{reason_of}
use Rattle.lines.specs.Laws.Wrote.{wrote_none, wrote_then}
use Rattle.lines.proofs.verdicts.reason.Goals as goal

pub returns-then-not-has_words : goal.returns-then-not-has_words
unfolding reason_of letters_of
returns-then-not-has_words c = rw (sym c.has_words.ensures ∙ not_off _ c.if-not-has_words.true-raw) wrote_none

pub returns : goal.returns
unfolding reason_of letters_of
returns c =
    rw (sym c.has_words.ensures ∙ not_on _ c.if-not-has_words.false-raw)
    (wrote_then c.say-at.ensures c.words_of.ensures)
