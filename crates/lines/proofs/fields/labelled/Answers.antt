use Rattle.std.proofs.Common.{sym, ◌∙◌}
use Rattle.cells.specs.Laws.Facts.{not_off, not_on}
use Rattle.rom.specs.Words.{letters_of}
use Rattle.lines.specs.Fields.{labelled}
use Rattle.lines.specs.Laws.Wrote.{wrote_none, wrote_then}
use Rattle.lines.proofs.fields.labelled.Goals as goal

pub returns-then-not-is_text : goal.returns-then-not-is_text
unfolding labelled letters_of
returns-then-not-is_text c = rw (sym c.is_text.ensures ∙ not_off _ c.if-not-is_text.true-raw) wrote_none

pub returns : goal.returns
unfolding labelled letters_of
returns c =
    rw (sym c.is_text.ensures ∙ not_on _ c.if-not-is_text.false-raw, ← c.text_of.ensures)
    (wrote_then c.say-at.ensures (wrote_then c.say-at-2.ensures c.quoted.ensures))
