use Rattle.std.proofs.Common.{sym, ◌∙◌}
use Rattle.cells.specs.Laws.Facts.{not_off}
use Rattle.rom.specs.Words.{letters_of}
use Rattle.lines.specs.Fields.{each_as, field}
use Rattle.lines.proofs.fields.text_field.Goals as goal

pub returns-then-not-is_text : goal.returns-then-not-is_text
unfolding field each_as letters_of
returns-then-not-is_text c =
    rw (sym c.is_text.ensures ∙ not_off _ c.if-not-is_text.true-raw)
    c.say.ensures
