use Rattle.std.proofs.Common.{sym, ◌∙◌}
use Rattle.cells.specs.Laws.Facts.{not_off}
use Rattle.lines.specs.Laws.Wrote.{wrote_none}
use Rattle.lines.proofs.lines.text_read.Goals as goal

pub returns-then-not-is_text : goal.returns-then-not-is_text
returns-then-not-is_text c = rw (sym c.is_text.ensures ∙ not_off _ c.if-not-is_text.true-raw) wrote_none
