use Rattle.std.proofs.Common.{sym, ◌∙◌}
use Rattle.cells.specs.Laws.Facts.{not_off, not_on}
use Rattle.rom.specs.Words.{letters_of}
use Rattle.lines.specs.Printed.{quoted}
use Rattle.lines.specs.Laws.Wrote.{wrote_none, wrote_then}
use Rattle.lines.proofs.printed.quoted.Goals as goal

pub returns-then-not-all_printed : goal.returns-then-not-all_printed
unfolding quoted letters_of
returns-then-not-all_printed c = rw (sym c.all_printed.ensures ∙ not_off _ c.if-not-all_printed.true-raw) wrote_none

pub returns : goal.returns
unfolding quoted letters_of
returns c = rw (sym c.all_printed.ensures ∙ not_on _ c.if-not-all_printed.false-raw)
    (wrote_then c.say-at.ensures (wrote_then c.say-at-2.ensures c.letter.ensures))
