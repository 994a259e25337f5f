use Rattle.std.proofs.Common.{sym, ◌∙◌}
use Rattle.lines.specs.Explain.{title_shown}
use Rattle.rom.specs.Words.{letters_of}
use Rattle.lines.specs.Laws.Wrote.{wrote_then}
use Rattle.lines.proofs.explain.title.Goals as goal

pub returns-then-is_title : goal.returns-then-is_title
unfolding title_shown letters_of
returns-then-is_title c = rw (← c.own_value-name.ensures, sym c.is_title.ensures ∙ c.if-is_title.true, ← c.text_of.ensures) c.say.ensures

pub returns : goal.returns
unfolding title_shown letters_of
returns c =
    rw (← c.own_value-name.ensures, sym c.is_title.ensures ∙ c.if-is_title.false)
    (wrote_then c.say-at.ensures (wrote_then c.decimal-at.ensures c.letter.ensures))
