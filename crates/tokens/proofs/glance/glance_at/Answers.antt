use Rattle.tokens.specs.Laws.GlanceForms.{past_end}
use Rattle.std.proofs.Common.{◌∙◌}
use Rattle.tokens.proofs.glance.glance_at.Goals as goal

pub returns-then-length-place : goal.returns-then-length-place
returns-then-length-place c =
    let a = c.args in
    c.nothing.ensures ∙ past_end a.rom.now a.length a.wide a.place c.if-length-place.true
