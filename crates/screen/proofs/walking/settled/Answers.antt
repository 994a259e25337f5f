use Rattle.screen.specs.Laws.Code.Walk.{settled_same, settled_none, settled_next}
use Rattle.std.proofs.Common.{refl, ◌∙◌}
use Rattle.screen.proofs.walking.settled.Goals as goal

pub returns-then-way-ne0 : goal.returns-then-way-ne0
returns-then-way-ne0 c = settled_same c.requires c.if-way-ne0.true

pub returns-then-way-eq0 : goal.returns-then-way-eq0
returns-then-way-eq0 c = settled_none c.requires c.if-way-eq0.true

pub returns : goal.returns
returns c = settled_next c.requires c.if-way-ne0.false c.if-way-eq0.false _ _ _ refl (c.from-place.ensures ∙ c.item_at.ensures)
    c.item_at-2.ensures
