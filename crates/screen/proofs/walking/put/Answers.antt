use Rattle.std.proofs.Common.{refl, sym, ◌∙◌}
use Rattle.screen.specs.Laws.Code.Walk.{came_low, came_past, came_room, came_new, came_same, came_clash}
use Rattle.screen.proofs.walking.put.Goals as goal

pub returns-then-place-text : goal.returns-then-place-text
returns-then-place-text c = let a = c.args in let p = c.requires in rw c.spoilt.ensures (came_low p.0 a.place a.cell c.if-place-text.true)

pub returns-then-text-place : goal.returns-then-text-place
returns-then-text-place c = let a = c.args in let p = c.requires in rw c.spoilt-then-text-place.ensures
    (came_past p.0 a.place a.cell c.if-text-place.true)

pub kept-top-requires : goal.kept-top-requires
kept-top-requires c =
    let a = c.args in
    let p = c.requires in
    came_room p.0 a.place a.cell c.if-place-text.false c.if-text-place.false (c.if-old-blank.true ∙ c.blank.ensures) p.2

pub returns-then-old-blank : goal.returns-then-old-blank
returns-then-old-blank c =
    let a = c.args in
    let p = c.requires in
    came_new p.0 a.place a.cell c.if-place-text.false c.if-text-place.false (c.if-old-blank.true ∙ c.blank.ensures) p.2 p.1 _ _ _ _ refl
    c.max.ensures c.kept-top.ensures c.kept-top.auto.work

pub returns-then-old-cell : goal.returns-then-old-cell
returns-then-old-cell c =
    let a = c.args in
    let p = c.requires in
    came_same p.0 a.place a.cell c.if-place-text.false c.if-text-place.false (λ e. c.if-old-blank.false (e ∙ sym c.blank.ensures))
    c.if-old-cell.true

pub returns-else-old-cell : goal.returns-else-old-cell
returns-else-old-cell c =
    let a = c.args in
    let p = c.requires in
    rw c.spoilt-else-old-cell.ensures
    (came_clash p.0 a.place a.cell c.if-place-text.false c.if-text-place.false (λ e. c.if-old-blank.false (e ∙ sym c.blank.ensures))
    c.if-old-cell.false)
