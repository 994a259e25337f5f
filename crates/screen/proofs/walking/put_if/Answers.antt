use Rattle.screen.specs.Laws.Code.Walk.{came_none, came_if}
use Rattle.screen.proofs.walking.put_if.Goals as goal

pub returns-then-place-eq0 : goal.returns-then-place-eq0
returns-then-place-eq0 c =
    let a = c.args in let p = c.requires in
    came_none p.0 a.place a.cell c.if-place-eq0.true

pub put-requires : goal.put-requires
put-requires c = let p = c.requires in (p.0, c.if-place-eq0.false, p.1)

pub returns : goal.returns
returns c = let a = c.args in let p = c.requires in came_if p.0 a.place a.cell c.if-place-eq0.false c.put.ensures
