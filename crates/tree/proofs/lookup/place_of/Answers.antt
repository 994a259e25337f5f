use Rattle.std.proofs.Common.{sym, ap, arith}
use Rattle.tree.specs.Laws.Path.{place_none, place_there, place_end}
use Rattle.tree.specs.declared.property.Found.{Found}
use Rattle.tree.proofs.lookup.place_of.Goals as goal

pub returns-in_default : goal.returns-in_default
returns-in_default c =
    let a = c.args in
    let i = c.in_default.ensures a.tree in
    sym (place_none a.tree a.store.now a.node a.name.now (omega arith))

pub overflow_add-result : goal.overflow_add-result
overflow_add-result c =
    let a = c.args in
    let h = c.in-Some.ensures.0 in
    let e = c.in-Some.ensures.1 a.tree in
    let i = ap (λ (f : Found). f.index) e in
    let p = rw (← e) at (place_end a.tree a.store.now a.node a.name.now (omega arith)) in
    omega arith

pub returns : goal.returns
returns c =
    let a = c.args in
    let h = c.in-Some.ensures.0 in
    let e = c.in-Some.ensures.1 a.tree in
    let i = ap (λ (f : Found). f.index) e in
    rw (c.wide.ensures.0, c.wide-2.ensures.0, e) (sym (place_there a.tree a.store.now a.node a.name.now (omega arith)))
