use Rattle.std.proofs.Common.{ap, Err, ◌+◌, ◌≤◌, ◌≡◌, sym, ◌∙◌, length, rules}
use native.Mathlib.Nat.{add-sub_cancel_left}
use Rattle.memory.specs.Window.{part_of}
use Rattle.tree.specs.Path.{property_value_of}
use Rattle.tree.specs.Laws.Path.{property_holds}
use Rattle.tree.specs.Sought.{Value, sought_in}
use Rattle.tree.proofs.lookup.property_value.Goals as goal

pub overflow_add-result : goal.overflow_add-result
overflow_add-result c =
    let held : let a = c.args in (c.in-Ok.field-0.at + c.in-Ok.field-0.size ≤ length a.store.now)
    × (property_value_of a.tree a.store.now a.path.now a.name.now
    ≡ part_of a.store.now c.in-Ok.field-0.at c.in-Ok.field-0.size) = let a = c.args
    in property_holds a.tree a.store.now a.path.now a.name.now (Value c.in-Ok.field-0.at c.in-Ok.field-0.size)
    (sym c.find_property.ensures ∙ ap sought_in c.in-Ok.is) in
    let h = held.0 in search rules

pub slice_bounds-result-end : goal.slice_bounds-result-end
slice_bounds-result-end c =
    let held : let a = c.args in (c.in-Ok.field-0.at + c.in-Ok.field-0.size ≤ length a.store.now)
    × (property_value_of a.tree a.store.now a.path.now a.name.now
    ≡ part_of a.store.now c.in-Ok.field-0.at c.in-Ok.field-0.size) = let a = c.args
    in property_holds a.tree a.store.now a.path.now a.name.now (Value c.in-Ok.field-0.at c.in-Ok.field-0.size)
    (sym c.find_property.ensures ∙ ap sought_in c.in-Ok.is) in
    let h = held.0 in search rules

pub returns-in-Ok : goal.returns-in-Ok
returns-in-Ok c =
    let held : let a = c.args in (c.in-Ok.field-0.at + c.in-Ok.field-0.size ≤ length a.store.now)
    × (property_value_of a.tree a.store.now a.path.now a.name.now
    ≡ part_of a.store.now c.in-Ok.field-0.at c.in-Ok.field-0.size) = let a = c.args
    in property_holds a.tree a.store.now a.path.now a.name.now (Value c.in-Ok.field-0.at c.in-Ok.field-0.size)
    (sym c.find_property.ensures ∙ ap sought_in c.in-Ok.is) in
    rw (add-sub_cancel_left c.in-Ok.field-0.at c.in-Ok.field-0.size) (sym held.1)

pub returns-in-Err : goal.returns-in-Err
returns-in-Err c =
    let a = c.args in
    sym (property_holds a.tree a.store.now a.path.now a.name.now (sought_in (Err c.in-Err.field-0))
    (sym c.find_property.ensures ∙ ap sought_in c.in-Err.is))
