use Rattle.std.proofs.Common.{ap, ◌+◌, ◌≤◌, ◌≡◌, sym, ◌∙◌, rules}
use mathlib.Core.Option.{some}
use native.Mathlib.Nat.{add-sub_cancel_left}
use Rattle.memory.specs.Window.{part_of}
use Rattle.rom.specs.Words.{letters_of}
use Rattle.tree.specs.Held.{held_of, live_of}
use Rattle.tree.specs.Path.{value_in}
use Rattle.tree.specs.Sought.{sought_in}
use Rattle.tree.specs.Laws.Path.{place_value, place_empty}
use Rattle.tree.proofs.lookup.is_called.Goals as goal

pub place_of-requires : goal.place_of-requires
unfolding letters_of
place_of-requires c = search rules

pub way_copy_out-at : goal.way_copy_out-at
unfolding letters_of
way_copy_out-at c = search rules

pub overflow_add-at : goal.overflow_add-at
unfolding letters_of
overflow_add-at c =
    let named : let a = c.args in (c.in-Ok.field-0.at + c.in-Ok.field-0.size ≤ live_of a.tree)
    × (value_in (held_of a.tree a.store.now) a.node (letters_of "name")
    ≡ some (part_of a.store.now c.in-Ok.field-0.at c.in-Ok.field-0.size)) =
    let a = c.args in place_value a.tree a.store.now a.node (letters_of "name") c.in-Ok.field-0.at c.in-Ok.field-0.size
    (sym c.place_of.ensures ∙ ap sought_in c.in-Ok.is) in
    let h = named.0 in search rules

pub slice_bounds-less_null-count : goal.slice_bounds-less_null-count
unfolding letters_of
slice_bounds-less_null-count c = search rules

pub slice_bounds-less_null-start : goal.slice_bounds-less_null-start
unfolding letters_of
slice_bounds-less_null-start c = search rules

pub slice_bounds-less_null-end : goal.slice_bounds-less_null-end
unfolding letters_of
slice_bounds-less_null-end c =
    let named : let a = c.args in (c.in-Ok.field-0.at + c.in-Ok.field-0.size ≤ live_of a.tree)
    × (value_in (held_of a.tree a.store.now) a.node (letters_of "name")
    ≡ some (part_of a.store.now c.in-Ok.field-0.at c.in-Ok.field-0.size)) =
    let a = c.args in place_value a.tree a.store.now a.node (letters_of "name") c.in-Ok.field-0.at c.in-Ok.field-0.size
    (sym c.place_of.ensures ∙ ap sought_in c.in-Ok.is) in
    let h = named.0 in search rules

pub less_null-requires : goal.less_null-requires
unfolding letters_of
less_null-requires c = search rules

pub same_bytes-requires : goal.same_bytes-requires
unfolding letters_of
same_bytes-requires c = search rules

pub way_copy_out-size : goal.way_copy_out-size
unfolding letters_of
way_copy_out-size c = search rules

pub returns-in-Ok : goal.returns-in-Ok
unfolding letters_of
returns-in-Ok c =
    let named : let a = c.args in (c.in-Ok.field-0.at + c.in-Ok.field-0.size ≤ live_of a.tree)
    × (value_in (held_of a.tree a.store.now) a.node (letters_of "name")
    ≡ some (part_of a.store.now c.in-Ok.field-0.at c.in-Ok.field-0.size)) =
    let a = c.args in place_value a.tree a.store.now a.node (letters_of "name") c.in-Ok.field-0.at c.in-Ok.field-0.size
    (sym c.place_of.ensures ∙ ap sought_in c.in-Ok.is) in
    let e = rw (add-sub_cancel_left c.in-Ok.field-0.at c.in-Ok.field-0.size) at c.less_null.ensures in
    rw named.1 (rw e at c.same_bytes.ensures)

pub returns-in-Err : goal.returns-in-Err
unfolding letters_of
returns-in-Err c =
    let a = c.args in
    rw (place_empty a.tree a.store.now a.node (letters_of "name") _ (sym c.place_of.ensures ∙ ap sought_in c.in-Err.is))
