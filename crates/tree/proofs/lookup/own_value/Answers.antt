use Rattle.std.proofs.Common.{ap, ◌+◌, ◌≤◌, true, ◌≡◌, sym, ◌∙◌, arith, length, rules}
use native.Mathlib.Nat.{add-sub_cancel_left}
use borrow.Author.Tests.{not-true, not-false}
use Rattle.memory.specs.Window.{part_of}
use Rattle.tree.specs.Whole.{whole_tree}
use Rattle.tree.specs.Path.{own_value_of}
use Rattle.tree.specs.Laws.Trees.{whole_facts}
use Rattle.tree.specs.Sought.{sought_in}
use Rattle.tree.specs.Laws.Path.{own_size, own_damaged, own_there, own_missing}
use Rattle.tree.proofs.lookup.own_value.Goals as goal

pub returns-then-store-ne-STORE_SIZE : goal.returns-then-store-ne-STORE_SIZE
returns-then-store-ne-STORE_SIZE c =
    let a = c.args in
    sym (own_size a.tree a.store.now a.node a.name.now c.if-store-ne-STORE_SIZE.true)

pub returns-then-not-is_whole : goal.returns-then-not-is_whole
returns-then-not-is_whole c =
    let a = c.args in
    sym (own_damaged a.tree a.store.now a.node a.name.now c.if-store-ne-STORE_SIZE.false
    (sym c.is_whole.ensures ∙ not-true _ c.if-not-is_whole.true-raw))

pub place_of-requires : goal.place_of-requires
place_of-requires c =
    let whole : whole_tree c.args.tree ≡ true = sym c.is_whole.ensures ∙ not-false _ c.if-not-is_whole.false-raw in
    let args = c.args in
    let n = whole_facts args.tree whole in
    let l = n.live_most in
    let e = c.if-store-ne-STORE_SIZE.false in
    (n.held_most, omega arith)

pub overflow_add-result : goal.overflow_add-result
overflow_add-result c =
    let whole : whole_tree c.args.tree ≡ true = sym c.is_whole.ensures ∙ not-false _ c.if-not-is_whole.false-raw in
    let held : let a = c.args in (c.in-Ok.field-0.at + c.in-Ok.field-0.size ≤ length a.store.now)
    × (own_value_of a.tree a.store.now a.node a.name.now ≡ part_of a.store.now c.in-Ok.field-0.at c.in-Ok.field-0.size) = let a = c.args in
    own_there a.tree a.store.now a.node a.name.now c.if-store-ne-STORE_SIZE.false (whole) c.in-Ok.field-0.at c.in-Ok.field-0.size
    (sym c.place_of.ensures ∙ ap sought_in c.in-Ok.is) in
    let h = held.0 in search rules

pub slice_bounds-result-end-in-Ok : goal.slice_bounds-result-end-in-Ok
slice_bounds-result-end-in-Ok c =
    let whole : whole_tree c.args.tree ≡ true = sym c.is_whole.ensures ∙ not-false _ c.if-not-is_whole.false-raw in
    let held : let a = c.args in (c.in-Ok.field-0.at + c.in-Ok.field-0.size ≤ length a.store.now)
    × (own_value_of a.tree a.store.now a.node a.name.now ≡ part_of a.store.now c.in-Ok.field-0.at c.in-Ok.field-0.size) = let a = c.args in
    own_there a.tree a.store.now a.node a.name.now c.if-store-ne-STORE_SIZE.false (whole) c.in-Ok.field-0.at c.in-Ok.field-0.size
    (sym c.place_of.ensures ∙ ap sought_in c.in-Ok.is) in
    let h = held.0 in search rules

pub returns-in-Ok : goal.returns-in-Ok
returns-in-Ok c =
    let whole : whole_tree c.args.tree ≡ true = sym c.is_whole.ensures ∙ not-false _ c.if-not-is_whole.false-raw in
    let held : let a = c.args in (c.in-Ok.field-0.at + c.in-Ok.field-0.size ≤ length a.store.now)
    × (own_value_of a.tree a.store.now a.node a.name.now ≡ part_of a.store.now c.in-Ok.field-0.at c.in-Ok.field-0.size) = let a = c.args in
    own_there a.tree a.store.now a.node a.name.now c.if-store-ne-STORE_SIZE.false (whole) c.in-Ok.field-0.at c.in-Ok.field-0.size
    (sym c.place_of.ensures ∙ ap sought_in c.in-Ok.is) in
    rw (add-sub_cancel_left c.in-Ok.field-0.at c.in-Ok.field-0.size) (sym held.1)

pub returns-in-Err : goal.returns-in-Err
returns-in-Err c =
    let whole : whole_tree c.args.tree ≡ true = sym c.is_whole.ensures ∙ not-false _ c.if-not-is_whole.false-raw in
    let a = c.args in
    sym (own_missing a.tree a.store.now a.node a.name.now c.if-store-ne-STORE_SIZE.false whole _
    (sym c.place_of.ensures ∙ ap sought_in c.in-Err.is))
