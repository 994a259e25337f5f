use Rattle.cells.specs.Choice.{pick}
use Rattle.tree.specs.Laws.InPlace.{bad_name_lem, large_value, inside, value_grows, changed}
use Rattle.tree.specs.Laws.Trees.{length_value}
use Rattle.tree.specs.Property.{value_of}
use Rattle.std.proofs.Common.{length-append, [], ◌∷◌, sym, ◌∙◌, arith, rules}
use Rattle.tree.proofs.in_place.put_in.Goals as goal

pub returns-then-bad_name : goal.returns-then-bad_name
returns-then-bad_name c =
    let a = c.args in
    let p = c.requires in
    let n = a.name.now in
    let v = value_of a.value.now a.null in
    rw c.refused_with.ensures (bad_name_lem a.node n v a.store.now a.owners.now a.name_sizes.now a.value_sizes.now
    a.held a.tail p (sym c.bad_name.ensures ∙ c.if-bad_name.true))

pub returns-then-value-gt-STORE_SIZE : goal.returns-then-value-gt-STORE_SIZE
returns-then-value-gt-STORE_SIZE c =
    let a = c.args in
    let p = c.requires in
    let n = a.name.now in
    let v = value_of a.value.now a.null in
    let b = sym c.bad_name.ensures ∙ c.if-bad_name.false in
    let l = c.if-value-gt-STORE_SIZE.true in
    let q = length-append a.value.now (pick a.null (0 ∷ []) []) in
    rw c.refused_with-then-value-gt-STORE_SIZE.ensures (large_value a.node n v a.store.now a.owners.now a.name_sizes.now
    a.value_sizes.now
    a.held a.tail p b (omega arith))

pub add_property-requires : goal.add_property-requires
add_property-requires c =
    (c.requires, sym c.bad_name.ensures ∙ c.if-bad_name.false, c.if-value-gt-STORE_SIZE.false, c.in_default.ensures)

pub offset_bounds-value_sizes-index : goal.offset_bounds-value_sizes-index
offset_bounds-value_sizes-index c =
    let u = c.requires in
    let x = c.args in
    let a = x in
    let p = u in
    let n = a.name.now in
    let v = value_of a.value.now a.null in
    let f = c.in-Some.found in
    let e = c.in-Some.ensures.1 in
    let h = c.in-Some.ensures.0 in
    let k = p.3 in
    search rules

pub bounds-value_sizes-index : goal.bounds-value_sizes-index
bounds-value_sizes-index c =
    let u = c.requires in
    let x = c.args in
    let a = x in
    let p = u in
    let n = a.name.now in
    let v = value_of a.value.now a.null in
    let f = c.in-Some.found in
    let e = c.in-Some.ensures.1 in
    let h = c.in-Some.ensures.0 in
    let k = p.3 in
    omega arith

pub overflow_sub-live : goal.overflow_sub-live
overflow_sub-live c =
    let u = c.requires in
    let x = c.args in
    let a = x in
    let p = u in
    let n = a.name.now in
    let v = value_of a.value.now a.null in
    let b = sym c.bad_name.ensures
    ∙ c.if-bad_name.false in
    let f = c.in-Some.found in
    let e = c.in-Some.ensures.1 in
    let h = c.in-Some.ensures.0 in
    let q = inside a.node n v a.store.now a.owners.now a.name_sizes.now a.value_sizes.now a.held
    a.tail p b f e h in
    let w = c.wide-old.ensures.0 in
    omega arith

pub returns-then-live-gt-STORE_SIZE : goal.returns-then-live-gt-STORE_SIZE
returns-then-live-gt-STORE_SIZE c =
    let u = c.requires in
    let x = c.args in
    let a = x in
    let p = u in
    let n = a.name.now in
    let v = value_of a.value.now a.null in
    let b = sym c.bad_name.ensures ∙ c.if-bad_name.false in
    let f = c.in-Some.found in
    let e = c.in-Some.ensures.1 in
    let h = c.in-Some.ensures.0 in
    let q = inside a.node n v a.store.now a.owners.now a.name_sizes.now a.value_sizes.now a.held
    a.tail p b f e h in
    let w = c.wide-old.ensures.0 in
    let z = length_value a.value.now a.null in
    let y = c.size_of-size.ensures.0 in
    let l = c.if-live-gt-STORE_SIZE.true in
    rw c.refused_with-then-live-gt-STORE_SIZE.ensures (value_grows a.node n v a.store.now a.owners.now a.name_sizes.now
    a.value_sizes.now
    a.held a.tail p b f e h (omega arith))

pub overflow_add-found : goal.overflow_add-found
overflow_add-found c =
    let u = c.requires in
    let x = c.args in
    let a = x in
    let p = u in
    let n = a.name.now in
    let v = value_of a.value.now a.null in
    let b = sym c.bad_name.ensures ∙ c.if-bad_name.false in
    let f = c.in-Some.found in
    let e = c.in-Some.ensures.1 in
    let h = c.in-Some.ensures.0 in
    let q = inside a.node n v a.store.now a.owners.now a.name_sizes.now a.value_sizes.now a.held
    a.tail p b f e h in
    let w = c.wide-old.ensures.0 in
    let k = p.0 in
    let m = p.5 in
    search rules

pub replace-requires : goal.replace-requires
replace-requires c =
    let u = c.requires in
    let x = c.args in
    let a = x in
    let p = u in
    let n = a.name.now in
    let v = value_of a.value.now a.null in
    let b = sym c.bad_name.ensures ∙ c.if-bad_name.false in
    let f = c.in-Some.found in
    let e = c.in-Some.ensures.1 in
    let h = c.in-Some.ensures.0 in
    let q = inside a.node n v a.store.now a.owners.now a.name_sizes.now a.value_sizes.now a.held
    a.tail p b f e h in
    let w = c.wide-old.ensures.0 in (
      p.0,
      p.5,
      omega arith,
      c.if-value-gt-STORE_SIZE.false,
    )

pub offset_bounds-value_sizes-index-2 : goal.offset_bounds-value_sizes-index-2
offset_bounds-value_sizes-index-2 c =
    let u = c.requires in
    let x = c.args in
    let a = x in
    let p = u in
    let n = a.name.now in
    let v = value_of a.value.now a.null in
    let f = c.in-Some.found in
    let e = c.in-Some.ensures.1 in
    let h = c.in-Some.ensures.0 in
    let k = p.3 in
    search rules

pub bounds-value_sizes-index-2 : goal.bounds-value_sizes-index-2
bounds-value_sizes-index-2 c =
    let u = c.requires in
    let x = c.args in
    let a = x in
    let p = u in
    let n = a.name.now in
    let v = value_of a.value.now a.null in
    let f = c.in-Some.found in
    let e = c.in-Some.ensures.1 in
    let h = c.in-Some.ensures.0 in
    let k = p.3 in
    omega arith

pub returns : goal.returns
returns c =
    let u = c.requires in
    let x = c.args in
    let a = x in
    let p = u in
    let n = a.name.now in
    let v = value_of a.value.now a.null in
    let b = sym c.bad_name.ensures ∙ c.if-bad_name.false in
    let f = c.in-Some.found in
    let e = c.in-Some.ensures.1 in
    let h = c.in-Some.ensures.0 in
    let q = inside a.node n v a.store.now a.owners.now a.name_sizes.now a.value_sizes.now a.held
    a.tail p b f e h in
    let w = c.wide-old.ensures.0 in
    let z = length_value a.value.now a.null in
    let y = c.size_of-size.ensures.0 in
    let l = c.if-live-gt-STORE_SIZE.false in
    rw (c.done_with.ensures, c.replace.ensures, y, ← z, w)
    (changed a.node n v a.store.now a.owners.now a.name_sizes.now a.value_sizes.now a.held a.tail p b f e h
    (omega arith))
