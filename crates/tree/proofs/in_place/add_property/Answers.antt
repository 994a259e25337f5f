use Rattle.tree.specs.Laws.InPlace.{all_held, store_full_lem, added}
use Rattle.tree.specs.Laws.Trees.{length_value}
use Rattle.tree.specs.Property.{value_of}
use Rattle.tree.specs.Laws.Puts.{name_facts}
use Rattle.std.proofs.Common.{arith}
use Rattle.tree.proofs.in_place.add_property.Goals as goal

pub returns-then-held-ge-PROPERTIES_MOST : goal.returns-then-held-ge-PROPERTIES_MOST
returns-then-held-ge-PROPERTIES_MOST c =
    let a = c.args in
    let p = c.requires in
    let n = a.name.now in
    let v = value_of a.value.now a.null in
    rw c.refused_with.ensures (all_held a.node n v a.store.now a.owners.now a.name_sizes.now a.value_sizes.now
    a.held a.tail p.0 p.1 p.3 c.if-held-ge-PROPERTIES_MOST.true)

pub returns-then-live-gt-STORE_SIZE : goal.returns-then-live-gt-STORE_SIZE
returns-then-live-gt-STORE_SIZE c =
    let a = c.args in
    let p = c.requires in let n = a.name.now in
    let v = value_of a.value.now a.null in let z = length_value a.value.now a.null in
    let y = c.size_of-size.ensures.0 in
    let l = c.if-live-gt-STORE_SIZE.true in
    rw c.refused_with-then-live-gt-STORE_SIZE.ensures (store_full_lem a.node n v a.store.now a.owners.now a.name_sizes.now
    a.value_sizes.now a.held a.tail p.0 p.1 p.3 (omega arith))

pub append-requires : goal.append-requires
append-requires c =
    let args = c.args in
    let p = c.requires in (
      p.0.0,
      p.0.5,
      (name_facts args.name.now p.1).1,
      p.2,
    )

pub returns : goal.returns
returns c =
    let a = c.args in
    let p = c.requires in
    let n = a.name.now in let v = value_of a.value.now a.null in let z = length_value a.value.now a.null in
    let y = c.size_of-size.ensures.0 in
    let l = c.if-live-gt-STORE_SIZE.false in
    rw (c.done_with.ensures, c.append.ensures, y, ← z)
    (added a.node n v a.store.now a.owners.now a.name_sizes.now a.value_sizes.now a.held a.tail p.0 p.1
    p.3 c.if-held-ge-PROPERTIES_MOST.false (omega arith))
