use Rattle.acts.proofs.Backs.{back}
use Rattle.acts.proofs.Defining.{enter_body, enter_high, enter_value}
use Rattle.acts.proofs.Slotting.{held_there, enter_unheld}
use Rattle.acts.specs.Joints.Acts.{on_program}
use Rattle.state.specs.Joints.Apart.{joined}
use Rattle.acts.proofs.numbers.enter.Goals as goal

pub returns-in_default : goal.returns-in_default
returns-in_default c =
    let args = c.args in
    let pre = c.requires in
    λ a. enter_unheld args.slots.now (joined
    (on_program args.cells.now args.places.now args.wides.now args.bases.now args.names.now args.kinds.now
    args.values.now args.ways.now a) args.core) args.number pre.2 c.in_default.ensures args.next _ (back
    (on_program args.cells.now args.places.now args.wides.now args.bases.now args.names.now args.kinds.now
    args.values.now args.ways.now a) _ _ _ c.stop.ensures)

pub returns-then-kind_byte : goal.returns-then-kind_byte
returns-then-kind_byte c =
    let args = c.args in
    let pre = c.requires in
    λ a. let h = held_there args.slots.now
    (joined (on_program args.cells.now args.places.now args.wides.now args.bases.now args.names.now
    args.kinds.now args.values.now args.ways.now a) args.core).numbers args.number pre.2 _ c.in-Some.ensures in
    enter_body
    (joined (on_program args.cells.now args.places.now args.wides.now args.bases.now args.names.now
    args.kinds.now args.values.now args.ways.now a) args.core) args.number args.next _ h.1 h.0 h.2
    c.kind_byte.result c.entry-value.result c.kind_byte.ensures c.entry-value.ensures pre.0 c.wide_at-wide.result _ c.if-kind_byte.true
    c.wide_at-wide.ensures
    (c.call.ensures (on_program args.cells.now args.places.now args.wides.now args.bases.now args.names.now
    args.kinds.now args.values.now args.ways.now a))

pub returns-then-core-gt-DATA_MOST : goal.returns-then-core-gt-DATA_MOST
returns-then-core-gt-DATA_MOST c =
    let args = c.args in
    let pre = c.requires in
    λ a. let h = held_there args.slots.now
    (joined (on_program args.cells.now args.places.now args.wides.now args.bases.now args.names.now
    args.kinds.now args.values.now args.ways.now a) args.core).numbers args.number pre.2 _ c.in-Some.ensures in
    enter_high
    (joined (on_program args.cells.now args.places.now args.wides.now args.bases.now args.names.now
    args.kinds.now args.values.now args.ways.now a) args.core) args.number args.next _ h.1 h.0 h.2
    c.kind_byte.result c.entry-value.result c.kind_byte.ensures c.entry-value.ensures pre.0 c.if-kind_byte.false _
    c.if-core-gt-DATA_MOST.true
    (back (on_program args.cells.now args.places.now args.wides.now args.bases.now args.names.now
    args.kinds.now args.values.now args.ways.now a) _ _ _ c.stop-then-core-gt-DATA_MOST.ensures)

pub returns : goal.returns
returns c =
    let args = c.args in
    let pre = c.requires in
    λ a. let h = held_there args.slots.now
    (joined (on_program args.cells.now args.places.now args.wides.now args.bases.now args.names.now
    args.kinds.now args.values.now args.ways.now a) args.core).numbers args.number pre.2 _ c.in-Some.ensures in
    enter_value
    (joined (on_program args.cells.now args.places.now args.wides.now args.bases.now args.names.now
    args.kinds.now args.values.now args.ways.now a) args.core) args.number args.next _ h.1 h.0 h.2
    c.kind_byte.result c.entry-value.result c.kind_byte.ensures c.entry-value.ensures pre.0 c.if-kind_byte.false _
    c.if-core-gt-DATA_MOST.false
    (c.push.ensures (on_program args.cells.now args.places.now args.wides.now args.bases.now args.names.now
    args.kinds.now args.values.now args.ways.now a))
