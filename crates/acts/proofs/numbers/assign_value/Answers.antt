use Rattle.std.proofs.Common.{[], set, refl, arith, rules}
use Rattle.acts.proofs.Backs.{back}
use Rattle.acts.proofs.Defining.{assign_other, assign_low_told, assign_told}
use Rattle.acts.proofs.Slotting.{held_there, assign_unheld}
use Rattle.state.specs.Numbers.{numbers_on}
use Rattle.state.specs.Joints.Apart.{on_stack, on_numbers, joined, taken_on}
use Rattle.tokens.specs.declared.decoding.Operand.TheVariants.{Number}
use Rattle.acts.proofs.numbers.assign_value.Goals as goal

pub returns-in_default : goal.returns-in_default
returns-in_default c =
    let args = c.args in
    let pre = c.requires in
    λ ways a. assign_unheld args.slots.now
    (joined (on_numbers args.names.now args.kinds.now args.values.now ways (on_stack args.cells.now a)) args.core)
    args.number pre.2 c.in_default.ensures args.next _
    (back (on_numbers args.names.now args.kinds.now args.values.now ways (on_stack args.cells.now a)) _ _ _
    c.stop.ensures) (Number args.number) refl

pub returns-then-kind_byte : goal.returns-then-kind_byte
returns-then-kind_byte c =
    let args = c.args in
    let pre = c.requires in
    λ ways a. let h = held_there args.slots.now
    (numbers_on args.names.now args.kinds.now args.values.now ways args.core.held) args.number pre.2
    _ c.in-Some.ensures in
    assign_other (joined (on_numbers args.names.now args.kinds.now args.values.now ways (on_stack args.cells.now a))
    args.core) (Number args.number) args.next args.number _ refl h.1 h.0 h.2 c.kind_byte.result
    c.kind_byte.ensures _ c.if-kind_byte.true
    (back (on_numbers args.names.now args.kinds.now args.values.now ways (on_stack args.cells.now a)) _ _ _
    c.stop-then-kind_byte.ensures)

pub returns-then-core-lt1 : goal.returns-then-core-lt1
returns-then-core-lt1 c =
    let args = c.args in
    let pre = c.requires in
    λ ways a. let h = held_there args.slots.now
    (numbers_on args.names.now args.kinds.now args.values.now ways args.core.held) args.number pre.2
    _ c.in-Some.ensures in
    assign_low_told
    (joined (on_numbers args.names.now args.kinds.now args.values.now ways (on_stack args.cells.now a)) args.core)
    (Number args.number) args.next args.number _ refl h.1 h.0 h.2 c.kind_byte.result c.kind_byte.ensures
    c.if-kind_byte.false _ c.if-core-lt1.true (back
    (on_numbers args.names.now args.kinds.now args.values.now ways (on_stack args.cells.now a)) _ _ _
    c.stop-then-core-lt1.ensures)

pub offset_bounds-values-at : goal.offset_bounds-values-at
offset_bounds-values-at c =
    let args = c.args in
    let pre = c.requires in
    let ways = [] in
    let h = held_there args.slots.now (numbers_on args.names.now args.kinds.now args.values.now ways args.core.held)
    args.number pre.2 _ c.in-Some.ensures in let b = pre.1 in let l = h.2 in search rules

pub bounds-values-at : goal.bounds-values-at
bounds-values-at c =
    let args = c.args in
    let pre = c.requires in
    let ways = [] in
    let h = held_there args.slots.now (numbers_on args.names.now args.kinds.now args.values.now ways args.core.held)
    args.number pre.2 _ c.in-Some.ensures in let b = pre.1 in let l = h.2 in omega arith

pub returns : goal.returns
returns c =
    let args = c.args in
    let pre = c.requires in
    λ ways a. let h = held_there args.slots.now
    (numbers_on args.names.now args.kinds.now args.values.now ways args.core.held) args.number pre.2
    _ c.in-Some.ensures in
    assign_told (joined (on_numbers args.names.now args.kinds.now args.values.now ways (on_stack args.cells.now a))
    args.core) (Number args.number) args.next args.number _ refl h.1 h.0 h.2 c.kind_byte.result
    c.kind_byte.ensures c.if-kind_byte.false (taken_on
    (on_numbers args.names.now args.kinds.now args.values.now ways (on_stack args.cells.now a)) c.pop-p.result) _ _
    c.if-core-lt1.false pre.0
    (c.pop-p.ensures (on_numbers args.names.now args.kinds.now args.values.now ways (on_stack args.cells.now a))) refl
    (back (on_numbers args.names.now args.kinds.now (set args.values.now c.in-Some.at c.pop-p.result.cell) ways
    (on_stack args.cells.now a)) _ _ _ c.go.ensures)
