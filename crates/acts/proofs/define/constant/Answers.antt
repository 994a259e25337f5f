use Rattle.std.proofs.Common.{ℕ, sym, refl, subst}
use Rattle.acts.proofs.Backs.{held_still}
use Rattle.acts.proofs.Defining.{value_low_told, value_told}
use Rattle.acts.specs.Joints.Acts.{Fresh, Definable}
use Rattle.state.specs.Numbers.{numbers_on}
use Rattle.state.specs.Joints.Apart.{joined, on_stack, on_numbers, taken_on}
use Rattle.acts.proofs.define.constant.Goals as goal

pub returns-then-core-lt1 : goal.returns-then-core-lt1
returns-then-core-lt1 c =
    let args = c.args in
    let pre = c.requires in
    rw c.stop.ensures (
      λ a. value_low_told
          (joined (on_numbers args.names.now args.kinds.now args.values.now args.ways.now
          (on_stack args.cells.now a))
          args.core) args.number args.next pre.0 pre.1 args.kind _ pre.3 c.if-core-lt1.true refl,
      pre.2.0,
    )

pub defined-requires : goal.defined-requires
defined-requires c =
    let args = c.args in
    let pre = c.requires in
    let e = held_still (on_stack args.cells.now) args.core c.pop-p.result c.if-core-lt1.false c.pop-p.ensures in
    subst (λ (h : ℕ). Fresh (numbers_on args.names.now args.kinds.now args.values.now args.ways.now h) args.number
    × Definable args.slots.now args.known.now
    (numbers_on args.names.now args.kinds.now args.values.now args.ways.now h)) (sym e) (pre.1, pre.2)

pub returns : goal.returns
returns c =
    let args = c.args in
    let pre = c.requires in
    rw c.go.ensures (
      λ a. value_told
          (joined (on_numbers args.names.now args.kinds.now args.values.now args.ways.now
          (on_stack args.cells.now a))
          args.core) args.number args.next pre.0 pre.1 c.if-core-lt1.false
          (taken_on (on_numbers args.names.now args.kinds.now args.values.now args.ways.now
          (on_stack args.cells.now a))
          c.pop-p.result)
          (c.pop-p.ensures (on_numbers args.names.now args.kinds.now args.values.now args.ways.now
          (on_stack args.cells.now a))) args.kind _ _ pre.3 (c.defined.ensures.0 (on_stack args.cells.now a)) refl,
      c.defined.ensures.1,
    )
