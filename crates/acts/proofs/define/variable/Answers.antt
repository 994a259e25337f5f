use Rattle.acts.proofs.Defining.{variable_full_told, variable_told}
use Rattle.state.specs.Joints.Apart.{joined, on_numbers}
use Rattle.std.proofs.Common.{refl}
use Rattle.acts.proofs.define.variable.Goals as goal

pub returns-then-at-gt-WORK_SIZE : goal.returns-then-at-gt-WORK_SIZE
returns-then-at-gt-WORK_SIZE c =
    let args = c.args in
    let pre = c.requires in
    rw c.stop.ensures (
      λ a. variable_full_told
          (joined (on_numbers args.names.now args.kinds.now args.values.now args.ways.now a) args.core) args.number
          args.next c.rounded-at.result pre.0 pre.1 c.rounded-at.ensures.0 _ _ c.if-at-gt-WORK_SIZE.true refl,
      pre.2.0,
    )

pub returns : goal.returns
returns c =
    let args = c.args in
    let pre = c.requires in
    rw c.go.ensures (
      λ a. variable_told (joined (on_numbers args.names.now args.kinds.now args.values.now args.ways.now a)
          args.core) args.number args.next c.rounded-at.result pre.0 pre.1 c.rounded-at.ensures.0 _ _ _ _ c.if-at-gt-WORK_SIZE.false
          c.write_cell.ensures (c.defined-k.ensures.0 a) refl,
      c.defined-k.ensures.1,
    )
