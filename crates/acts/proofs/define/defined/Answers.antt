use Rattle.std.proofs.Common.{◌+◌, set, refl, arith}
use Rattle.acts.proofs.Slotting.{tabled_defined, tables_of}
use Rattle.state.specs.Numbers.{numbers_on}
use Rattle.acts.proofs.define.defined.Goals as goal

pub returns : goal.returns
returns c =
    let pre = c.requires in
    let args = c.args in
    let f = pre.0.1 in let n = pre.1.1 in let k = pre.1.2 in (
      λ a. refl,
      tables_of _ _ (set args.names.now args.core.held args.number)
          (set args.kinds.now args.core.held args.kind) (set args.values.now args.core.held args.value)
          (set args.ways.now args.core.held args.core.wide) (args.core.held + 1)
          (tabled_defined args.slots.now args.known.now _ _
          (numbers_on args.names.now args.kinds.now args.values.now args.ways.now args.core.held) args.number
          args.kind args.value args.core.wide (omega arith) (omega arith) pre.0.0
          (pre.1.0 args.values.now args.ways.now) c.note.ensures.0 c.note.ensures.1),
    )
