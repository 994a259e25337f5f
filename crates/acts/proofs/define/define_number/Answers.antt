use Rattle.acts.proofs.Backs.{no_arrays}
use Rattle.acts.proofs.Defining.{held_told, most_told, fresh_told}
use Rattle.acts.proofs.Slotting.{held_there, held_some, held_none, not_held}
use Rattle.state.specs.Joints.Apart.{joined, on_stack, on_numbers}
use Rattle.state.specs.Numbers.{numbers_on, seek_of}
use Rattle.tokens.specs.declared.decoding.Operand.TheVariants.{Definition}
use Rattle.std.proofs.Common.{refl, sym, ◌∙◌}
use Rattle.acts.proofs.define.define_number.Goals as goal

pub returns-then-is_some : goal.returns-then-is_some
returns-then-is_some c =
    let args = c.args in
    let pre = c.requires in
    let p = held_some args.slots.now args.number _ c.held_at.ensures (sym c.is_some.ensures ∙ c.if-is_some.true) in
    let h = held_there args.slots.now (numbers_on args.names.now args.kinds.now args.values.now args.ways.now
    args.core.held) args.number (pre.2.0 args.values.now args.ways.now).0 p.0 p.1 in
    rw c.stop.ensures (
      λ a. held_told args.rom.now args.work.now
          (joined (on_numbers args.names.now args.kinds.now args.values.now args.ways.now
          (on_stack args.cells.now a))
          args.core) (Definition args.number args.kind) args.next args.number _ refl h.1 _ h.2 refl,
      pre.2.0,
    )

pub returns-then-core-ge-NUMBERS_MOST : goal.returns-then-core-ge-NUMBERS_MOST
returns-then-core-ge-NUMBERS_MOST c =
    let args = c.args in
    let pre = c.requires in
    rw c.stop-then-core-ge-NUMBERS_MOST.ensures (
      λ a. most_told args.rom.now args.work.now
          (joined (on_numbers args.names.now args.kinds.now args.values.now args.ways.now
          (on_stack args.cells.now a))
          args.core) (Definition args.number args.kind) args.next args.number
          (seek_of (numbers_on args.names.now args.kinds.now args.values.now args.ways.now args.core.held)
          args.number) refl refl _ (not_held args.slots.now
          (numbers_on args.names.now args.kinds.now args.values.now args.ways.now args.core.held) args.number
          (pre.2.0 args.values.now args.ways.now).0 (held_none args.slots.now args.number _ c.held_at.ensures
          (sym c.is_some.ensures ∙ c.if-is_some.false)) pre.6)
          c.if-core-ge-NUMBERS_MOST.true refl,
      pre.2.0,
    )

pub define_new-requires : goal.define_new-requires
define_new-requires c =
    let pre = c.requires in
    let args = c.args in
    let a = no_arrays in (
      pre.0,
      fresh_told
          (joined (on_numbers args.names.now args.kinds.now args.values.now args.ways.now
          (on_stack args.cells.now a))
          args.core) args.number
          (seek_of (numbers_on args.names.now args.kinds.now args.values.now args.ways.now args.core.held)
          args.number) refl (not_held args.slots.now
          (numbers_on args.names.now args.kinds.now args.values.now args.ways.now args.core.held) args.number
          (pre.2.0 args.values.now args.ways.now).0 (held_none args.slots.now args.number _ c.held_at.ensures
          (sym c.is_some.ensures ∙ c.if-is_some.false)) pre.6)
          c.if-core-ge-NUMBERS_MOST.false,
      pre.2,
      pre.3,
      pre.4,
      pre.5,
    )
