use Rattle.std.proofs.Common.{refl, sym, ◌∙◌, [], lit≤}
use Rattle.rom.specs.Spread.{view_of}
use Rattle.machine.proofs.Laid.{wrong_run, laying, laying_most}
use Rattle.machine.proofs.running.run_spread.Goals as goal

pub returns-then-wrong_rom : goal.returns-then-wrong_rom
returns-then-wrong_rom c =
    let a = c.args in
    c.run_fcode.ensures
    ∙ wrong_run (view_of a.spread a.rom.now) [] a.work.now a.store.now a.st
    (sym c.wrong_rom.ensures ∙ c.if-wrong_rom.true) refl a.budget

pub run_in-requires : goal.run_in-requires
run_in-requires c =
    let a = c.args in (
      laying a.spread a.rom.now a.st.length c.asked-count.result
          (sym c.wrong_rom.ensures ∙ c.if-wrong_rom.false)
          (rw (← c.fcode_count.ensures) c.asked-count.ensures),
      c.if-count-le-SMALL_ROOM.true,
      lit≤ tt,
    )

pub run_in-requires-then-count-le-MIDDLE_ROOM : goal.run_in-requires-then-count-le-MIDDLE_ROOM
run_in-requires-then-count-le-MIDDLE_ROOM c =
    let a = c.args in (
      laying a.spread a.rom.now a.st.length c.asked-count.result
          (sym c.wrong_rom.ensures ∙ c.if-wrong_rom.false)
          (rw (← c.fcode_count.ensures) c.asked-count.ensures),
      c.if-count-le-MIDDLE_ROOM.true,
      lit≤ tt,
    )

pub run_in-requires-2 : goal.run_in-requires-2
run_in-requires-2 c =
    let a = c.args in
    let w = sym c.wrong_rom.ensures ∙ c.if-wrong_rom.false in
    let e = (rw c.fcode_count.ensures at c.asked-count.ensures) in (
      laying a.spread a.rom.now a.st.length c.asked-count.result w e,
      laying_most a.spread a.rom.now a.st.length c.asked-count.result w e c.requires,
      lit≤ tt,
    )
