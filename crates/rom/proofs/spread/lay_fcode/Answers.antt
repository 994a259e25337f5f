use Rattle.rom.proofs.Spreads.{lay_ready, lay_done}
use Rattle.rom.specs.declared.spread.Spread.TheVariants.{One, Two, Four}
use Rattle.rom.proofs.spread.lay_fcode.Goals as goal

pub lay_by-requires : goal.lay_by-requires
lay_by-requires c =
    let a = c.args in
    lay_ready a.spread One a.rom.now a.room.now _ _ c.in-One.is
    c.fcode_count.ensures
    c.min-count.ensures

pub lay_by-requires-in-Two : goal.lay_by-requires-in-Two
lay_by-requires-in-Two c =
    let a = c.args in
    lay_ready a.spread Two a.rom.now a.room.now _ _ c.in-Two.is
    c.fcode_count.ensures
    c.min-count.ensures

pub lay_by-requires-in-Four : goal.lay_by-requires-in-Four
lay_by-requires-in-Four c =
    let a = c.args in
    lay_ready a.spread Four a.rom.now a.room.now _ _ c.in-Four.is
    c.fcode_count.ensures
    c.min-count.ensures

pub returns-in-One : goal.returns-in-One
returns-in-One c =
    let a = c.args in
    lay_done a.spread One a.rom.now a.room.now _ _ c.in-One.is
    c.fcode_count.ensures
    c.min-count.ensures _ c.lay_by.ensures

pub returns-in-Two : goal.returns-in-Two
returns-in-Two c =
    let a = c.args in
    lay_done a.spread Two a.rom.now a.room.now _ _ c.in-Two.is
    c.fcode_count.ensures
    c.min-count.ensures _ c.lay_by-in-Two.ensures

pub returns-in-Four : goal.returns-in-Four
returns-in-Four c =
    let a = c.args in
    lay_done a.spread Four a.rom.now a.room.now _ _ c.in-Four.is
    c.fcode_count.ensures
    c.min-count.ensures _ c.lay_by-in-Four.ensures
