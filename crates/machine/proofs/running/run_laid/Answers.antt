use Rattle.std.proofs.Common.{sym, ◌∙◌, length-take-le}
use Rattle.rom.specs.Spread.{view_of}
use Rattle.machine.proofs.Laid.{front_length, laid_run}
use Rattle.machine.proofs.running.run_laid.Goals as goal

pub slice_bounds-lay_fcode-end-2 : goal.slice_bounds-lay_fcode-end-2
slice_bounds-lay_fcode-end-2 c =
    let a = c.args in
    sym (length-take-le a.count a.room.now c.requires.1.fits)

pub slice_bounds-run_fcode-end-2 : goal.slice_bounds-run_fcode-end-2
slice_bounds-run_fcode-end-2 c =
    let a = c.args in
    rw c.lay_fcode.ensures
    (sym (front_length a.count (view_of a.spread a.rom.now) a.room.now c.requires.1))

pub returns : goal.returns
returns c =
    let a = c.args in
    let p = c.requires in
    (rw c.lay_fcode.ensures at c.run_fcode.ensures)
    ∙ laid_run a.spread a.rom.now a.work.now a.store.now a.room.now a.st a.count p.0 p.1 a.budget
