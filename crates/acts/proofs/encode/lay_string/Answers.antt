use Rattle.std.proofs.Common.{◌+◌, ◌≤◌, length, refl, rules}
use Rattle.acts.proofs.Encoding.{in_rom, laid_rom, laid_work, laid_none}
use Rattle.acts.proofs.encode.lay_string.Goals as goal

pub slice_bounds-copy_in-end : goal.slice_bounds-copy_in-end
slice_bounds-copy_in-end c =
    let a : c.in-Rom.start + c.args.count ≤ length c.args.rom.now = in_rom c.args.rom.now
    c.args.work.now c.args.rom.now c.args.size c.args.address c.args.count c.args.at c.requires
    c.window_of.result c.window_of.ensures _ c.in-Rom.is in
    search rules

pub returns-in-Rom : goal.returns-in-Rom
returns-in-Rom c =
    laid_rom _ _ _ c.args.size c.args.address c.args.count c.args.at c.requires c.window_of.result
    c.window_of.ensures _
    c.in-Rom.is c.copy_in.ensures

pub returns-in-Work : goal.returns-in-Work
returns-in-Work c =
    laid_work _ _ _ c.args.size c.args.address c.args.count c.args.at c.requires c.window_of.result
    c.window_of.ensures _
    c.in-Work.is c.copy_within.ensures

pub returns-in-Nowhere : goal.returns-in-Nowhere
returns-in-Nowhere c =
    laid_none _ _ _ c.args.size c.args.address c.args.count c.args.at c.requires c.window_of.result
    c.window_of.ensures c.in-Nowhere.is refl
