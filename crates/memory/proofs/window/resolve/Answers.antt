use Rattle.std.proofs.Common.{ℕ, min, ◌+◌, ◌-◌, ◌≤◌, ◌≡◌, sym, ◌∙◌, arith, length, rules}
use Rattle.memory.specs.Window.{range_of}
use Rattle.memory.specs.Laws.Memory.{range_rom, range_work, resolved_rom, resolved_work, resolved_none}
use Rattle.memory.proofs.window.resolve.Goals as goal

-- its bytes, which the code counts from where they start
taken : (k n : ℕ) → k + n - k ≡ n
taken k n = omega arith

pub slice_bounds-result-end : goal.slice_bounds-result-end
slice_bounds-result-end c =
    let a = c.args in
    let n : c.min.result ≡ min a.size (length a.rom.now) = search rules in
    let found : c.window_of.result ≡ range_of a.rom.now a.work.now a.size a.address a.count = rw (← n) c.window_of.ensures in
    let h : c.in-Rom.start + a.count ≤ length a.rom.now =
    range_rom a.rom.now a.work.now a.size a.address a.count c.in-Rom.start (sym found ∙ c.in-Rom.is) in
    search rules

pub slice_bounds-result-end-in-Work : goal.slice_bounds-result-end-in-Work
slice_bounds-result-end-in-Work c =
    let a = c.args in
    let n : c.min.result ≡ min a.size (length a.rom.now) = search rules in
    let found : c.window_of.result ≡ range_of a.rom.now a.work.now a.size a.address a.count = rw (← n) c.window_of.ensures in
    let h : c.in-Work.start + a.count ≤ length a.work.now =
    range_work a.rom.now a.work.now a.size a.address a.count c.in-Work.start (sym found ∙ c.in-Work.is) in
    search rules

pub returns-in-Rom : goal.returns-in-Rom
returns-in-Rom c =
    let a = c.args in
    let n : c.min.result ≡ min a.size (length a.rom.now) = search rules in
    let found : c.window_of.result ≡ range_of a.rom.now a.work.now a.size a.address a.count = rw (← n) c.window_of.ensures in
    rw (taken c.in-Rom.start a.count)
    (sym (resolved_rom a.rom.now a.work.now a.size a.address a.count c.in-Rom.start (sym found ∙ c.in-Rom.is)))

pub returns-in-Work : goal.returns-in-Work
returns-in-Work c =
    let a = c.args in
    let n : c.min.result ≡ min a.size (length a.rom.now) = search rules in
    let found : c.window_of.result ≡ range_of a.rom.now a.work.now a.size a.address a.count = rw (← n) c.window_of.ensures in
    rw (taken c.in-Work.start a.count)
    (sym (resolved_work a.rom.now a.work.now a.size a.address a.count c.in-Work.start (sym found ∙ c.in-Work.is)))

pub returns-in-Nowhere : goal.returns-in-Nowhere
returns-in-Nowhere c =
    let a = c.args in
    let n : c.min.result ≡ min a.size (length a.rom.now) = search rules in
    let found : c.window_of.result ≡ range_of a.rom.now a.work.now a.size a.address a.count = rw (← n) c.window_of.ensures in
    sym (resolved_none a.rom.now a.work.now a.size a.address a.count
    (sym found ∙ c.in-Nowhere.is))
