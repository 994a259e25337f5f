use Rattle.std.proofs.Common.{sym, ◌∙◌, arith}
use Rattle.memory.specs.Window.{rom_base, work_base}
use Rattle.memory.specs.Laws.Memory.{lies_within, in_rom, in_work, in_none}
use Rattle.memory.proofs.window.window_of.Goals as goal

pub overflow_sub-result : goal.overflow_sub-result
overflow_sub-result c =
    let a = c.args in
    let w = lies_within rom_base a.rom a.address a.count (sym c.lies.ensures ∙ c.if-lies.true) in
    omega arith

pub returns-then-lies : goal.returns-then-lies
returns-then-lies c =
    let a = c.args in
    sym (in_rom a.rom a.work a.address a.count (sym c.lies.ensures ∙ c.if-lies.true))

pub overflow_sub-result-then-lies-2 : goal.overflow_sub-result-then-lies-2
overflow_sub-result-then-lies-2 c =
    let a = c.args in
    let w = lies_within work_base a.work a.address a.count (sym c.lies-2.ensures ∙ c.if-lies-2.true) in
    omega arith

pub returns-then-lies-2 : goal.returns-then-lies-2
returns-then-lies-2 c =
    let a = c.args in
    sym (in_work a.rom a.work a.address a.count (sym c.lies.ensures ∙ c.if-lies.false)
    (sym c.lies-2.ensures ∙ c.if-lies-2.true))

pub returns : goal.returns
returns c =
    let a = c.args in
    sym (in_none a.rom a.work a.address a.count (sym c.lies.ensures ∙ c.if-lies.false)
    (sym c.lies-2.ensures ∙ c.if-lies-2.false))
