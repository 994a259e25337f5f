use Rattle.tokens.specs.Laws.GlanceForms.{of_two, not_listed, of_none}
use Rattle.tokens.proofs.Ranges.{bounds}
use Rattle.tokens.specs.Laws.Glance.{double_plain}
use Rattle.std.proofs.Common.{◌∙◌, arith, rules}
use Rattle.tokens.proofs.glance.doubled.Goals as goal

pub overflow_mul-number : goal.overflow_mul-number
overflow_mul-number c = let b = bounds 1 0xF c.args.first c.requires.1 in omega arith

pub overflow_add-number : goal.overflow_add-number
overflow_add-number c =
    let args = c.args in
    let pre = c.requires in
    let b = bounds 1 0xF args.first pre.1 in search rules

pub double_code-code-requires : goal.double_code-code-requires
double_code-code-requires c =
    let args = c.args in
    let pre = c.requires in
    let b = bounds 1 0xF args.first pre.1 in search rules

pub returns-then-code-eq0 : goal.returns-then-code-eq0
returns-then-code-eq0 c =
    let pre = c.requires in
    let a = c.args in λ wide. c.nothing.ensures ∙ not_listed a.rom.now a.length wide _ _ _ c.if-code-eq0.true
    ∙ of_two a.rom.now a.length wide a.place a.first _ _ pre.0 pre.1 (rw (← c.byte.ensures)) c.double_code-code.ensures

pub returns : goal.returns
returns c =
    let pre = c.requires in
    let a = c.args in
    let b = bounds 1 0xF a.first pre.1 in
    λ wide. c.ended.ensures ∙ of_none a.rom.now a.length wide _ _ _ c.if-code-eq0.false
    (rw c.double_code-code.ensures (double_plain _ (omega arith)))
    ∙ of_two a.rom.now a.length wide a.place a.first _ _ pre.0 pre.1 (rw (← c.byte.ensures)) c.double_code-code.ensures
