use Rattle.cells.specs.Laws.Tests.{find_none}
use Rattle.tokens.specs.Laws.GlanceForms.{of_literal, of_string, of_branch, of_number, of_head, of_named, of_other}
use Rattle.tokens.specs.Decode.{behinds, behind_of, operands, operand_of}
use Rattle.tokens.specs.declared.decoding.Operand.TheVariants.{Nothing}
use Rattle.std.proofs.Common.{◌∙◌}
use Rattle.tokens.proofs.glance.with_operand.Goals as goal

pub returns-in-1 : goal.returns-in-1
unfolding behind_of operand_of
returns-in-1 c =
    let pre = c.requires in
    let a = c.args in c.ended.ensures ∙ of_literal a.rom.now a.length a.wide a.code a.number a.start (pre)
    c.in-1.is

pub returns-in-2 : goal.returns-in-2
unfolding behind_of operand_of
returns-in-2 c =
    let pre = c.requires in
    let a = c.args in
    rw (
      ← of_string a.rom.now a.length a.wide a.code a.number a.start (pre) c.in-2.is,
      ← c.behind_string.ensures.0,
    ) c.ended-in-2.ensures

pub returns-in-3 : goal.returns-in-3
unfolding behind_of operand_of
returns-in-3 c =
    let pre = c.requires in
    let a = c.args in c.branched.ensures
    ∙ of_branch a.rom.now a.length a.wide a.code a.number a.start (pre) c.in-3.is

pub returns-in-4 : goal.returns-in-4
unfolding behind_of operand_of
returns-in-4 c =
    let pre = c.requires in
    let a = c.args in
    rw (
      ← of_number a.rom.now a.length a.wide a.code a.number a.start (pre) c.in-4.is,
      ← c.number_at.ensures,
      ← c.behind_number.ensures.0,
    ) c.ended-in-4.ensures

pub returns-in-5 : goal.returns-in-5
unfolding behind_of operand_of
returns-in-5 c =
    let pre = c.requires in
    let a = c.args in c.defined.ensures ∙ of_head a.rom.now a.length a.wide a.code a.number a.start (pre)
    c.in-5.is

pub returns-in-6 : goal.returns-in-6
unfolding behind_of operand_of
returns-in-6 c =
    let pre = c.requires in
    let a = c.args in
    rw (
      ← of_named a.rom.now a.length a.wide a.code a.number a.start (pre) c.in-6.is,
      ← c.behind_string-in-6.ensures.0,
    ) c.defined-in-6.ensures

pub returns-in_default : goal.returns-in_default
unfolding behind_of operand_of
returns-in_default c =
    let pre = c.requires in
    let a = c.args in
    c.ended-in_default.ensures ∙ of_other a.rom.now a.length a.wide a.code a.number a.start (pre)
    (find_none (Unit {0}) (behinds a.rom.now a.wide a.start) a.start _ c.in_default.in_default-own.rest)
    (find_none (Unit {0}) (operands a.rom.now a.length a.wide a.start) Nothing _ c.in_default.in_default-own.rest)
