use Rattle.std.proofs.Common.{rules, ◌+◌, ◌*◌, sym, ◌∙◌}
use Rattle.tokens.proofs.Passes.{unlisted_passed, misplaced_passed, unknown_passed, known_passed, listed_passed}
use Rattle.tokens.proofs.Ranges.{bounds}
use Rattle.tokens.proofs.body.passed_double.Goals as goal

pub double_code-code-requires : goal.double_code-code-requires
double_code-code-requires c =
    let args = c.args in
    let pre = c.requires in
    let b = bounds 1 0xF args.first pre.1 in search rules

pub returns-then-code-eq0 : goal.returns-then-code-eq0
returns-then-code-eq0 c =
    let pre = c.requires in
    let a = c.args in λ wide. unlisted_passed a.rom.now wide a.kinds.now a.place a.first pre.0 pre.1
    (a.first * 256 + c.byte.result) (rw (← c.byte.ensures)) (sym c.double_code-code.ensures ∙ c.if-code-eq0.true)

pub returns-then-out_of_place : goal.returns-then-out_of_place
returns-then-out_of_place c =
    let pre = c.requires in
    let a = c.args in λ wide. misplaced_passed a.rom.now wide a.kinds.now a.place a.first pre.0 pre.1
    (a.first * 256 + c.byte.result) (rw (← c.byte.ensures))
    (rw (← c.double_code-code.ensures, ← c.out_of_place.ensures) c.if-out_of_place.true)

pub returns-then-number-lt-FIRST_PROGRAM : goal.returns-then-number-lt-FIRST_PROGRAM
returns-then-number-lt-FIRST_PROGRAM c =
    let pre = c.requires in
    let a = c.args in λ wide. listed_passed a.rom.now wide a.kinds.now a.place a.first pre.0 pre.1
    (a.first * 256 + c.byte.result) (rw (← c.byte.ensures)) c.if-number-lt-FIRST_PROGRAM.true
    (λ z. c.if-code-eq0.false (c.double_code-code.ensures ∙ z))
    (rw (← c.double_code-code.ensures, ← c.out_of_place.ensures) c.if-out_of_place.false)

pub returns-then-kind_of-eq0 : goal.returns-then-kind_of-eq0
returns-then-kind_of-eq0 c =
    let pre = c.requires in
    let a = c.args in λ wide. unknown_passed a.rom.now wide a.kinds.now a.place a.first pre.0 pre.1
    (a.first * 256 + c.byte.result) (rw (← c.byte.ensures)) c.if-number-lt-FIRST_PROGRAM.false (let b = bounds 1 0xF a.first pre.1 in
    search rules) (sym c.kind_of.ensures ∙ c.if-kind_of-eq0.true)

pub returns-else-kind_of-eq0 : goal.returns-else-kind_of-eq0
returns-else-kind_of-eq0 c =
    let pre = c.requires in
    let a = c.args in λ wide. known_passed a.rom.now wide a.kinds.now a.place a.first pre.0 pre.1
    (a.first * 256 + c.byte.result) (rw (← c.byte.ensures)) c.if-number-lt-FIRST_PROGRAM.false (let b = bounds 1 0xF a.first pre.1 in
    search rules) (λ z. c.if-kind_of-eq0.false (c.kind_of.ensures ∙ z))
