use Rattle.std.proofs.Common.{refl, ◌∙◌}
use Rattle.tokens.proofs.Passes.{value_passed, other_passed}
use Rattle.tokens.proofs.body.passed_to.Goals as goal

pub returns-then-kind_of : goal.returns-then-kind_of
returns-then-kind_of c =
    let pre = c.requires in
    let a = c.args in λ wide. c.behind_number.ensures.0
    ∙ value_passed a.rom.now wide a.kinds.now a.place _ refl (pre)
    (rw (← c.number_at-number.ensures, ← c.kind_of.ensures) c.if-kind_of.true)

pub returns-else-kind_of : goal.returns-else-kind_of
returns-else-kind_of c =
    let pre = c.requires in
    let a = c.args in λ wide. other_passed a.rom.now wide a.kinds.now a.place _ refl (pre)
    (rw (← c.number_at-number.ensures, ← c.kind_of.ensures) c.if-kind_of.false)
