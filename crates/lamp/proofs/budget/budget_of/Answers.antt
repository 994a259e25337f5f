-- Each digit is read as the definition reads it, and each word that is no budget is told by the byte that makes it one.
use Rattle.std.proofs.Common.{arith, ◌∙◌, ◌≡◌, ◌<◌, ◌+◌, ◌*◌, ◌-◌, None, get_or}
use Rattle.std.proofs.lemmas.Grind.{common_steps}
use Rattle.lamp.specs.Budget.{most}
use Rattle.lamp.specs.Laws.Budget.{digit_low, digit_high, too_many, digit_more, digits_end}
use Rattle.lamp.proofs.budget.budget_of.Goals as goal
use Rattle.lamp.proofs.budget.budget_of.Goals.{then-b-lt48-via-then-b-lt48, then-b-lt48-via-else-b-lt48+then-b-gt-NINE}

pub returns-then-b-lt48 : goal.returns-then-b-lt48
returns-then-b-lt48 c =
    elim c.then-b-lt48.branch [
      | then-b-lt48-via-then-b-lt48 w ↦
          digit_low c.args.word.now c.loop-b.b-index c.loop-b.sum c.loop-b-test.true w.if-b-lt48.true ∙ c.loop-b.invariant
      | then-b-lt48-via-else-b-lt48+then-b-gt-NINE w ↦
          digit_high c.args.word.now c.loop-b.b-index c.loop-b.sum c.loop-b-test.true w.if-b-lt48.false w.if-b-gt-NINE.true
          ∙ c.loop-b.invariant
    ]

pub returns-in_err-checked_mul : goal.returns-in_err-checked_mul
returns-in_err-checked_mul c =
    let big : most < c.loop-b.sum * 10 + (get_or c.args.word.now c.loop-b.b-index 0 - 0x30) = grind (arith, common_steps) in
    let none : c.from_residual.result ≡ None = grind (arith, common_steps) in
    none
    ∙ too_many c.args.word.now c.loop-b.b-index c.loop-b.sum c.loop-b-test.true c.if-b-lt48.false c.if-b-gt-NINE.false big
    ∙ c.loop-b.invariant

pub returns-in_err-sum : goal.returns-in_err-sum
returns-in_err-sum c =
    let big : most < c.loop-b.sum * 10 + (get_or c.args.word.now c.loop-b.b-index 0 - 0x30) = grind (arith, common_steps) in
    let none : c.from_residual-in_err-sum.result ≡ None = grind (arith, common_steps) in
    none
    ∙ too_many c.args.word.now c.loop-b.b-index c.loop-b.sum c.loop-b-test.true c.if-b-lt48.false c.if-b-gt-NINE.false big
    ∙ c.loop-b.invariant

pub loop-b-preserved : goal.loop-b-preserved
loop-b-preserved c =
    let is : c.in_ok-sum.sum ≡ c.loop-b.sum * 10 + (get_or c.args.word.now c.loop-b.b-index 0 - 0x30) = grind (arith, common_steps) in
    rw is (
    digit_more c.args.word.now c.loop-b.b-index c.loop-b.sum c.loop-b-test.true c.if-b-lt48.false c.if-b-gt-NINE.false (omega (arith, is))
    ∙ c.loop-b.invariant
    )

pub returns : goal.returns
returns c = digits_end c.args.word.now c.loop-b.b-index c.loop-b.sum c.loop-b-test.false ∙ c.loop-b.invariant
