use Rattle.std.proofs.Common.{◌∙◌, sym, ap, arith}
use Rattle.tokens.specs.Table.{ends, lows, highs, doubles, table, row_of}
use Rattle.tokens.specs.Code.{code_of}
use Rattle.tokens.specs.Joints.Glance.{first_says}
use Rattle.tokens.specs.Joints.Quick.{Codes}
use Rattle.tokens.specs.declared.code.TheConstants.{FIRST_CODES}
use Rattle.tokens.proofs.Codes.{before_lows}
use Rattle.tokens.proofs.Quicks.{codes_are}
use Rattle.tokens.proofs.Ranges.{bounds}
use Rattle.tokens.proofs.code.code_of.Goals as goal

pub returns-in-Ok : goal.returns-in-Ok
returns-in-Ok c =
    let b = bounds 1 0xF c.in-Ok.first (sym c.is_double.ensures ∙ c.if-is_double.true) in
    let e = c.in-Ok.ensures in
    before_lows c.args.number (λ z. omega arith) (omega arith)

pub returns-in-Ok-2 : goal.returns-in-Ok-2
unfolding Codes first_says code_of row_of table ends lows highs doubles
returns-in-Ok-2 c =
    let d = sym c.is_double.ensures ∙ c.if-is_double.false in
    rw d at (codes_are FIRST_CODES tt c.in-Ok.first (omega arith)) ∙ ap code_of c.in-Ok.ensures.1
