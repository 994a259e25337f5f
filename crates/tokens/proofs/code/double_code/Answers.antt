use Rattle.std.proofs.Common.{rules}
use Rattle.tokens.proofs.Codes.{a_program, before_doubles, before_programs, beyond}
use Rattle.tokens.proofs.code.double_code.Goals as goal

pub returns-in-2048-to-4095 : goal.returns-in-2048-to-4095
returns-in-2048-to-4095 c = let args = c.args in a_program args.number (search rules) (search rules)

pub returns-in-272-to-513 : goal.returns-in-272-to-513
returns-in-272-to-513 c = c.double.ensures

pub returns-in_default : goal.returns-in_default
returns-in_default c = let args = c.args in before_doubles args.number (search rules) (search rules)

pub returns-in_default-2 : goal.returns-in_default-2
returns-in_default-2 c = let args = c.args in before_programs args.number (search rules) (search rules)

pub returns-in_default-3 : goal.returns-in_default-3
returns-in_default-3 c = let args = c.args in beyond args.number (search rules) (search rules)
