use Rattle.std.proofs.Common.{rules}
use Rattle.tokens.specs.Table.{doubles}
use Rattle.tokens.proofs.Codes.{no_double}
use Rattle.tokens.proofs.code.double.Goals as goal

pub returns-in_default : goal.returns-in_default
unfolding doubles
returns-in_default c = no_double _ (search rules) (search rules) c.in_default.in_default-own.rest
