use Rattle.std.proofs.Common.{rules}
use Rattle.tokens.specs.Table.{ends, lows, highs}
use Rattle.tokens.proofs.Codes.{first_of_none}
use Rattle.tokens.proofs.glance.first_code.Goals as goal

pub returns-in_default : goal.returns-in_default
unfolding ends lows highs
returns-in_default c = first_of_none _ (search rules) (search rules) c.in_default.in_default-own.rest
