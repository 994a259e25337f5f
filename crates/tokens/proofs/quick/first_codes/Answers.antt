use Rattle.tokens.specs.Table.{ends, lows, highs, doubles, table, row_of}
use Rattle.tokens.specs.Code.{code_of}
use Rattle.tokens.specs.Joints.Glance.{first_says}
use Rattle.tokens.proofs.Quicks.{codes_are}
use Rattle.tokens.proofs.quick.first_codes.Goals as goal

pub returns : goal.returns
unfolding first_says code_of row_of table ends lows highs doubles
returns c = codes_are _ tt
