use Rattle.lines.specs.Digits.{hex_pair}
use Rattle.lines.proofs.digits.hex.Given as goal

abbrev pub ghost-each : goal.ghost-each
ghost-each a = hex_pair
