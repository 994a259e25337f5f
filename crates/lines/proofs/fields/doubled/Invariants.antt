use Rattle.lines.specs.Fields.{doubled_byte}
use Rattle.lines.proofs.fields.doubled.Given as goal

abbrev pub ghost-each : goal.ghost-each
ghost-each a = doubled_byte
