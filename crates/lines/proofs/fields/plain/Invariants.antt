use Rattle.std.proofs.Common.{[], ◌∷◌}
use Rattle.lines.specs.Fields.{plain_byte}
use Rattle.lines.proofs.fields.plain.Given as goal

abbrev pub ghost-each : goal.ghost-each
ghost-each a = λ b. plain_byte b ∷ []
