use Rattle.std.proofs.Common.{[], ◌∷◌}
use Rattle.lines.proofs.words.say.Given as goal

abbrev pub ghost-each : goal.ghost-each
ghost-each a = λ b. b ∷ []
