use Rattle.std.proofs.Common.{ne_eqb, rules}
use Rattle.rom.specs.Words.{letters_of}
use Rattle.lines.proofs.explain.start_words.Goals as goal

pub returns-in-253 : goal.returns-in-253
unfolding letters_of
returns-in-253 c = rw c.in-253.is c.say.ensures

pub returns-in-241 : goal.returns-in-241
unfolding letters_of
returns-in-241 c = rw c.in-241.is c.say-in-241.ensures

pub returns-in-242 : goal.returns-in-242
unfolding letters_of
returns-in-242 c = rw c.in-242.is c.say-in-242.ensures

pub returns-in-243 : goal.returns-in-243
unfolding letters_of
returns-in-243 c = rw c.in-243.is c.say-in-243.ensures

pub returns-in_default : goal.returns-in_default
unfolding letters_of
returns-in_default c =
    let b = c.args.byte in
    rw (ne_eqb b 253 (search rules), ne_eqb b 241 (search rules), ne_eqb b 242 (search rules), ne_eqb b 243 (search rules))
    c.say-in_default.ensures
