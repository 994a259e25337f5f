use Rattle.std.proofs.Common.{arith, eq-eqb}
use Rattle.rom.specs.Words.{letters_of}
use Rattle.lines.proofs.lines.closing_line.Goals as goal

pub returns-then-number-eq0 : goal.returns-then-number-eq0
unfolding letters_of
returns-then-number-eq0 c =
    let args = c.args in
    rw (eq-eqb args.number 0 (omega arith)) c.say.ensures
