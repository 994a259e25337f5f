use Rattle.std.proofs.Common.{sym}
use Rattle.rom.specs.Spread.{view_of}
use Rattle.cells.specs.Laws.Tests.{find_none}
use Rattle.tokens.specs.Decode.{operands, operand_of}
use Rattle.tokens.specs.declared.decoding.Operand.TheVariants.{Nothing}
use Rattle.tokens.proofs.decoding.operand_at.Goals as goal

pub returns-in_default : goal.returns-in_default
unfolding operand_of
returns-in_default c =
    let a = c.args in
    sym (find_none (Unit {0}) (operands (view_of a.spread a.rom.now) a.length a.wide a.at) Nothing a.form
    c.in_default.in_default-own.rest)
