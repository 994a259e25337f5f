use Rattle.std.proofs.Common.{sym, rules}
use Rattle.rom.specs.Spread.{view_of}
use Rattle.cells.specs.Laws.Tests.{find_none}
use Rattle.tokens.specs.Decode.{behinds, behind_of}
use Rattle.tokens.proofs.decoding.behind.Goals as goal

pub returns-in_default : goal.returns-in_default
unfolding behind_of
returns-in_default c =
    let a = c.args in (
      sym (find_none (Unit {0}) (behinds (view_of a.spread a.rom.now) a.wide a.at) a.at a.form c.in_default.in_default-own.rest),
      search
          rules,
      search rules,
    )
