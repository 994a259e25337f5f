use Rattle.std.proofs.Common.{ne_eqb, rules}
use Rattle.lines.specs.Laws.Wrote.{wrote_none}
use Rattle.lines.proofs.pieces.string_remark.Goals as goal

pub returns-in_default : goal.returns-in_default
returns-in_default c = let f = c.args.form in rw (ne_eqb f 2 (search rules), ne_eqb f 6 (search rules)) wrote_none
