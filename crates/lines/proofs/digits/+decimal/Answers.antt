use Rattle.std.proofs.Common.{rules}
use Rattle.lines.specs.Laws.Texts.{decimal_one, decimal_more}
use Rattle.lines.specs.Laws.Wrote.{wrote_then}
use Rattle.lines.proofs.digits.+decimal.Goals as goal

pub returns-then-n-lt10 : goal.returns-then-n-lt10
returns-then-n-lt10 t c = rw (decimal_one 9 c.args.n (search rules)) c.letter.ensures

pub returns : goal.returns
returns t c = rw (decimal_more c.args.n (search rules) (search rules)) (wrote_then c.decimal-at.ensures c.letter-2.ensures)
