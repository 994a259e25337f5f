use Rattle.std.proofs.Common.{refl}
use Rattle.lines.specs.Laws.Wrote.{wrote_one, wrote_out}
use Rattle.lines.proofs.words.letter.Goals as goal

pub returns-then-text-at : goal.returns-then-text-at
returns-then-text-at c = wrote_out _ c.if-text-at.true

pub returns : goal.returns
returns c = wrote_one _ c.if-text-at.false refl
