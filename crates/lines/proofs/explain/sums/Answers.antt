use Rattle.std.proofs.Common.{sym, ◌∙◌}
use Rattle.lines.specs.Laws.Wrote.{wrote_none}
use Rattle.lines.proofs.explain.sums.Goals as goal

pub returns-then-bad_length : goal.returns-then-bad_length
returns-then-bad_length c = rw (sym c.bad_length.ensures ∙ c.if-bad_length.true) wrote_none
