use Rattle.lines.specs.Explain.{field_lines}
use Rattle.lines.specs.Laws.Wrote.{wrote_then}
use Rattle.lines.proofs.explain.field_lines.Goals as goal

pub returns : goal.returns
unfolding field_lines
returns c = wrote_then c.start_line-at.ensures (wrote_then c.format_line-at.ensures
    (wrote_then c.length_line-at.ensures c.sum_line.ensures))
