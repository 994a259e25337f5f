use Rattle.lines.specs.Laws.Wrote.{wrote_then}
use Rattle.lines.proofs.pieces.operand_shown.Goals as goal

pub returns : goal.returns
returns c =
    rw (← c.cuts_of-meet.ensures)
    (wrote_then c.parts-at.ensures (wrote_then c.branch_remark-at.ensures c.string_remark.ensures))
