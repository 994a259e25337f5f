use Rattle.std.proofs.Common.{◌∙◌, length}
use Rattle.rom.specs.Refusal.{refusal_in}
use Rattle.tree.specs.Rows.{rows_of}
use Rattle.state.specs.Laws.Lookup.{rows_shown, rows_then_lem}
use Rattle.state.proofs.lookup.node_rows_in.Goals as goal

pub returns : goal.returns
returns c =
    let a = c.args in
    let filled = rw c.tree_or_none.ensures at c.node_rows.ensures in
    let why = filled.0 ∙ rows_shown a.state (length a.rows.now) in
    (why, filled.1 ∙ rows_then_lem a.state (length a.rows.now) (refusal_in c.node_rows.result) why a.rows.now rows_of)
