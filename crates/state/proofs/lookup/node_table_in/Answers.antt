use Rattle.std.proofs.Common.{◌∙◌}
use Rattle.rom.specs.Refusal.{refusal_in}
use Rattle.tree.specs.Rows.{parents_of, counts_of}
use Rattle.state.specs.Laws.Lookup.{table_shown, table_then}
use Rattle.state.proofs.lookup.node_table_in.Goals as goal

pub returns : goal.returns
returns c =
    let a = c.args in
    let filled = rw c.tree_or_none.ensures at c.node_table.ensures in
    let why = filled.0 ∙ table_shown a.state a.parents.now a.counts.now in (
      why,
      filled.1 ∙ table_then a.state a.parents.now a.counts.now (refusal_in c.node_table.result) why a.parents.now parents_of,
      filled.2 ∙ table_then a.state a.parents.now a.counts.now (refusal_in c.node_table.result) why a.counts.now counts_of,
    )
