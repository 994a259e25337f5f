use Rattle.std.proofs.Common.{◌∙◌}
use Rattle.state.specs.Laws.Lookup.{value_shown}
use Rattle.state.proofs.lookup.property_value_in.Goals as goal

pub returns : goal.returns
returns c =
    let a = c.args in
    rw c.tree_or_none.ensures at c.property_value.ensures ∙ value_shown a.state a.store.now a.path.now a.name.now
