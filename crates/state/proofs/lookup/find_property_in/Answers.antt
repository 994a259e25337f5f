use Rattle.std.proofs.Common.{◌∙◌}
use Rattle.state.specs.Laws.Lookup.{property_shown}
use Rattle.state.proofs.lookup.find_property_in.Goals as goal

pub returns : goal.returns
returns c =
    let a = c.args in
    rw c.tree_or_none.ensures at c.find_property.ensures ∙ property_shown a.state a.store.now a.path.now
    a.name.now
