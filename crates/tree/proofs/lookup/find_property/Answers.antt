use Rattle.std.proofs.Common.{sym, ap, ◌∙◌, rules}
use Rattle.rom.specs.Refusal.{numbered}
use Rattle.tree.specs.Laws.Path.{node_whole, property_there, property_none}
use Rattle.tree.proofs.lookup.find_property.Goals as goal

pub place_of-requires : goal.place_of-requires
place_of-requires c =
    let a = c.args in
    let w = node_whole a.tree a.store.now a.path.now _ (sym c.find_node.ensures ∙ ap numbered c.in_ok-node.was) in
    (w.held_most, w.live_most)

pub returns : goal.returns
returns c =
    let a = c.args in
    c.place_of.ensures
    ∙ sym (property_there a.tree a.store.now a.path.now a.name.now _ (sym c.find_node.ensures ∙ ap numbered c.in_ok-node.was))

pub returns-in_err-node : goal.returns-in_err-node
returns-in_err-node c =
    let a = c.args in
    let none = property_none a.tree a.store.now a.path.now a.name.now _ (sym c.find_node.ensures ∙ ap numbered c.in_err-node.was) in
    rw none (search rules)
