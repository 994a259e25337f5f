use Rattle.tree.specs.Laws.Clean.{replaced_so}
use Rattle.tree.specs.Laws.Trees.{length_value}
use Rattle.tree.specs.Property.{value_of}
use Rattle.std.proofs.Common.{sym, ◌∙◌}
use Rattle.tree.proofs.in_place.replace.Goals as goal

pub returns : goal.returns
returns c =
    let args = c.args in
    let pre = c.requires in
    let a =
    args in
    let p = pre.1 in
    let z = c.size_of.ensures.0
    ∙ sym (length_value a.value.now a.null) in
    replaced_so a.store.now _ _ _ (value_of a.value.now a.null)
    c.size_of.result
    a.tail.zeros z p.1 p.2
    a.tail.live a.at a.old c.move_part.ensures
    c.lay_value.ensures c.clear_up_to.ensures
