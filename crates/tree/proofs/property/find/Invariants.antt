use Rattle.std.proofs.Common.{◌+◌, ◌-◌, ◌≤◌, ◌≡◌}
use Rattle.tree.specs.Tree.{tree_on_records}
use Rattle.tree.specs.Held.{live_among, found_from}
use Rattle.tree.specs.declared.tree.Tree.{Tree}
use Rattle.tree.proofs.property.find.Given as goal

-- what is found from here on is what is found, whatever the rest of the tree is
abbrev pub invariant-loop-i : goal.invariant-loop-i
invariant-loop-i l =
    (l.i ≤ l.held) × (l.at + live_among l.name_sizes l.value_sizes (l.held - l.i) l.i ≡ live_among l.name_sizes l.value_sizes l.held 0)
    × ((t : Tree) → let lent = tree_on_records t l.owners l.name_sizes l.value_sizes l.held in found_from lent l.store l.node l.name
    (l.held - l.i) l.i l.at
    ≡ found_from lent l.store l.node l.name l.held 0 0)
