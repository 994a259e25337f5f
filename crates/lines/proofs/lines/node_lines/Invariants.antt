use Rattle.std.proofs.Common.{◌-◌}
use Rattle.tree.specs.Held.{held_of}
use Rattle.lines.specs.Lines.{node_lines}
use Rattle.lines.specs.Laws.Wrote.{Ahead}
use Rattle.lines.proofs.lines.node_lines.Given as goal

abbrev pub invariant-loop-k : goal.invariant-loop-k
invariant-loop-k l =
    Ahead l.initial.text l.at (node_lines l.tree (held_of l.tree l.store) l.tree.nodes 0) l.text l.end
    (node_lines l.tree (held_of l.tree l.store) (l.tree.nodes - l.k) l.k)
