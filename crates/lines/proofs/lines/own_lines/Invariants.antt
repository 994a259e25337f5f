use Rattle.std.proofs.Common.{◌+◌, ◌-◌, ◌≡◌}
use Rattle.tree.specs.Held.{held_from, held_of, live_from, live_of}
use Rattle.lines.specs.Lines.{own_lines}
use Rattle.lines.specs.Laws.Wrote.{Ahead}
use Rattle.lines.proofs.lines.own_lines.Given as goal

abbrev pub invariant-loop-i : goal.invariant-loop-i
invariant-loop-i l =
    (l.name + live_from l.tree (l.tree.held - l.i) l.i ≡ live_of l.tree)
    × Ahead l.initial.text l.at (own_lines l.people (held_of l.tree l.store) l.node) l.text l.end
    (own_lines l.people (held_from l.tree l.store (l.tree.held - l.i) l.i l.name) l.node)
