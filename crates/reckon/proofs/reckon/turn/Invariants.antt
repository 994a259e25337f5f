use Rattle.std.proofs.Common.{◌≡◌}
use Rattle.state.specs.Stacks.{turned_of}
use Rattle.reckon.proofs.Deep.{left_to_turn}
use Rattle.reckon.proofs.reckon.turn.Given as goal

abbrev pub invariant-loop-i : goal.invariant-loop-i
invariant-loop-i l = left_to_turn l.stack l.i l.end l.first ≡ turned_of l.initial.stack l.start l.count
