-- What is read has room, and each read leaves less of it.
use Rattle.std.proofs.Common.{◌-◌, ◌≤◌, length}
use Rattle.given.proofs.read_text.Given as goal

abbrev pub invariant-loop-done : goal.invariant-loop-done
invariant-loop-done g l = l.done ≤ length l.room

abbrev pub decreases-loop-done : goal.decreases-loop-done
decreases-loop-done g l = length l.initial.room - l.done
