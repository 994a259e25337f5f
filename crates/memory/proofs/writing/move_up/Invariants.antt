use Rattle.std.proofs.Common.{◌≡◌}
use Rattle.memory.specs.Writing.{moved_of}
use Rattle.memory.proofs.writing.move_up.Given as goal

-- what is left to move gives what the whole gives
abbrev pub invariant-loop-i : goal.invariant-loop-i
invariant-loop-i l = moved_of l.memory l.start l.to l.i ≡ moved_of l.initial.memory l.start l.to l.count
