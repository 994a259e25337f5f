use Rattle.std.proofs.Common.{◌+◌, ◌≡◌, drop}
use Rattle.memory.specs.Writing.{written_of}
use Rattle.memory.proofs.writing.lay.Given as goal

-- what is left to write gives what the whole gives
abbrev pub invariant-loop-i : goal.invariant-loop-i
invariant-loop-i l = written_of l.memory (l.at + l.i) (drop l.i l.bytes) ≡ written_of l.initial.memory l.at l.bytes
