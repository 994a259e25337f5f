-- What is filled has room, and each item is a byte of the text at least.
use Rattle.std.proofs.Common.{◌-◌, ◌≤◌, length}
use Rattle.given.proofs.bytes_from.Given as goal

abbrev pub invariant-loop-at : goal.invariant-loop-at
invariant-loop-at l = l.n ≤ length l.rom

abbrev pub decreases-loop-at : goal.decreases-loop-at
decreases-loop-at l = length l.text - l.at
