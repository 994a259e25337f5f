use Rattle.std.proofs.Common.{◌≡◌, length}
use Rattle.rom.specs.Joints.Sum.{sum_with}
use Rattle.rom.proofs.sum.blocks.Given as goal

abbrev pub invariant-loop-front : goal.invariant-loop-front
invariant-loop-front l = sum_with l.sum l.rest ≡ sum_with l.start.sum l.start.rest.now

abbrev pub decreases-loop-front : goal.decreases-loop-front
decreases-loop-front l = length l.rest
