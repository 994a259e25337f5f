use Rattle.std.proofs.Common.{arith}
use Rattle.machine.proofs.Laid.{has_room}
use Rattle.machine.proofs.running.run_in.Goals as goal

pub whole_as_slice-run_laid : goal.whole_as_slice-run_laid
whole_as_slice-run_laid g c = let most = c.requires.2 in omega arith

pub run_laid-requires : goal.run_laid-requires
run_laid-requires g c = let p = c.requires in (p.0, has_room _ _ p.1)
