use Rattle.std.proofs.Common.{◌≤◌}
use Rattle.rom.specs.Joints.Spread.{LaidBy}
use Rattle.rom.proofs.spread.lay_by.Given as goal

abbrev pub invariant-loop-i : goal.invariant-loop-i
invariant-loop-i l = (l.i ≤ l.count) × LaidBy l.apart l.rom l.initial.room l.i l.room
