use Rattle.std.proofs.Common.{◌+◌, ◌-◌, ◌≡◌}
use Rattle.screen.specs.Laws.Found.Model.{apart_of}
use Rattle.screen.proofs.rounds.apart.Given as goal

-- what is left comes to what the whole comes to
abbrev pub invariant-loop-place : goal.invariant-loop-place
invariant-loop-place l = apart_of l.rom l.text l.seen l.far (l.far + 1 - l.place) l.place l.free
    ≡ apart_of l.rom l.text l.seen l.far (l.far + 1 - l.start) l.start 0
