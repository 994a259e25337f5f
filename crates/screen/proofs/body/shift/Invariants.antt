use Rattle.std.proofs.Common.{◌≡◌, length}
use Rattle.screen.specs.Laws.Found.Model.{shift_of}
use Rattle.screen.specs.Laws.Code.Body.{Shifting}
use Rattle.screen.proofs.body.shift.Given as goal

abbrev pub invariant-loop-place : goal.invariant-loop-place
invariant-loop-place l = (length l.seen ≡ length l.initial.seen)
    × Shifting l.need l.place-end (shift_of l.need l.count l.entry l.initial.seen) l.place l.seen
