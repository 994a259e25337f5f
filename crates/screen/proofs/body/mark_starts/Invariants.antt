use Rattle.std.proofs.Common.{◌-◌, ◌≡◌, length as len}
use Rattle.screen.specs.Laws.Code.Body.{Marking}
use Rattle.screen.proofs.body.mark_starts.Given as goal

-- the starts from where marking is are those of the whole body
abbrev pub invariant-loop-at : goal.invariant-loop-at
invariant-loop-at l = (len l.seen ≡ len l.initial.seen) × Marking l.rom l.length l.wide l.kinds l.entry l.initial.seen l.at l.seen

abbrev pub decreases-loop-at : goal.decreases-loop-at
decreases-loop-at l = l.length - l.at
