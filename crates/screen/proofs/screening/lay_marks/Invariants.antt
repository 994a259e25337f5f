use Rattle.std.proofs.Common.{◌≡◌, length, get_or}
use Rattle.screen.specs.Laws.Code.Screen.{Filled}
use Rattle.screen.specs.Laws.Found.Cell.{mark_in}
use Rattle.screen.proofs.screening.lay_marks.Given as goal

abbrev pub invariant-loop-i : goal.invariant-loop-i
invariant-loop-i l = (length l.marks ≡ length l.initial.marks) × Filled (λ k. mark_in (get_or l.seen k 0)) l.i l.marks
