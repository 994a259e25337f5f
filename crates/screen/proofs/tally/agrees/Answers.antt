use mathlib.Core.Bool.{and-false, and-true}
use Rattle.std.proofs.Common.{sym, ◌∙◌, eq-eqb, ne_eqb, add-one}
use Rattle.screen.proofs.tally.agrees.Goals as goal
use Rattle.screen.proofs.tally.agrees.Goals.{then-out-eq0, else-out-eq0}

pub returns-then-out-height : goal.returns-then-out-height
returns-then-out-height c =
    elim c.if-out-eq0.branch [
      | then-out-eq0 w ↦ rw (eq-eqb _ _ w.if-out-eq0.true) (simp and-true)
      | else-out-eq0 w ↦ rw (ne_eqb _ _ w.if-out-eq0.false, ← add-one, sym w.value-is ∙ c.if-out-height.true) (simp and-true)
    ]

pub returns-else-out-height : goal.returns-else-out-height
returns-else-out-height c =
    elim c.if-out-eq0.branch [
      | then-out-eq0 w ↦ cc (eq-eqb _ _ w.if-out-eq0.true, w.value-is)
      | else-out-eq0 w ↦ rw (ne_eqb _ _ w.if-out-eq0.false, ← add-one, sym w.value-is ∙ c.if-out-height.false) (simp and-false)
    ]
