use Rattle.std.proofs.Common.{sym, ◌∙◌}
use Rattle.screen.specs.Laws.Code.Round.{end_none, end_misplaced, end_far, end_fixed, end_other}
use Rattle.screen.proofs.rounds.end_seen.Goals as goal
use Rattle.screen.proofs.rounds.end_seen.Goals.{then-glance-eq0-via-then-glance-eq0, then-glance-eq0-via-else-glance-eq0+then-out_of_place}
use Rattle.screen.proofs.rounds.end_seen.Goals.{else-place-far-via-then-place-far+else-fixes, else-place-far-via-else-place-far}

pub returns-then-glance-eq0 : goal.returns-then-glance-eq0
returns-then-glance-eq0 c =
    elim c.then-glance-eq0.branch [
      | then-glance-eq0-via-then-glance-eq0 w ↦ end_none _ _ _ w.if-glance-eq0.true
      | then-glance-eq0-via-else-glance-eq0+then-out_of_place w ↦ end_misplaced _ _ _ (sym w.out_of_place.ensures ∙ w.if-out_of_place.true)
    ]

pub returns-then-fixes : goal.returns-then-fixes
returns-then-fixes c =
    end_fixed _ _ _ c.if-glance-eq0.false (sym c.out_of_place.ensures ∙ c.if-out_of_place.false) c.if-place-far.true _ c.fixes.ensures
    c.if-fixes.true

pub returns : goal.returns
returns c =
    elim c.else-place-far.branch [
      | else-place-far-via-then-place-far+else-fixes w ↦
          end_other _ _ _ c.if-glance-eq0.false (sym c.out_of_place.ensures ∙ c.if-out_of_place.false) w.if-place-far.true _ w.fixes.ensures
          w.if-fixes.false
      | else-place-far-via-else-place-far w ↦
          end_far _ _ _ c.if-glance-eq0.false (sym c.out_of_place.ensures ∙ c.if-out_of_place.false) w.if-place-far.false
    ]
