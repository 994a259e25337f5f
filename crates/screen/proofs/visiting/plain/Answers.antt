use Rattle.std.proofs.Common.{◌∙◌, arith}
use Rattle.screen.specs.Laws.Code.Codes.{own_most}
use Rattle.screen.specs.Laws.Code.Visit.{unfit_visit, fit_visit}
use Rattle.screen.specs.Laws.Found.Cell.{same_cell}
use Rattle.screen.proofs.visiting.plain.Goals as goal

pub returns-then-height-takes : goal.returns-then-height-takes
returns-then-height-takes c = c.bad_visit.ensures ∙ unfit_visit _ _ _ _ _ (λ r. omega arith)

pub returns-then-most-height : goal.returns-then-most-height
returns-then-most-height c = c.bad_visit-then-most-height.ensures ∙ unfit_visit _ _ _ _ _ (λ r. omega arith)

pub returns-then-most-up : goal.returns-then-most-up
returns-then-most-up c = c.bad_visit-then-most-up.ensures ∙ unfit_visit _ _ _ _ _ (λ r. omega arith)

pub returns-then-back-taken : goal.returns-then-back-taken
returns-then-back-taken c = c.bad_visit-then-back-taken.ensures ∙ unfit_visit _ _ _ _ _ (λ r. omega arith)

pub returns-then-back-gt-RETURN_MOST : goal.returns-then-back-gt-RETURN_MOST
returns-then-back-gt-RETURN_MOST c = c.bad_visit-then-back-gt-RETURN_MOST.ensures ∙ unfit_visit _ _ _ _ _ (λ r. omega arith)

pub returns-then-rest-gt-RETURN_MOST : goal.returns-then-rest-gt-RETURN_MOST
returns-then-rest-gt-RETURN_MOST c = c.bad_visit-then-rest-gt-RETURN_MOST.ensures ∙ unfit_visit _ _ _ _ _ (λ r. omega arith)

pub returns : goal.returns
returns c =
    let a = c.args in
    let w = own_most a.within in
    fit_visit _ _ _ _ _ _ (record {
      takes = omega arith;
      most = omega arith;
      rise = omega arith;
      return_takes = omega arith;
      return_high = omega arith;
      return_rise = omega arith;
      frames = omega arith;
    }) (c.cell_of.ensures ∙ same_cell (omega arith) (omega arith))
