use Rattle.std.proofs.Common.{◌≡◌, sym, ◌∙◌, true, false, eq-eqb, ne_eqb, arith}
use Rattle.tokens.specs.Code.{family_in}
use Rattle.screen.specs.Laws.Code.Visit.{fixes_by, special, misplaced_seen, unlisted_seen, quiet_seen, forbidden_seen, finished_seen}
use Rattle.screen.specs.Laws.Code.Visit.{left_seen, assigned_seen, jumped_seen, chosen_seen, called_seen}
use Rattle.screen.specs.Laws.Found.Cell.{back_in}
use Rattle.screen.proofs.visiting.visit_seen.Goals as goal

pub returns-then-out_of_place : goal.returns-then-out_of_place
returns-then-out_of_place c =
    let a = c.args in
    let m = sym c.out_of_place.ensures ∙ c.if-out_of_place.true in
    let v = misplaced_seen a.text a.kinds.now a.sums.now a.glance a.cell m in
    λ rom p e. c.bad_visit.ensures ∙ v rom p e

pub returns-then-kind_of-eq0 : goal.returns-then-kind_of-eq0
returns-then-kind_of-eq0 c =
    let a = c.args in
    let m = sym c.out_of_place.ensures ∙ c.if-out_of_place.false in
    let k = sym c.family_of-work.ensures ∙ c.in-17.is in
    let v = called_seen a.text a.kinds.now a.sums.now a.glance a.cell m k in
    let w = rw (← c.kind_of.ensures, eq-eqb _ _ c.if-kind_of-eq0.true) at v in
    λ rom p e. c.bad_visit-then-kind_of-eq0.ensures ∙ w rom p e

pub returns-then-kind_of : goal.returns-then-kind_of
returns-then-kind_of c =
    let a = c.args in
    let m = sym c.out_of_place.ensures ∙ c.if-out_of_place.false in
    let k = sym c.family_of-work.ensures ∙ c.in-16.is in
    let v = assigned_seen a.text a.kinds.now a.sums.now a.glance a.cell m k in
    let w = rw (← c.kind_of-in-16.ensures, ne_eqb _ _ c.if-kind_of.true) at v in
    λ rom p e. c.bad_visit-then-kind_of.ensures ∙ w rom p e

pub returns-then-glance-eq0 : goal.returns-then-glance-eq0
returns-then-glance-eq0 c =
    let a = c.args in
    let m = sym c.out_of_place.ensures ∙ c.if-out_of_place.false in
    let k = sym c.family_of-work.ensures ∙ c.in-3.is in
    let v = jumped_seen a.text a.kinds.now a.sums.now a.glance a.cell m k in
    let w = rw (eq-eqb _ _ c.if-glance-eq0.true) at v in
    λ rom p e. c.bad_visit-then-glance-eq0.ensures ∙ w rom p e

pub returns-then-glance-eq0-2 : goal.returns-then-glance-eq0-2
returns-then-glance-eq0-2 c =
    let a = c.args in
    let m = sym c.out_of_place.ensures ∙ c.if-out_of_place.false in
    let k = sym c.family_of-work.ensures ∙ c.in-4.is in
    let v = chosen_seen a.text a.kinds.now a.sums.now a.glance a.cell m k in
    let w = rw (eq-eqb _ _ c.if-glance-eq0-2.true) at v in
    λ rom p e. c.bad_visit-then-glance-eq0-2.ensures ∙ w rom p e

pub returns-then-text-ne0 : goal.returns-then-text-ne0
returns-then-text-ne0 c =
    let a = c.args in
    let m = sym c.out_of_place.ensures ∙ c.if-out_of_place.false in
    let k = sym c.family_of-work.ensures ∙ c.in-2.is in
    let v = finished_seen a.text a.kinds.now a.sums.now a.glance a.cell m k in
    let w = rw (ne_eqb _ _ c.if-text-ne0.true) at v in
    λ rom p e. c.bad_visit-then-text-ne0.ensures ∙ w rom p e

pub returns-then-back_in-ne0 : goal.returns-then-back_in-ne0
returns-then-back_in-ne0 c =
    let a = c.args in
    let m = sym c.out_of_place.ensures ∙ c.if-out_of_place.false in
    let k = sym c.family_of-work.ensures ∙ c.in-11.is in
    let v = left_seen a.text a.kinds.now a.sums.now a.glance a.cell m k in
    let w = rw (ne_eqb (back_in a.cell) 0 (λ z. omega arith)) at v in
    λ rom p e. c.bad_visit-then-back_in-ne0.ensures ∙ w rom p e

pub returns-in-0 : goal.returns-in-0
returns-in-0 c =
    let a = c.args in
    let k = sym c.family_of-work.ensures ∙ c.in-0.is in
    let v = unlisted_seen a.text a.kinds.now a.sums.now a.glance a.cell k in
    λ rom p e. c.bad_visit-in-0.ensures ∙ v rom p e

pub returns-in-8 : goal.returns-in-8
returns-in-8 c =
    let a = c.args in
    let m = sym c.out_of_place.ensures ∙ c.if-out_of_place.false in
    let k = sym c.family_of-work.ensures ∙ c.in-8.is in
    let v = forbidden_seen a.text a.kinds.now a.sums.now a.glance a.cell m (λ z. omega arith) (rw k) in
    λ rom p e. c.bad_visit-in-8.ensures ∙ v rom p e

pub returns-in-9 : goal.returns-in-9
returns-in-9 c =
    let a = c.args in
    let m = sym c.out_of_place.ensures ∙ c.if-out_of_place.false in
    let k = sym c.family_of-work.ensures ∙ c.in-9.is in
    let v = forbidden_seen a.text a.kinds.now a.sums.now a.glance a.cell m (λ z. omega arith) (rw k) in
    λ rom p e. c.bad_visit-in-9.ensures ∙ v rom p e

pub returns-in-10 : goal.returns-in-10
returns-in-10 c =
    let a = c.args in
    let m = sym c.out_of_place.ensures ∙ c.if-out_of_place.false in
    let k = sym c.family_of-work.ensures ∙ c.in-10.is in
    let v = forbidden_seen a.text a.kinds.now a.sums.now a.glance a.cell m (λ z. omega arith) (rw k) in
    λ rom p e. c.bad_visit-in-10.ensures ∙ v rom p e

pub returns-else-kind_of-eq0 : goal.returns-else-kind_of-eq0
returns-else-kind_of-eq0 c =
    let a = c.args in
    let m = sym c.out_of_place.ensures ∙ c.if-out_of_place.false in
    let k = sym c.family_of-work.ensures ∙ c.in-17.is in
    let v = called_seen a.text a.kinds.now a.sums.now a.glance a.cell m k in
    let w = rw (← c.kind_of.ensures, ne_eqb _ _ c.if-kind_of-eq0.false) at v in
    λ rom p e. c.called.ensures ∙ w rom p e

pub returns-else-kind_of : goal.returns-else-kind_of
returns-else-kind_of c =
    let a = c.args in
    let m = sym c.out_of_place.ensures ∙ c.if-out_of_place.false in
    let k = sym c.family_of-work.ensures ∙ c.in-16.is in
    let v = assigned_seen a.text a.kinds.now a.sums.now a.glance a.cell m k in
    let w = rw (← c.kind_of-in-16.ensures, eq-eqb _ _ c.if-kind_of.false) at v in
    λ rom p e. rw c.takes_seen-takes.ensures.0 at c.plain.ensures ∙ w rom p e

pub returns-else-glance-eq0 : goal.returns-else-glance-eq0
returns-else-glance-eq0 c =
    let a = c.args in
    let m = sym c.out_of_place.ensures ∙ c.if-out_of_place.false in
    let k = sym c.family_of-work.ensures ∙ c.in-3.is in
    let v = jumped_seen a.text a.kinds.now a.sums.now a.glance a.cell m k in
    let w = rw (ne_eqb _ _ c.if-glance-eq0.false) at v in
    λ rom p e. rw c.takes_seen-takes.ensures.0 at c.plain-in-3.ensures ∙ w rom p e

pub returns-else-glance-eq0-2 : goal.returns-else-glance-eq0-2
returns-else-glance-eq0-2 c =
    let a = c.args in
    let m = sym c.out_of_place.ensures ∙ c.if-out_of_place.false in
    let k = sym c.family_of-work.ensures ∙ c.in-4.is in
    let v = chosen_seen a.text a.kinds.now a.sums.now a.glance a.cell m k in
    let w = rw (ne_eqb _ _ c.if-glance-eq0-2.false) at v in
    λ rom p e. rw c.takes_seen-takes.ensures.0 at c.plain-in-4.ensures ∙ w rom p e

pub returns-else-text-ne0 : goal.returns-else-text-ne0
returns-else-text-ne0 c =
    let a = c.args in
    let m = sym c.out_of_place.ensures ∙ c.if-out_of_place.false in
    let k = sym c.family_of-work.ensures ∙ c.in-2.is in
    let v = finished_seen a.text a.kinds.now a.sums.now a.glance a.cell m k in
    let w = rw (eq-eqb _ _ c.if-text-ne0.false) at v in
    λ rom p e. rw c.takes_seen-takes.ensures.0 at c.plain-in-2.ensures ∙ w rom p e

pub returns-else-back_in-ne0 : goal.returns-else-back_in-ne0
returns-else-back_in-ne0 c =
    let a = c.args in
    let m = sym c.out_of_place.ensures ∙ c.if-out_of_place.false in
    let k = sym c.family_of-work.ensures ∙ c.in-11.is in
    let v = left_seen a.text a.kinds.now a.sums.now a.glance a.cell m k in
    let w = rw (eq-eqb (back_in a.cell) 0 (omega arith)) at v in
    λ rom p e. rw c.takes_seen-takes.ensures.0 at c.plain-in-11.ensures ∙ w rom p e

pub returns-in-14 : goal.returns-in-14
returns-in-14 c =
    let a = c.args in
    let m = sym c.out_of_place.ensures ∙ c.if-out_of_place.false in
    let k = sym c.family_of-work.ensures ∙ c.in-14.is in
    let v = quiet_seen a.text a.kinds.now a.sums.now a.glance a.cell m (λ z. omega arith) (rw k) true (rw k) in
    λ rom p e. rw c.takes_seen-takes.ensures.0 at c.plain-in-14.ensures ∙ v rom p e

pub returns-in-6 : goal.returns-in-6
returns-in-6 c =
    let a = c.args in
    let m = sym c.out_of_place.ensures ∙ c.if-out_of_place.false in
    let k = sym c.family_of-work.ensures ∙ c.in-6.is in
    let v = quiet_seen a.text a.kinds.now a.sums.now a.glance a.cell m (λ z. omega arith) (rw k) true (rw k) in
    λ rom p e. rw c.takes_seen-takes.ensures.0 at c.plain-in-6.ensures ∙ v rom p e

pub returns-in-23 : goal.returns-in-23
returns-in-23 c =
    let a = c.args in
    let m = sym c.out_of_place.ensures ∙ c.if-out_of_place.false in
    let k = sym c.family_of-work.ensures ∙ c.in-23.is in
    let v = quiet_seen a.text a.kinds.now a.sums.now a.glance a.cell m (λ z. omega arith) (rw k) true (rw k) in
    λ rom p e. rw c.takes_seen-takes.ensures.0 at c.plain-in-23.ensures ∙ v rom p e

pub returns-in-24 : goal.returns-in-24
returns-in-24 c =
    let a = c.args in
    let m = sym c.out_of_place.ensures ∙ c.if-out_of_place.false in
    let k = sym c.family_of-work.ensures ∙ c.in-24.is in
    let v = quiet_seen a.text a.kinds.now a.sums.now a.glance a.cell m (λ z. omega arith) (rw k) true (rw k) in
    λ rom p e. rw c.takes_seen-takes.ensures.0 at c.plain-in-24.ensures ∙ v rom p e

pub returns-in_default : goal.returns-in_default
returns-in_default c =
    let a = c.args in
    let m = sym c.out_of_place.ensures ∙ c.if-out_of_place.false in
    let f = c.family_of-work.ensures in
    let r = rw f at c.in_default.in_default-own.rest in
    let q : special (family_in a.glance.code) ≡ false = rw (
      ne_eqb _ _ r.0.0.0.0.0.0.0.0.0.0.0.0.1,
      ne_eqb _ _ r.0.0.0.0.0.0.0.0.0.0.0.1,
      ne_eqb _ _ r.0.0.0.0.0.0.0.0.0.0.1,
      ne_eqb _ _ r.0.0.0.0.0.0.0.0.0.1,
      ne_eqb _ _ r.0.0.0.0.0.0.0.0.1,
      ne_eqb _ _ r.0.0.0.0.0.0.0.1,
      ne_eqb _ _ r.0.0.0.0.0.0.1,
      ne_eqb _ _ r.0.0.0.0.0.1,
      ne_eqb _ _ r.0.0.0.0.1,
    ) in
    let h : fixes_by a.glance.code ≡ false = rw (
      ne_eqb _ _ r.0.0.0.1,
      ne_eqb _ _ r.0.0.1,
      ne_eqb _ _ r.0.1,
      ne_eqb _ _ r.1,
    ) in
    let listed = r.0.0.0.0.0.0.0.0.0.0.0.0.0.1 in
    let v = quiet_seen a.text a.kinds.now a.sums.now a.glance a.cell m listed q false h in
    λ rom p e. rw c.takes_seen-takes.ensures.0 at c.plain-in_default.ensures ∙ v rom p e
