use Rattle.std.proofs.Common.{refl, sym, ◌∙◌}
use Rattle.screen.specs.Laws.Code.Body.{stands_misplaced, stands_unlisted, stands_call, stands_assign, stands_branch, stands_other}
use Rattle.screen.proofs.body.stands.Goals as goal

pub returns-then-out_of_place : goal.returns-then-out_of_place
returns-then-out_of_place c = stands_misplaced _ _ (sym c.out_of_place.ensures ∙ c.if-out_of_place.true)

pub returns-in-0 : goal.returns-in-0
returns-in-0 c = stands_unlisted _ _ (sym c.family_of-work.ensures ∙ c.in-0.is)

pub returns-in-17 : goal.returns-in-17
returns-in-17 c =
    stands_call _ _ (sym c.out_of_place.ensures ∙ c.if-out_of_place.false)
    (sym c.family_of-work.ensures ∙ c.in-17.is) _ (rw c.kind_of.ensures refl)

pub returns-in-16 : goal.returns-in-16
returns-in-16 c =
    stands_assign _ _ (sym c.out_of_place.ensures ∙ c.if-out_of_place.false)
    (sym c.family_of-work.ensures ∙ c.in-16.is) _ (rw c.kind_of-in-16.ensures refl)

pub returns-in-3 : goal.returns-in-3
returns-in-3 c =
    stands_branch _ _ (sym c.out_of_place.ensures ∙ c.if-out_of_place.false)
    (rw (sym c.family_of-work.ensures ∙ c.in-3.is) refl) _ refl

pub returns-in-4 : goal.returns-in-4
returns-in-4 c =
    stands_branch _ _ (sym c.out_of_place.ensures ∙ c.if-out_of_place.false)
    (rw (sym c.family_of-work.ensures ∙ c.in-4.is) refl) _ refl

pub returns-in_default : goal.returns-in_default
returns-in_default c =
    let r = c.in_default.in_default-own.rest in
    let e = c.family_of-work.ensures in
    stands_other _ _ (sym c.out_of_place.ensures ∙ c.if-out_of_place.false)
    (λ q. r.0.0.0.0.1 (e ∙ q)) (λ q. r.0.0.0.1 (e ∙ q)) (λ q. r.0.0.1 (e ∙ q)) (λ q. r.0.1 (e ∙ q)) (λ q. r.1 (e ∙ q))
