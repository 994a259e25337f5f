use Rattle.std.proofs.Common.{sym, ◌∙◌}
use Rattle.cells.specs.Laws.Facts.{not_on, not_off}
use Rattle.screen.specs.Laws.Code.Visit.{tally_in, told_outside, told_call, told_end, told_plain}
use Rattle.screen.proofs.tally.told.Goals as goal

pub returns-then-not-within : goal.returns-then-not-within
returns-then-not-within c =
    let a = c.args in
    told_outside a.sums.now a.within a.glance (tally_in a.tally) a.cell (not_off a.within c.if-not-within.true-raw)

pub returns-in-17 : goal.returns-in-17
returns-in-17 c =
    let a = c.args in
    let w = not_on a.within c.if-not-within.false-raw in
    let k = sym c.family_of-work.ensures ∙ c.in-17.is in
    let t = told_call a.sums.now a.within a.glance (tally_in a.tally) a.cell w k in
    λ rom x kinds p i e v. c.called.ensures ∙ t rom x kinds p i e v

pub returns-in-11 : goal.returns-in-11
returns-in-11 c =
    let a = c.args in
    let w = not_on a.within c.if-not-within.false-raw in
    let k = sym c.family_of-work.ensures ∙ c.in-11.is in
    let t = told_end a.sums.now a.within a.glance (tally_in a.tally) a.cell w k in
    λ rom x kinds p i e v. rw c.takes_seen.ensures.0 at c.ended.ensures ∙ t rom x kinds p i e v

pub returns-in_default : goal.returns-in_default
returns-in_default c =
    let a = c.args in
    let w = not_on a.within c.if-not-within.false-raw in
    let f = c.family_of-work.ensures in
    let l = rw f at c.in_default.in_default-own.rest in
    let t = told_plain a.sums.now a.within a.glance (tally_in a.tally) a.cell w l.0.1 l.1 in
    λ rom x kinds p i e v. rw c.takes_seen-in_default.ensures.0 at c.raised.ensures ∙ t rom x kinds p i e v
