use Rattle.screen.specs.Laws.Code.Walk.{off_fit, went_bad, went_first, went_second, went_on}
use Rattle.screen.proofs.walking.onward.Goals as goal

pub returns-then-visit-eq0 : goal.returns-then-visit-eq0
returns-then-visit-eq0 c = let a = c.args in let p = c.requires in rw c.spoilt.ensures (went_bad p.0 p.1 a.visit c.if-visit-eq0.true)

pub put_if-next-requires : goal.put_if-next-requires
put_if-next-requires c = let p = c.requires in (off_fit p.0 p.1, p.2 c.if-visit-eq0.false)

pub returns-then-next-eq0 : goal.returns-then-next-eq0
returns-then-next-eq0 c =
    let a = c.args in
    let p = c.requires in
    went_first p.0 p.1 a.visit c.if-visit-eq0.false c.put_if-next.ensures c.if-next-eq0.true

pub put_if-both-requires : goal.put_if-both-requires
put_if-both-requires c = let p = c.requires in (c.put_if-next.ensures.fit, p.2 c.if-visit-eq0.false)

pub returns-then-both-eq0 : goal.returns-then-both-eq0
returns-then-both-eq0 c =
    let a = c.args in
    let p = c.requires in
    went_second p.0 p.1 a.visit c.if-visit-eq0.false c.put_if-next.ensures c.put_if-both.ensures c.if-both-eq0.true

pub settled-requires : goal.settled-requires
settled-requires c = c.put_if-both.ensures.fit

pub returns : goal.returns
returns c =
    let a = c.args in
    let p = c.requires in
    went_on p.0 p.1 a.visit c.if-visit-eq0.false c.put_if-next.ensures c.put_if-both.ensures c.settled.ensures
