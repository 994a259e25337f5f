use Rattle.reckon.proofs.Made.{always_cut_made, always_out_made, always_made}
use Rattle.reckon.proofs.in_place.always.Goals as goal

pub returns-then-length-behind_branch : goal.returns-then-length-behind_branch
returns-then-length-behind_branch c =
    let a = c.args in
    rw c.refuse.ensures (λ cells. always_cut_made a.rom.now a.length a.wide a.h a.b a.place cells c.requires.0
    c.requires.1 _ c.behind_branch.ensures c.if-length-behind_branch.true)

pub returns-then-to-eq0 : goal.returns-then-to-eq0
returns-then-to-eq0 c =
    let a = c.args in
    rw c.refuse-then-to-eq0.ensures (λ cells. always_out_made a.rom.now a.length a.wide a.h a.b a.place cells c.requires.0
    c.requires.1 _ c.behind_branch.ensures c.if-length-behind_branch.false _ c.branch_to-to.ensures c.if-to-eq0.true)

pub returns : goal.returns
returns c =
    let a = c.args in
    rw c.on.ensures (λ cells. always_made a.rom.now a.length a.wide a.h a.b a.place cells c.requires.0 c.requires.1 _
    c.behind_branch.ensures c.if-length-behind_branch.false _ c.branch_to-to.ensures c.if-to-eq0.false)
