use Rattle.reckon.proofs.Made.{choice_cut_made, choice_low_made, choice_out_made, choice_taken_made, choice_fallen_made}
use Rattle.reckon.proofs.in_place.choose.Goals as goal

pub returns-then-length-next : goal.returns-then-length-next
returns-then-length-next c =
    let a = c.args in
    rw c.refuse.ensures (choice_cut_made a.rom.now a.length a.wide a.h a.b a.place a.stack.now c.requires.0
    c.requires.1 _ c.behind_branch-next.ensures c.if-length-next.true)

pub returns-then-h-lt1 : goal.returns-then-h-lt1
returns-then-h-lt1 c =
    let a = c.args in
    rw c.refuse-then-h-lt1.ensures (choice_low_made a.rom.now a.length a.wide a.h a.b a.place a.stack.now c.requires.0
    c.requires.1 _ c.behind_branch-next.ensures c.if-length-next.false c.if-h-lt1.true)

pub returns-then-stack-h-ne0 : goal.returns-then-stack-h-ne0
returns-then-stack-h-ne0 c =
    let a = c.args in
    rw c.on.ensures (choice_fallen_made a.rom.now a.length a.wide a.h a.b a.place a.stack.now c.requires.0
    c.requires.1 _ c.behind_branch-next.ensures c.if-length-next.false c.if-h-lt1.false c.if-stack-h-ne0.true)

pub returns-then-to-eq0 : goal.returns-then-to-eq0
returns-then-to-eq0 c =
    let a = c.args in
    rw c.refuse-then-to-eq0.ensures (choice_out_made a.rom.now a.length a.wide a.h a.b a.place a.stack.now c.requires.0
    c.requires.1 _ c.behind_branch-next.ensures c.if-length-next.false _ c.branch_to-to.ensures c.if-h-lt1.false c.if-stack-h-ne0.false
    c.if-to-eq0.true)

pub returns : goal.returns
returns c =
    let a = c.args in
    rw c.on-2.ensures (choice_taken_made a.rom.now a.length a.wide a.h a.b a.place a.stack.now c.requires.0
    c.requires.1 _ c.behind_branch-next.ensures c.if-length-next.false _ c.branch_to-to.ensures c.if-h-lt1.false c.if-stack-h-ne0.false
    c.if-to-eq0.false)
