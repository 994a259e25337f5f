use Rattle.screen.specs.Laws.Code.Walk.{out_fit, end_so, from_so}
use Rattle.screen.proofs.walking.walk_from.Goals as goal

pub put-put_first-requires : goal.put-put_first-requires
put-put_first-requires c = let p = c.requires in rw c.set_out.ensures (out_fit p.1, p.1.some, p.1.unlike)

pub settled-first-requires : goal.settled-first-requires
settled-first-requires c = c.put-put_first.ensures.fit

pub walk_on-requires : goal.walk_on-requires
walk_on-requires c = let p = c.requires in let s = c.settled-first.ensures in (p.0, s.fit, λ z. s.last)

pub returns : goal.returns
returns c =
    let a = c.args in
    let e = rw c.set_out.ensures at c.put-put_first.ensures in
    end_so c.walk_on.result c.walk_on.new.seen
    (from_so a.rom.now a.text a.kinds.now a.sums.now a.start a.cell e c.settled-first.ensures)
    c.walk_on.ensures
