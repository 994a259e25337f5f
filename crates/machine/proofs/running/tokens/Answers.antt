use Rattle.machine.proofs.running.tokens.Goals as goal

pub cruise-r-requires : goal.cruise-r-requires
cruise-r-requires c =
    let pre = c.requires in
    rw c.core_of.ensures (pre)

pub returns : goal.returns
returns c = rw c.ended.ensures (rw c.core_of.ensures at c.cruise-r.ensures)
