use Rattle.tree.proofs.in_place.tail_of.Goals as goal

pub returns : goal.returns
returns c = rw c.live_bytes-live.ensures
