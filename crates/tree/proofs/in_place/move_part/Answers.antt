use Rattle.std.proofs.Common.{ℕ, ◌≡◌, sym, subst}
use Rattle.memory.specs.Writing.{moved_of}
use Rattle.tree.specs.Laws.Clean.{moved_nowhere}
use Rattle.tree.proofs.in_place.move_part.Goals as goal

pub returns-else-from-to : goal.returns-else-from-to
returns-else-from-to c =
    let pre = c.requires in
    let a = c.args in
    let s = a.store.now in
    sym (subst (λ (x : ℕ). moved_of s a.from x a.count ≡ s) c.if-from-to.false
    (moved_nowhere s a.from a.count pre.0))
