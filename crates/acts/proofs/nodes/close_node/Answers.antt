use Rattle.acts.proofs.Keeping.{active_done, active_refused, close_same, close_told}
use Rattle.state.specs.Joints.Apart.{joined, on_nodes}
use Rattle.rom.specs.Refusal.{numbered}
use Rattle.std.proofs.Common.{refl, ap}
use Rattle.acts.proofs.nodes.close_node.Goals as goal

pub returns-in-Ok : goal.returns-in-Ok
returns-in-Ok c =
    rw c.go.ensures (λ a.
    let x = c.args in
    let st = joined (on_nodes x.parents.now a) x.core in
    let e = c.close_child-closed.ensures st.tree _ in
    close_told st x.next c.requires _ _ (active_done st x.next _ _ (ap numbered c.in-Ok.is) refl) e)

pub returns-in-Err : goal.returns-in-Err
returns-in-Err c =
    rw c.stop.ensures (λ a.
    let x = c.args in
    let st = joined (on_nodes x.parents.now a) x.core in
    let f = ap numbered c.in-Err.is in
    let e = c.close_child-closed.ensures st.tree _ in
    close_told st x.next c.requires _ _ (active_refused st x.next _ _ _ f (close_same st x.next _ _ f e) refl)
    e)
