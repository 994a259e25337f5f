use Rattle.acts.proofs.Backs.{lowered_on}
use Rattle.acts.proofs.Cold.{store_low}
use Rattle.acts.proofs.Memories.{store_refused, store_good}
use Rattle.acts.proofs.Pops.{two_pops}
use Rattle.state.specs.Joints.Apart.{on_stack, joined, taken_on}
use Rattle.state.specs.Laws.Done.{stopped}
use Rattle.rom.specs.Refusal.{refusal_in}
use Rattle.rom.specs.Laws.Refusal.{refused_so}
use Rattle.std.proofs.Common.{sym, refl, ap}
use Rattle.acts.proofs.memory_tokens.store_to.Goals as goal

pub returns-then-core-lt2 : goal.returns-then-core-lt2
returns-then-core-lt2 c = λ a o rom store. rw c.stop.ensures (sym (stopped _ _ 14 refl (store_low _ _ o _ c.if-core-lt2.true)))

pub returns-in-Err : goal.returns-in-Err
returns-in-Err c =
    let args = c.args in
    let pre = c.requires in
    λ a o rom store. let p = two_pops (joined (on_stack args.cells.now a) args.core)
    (taken_on (on_stack args.cells.now a) c.pop-p.result) (taken_on (on_stack args.cells.now a) c.pop-q.result) c.if-core-lt2.false
    (c.pop-p.ensures a) (c.pop-q.ensures a) in
    rw c.stop-in-Err.ensures
    (sym (store_refused rom _ store (joined (on_stack args.cells.now a) args.core) _ o args.next (pre) c.if-core-lt2.false _
    c.pop-p.result.cell c.pop-q.result.cell _ p.0 p.1 c.in-Err.ensures.0 c.in-Err.ensures.1 (refused_so _)))

pub returns : goal.returns
returns c =
    let args = c.args in
    let pre = c.requires in
    λ a o rom store.
    let p = two_pops (joined (on_stack args.cells.now a) args.core) (taken_on (on_stack args.cells.now a) c.pop-p.result)
    (taken_on (on_stack args.cells.now a) c.pop-q.result) c.if-core-lt2.false (c.pop-p.ensures a) (c.pop-q.ensures a) in
    rw c.go.ensures
    (lowered_on (joined (on_stack args.cells.now a) args.core) (joined (on_stack args.cells.now a) c.pop-q.result.core) 2
    args.next _ store _ p.2
    (sym (store_good rom _ store (joined (on_stack args.cells.now a) args.core) _ o args.next (pre) c.if-core-lt2.false _
    c.pop-p.result.cell c.pop-q.result.cell _ p.0 p.1 c.stored.ensures.0 c.stored.ensures.1 (ap refusal_in c.in_default.is))))
