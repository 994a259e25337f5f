use Rattle.acts.proofs.Backs.{via}
use Rattle.acts.proofs.Cold.{fetch_low}
use Rattle.acts.proofs.Memories.{fetch_refused, fetch_good}
use Rattle.acts.proofs.Pops.{first_pop, pushed_on}
use Rattle.state.specs.Joints.Apart.{on_stack, joined, taken_on}
use Rattle.state.specs.Laws.Done.{stopped}
use Rattle.rom.specs.Refusal.{numbered}
use Rattle.std.proofs.Common.{sym, refl, ap, arith}
use Rattle.acts.proofs.memory_tokens.fetch_from.Goals as goal

pub returns-then-core-lt1 : goal.returns-then-core-lt1
returns-then-core-lt1 c = λ a o store. rw c.stop.ensures (sym (stopped _ _ 14 refl (fetch_low _ _ o _ c.if-core-lt1.true)))

pub returns-in-Err : goal.returns-in-Err
returns-in-Err c =
    let args = c.args in
    let pre = c.requires in
    λ a o store.
    let p = first_pop (joined (on_stack args.cells.now a) args.core) (taken_on (on_stack args.cells.now a) c.pop-p.result)
    c.if-core-lt1.false (c.pop-p.ensures a) in
    rw c.stop-in-Err.ensures
    (sym (fetch_refused _ _ store (joined (on_stack args.cells.now a) args.core) _ o args.next pre c.if-core-lt1.false
    (numbered c.fetched.result) c.pop-p.result.cell p.0 c.fetched.ensures _ (ap numbered c.in-Err.is)))

pub returns-in-Ok : goal.returns-in-Ok
returns-in-Ok c =
    let args = c.args in
    let pre = c.requires in
    λ a o store.
    let p = first_pop (joined (on_stack args.cells.now a) args.core) (taken_on (on_stack args.cells.now a) c.pop-p.result)
    c.if-core-lt1.false (c.pop-p.ensures a) in
    let h = c.requires in
    via _ _ _ store _ (pushed_on (joined (on_stack args.cells.now a) args.core) 1 args.next _
    (joined (on_stack args.cells.now a) c.pop-p.result.core) _ (omega arith) p.1 (c.push.ensures a))
    (sym (fetch_good _ _ store (joined (on_stack args.cells.now a) args.core) _ o args.next pre c.if-core-lt1.false
    (numbered c.fetched.result) c.pop-p.result.cell p.0 c.fetched.ensures _ (ap numbered c.in-Ok.is)))
