use Rattle.acts.proofs.Backs.{back, no_arrays}
use Rattle.acts.proofs.Cold.{join_low}
use Rattle.acts.proofs.Encoding.{apart_told, joined_told, joined_room}
use Rattle.state.specs.Joints.Apart.{on_stack, joined, taken_on}
use Rattle.state.specs.Laws.Done.{stopped}
use Rattle.std.proofs.Common.{sym, refl}
use Rattle.acts.proofs.encode.join_arrays.Goals as goal

pub returns-then-core-lt4 : goal.returns-then-core-lt4
returns-then-core-lt4 c = λ a o n rom work store. rw c.stop.ensures (sym (stopped _ _ 14 refl (join_low _ n o _ c.if-core-lt4.true)))

pub returns-then-u-t : goal.returns-then-u-t
returns-then-u-t c =
    let args = c.args in
    let pre = c.requires in
    λ a. apart_told (joined (on_stack args.cells.now a) args.core) args.next (pre) c.if-core-lt4.false
    (taken_on (on_stack args.cells.now a) c.pop-p.result) (taken_on (on_stack args.cells.now a) c.pop-q.result)
    (taken_on (on_stack args.cells.now a) c.pop-t.result) (taken_on (on_stack args.cells.now a) c.pop-u.result) (c.pop-p.ensures a)
    (c.pop-q.ensures a) (c.pop-t.ensures a) (c.pop-u.ensures a) _ _ refl c.if-u-t.true
    (back (on_stack args.cells.now a) _ _ _ c.stop-then-u-t.ensures)

pub pair-requires : goal.pair-requires
pair-requires c =
    let args = c.args in
    let pre = c.requires in
    let a = no_arrays in joined_room (joined (on_stack args.cells.now a) args.core) args.next (pre) c.if-core-lt4.false
    (taken_on (on_stack args.cells.now a) c.pop-p.result) (taken_on (on_stack args.cells.now a) c.pop-q.result)
    (taken_on (on_stack args.cells.now a) c.pop-t.result) (taken_on (on_stack args.cells.now a) c.pop-u.result) (c.pop-p.ensures a)
    (c.pop-q.ensures a) (c.pop-t.ensures a) (c.pop-u.ensures a)

pub returns : goal.returns
returns c =
    let args = c.args in
    let pre = c.requires in
    λ a. joined_told (joined (on_stack args.cells.now a) args.core) args.next (pre) c.if-core-lt4.false
    (taken_on (on_stack args.cells.now a) c.pop-p.result) (taken_on (on_stack args.cells.now a) c.pop-q.result)
    (taken_on (on_stack args.cells.now a) c.pop-t.result) (taken_on (on_stack args.cells.now a) c.pop-u.result) (c.pop-p.ensures a)
    (c.pop-q.ensures a) (c.pop-t.ensures a) (c.pop-u.ensures a) _ _ _ refl c.if-u-t.false
    refl (c.pair.ensures a)
