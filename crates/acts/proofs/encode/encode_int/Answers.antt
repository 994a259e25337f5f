use Rattle.acts.proofs.Backs.{no_arrays}
use Rattle.acts.proofs.Cold.{int_low, int_high, int_full}
use Rattle.acts.proofs.Encoding.{int_told, int_room}
use Rattle.state.specs.Joints.Apart.{on_stack, joined, taken_on}
use Rattle.state.specs.Laws.Done.{stopped}
use Rattle.std.proofs.Common.{sym, refl}
use Rattle.acts.proofs.encode.encode_int.Goals as goal

pub returns-then-core-lt1 : goal.returns-then-core-lt1
returns-then-core-lt1 c = λ a n o rom store. rw c.stop.ensures (sym (stopped _ _ 14 refl (int_low _ n o _ c.if-core-lt1.true)))

pub returns-then-core-gt-DATA_MOST : goal.returns-then-core-gt-DATA_MOST
returns-then-core-gt-DATA_MOST c = λ a n o rom store. rw c.stop-then-core-gt-DATA_MOST.ensures
    (sym (stopped _ _ 15 refl (int_high _ n o _ c.if-core-lt1.false c.if-core-gt-DATA_MOST.true)))

pub returns-then-at-gt-WORK_SIZE : goal.returns-then-at-gt-WORK_SIZE
returns-then-at-gt-WORK_SIZE c =
    λ a n o rom store. rw c.stop-then-at-gt-WORK_SIZE.ensures
    (sym (stopped _ _ 24 refl (int_full _ n o _ c.if-core-lt1.false c.if-core-gt-DATA_MOST.false c.if-at-gt-WORK_SIZE.true)))

pub encoded-requires : goal.encoded-requires
encoded-requires c =
    let args = c.args in
    int_room (joined (on_stack args.cells.now no_arrays) args.core) args.next c.if-core-lt1.false c.if-core-gt-DATA_MOST.false
    c.if-at-gt-WORK_SIZE.false
    (taken_on (on_stack args.cells.now no_arrays) c.pop-p.result) (c.pop-p.ensures no_arrays)

pub returns : goal.returns
returns c =
    let args = c.args in
    λ a. int_told (joined (on_stack args.cells.now a) args.core) args.next c.if-core-lt1.false c.if-core-gt-DATA_MOST.false
    c.if-at-gt-WORK_SIZE.false
    (taken_on (on_stack args.cells.now a) c.pop-p.result) (c.pop-p.ensures a) _ _ _ c.write_cell.ensures (c.encoded.ensures a)
