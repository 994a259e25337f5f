use Rattle.acts.proofs.Backs.{back, no_arrays}
use Rattle.acts.proofs.Cold.{string_low}
use Rattle.acts.proofs.Encoding.{string_bad_told, string_full_told, string_told, string_room}
use Rattle.state.specs.Joints.Apart.{on_stack, joined, taken_on}
use Rattle.state.specs.Laws.Done.{stopped}
use Rattle.std.proofs.Common.{sym, refl, ◌∙◌}
use Rattle.acts.proofs.encode.encode_string.Goals as goal

pub returns-then-core-lt2 : goal.returns-then-core-lt2
returns-then-core-lt2 c = λ a n o store. rw c.stop.ensures (sym (stopped _ _ 14 refl (string_low _ n o _ c.if-core-lt2.true)))

pub returns-then-bad_string : goal.returns-then-bad_string
returns-then-bad_string c =
    let args = c.args in
    let pre = c.requires in
    λ a. string_bad_told (joined (on_stack args.cells.now a) args.core) args.next pre.0 c.if-core-lt2.false
    (taken_on (on_stack args.cells.now a) c.pop-p.result) (taken_on (on_stack args.cells.now a) c.pop-q.result) (c.pop-p.ensures a)
    (c.pop-q.ensures a) args.rom.now args.work.now _ (sym c.bad_string.ensures ∙ c.if-bad_string.true)
    (back (on_stack args.cells.now a) _ _ _ c.stop-then-bad_string.ensures)

pub returns-then-at-count-gt-WORK_SIZE : goal.returns-then-at-count-gt-WORK_SIZE
returns-then-at-count-gt-WORK_SIZE c =
    let args = c.args in
    let pre = c.requires in
    λ a. string_full_told (joined (on_stack args.cells.now a) args.core) args.next pre.0 c.if-core-lt2.false
    (taken_on (on_stack args.cells.now a) c.pop-p.result) (taken_on (on_stack args.cells.now a) c.pop-q.result) (c.pop-p.ensures a)
    (c.pop-q.ensures a) args.rom.now args.work.now (sym c.bad_string.ensures ∙ c.if-bad_string.false) _ c.if-at-count-gt-WORK_SIZE.true
    (back (on_stack args.cells.now a) _ _ _ c.stop-then-at-count-gt-WORK_SIZE.ensures)

pub encoded-requires : goal.encoded-requires
encoded-requires c =
    let args = c.args in
    let pre = c.requires in
    let a = no_arrays in string_room (joined (on_stack args.cells.now a) args.core) args.next pre.0 c.if-core-lt2.false
    (taken_on (on_stack args.cells.now a) c.pop-p.result) (taken_on (on_stack args.cells.now a) c.pop-q.result) (c.pop-p.ensures a)
    (c.pop-q.ensures a) args.rom.now args.work.now (sym c.bad_string.ensures ∙ c.if-bad_string.false) c.if-at-count-gt-WORK_SIZE.false

pub returns : goal.returns
returns c =
    let args = c.args in
    let pre = c.requires in
    λ a. string_told (joined (on_stack args.cells.now a) args.core) args.next pre.0 c.if-core-lt2.false
    (taken_on (on_stack args.cells.now a) c.pop-p.result) (taken_on (on_stack args.cells.now a) c.pop-q.result) (c.pop-p.ensures a)
    (c.pop-q.ensures a) args.rom.now args.work.now (sym c.bad_string.ensures ∙ c.if-bad_string.false) c.if-at-count-gt-WORK_SIZE.false _ _ _
    c.lay_string.ensures c.put.ensures (c.encoded.ensures a)
