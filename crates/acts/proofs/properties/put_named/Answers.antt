use Rattle.acts.proofs.Cold.{property_low}
use Rattle.acts.proofs.Keeping.{property_bad_name_told, property_bad_value_told, property_told, put_same, filed_back, filed_numbers}
use Rattle.acts.specs.Joints.Acts.{on_files}
use Rattle.state.specs.Joints.Apart.{joined, taken_on}
use Rattle.state.specs.Laws.Done.{stopped}
use Rattle.std.proofs.Common.{sym, refl, ◌∙◌}
use Rattle.acts.proofs.properties.put_named.Goals as goal

pub returns-then-core-lt4 : goal.returns-then-core-lt4
returns-then-core-lt4 c =
    let pre = c.requires in
    rw c.refuse.ensures (λ a w n o. sym (stopped _ _ 14 refl (property_low _ n o _ c.if-core-lt4.true)), pre.2, refl)

pub returns-then-bad_string : goal.returns-then-bad_string
returns-then-bad_string c =
    let args = c.args in
    let pre = c.requires in
    rw c.refuse-then-bad_string.ensures (
      λ a w. property_bad_name_told args.rom.now args.work.now args.store.now
          (joined (on_files args.cells.now args.owners.now args.titles.now args.sizes.now a) args.core) args.next
          pre.0 c.if-core-lt4.false (taken_on (on_files args.cells.now args.owners.now args.titles.now args.sizes.now a)
          c.pop-p.result) (taken_on (on_files args.cells.now args.owners.now args.titles.now args.sizes.now a)
          c.pop-q.result) (taken_on (on_files args.cells.now args.owners.now args.titles.now args.sizes.now a)
          c.pop-t.result) (taken_on (on_files args.cells.now args.owners.now args.titles.now args.sizes.now a)
          c.pop-u.result) (c.pop-p.ensures (on_files args.cells.now args.owners.now args.titles.now args.sizes.now a))
          (c.pop-q.ensures (on_files args.cells.now args.owners.now args.titles.now args.sizes.now a))
          (c.pop-t.ensures (on_files args.cells.now args.owners.now args.titles.now args.sizes.now a))
          (c.pop-u.ensures (on_files args.cells.now args.owners.now args.titles.now args.sizes.now a)) _
          (sym c.bad_string.ensures ∙ c.if-bad_string.true) refl,
      pre.2,
      refl,
    )

pub returns-then-bad_string-2 : goal.returns-then-bad_string-2
returns-then-bad_string-2 c =
    let args = c.args in
    let pre = c.requires in
    rw c.refuse-then-bad_string-2.ensures (
      λ a w. property_bad_value_told args.rom.now args.work.now args.store.now
          (joined (on_files args.cells.now args.owners.now args.titles.now args.sizes.now a) args.core) args.next
          pre.0 c.if-core-lt4.false (taken_on (on_files args.cells.now args.owners.now args.titles.now args.sizes.now a)
          c.pop-p.result) (taken_on (on_files args.cells.now args.owners.now args.titles.now args.sizes.now a)
          c.pop-q.result) (taken_on (on_files args.cells.now args.owners.now args.titles.now args.sizes.now a)
          c.pop-t.result) (taken_on (on_files args.cells.now args.owners.now args.titles.now args.sizes.now a)
          c.pop-u.result) (c.pop-p.ensures (on_files args.cells.now args.owners.now args.titles.now args.sizes.now a))
          (c.pop-q.ensures (on_files args.cells.now args.owners.now args.titles.now args.sizes.now a))
          (c.pop-t.ensures (on_files args.cells.now args.owners.now args.titles.now args.sizes.now a))
          (c.pop-u.ensures (on_files args.cells.now args.owners.now args.titles.now args.sizes.now a))
          (sym c.bad_string.ensures ∙ c.if-bad_string.false) _ (sym c.bad_string-2.ensures ∙ c.if-bad_string-2.true) refl,
      pre.2,
      refl,
    )

pub returns : goal.returns
returns c =
    let x = c.args in
    let k = x.core in
    let n =
    filed_numbers k 4 x.next c.put_in-kept.result.held c.put_in-kept.result.tail c.put_in-kept.result.outcome _ c.file_kept.ensures in (
      λ a w.
          let b = on_files x.cells.now x.owners.now x.titles.now x.sizes.now a in
          let st = joined b k in
          let e = c.put_in-kept.ensures.0 st.tree w in
          let low = c.if-core-lt4.false in
          let named = sym c.bad_string.ensures ∙ c.if-bad_string.false in
          let valued = sym c.bad_string-2.ensures ∙ c.if-bad_string-2.false in
          let name = c.resolve-name.ensures in
          let value = c.resolve-value.ensures in
          property_told x.rom.now x.work.now x.store.now st x.next c.requires.0 low (taken_on b c.pop-p.result)
          (taken_on b c.pop-q.result) (taken_on b c.pop-t.result) (taken_on b c.pop-u.result) (c.pop-p.ensures b) (c.pop-q.ensures b)
          (c.pop-t.ensures b) (c.pop-u.ensures b) named _ _ _ _ _ valued c.requires.2.0 w name value e.0 e.1
          (filed_back b _ k 4 x.next c.put_in-kept.result.held c.put_in-kept.result.tail _ c.put_in-kept.result.outcome _ refl
          c.file_kept.ensures refl
          (λ why d. put_same _ why d st.tree _ _ _ _ e.0)),
      rw (n.0, n.1) c.put_in-kept.ensures.1,
      n.2,
    )
