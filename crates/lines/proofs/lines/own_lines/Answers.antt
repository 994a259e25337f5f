use Rattle.std.proofs.Common.{◌+◌, ◌-◌, ◌≡◌, refl, arith, rules}
use Rattle.tree.specs.Held.{name_size, value_size, held_from}
use Rattle.tree.specs.Laws.Trees.{live_more}
use Rattle.lines.specs.Lines.{own_lines}
use Rattle.lines.specs.Laws.Texts.{own_line, line_at, own_more, own_none}
use Rattle.lines.specs.Laws.Wrote.{ahead_all, ahead_on, ahead_none}
use Rattle.lines.proofs.lines.own_lines.Goals as goal

pub loop-i-init : goal.loop-i-init
loop-i-init c =
    let a = c.args in
    let e : a.tree.held - 0 ≡ a.tree.held = omega arith in
    (rw e (omega arith), rw e ahead_all)

pub overflow_add-value : goal.overflow_add-value
overflow_add-value c =
    let t = c.args.tree in
    let more = live_more t.name_sizes t.value_sizes (t.held - c.loop-i.i) c.loop-i.i t.held (search rules) refl in omega arith

pub overflow_add-next : goal.overflow_add-next
overflow_add-next c =
    let t = c.args.tree in
    let more = live_more t.name_sizes t.value_sizes (t.held - c.loop-i.i) c.loop-i.i t.held (search rules) refl in omega arith

pub slice_bounds-own_line-end : goal.slice_bounds-own_line-end
slice_bounds-own_line-end c =
    let t = c.args.tree in
    let more = live_more t.name_sizes t.value_sizes (t.held - c.loop-i.i) c.loop-i.i t.held (search rules) refl in search rules

pub slice_bounds-own_line-end-in-loop-i : goal.slice_bounds-own_line-end-in-loop-i
slice_bounds-own_line-end-in-loop-i c =
    let t = c.args.tree in
    let more = live_more t.name_sizes t.value_sizes (t.held - c.loop-i.i) c.loop-i.i t.held (search rules) refl in search rules

pub loop-i-preserved : goal.loop-i-preserved
loop-i-preserved c =
    let a = c.args in
    let t = a.tree in
    let s = a.store.now in
    let i = c.loop-i.i in
    let at = c.loop-i.name in
    let more = live_more t.name_sizes t.value_sizes (t.held - i) i t.held (search rules) refl in
    let g = own_more t s a.people (t.held - i) i at a.node t.held (search rules) refl in
    let d = line_at t s a.people i at a.node (name_size t i) (value_size t i) refl refl in (
      omega arith,
      ahead_on (own_line t s a.people i at a.node)
          (own_lines a.people (held_from t s (t.held - (i + 1)) (i + 1) (at + name_size t i + value_size t i)) a.node)
          (rw g at c.loop-i.invariant.1)
          (rw d at c.own_line-end.ensures),
    )

pub returns : goal.returns
returns c =
    let a = c.args in
    let e = own_none a.tree a.store.now a.people (a.tree.held - c.loop-i.i) c.loop-i.i c.loop-i.name a.node (search rules) in
    ahead_none (rw e at c.loop-i.invariant.1)
