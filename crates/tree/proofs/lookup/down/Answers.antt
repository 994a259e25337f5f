use Rattle.std.proofs.Common.{◌+◌, ◌-◌, [], refl, sym, ap, ◌∙◌, drop, rules}
use Rattle.memory.specs.Window.{part_of}
use Rattle.rom.specs.Refusal.{numbered}
use Rattle.tree.specs.Path.{split_of, down_from}
use Rattle.tree.specs.Laws.Path.{behind_part, split_part, split_last, split_more, down_child, down_none, down_end}
use Rattle.tree.proofs.lookup.down.Goals as goal

pub loop-child-init : goal.loop-child-init
loop-child-init c = (search rules, refl)

pub returns-in_default : goal.returns-in_default
returns-in_default c =
    let a = c.args in
    let part = part_of a.path.now c.loop-child.at (c.part_end-end.result - c.loop-child.at) in
    sym (
    ap (down_from a.tree a.store.now c.loop-child.node) (split_part a.path.now c.loop-child.at c.part_end-end.result
    c.loop-child.invariant.0 c.part_end-end.ensures.0)
    ∙ down_none a.tree a.store.now c.loop-child.node part _ (behind_part (drop c.loop-child.at a.path.now))
    (sym c.child_named.ensures ∙ ap numbered c.in_default.is))
    ∙ c.loop-child.invariant.1

pub returns-then-end-path : goal.returns-then-end-path
returns-then-end-path c =
    let a = c.args in
    let part = part_of a.path.now c.loop-child.at (c.part_end-end.result - c.loop-child.at) in
    sym (
    ap (down_from a.tree a.store.now c.loop-child.node)
    (split_last a.path.now c.loop-child.at c.part_end-end.result c.loop-child.invariant.0 c.part_end-end.ensures.0 c.if-end-path.true)
    ∙ down_child a.tree a.store.now c.loop-child.node part c.in-Ok.child []
    (sym c.child_named.ensures ∙ ap numbered c.in-Ok.is)
    ∙ down_end a.tree a.store.now c.in-Ok.child)
    ∙ c.loop-child.invariant.1

pub loop-child-preserved : goal.loop-child-preserved
loop-child-preserved c =
    let a = c.args in
    let part = part_of a.path.now c.loop-child.at (c.part_end-end.result - c.loop-child.at) in (
      search rules,
      sym (
          ap (down_from a.tree a.store.now c.loop-child.node)
          (split_more a.path.now c.loop-child.at c.part_end-end.result c.loop-child.invariant.0 c.part_end-end.ensures.0
          c.if-end-path.false)
          ∙ down_child a.tree a.store.now c.loop-child.node part c.in-Ok.child (split_of (drop (c.part_end-end.result + 1) a.path.now))
          (sym c.child_named.ensures ∙ ap numbered c.in-Ok.is))
          ∙ c.loop-child.invariant.1,
    )
