use Rattle.std.proofs.Common.{◌+◌, ◌-◌, ◌≡◌, refl, sym, ap, ◌∙◌, arith, rules}
use Rattle.tree.specs.Tree.{tree_on_records}
use Rattle.tree.specs.Held.{matches, property_at}
use Rattle.tree.specs.Laws.Trees.{live_more, found_here, found_next, found_none}
use Rattle.tree.specs.declared.property.Found.{Found}
use Rattle.tree.specs.declared.tree.Tree.{Tree}
use Rattle.tree.proofs.property.find.Goals as goal

pub loop-i-init : goal.loop-i-init
loop-i-init c = let a = c.args in let e : a.held - 0 ≡ a.held = omega arith in (search rules, rw e (omega arith), λ t. rw e)

pub bounds-name_sizes-i : goal.bounds-name_sizes-i
bounds-name_sizes-i c =
    let pre = c.requires in
    let h = c.loop-i-test.true in let p = pre.0 in omega arith

pub overflow_add-end : goal.overflow_add-end
overflow_add-end c =
    let pre = c.requires in
    let a = c.args in
    let e = live_more a.name_sizes.now a.value_sizes.now (a.held - c.loop-i.i) c.loop-i.i a.held
    c.loop-i-test.true refl in
    let q = c.loop-i.invariant.1 in
    let w = c.wide.ensures.0 in
    let p = pre.1 in
    search rules

pub bounds-owners-i : goal.bounds-owners-i
bounds-owners-i c =
    let pre = c.requires in
    let h = c.loop-i-test.true in let p = pre.0 in omega arith

pub is_named-requires : goal.is_named-requires
is_named-requires c =
    let pre = c.requires in
    let a = c.args in
    let e = live_more a.name_sizes.now a.value_sizes.now (a.held - c.loop-i.i) c.loop-i.i a.held
    c.loop-i-test.true refl in
    let q = c.loop-i.invariant.1 in
    let w = c.wide.ensures.0 in
    let p = pre.1 in
    (omega arith, omega arith)

pub returns-then-is_named : goal.returns-then-is_named
returns-then-is_named c =
    let named : (t : Tree) → let a = c.args in let lent = tree_on_records t a.owners.now a.name_sizes.now a.value_sizes.now a.held in
    c.is_named.result ≡ matches (property_at lent a.store.now c.loop-i.i c.loop-i.at) a.node a.name.now = λ t. let w = c.wide.result in
    let e : c.loop-i.at + w - c.loop-i.at ≡ w = omega arith in rw (← c.wide.ensures.0) (rw e at c.is_named.ensures) in
    let h = c.loop-i-test.true in (
      omega arith,
      λ t.
          let a = c.args in
          sym (found_here (tree_on_records t a.owners.now a.name_sizes.now a.value_sizes.now a.held) a.store.now a.node
          a.name.now (a.held - c.loop-i.i) c.loop-i.i c.loop-i.at a.held c.loop-i-test.true refl
          (sym (named t) ∙ c.if-is_named.true)) ∙ c.loop-i.invariant.2 t,
    )

pub bounds-value_sizes-i : goal.bounds-value_sizes-i
bounds-value_sizes-i c =
    let pre = c.requires in
    let h = c.loop-i-test.true in
    let p = pre.0 in omega arith

pub overflow_add-at : goal.overflow_add-at
overflow_add-at c =
    let pre = c.requires in
    let a = c.args in
    let e = live_more a.name_sizes.now a.value_sizes.now (a.held - c.loop-i.i) c.loop-i.i a.held
    c.loop-i-test.true refl in
    let q = c.loop-i.invariant.1 in
    let w = c.wide.ensures.0 in
    let x = c.wide-in-loop-i.ensures.0 in
    let p = pre.1 in
    search rules

pub loop-i-preserved : goal.loop-i-preserved
loop-i-preserved c =
    let named : (t : Tree) → let a = c.args in let lent = tree_on_records t a.owners.now a.name_sizes.now a.value_sizes.now a.held in
    c.is_named.result ≡ matches (property_at lent a.store.now c.loop-i.i c.loop-i.at) a.node a.name.now = λ t. let w = c.wide.result in
    let e : c.loop-i.at + w - c.loop-i.at ≡ w = omega arith in rw (← c.wide.ensures.0) (rw e at c.is_named.ensures) in
    let a = c.args in
    let e = live_more a.name_sizes.now a.value_sizes.now (a.held - c.loop-i.i) c.loop-i.i a.held
    c.loop-i-test.true refl in
    let q = c.loop-i.invariant.1 in
    let h = c.loop-i-test.true in
    let w = c.wide.ensures.0 in
    let x = c.wide-in-loop-i.ensures.0 in (
      omega arith,
      omega arith,
      λ t. rw (w, x)
          (sym (found_next (tree_on_records t a.owners.now a.name_sizes.now a.value_sizes.now a.held) a.store.now
          a.node
          a.name.now (a.held - c.loop-i.i) c.loop-i.i c.loop-i.at a.held h refl
          (sym (named t) ∙ c.if-is_named.false)) ∙ c.loop-i.invariant.2 t),
    )

pub returns : goal.returns
returns c =
    λ t.
    let a = c.args in
    let h = c.loop-i-test.false in
    let i : c.loop-i.i ≡ a.held = search rules in
    sym (ap (λ (x : Found). x.index)
    (sym (found_none (tree_on_records t a.owners.now a.name_sizes.now a.value_sizes.now a.held) a.store.now a.node
    a.name.now (a.held - c.loop-i.i) c.loop-i.i c.loop-i.at a.held (omega arith)) ∙ c.loop-i.invariant.2 t))
    ∙ i
