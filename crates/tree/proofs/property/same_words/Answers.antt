use Rattle.std.proofs.Common.{◌-◌, refl, sym, ◌∙◌, length, rules}
use Rattle.cells.specs.Laws.Facts.{not_off, not_on}
use Rattle.tree.specs.Laws.Same.{same_before, many_more, many_differ, many_last}
use Rattle.tree.proofs.property.same_words.Goals as goal

pub loop-k-init : goal.loop-k-init
loop-k-init c = (search rules, refl)

pub returns-then-not-same_eight : goal.returns-then-not-same_eight
returns-then-not-same_eight c =
    let a = c.args in
    sym (many_differ a.a.now a.b.now c.loop-k.k 8 (search rules) (search rules) c.same_eight.result c.same_eight.ensures
    (not_off c.same_eight.result c.if-not-same_eight.true-raw))
    ∙ c.loop-k.invariant.1

pub loop-k-preserved : goal.loop-k-preserved
loop-k-preserved c =
    let a = c.args in (
      search rules,
      many_more a.a.now a.b.now c.loop-k.k 8 (search rules) (search rules) c.same_eight.result c.same_eight.ensures
          (not_on c.same_eight.result c.if-not-same_eight.false-raw)
          ∙ c.loop-k.invariant.1,
    )

pub returns : goal.returns
returns c =
    let a = c.args in
    let last = length a.a.now - 8 in
    many_last a.a.now a.b.now last 8 (search rules) (search rules) c.same_eight-2.result c.same_eight-2.ensures (search rules)
    (search rules)
    ∙ same_before a.a.now a.b.now last c.loop-k.k (search rules) (search rules) (search rules) c.loop-k.invariant.1
