use Rattle.std.proofs.Common.{true, ◌≡◌, sym, ◌∙◌, arith, eq-eqb, ne_eqb}
use borrow.Author.Tests.{not-false}
use Rattle.tree.specs.Whole.{whole_tree}
use Rattle.tree.specs.Laws.Trees.{whole_facts}
use Rattle.lines.specs.Explain.{read_lines}
use Rattle.lines.specs.Laws.Wrote.{wrote_none}
use Rattle.lines.proofs.explain.read_lines.Goals as goal

pub returns-then-store-ne-STORE_SIZE : goal.returns-then-store-ne-STORE_SIZE
unfolding read_lines
returns-then-store-ne-STORE_SIZE c = rw (ne_eqb _ _ c.if-store-ne-STORE_SIZE.true) wrote_none

pub returns-then-not-is_whole : goal.returns-then-not-is_whole
unfolding read_lines
returns-then-not-is_whole c = rw (eq-eqb _ _ c.if-store-ne-STORE_SIZE.false, sym c.is_whole.ensures ∙ c.if-not-is_whole.true) wrote_none

pub own_lines-requires : goal.own_lines-requires
unfolding read_lines
own_lines-requires c =
    let whole : whole_tree c.args.tree ≡ true = sym c.is_whole.ensures ∙ not-false _ c.if-not-is_whole.false-raw in
    let args = c.args in
    let n = whole_facts args.tree whole in
    (n.held_most, omega (arith, n.live_most))

pub returns : goal.returns
unfolding read_lines
returns c = rw (eq-eqb _ _ c.if-store-ne-STORE_SIZE.false, sym c.is_whole.ensures ∙ c.if-not-is_whole.false) c.own_lines.ensures
