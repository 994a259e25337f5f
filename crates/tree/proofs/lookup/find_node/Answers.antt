use Rattle.std.proofs.Common.{true, false, ◌≡◌, sym, ap, ◌∙◌, arith, rules}
use borrow.Author.Tests.{not-true, not-false}
use Rattle.tree.specs.Whole.{whole_tree}
use Rattle.tree.specs.Path.{malformed, down_from}
use Rattle.tree.specs.Laws.Trees.{whole_facts}
use Rattle.tree.specs.Laws.Path.{path_least, no_parts, some_parts, down_end, node_size, node_damaged, node_malformed, node_down}
use Rattle.tree.proofs.lookup.find_node.Goals as goal

pub returns-then-store-ne-STORE_SIZE : goal.returns-then-store-ne-STORE_SIZE
returns-then-store-ne-STORE_SIZE c =
    let a = c.args in
    sym (node_size a.tree a.store.now a.path.now c.if-store-ne-STORE_SIZE.true)

pub returns-then-not-is_whole : goal.returns-then-not-is_whole
returns-then-not-is_whole c =
    let a = c.args in
    sym (node_damaged a.tree a.store.now a.path.now c.if-store-ne-STORE_SIZE.false
    (sym c.is_whole.ensures ∙ not-true _ c.if-not-is_whole.true-raw))

pub returns-then-malformed : goal.returns-then-malformed
returns-then-malformed c =
    let whole : whole_tree c.args.tree ≡ true = sym c.is_whole.ensures ∙ not-false _ c.if-not-is_whole.false-raw in
    let a = c.args in
    sym (node_malformed a.tree a.store.now a.path.now c.if-store-ne-STORE_SIZE.false whole
    (sym c.malformed.ensures ∙ c.if-malformed.true))

pub returns-then-path-eq1 : goal.returns-then-path-eq1
returns-then-path-eq1 c =
    let whole : whole_tree c.args.tree ≡ true = sym c.is_whole.ensures ∙ not-false _ c.if-not-is_whole.false-raw in
    let formed : malformed c.args.path.now ≡ false = sym c.malformed.ensures ∙ c.if-malformed.false in
    let a = c.args in
    sym (
    node_down a.tree a.store.now a.path.now c.if-store-ne-STORE_SIZE.false whole formed
    ∙ ap (down_from a.tree a.store.now 0) (no_parts a.path.now c.if-path-eq1.true) ∙ down_end a.tree a.store.now 0)

pub down-requires : goal.down-requires
down-requires c =
    let whole : whole_tree c.args.tree ≡ true = sym c.is_whole.ensures ∙ not-false _ c.if-not-is_whole.false-raw in
    let formed : malformed c.args.path.now ≡ false = sym c.malformed.ensures ∙ c.if-malformed.false in
    let a = c.args in
    let n = whole_facts a.tree whole in
    let l = n.live_most in
    let z = c.if-store-ne-STORE_SIZE.false in
    (n.nodes_most_lem, n.held_most, omega arith, path_least a.path.now formed)

pub returns : goal.returns
returns c =
    let whole : whole_tree c.args.tree ≡ true = sym c.is_whole.ensures ∙ not-false _ c.if-not-is_whole.false-raw in
    let formed : malformed c.args.path.now ≡ false = sym c.malformed.ensures ∙ c.if-malformed.false in
    let a = c.args in
    let l = path_least a.path.now formed in
    c.down.ensures
    ∙ sym (
    node_down a.tree a.store.now a.path.now c.if-store-ne-STORE_SIZE.false whole formed
    ∙ ap (down_from a.tree a.store.now 0) (some_parts a.path.now (search rules)))
