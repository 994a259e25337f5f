use Rattle.rom.specs.Words.{letters_of}
use Rattle.std.proofs.Common.{◌<◌, true, ◌≡◌, refl, sym, ◌∙◌, arith, length, eq-eqb, ne_eqb}
use borrow.Author.Tests.{not-false}
use Rattle.tree.specs.Whole.{whole_tree}
use Rattle.tree.specs.Laws.Trees.{whole_facts}
use Rattle.lines.specs.Lines.{run_text}
use Rattle.lines.specs.Told.{run_told}
use Rattle.lines.specs.Laws.Fits.{fits}
use Rattle.lines.specs.Laws.Texts.{told_whole}
use Rattle.lines.specs.Wrote.{Wrote}
use Rattle.lines.specs.Laws.Wrote.{wrote_then, wrote_whole, length_wrote}
use Rattle.lines.proofs.telling.run_text.Goals as goal

pub returns-then-text-ne-TEXT_SIZE : goal.returns-then-text-ne-TEXT_SIZE
unfolding run_told
returns-then-text-ne-TEXT_SIZE c = rw (ne_eqb _ _ c.if-text-ne-TEXT_SIZE.true)

pub returns-then-store-ne-STORE_SIZE : goal.returns-then-store-ne-STORE_SIZE
unfolding run_told
returns-then-store-ne-STORE_SIZE c = rw (eq-eqb _ _ c.if-text-ne-TEXT_SIZE.false, ne_eqb _ _ c.if-store-ne-STORE_SIZE.true)

pub returns-then-not-is_whole : goal.returns-then-not-is_whole
unfolding run_told
returns-then-not-is_whole c = rw (
  eq-eqb _ _ c.if-text-ne-TEXT_SIZE.false,
  eq-eqb _ _ c.if-store-ne-STORE_SIZE.false,
  sym c.is_whole.ensures
      ∙ c.if-not-is_whole.true,
)

pub node_lines-at-requires : goal.node_lines-at-requires
unfolding run_told
node_lines-at-requires c =
    let whole : whole_tree c.args.tree ≡ true = sym c.is_whole.ensures ∙ not-false _ c.if-not-is_whole.false-raw in
    let args = c.args in
    let w = whole in
    let n = whole_facts args.tree w in
    (n.nodes_most_lem, n.held_most, omega (arith, n.live_most))

pub bounds-text-at : goal.bounds-text-at
unfolding run_told run_text letters_of
bounds-text-at c =
    let whole : whole_tree c.args.tree ≡ true = sym c.is_whole.ensures ∙ not-false _ c.if-not-is_whole.false-raw in
    let listing : let a = c.args in Wrote a.text.now c.closing_line-at.new.text 0 c.closing_line-at.result
    (run_text a.tree a.store.now a.steps a.number) = wrote_then c.say-at.ensures
    (wrote_then c.node_lines-at.ensures (wrote_then c.steps_line-at.ensures c.closing_line-at.ensures)) in
    let room : let a = c.args in length (run_text a.tree a.store.now a.steps a.number) < length a.text.now = let a = c.args in let s =
    c.if-text-ne-TEXT_SIZE.false in let f = fits a.tree a.store.now a.steps a.number (whole) in omega arith in
    let r = room in
    let e = wrote_whole (omega arith) listing in
    let l = length_wrote listing in
    omega arith

pub returns : goal.returns
unfolding run_told run_text letters_of
returns c =
    let whole : whole_tree c.args.tree ≡ true = sym c.is_whole.ensures ∙ not-false _ c.if-not-is_whole.false-raw in
    let listing : let a = c.args in Wrote a.text.now c.closing_line-at.new.text 0 c.closing_line-at.result
    (run_text a.tree a.store.now a.steps a.number) = wrote_then c.say-at.ensures
    (wrote_then c.node_lines-at.ensures (wrote_then c.steps_line-at.ensures c.closing_line-at.ensures)) in
    let room : let a = c.args in length (run_text a.tree a.store.now a.steps a.number) < length a.text.now = let a = c.args in let s =
    c.if-text-ne-TEXT_SIZE.false in let f = fits a.tree a.store.now a.steps a.number (whole) in omega arith in
    rw (eq-eqb _ _ c.if-text-ne-TEXT_SIZE.false, eq-eqb _ _ c.if-store-ne-STORE_SIZE.false, whole) (told_whole room listing refl)
