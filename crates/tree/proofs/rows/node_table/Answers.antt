use Rattle.std.proofs.Common.{Err, true≢false, ◌≡◌, ◌&&◌, length, sym, ◌∙◌, rules, eqb, eq-eqb, ne_eqb}
use borrow.Author.Tests.{tests}
use Rattle.rom.specs.Refusal.{refusal_number}
use Rattle.rom.specs.Laws.Refusal.{refused_so}
use Rattle.rom.specs.Sizes.{nodes_most}
use Rattle.tree.specs.Rows.{table_refusal}
use Rattle.tree.specs.Laws.Trees.{whole_facts}
use Rattle.tree.specs.Laws.Rows.{column_none, column_set, column_all, table_good}
use Rattle.tree.proofs.rows.node_table.Goals.{then-parents-eq-NODES_MOST, else-parents-eq-NODES_MOST}
use Rattle.tree.proofs.rows.node_table.Goals as goal

pub returns-in_err-judge : goal.returns-in_err-judge
unfolding table_refusal
returns-in_err-judge c =
    let a = c.args in
    let why = c.in_err-judge.field-0.0 in
    let is : c.from_residual.result ≡ Err why = search rules in
    let n = ne_eqb (refusal_number why) 0 (refused_so why) in
    let sized : c.if-parents-eq-NODES_MOST.sized ≡ eqb (length a.parents.now) nodes_most && eqb (length a.counts.now) nodes_most =
    elim c.if-parents-eq-NODES_MOST.branch [
      | then-parents-eq-NODES_MOST w ↦ rw (eq-eqb (length a.parents.now) nodes_most w.if-parents-eq-NODES_MOST.true) w.sized-is
      | else-parents-eq-NODES_MOST w ↦
          let n = ne_eqb (length a.parents.now) nodes_most w.if-parents-eq-NODES_MOST.false in rw n (w.sized-is ∙ n)
    ] in
    rw is (rw (← sized) c.in_err-judge.ensures, rw n, rw n)

pub loop-k-init : goal.loop-k-init
loop-k-init c =
    let a = c.args in
    let sized : (length a.parents.now ≡ nodes_most) × (length a.counts.now ≡ nodes_most) =
    elim c.if-parents-eq-NODES_MOST.branch [
      | then-parents-eq-NODES_MOST w ↦ (w.if-parents-eq-NODES_MOST.true, search (rules, tests))
      | else-parents-eq-NODES_MOST w ↦
          let n = ne_eqb (length a.parents.now) nodes_most w.if-parents-eq-NODES_MOST.false in
          absurd (true≢false (sym c.in_ok-judge.ensures.0 ∙ w.sized-is ∙ n))
    ] in
    (sized.0, sized.1, column_none (λ r. r.parent) a.tree a.parents.now, column_none (λ r. r.count) a.tree a.counts.now)

pub row_of-row-requires : goal.row_of-row-requires
row_of-row-requires c = let w = whole_facts c.args.tree c.in_ok-judge.ensures.1 in (search rules, w.held_most)

pub loop-k-preserved : goal.loop-k-preserved
loop-k-preserved c =
    let t = c.args.tree in
    let e = c.row_of-row.ensures in (
      search rules,
      search rules,
      rw e (column_set (λ r. r.parent) t c.loop-k.parents c.loop-k.k (search rules) c.loop-k.invariant.2),
      rw e (column_set (λ r. r.count) t c.loop-k.counts c.loop-k.k (search rules) c.loop-k.invariant.3),
    )

pub returns : goal.returns
returns c =
    let a = c.args in
    let t = a.tree in
    let e : c.loop-k.k ≡ nodes_most = search rules in
    let p : length a.parents.now ≡ nodes_most = sym c.loop-k.auto.parents ∙ c.loop-k.invariant.0 in
    let q : length a.counts.now ≡ nodes_most = sym c.loop-k.auto.counts ∙ c.loop-k.invariant.1 in (
      sym (table_good t a.parents.now a.counts.now p q c.in_ok-judge.ensures.1),
      column_all (λ r. r.parent) t c.loop-k.parents nodes_most (search rules) (rw e at c.loop-k.invariant.2),
      column_all (λ r. r.count) t c.loop-k.counts nodes_most (search rules) (rw e at c.loop-k.invariant.3),
    )
