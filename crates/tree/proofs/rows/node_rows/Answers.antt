use Rattle.std.proofs.Common.{Err, ◌≡◌, length, sym, rules, ne_eqb}
use borrow.Author.Tests.{tests}
use Rattle.rom.specs.Refusal.{refusal_number}
use Rattle.rom.specs.Laws.Refusal.{refused_so}
use Rattle.rom.specs.Sizes.{nodes_most}
use Rattle.tree.specs.Rows.{rows_refusal}
use Rattle.tree.specs.Laws.Trees.{whole_facts}
use Rattle.tree.specs.Laws.Rows.{column_none, column_set, column_all, rows_good}
use Rattle.tree.proofs.rows.node_rows.Goals as goal

pub returns-in_err-judge : goal.returns-in_err-judge
unfolding rows_refusal
returns-in_err-judge c =
    let why = c.in_err-judge.field-0.0 in
    let is : c.from_residual.result ≡ Err why = search rules in
    let n = ne_eqb (refusal_number why) 0 (refused_so why) in
    rw is (c.in_err-judge.ensures, rw n)

pub loop-k-init : goal.loop-k-init
loop-k-init c = let a = c.args in (search (rules, tests), column_none (λ r. r) a.tree a.rows.now)

pub row_of-requires : goal.row_of-requires
row_of-requires c = let w = whole_facts c.args.tree c.in_ok-judge.ensures.1 in (search rules, w.held_most)

pub loop-k-preserved : goal.loop-k-preserved
loop-k-preserved c = (
  search rules,
  rw c.row_of.ensures (column_set (λ r. r) c.args.tree c.loop-k.rows c.loop-k.k (search rules) c.loop-k.invariant.1),
)

pub returns : goal.returns
returns c =
    let a = c.args in
    let n : length a.rows.now ≡ nodes_most = search (rules, tests) in
    let e : c.loop-k.k ≡ nodes_most = search rules in (
      sym (rows_good a.tree (length a.rows.now) n c.in_ok-judge.ensures.1),
      column_all (λ r. r) a.tree c.loop-k.rows nodes_most (search rules) (rw e at c.loop-k.invariant.1),
    )
