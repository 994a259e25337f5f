use Rattle.std.proofs.Common.{◌+◌, ◌-◌, false, ◌++◌, ◌≡◌, refl, arith, rules}
use Rattle.tree.specs.Held.{held_of}
use Rattle.tree.specs.Whole.{parent_of}
use Rattle.lines.specs.Lines.{node_line, own_lines, node_lines}
use Rattle.lines.specs.Laws.Texts.{nodes_more, nodes_none}
use Rattle.lines.specs.Laws.Wrote.{ahead_all, ahead_on, ahead_none}
use Rattle.lines.proofs.lines.node_lines.Goals as goal

pub loop-k-init : goal.loop-k-init
loop-k-init c = let n = c.args.tree.nodes in let e : n - 0 ≡ n = omega arith in rw e ahead_all

pub loop-k-preserved : goal.loop-k-preserved
loop-k-preserved c =
    let k = c.loop-k.k in
    let a = c.args in
    let t = a.tree in
    let ps = held_of t a.store.now in
    let rest = node_lines t ps (t.nodes - (k + 1)) (k + 1) in
    let all = rw (nodes_more t ps (t.nodes - k) k t.nodes (search rules) refl) at c.loop-k.invariant in
    let own = ahead_on (node_line k (parent_of t k)) (own_lines false ps k ++ rest) all c.node_line-own.ensures in
    ahead_on (own_lines false ps k) rest own c.own_lines-end.ensures

pub returns : goal.returns
returns c =
    let t = c.args.tree in
    ahead_none (rw (nodes_none t (held_of t c.args.store.now) (t.nodes - c.loop-k.k) c.loop-k.k (search rules)) at c.loop-k.invariant)
