use Rattle.std.proofs.Common.{◌-◌, ◌≡◌, arith, rules}
use Rattle.tree.specs.Laws.Rows.{count_here, count_next, count_none}
use Rattle.tree.proofs.rows.count_of.Goals.{then-owners-i, else-owners-i}
use Rattle.tree.proofs.rows.count_of.Goals as goal

pub loop-i-init : goal.loop-i-init
loop-i-init c = (search rules, let e : c.args.held - 0 ≡ c.args.held = omega arith in rw e (omega arith))

pub loop-i-preserved : goal.loop-i-preserved
loop-i-preserved c =
    let a = c.args in
    elim c.if-owners-i.branch [
      | then-owners-i w ↦
          let e = count_here a.owners.now a.node a.held c.loop-i.i (search rules) w.if-owners-i.true in
          (omega arith, omega arith)
      | else-owners-i w ↦
          let e = count_next a.owners.now a.node a.held c.loop-i.i (search rules) w.if-owners-i.false in
          (omega arith, omega arith)
    ]

pub returns : goal.returns
returns c =
    let a = c.args in
    let e = count_none a.owners.now a.node a.held c.loop-i.i (search rules) in
    omega arith
