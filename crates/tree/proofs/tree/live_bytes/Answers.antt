use Rattle.std.proofs.Common.{◌-◌, ◌≡◌, refl, arith, rules}
use Rattle.tree.specs.Laws.Trees.{live_more, live_none}
use Rattle.tree.proofs.tree.live_bytes.Goals as goal

pub loop-i-init : goal.loop-i-init
loop-i-init c = (search rules, search rules, let e : c.args.held - 0 ≡ c.args.held = omega arith in rw e (omega arith))

pub loop-i-preserved : goal.loop-i-preserved
loop-i-preserved c =
    let a = c.args in (
      search rules,
      search rules,
      let e = live_more a.name_sizes.now a.value_sizes.now (a.held - c.loop-i.i) c.loop-i.i a.held (search rules) refl in
          omega arith,
    )

pub returns : goal.returns
returns c =
    let a = c.args in
    let e = live_none a.name_sizes.now a.value_sizes.now (a.held - c.loop-i.i) c.loop-i.i (search rules) in
    omega arith
