use Rattle.std.proofs.Common.{◌≡◌, refl, arith, rules}
use Rattle.rom.specs.Joints.Sum.{apart_sum}
use Rattle.rom.proofs.Spreads.{one_apart}
use Rattle.rom.proofs.sum.apart_sum.Goals as goal

pub loop-k-init : goal.loop-k-init
unfolding apart_sum
loop-k-init c = (omega arith, search rules, refl)

pub overflow_mul-at : goal.overflow_mul-at
overflow_mul-at c =
    let b = c.requires.1.each c.loop-k.k (search rules) (search rules) in
    record { fits = omega arith }

pub bounds-rom-at : goal.bounds-rom-at
bounds-rom-at c = c.requires.1.each c.loop-k.k (search rules) (search rules)

pub loop-k-preserved : goal.loop-k-preserved
loop-k-preserved c =
    let l = c.loop-k in
    let a = c.args in (
      search rules,
      search rules,
      rw (c.from-sum.ensures)
          (one_apart a.apart a.rom.now l.k l.sum l.invariant.0 l.invariant.2),
    )

pub returns : goal.returns
returns c =
    let l = c.loop-k in
    let a = c.args in
    let e : l.k ≡ a.end = search rules in
    rw (← e) l.invariant.2
