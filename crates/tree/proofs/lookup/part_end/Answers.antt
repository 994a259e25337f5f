use Rattle.std.proofs.Common.{refl, arith, rules}
use Rattle.tree.specs.Laws.Path.{end_slash, end_next, end_last}
use Rattle.tree.proofs.lookup.part_end.Goals as goal

pub loop-end-init : goal.loop-end-init
loop-end-init c = (search rules, search rules, refl)

pub returns-then-path-end-eq-SLASH : goal.returns-then-path-end-eq-SLASH
returns-then-path-end-eq-SLASH c =
    let args = c.args in
    let e = end_slash args.path.now c.loop-end.end (search rules) (search rules) in
    (omega arith, search rules)

pub loop-end-preserved : goal.loop-end-preserved
loop-end-preserved c =
    let args = c.args in
    let e = end_next args.path.now c.loop-end.end (search rules) c.if-path-end-eq-SLASH.false in
    (search rules, search rules, omega arith)

pub returns : goal.returns
returns c =
    let args = c.args in
    let e = end_last args.path.now c.loop-end.end (search rules) in
    (omega arith, search rules)
