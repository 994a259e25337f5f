use Rattle.std.proofs.Common.{◌-◌, length, drop, take_all, length-drop, arith, sym, ap, ◌∙◌, rules}
use Rattle.tree.specs.Path.{any_empty}
use Rattle.tree.specs.Laws.Path.{pathless, headless, headed, no_parts, some_parts}
use Rattle.tree.proofs.lookup.malformed.Goals as goal

pub returns-in-47 : goal.returns-in-47
unfolding any_empty
returns-in-47 c =
    let p = c.args.path.now in
    sym (headed p (search rules) (search rules) ∙ ap any_empty (no_parts p (search rules)))

pub returns-in-47-2 : goal.returns-in-47-2
returns-in-47-2 c =
    let p = c.args.path.now in
    let l = length-drop 1 p in
    let e = take_all (length p - 1) (drop 1 p) (omega arith) in
    (rw e at c.any_empty.ensures) ∙ sym (headed p (search rules) (search rules) ∙ ap any_empty (some_parts p (search rules)))

pub returns-in_default : goal.returns-in_default
returns-in_default c = sym (pathless c.args.path.now (search rules))

pub returns-in_default-2 : goal.returns-in_default-2
returns-in_default-2 c = sym (headless c.args.path.now (search rules))

pub returns-in_default-3 : goal.returns-in_default-3
returns-in_default-3 c = sym (headless c.args.path.now (search rules))
