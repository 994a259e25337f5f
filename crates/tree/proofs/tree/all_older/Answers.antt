use Rattle.std.proofs.Common.{◌≡◌, true, false, refl, arith, rules}
use Rattle.std.proofs.lemmas.Iterator.{cases_from_all, YieldsList-from_range}
use borrow.Author.Tests.{tests}
use Rattle.tree.specs.Whole.{older_among}
use Rattle.tree.proofs.Lists.{every_told}
use Rattle.tree.proofs.tree.all_older.Goals as goal

pub returns : goal.returns
returns c =
    let a = c.args in
    every_told a.nodes (older_among a.parents.now) c.all.result
    (cases_from_all _ _ _ (λ k. older_among a.parents.now k ≡ true) (λ k. older_among a.parents.now k ≡ false) c.all.ensures.ran
    (YieldsList-from_range 0 a.nodes a.nodes refl (omega arith)) (λ x q k. search (rules, tests)) (λ x q k. search (rules, tests)))
