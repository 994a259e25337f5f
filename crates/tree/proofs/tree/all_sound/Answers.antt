use Rattle.std.proofs.Common.{ℕ, Bool, ◌≡◌, true, false, refl, arith, rules}
use Rattle.std.proofs.lemmas.Iterator.{cases_from_all, YieldsList-from_range}
use borrow.Author.Tests.{tests}
use Rattle.tree.specs.Whole.{sound_among}
use Rattle.tree.proofs.Lists.{every_told}
use Rattle.tree.proofs.tree.all_sound.Goals as goal

pub returns : goal.returns
returns c =
    let a = c.args in
    let sound : ℕ → Bool = sound_among a.nodes a.owners.now a.name_sizes.now a.value_sizes.now in
    every_told a.held sound c.all.result
    (cases_from_all _ _ _ (λ k. sound k ≡ true) (λ k. sound k ≡ false) c.all.ensures.ran
    (YieldsList-from_range 0 a.held a.held refl (omega arith)) (λ x q k. search (rules, tests)) (λ x q k. search (rules, tests)))
