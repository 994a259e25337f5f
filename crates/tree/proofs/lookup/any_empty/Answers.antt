use Rattle.std.proofs.Common.{ℕ, List, ◌≡◌, length, eqb, rules}
use Rattle.std.specs.List.{slice_split}
use Rattle.std.proofs.lemmas.Iterator.{cases_from_any}
use Rattle.std.proofs.lemmas.Iterator.Splits.{YieldsList-from_slice_split}
use borrow.Author.Tests.{tests}
use Rattle.tree.specs.Path.{slash}
use Rattle.tree.proofs.Lists.{split_listed, empty_told}
use Rattle.tree.proofs.lookup.any_empty.Goals as goal

pub returns : goal.returns
returns c =
    let p = c.args.parts.now in
    rw (split_listed p)
    (empty_told (slice_split (λ b. eqb b slash) p) c.any.result
    (cases_from_any _ _ _ (λ (part : List ℕ). length part ≡ 0) (λ (part : List ℕ). length part ≡ 0 → ⊥) c.any.ensures.ran
    (YieldsList-from_slice_split _ (λ b. eqb b slash) p c.split.ensures.rest c.split.ensures.done c.split.ensures.closure
    (λ x r q k. search (rules, tests)))
    (λ x q k. search (rules, tests)) (λ x q k. search (rules, tests))))
