use Rattle.std.proofs.Common.{◌≡◌, true, false, not, ap, rules}
use borrow.Author.Tests.{tests}
use Rattle.std.proofs.lemmas.Iterator.{cases_from_all, YieldsList-from_slice}
use Rattle.tree.specs.Property.{name_byte}
use Rattle.tree.proofs.Lists.{name_told, name_sized, name_unsized}
use Rattle.tree.proofs.property.bad_name.Goals as goal

pub returns-then-not-contains : goal.returns-then-not-contains
returns-then-not-contains c =
    let n : c.contains.result ≡ false = search (rules, tests) in
    rw (n, name_unsized c.args.name.now (λ h g. let t : c.contains.result ≡ true = search (rules, tests) in search rules))

pub returns-else-not-contains : goal.returns-else-not-contains
returns-else-not-contains c =
    let n = c.args.name.now in
    rw (name_sized n (search (rules, tests)) (search (rules, tests)))
    (ap not (name_told n c.all.result
    (cases_from_all _ _ _ (λ b. name_byte b ≡ true) (λ b. name_byte b ≡ false) c.all.ensures.ran (YieldsList-from_slice n cc)
    (λ x q k. search (rules, tests)) (λ x q k. search (rules, tests)))))
