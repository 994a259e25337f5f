use Rattle.std.proofs.Common.{◌≡◌, ◌∙◌, List, [], ◌∷◌, ◌&&◌, ℕ, refl, ap, rules}
use borrow.Author.Tests.{tests}
use Rattle.std.specs.List.{list_all}
use Rattle.std.proofs.lemmas.Iterator.{YieldsList-from_slice}
use Rattle.std.proofs.lemmas.Iterator.Search.{all_from_yields_List}
use Rattle.lines.specs.Printed.{printed, all_printed}
use Rattle.lines.proofs.printed.all_printed.Goals as goal

each_printed : (bytes : List ℕ) → list_all printed bytes ≡ all_printed bytes
unfolding all_printed
each_printed [] = refl
each_printed (b ∷ bs) = ap (λ t. printed b && t) (each_printed bs)

pub returns : goal.returns
returns c =
    let bytes = c.args.bytes.now in
    all_from_yields_List printed _ _ _ c.all.ensures.ran (YieldsList-from_slice bytes cc) (λ x b q k. search (rules, tests))
    ∙ each_printed bytes
