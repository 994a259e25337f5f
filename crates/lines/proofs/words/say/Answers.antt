use Rattle.std.proofs.Common.{◌≡◌, ℕ, List, [], ◌∷◌, refl, ap}
use Rattle.lines.specs.Fields.{each_as}
use Rattle.lines.proofs.words.say.Goals as goal

each_itself : (bs : List ℕ) → each_as (λ b. b ∷ []) bs ≡ bs
unfolding each_as
each_itself [] = refl
each_itself (b ∷ bs) = ap (λ t. b ∷ t) (each_itself bs)

pub returns : goal.returns
returns c = rw each_itself at c.each.ensures
