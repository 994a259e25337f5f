use Rattle.std.proofs.Common.{◌≡◌, ℕ, List, [], ◌∷◌, ◌++◌, refl, ap}
use Rattle.lines.specs.Digits.{hex_pair, hex_of}
use Rattle.lines.specs.Fields.{each_as}
use Rattle.lines.proofs.digits.hex.Goals as goal

each_hex : (bs : List ℕ) → each_as hex_pair bs ≡ hex_of bs
unfolding each_as hex_of
each_hex [] = refl
each_hex (b ∷ bs) = ap (λ t. hex_pair b ++ t) (each_hex bs)

pub returns : goal.returns
returns c = rw each_hex at c.each.ensures
