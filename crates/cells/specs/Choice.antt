-- A choice by a test, a table looked up by a number, and a number sought in a list: the forms that the definitions of every crate are
-- made of. Assumes nothing.
use Rattle.std.specs.Prelude.{ℕ, Bool, true, false, ◌||◌, List, [], ◌∷◌, ◌==◌}

-- the first where the test holds, else the second
abbrev pub pick {ℓ} : {A : Type ℓ} → Bool → A → A → A
pick true a b = a
pick false a b = b

-- the entry of a table at a number, or what is given for none
abbrev pub find {ℓ} : {A : Type ℓ} → List (ℕ × A) → A → ℕ → A
find [] d n = d
find (x ∷ xs) d n = pick (n == x.0) x.1 (find xs d n)

-- whether a number is one of these
abbrev pub among : ℕ → List ℕ → Bool
among n [] = false
among n (k ∷ ks) = n == k || among n ks
