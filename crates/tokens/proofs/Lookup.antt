-- Rows of the list that are not there. Assumes nothing.
use Prim.Native.Nat.{ℕ, ◌≤◌}
use mathlib.Core.Path.{◌≡◌, refl}
use mathlib.Core.Bool.{Bool, true, false, ◌||◌}
use mathlib.Core.List.{List, [], ◌∷◌, ◌++◌}
use native.Mathlib.Omega.{arith}
use borrow.Author.Tests.{ne_eqb, ltb-true}
use lib.Dec.{T, ltb}
use Rattle.cells.specs.Choice.{pick, find}

-- no key of a table lies from one number to another
abbrev pub clear : {A : Type 0} → ℕ → ℕ → List (ℕ × A) → Bool
clear low high [] = true
clear low high (x ∷ xs) = pick (ltb x.0 low || ltb high x.0) (clear low high xs) false

-- then a number that does is not found
pub find_clear : {A : Type 0} (low high : ℕ) (t : List (ℕ × A)) (d : A) (n : ℕ) → T (clear low high t) → low ≤ n → n ≤ high → find t d n ≡ d
find_clear low high [] d n c l h = refl
find_clear low high (x ∷ xs) d n c l h =
    go (ltb x.0 low) (ltb high x.0) refl refl c (λ r. find_clear low high xs d n r l h)
  where
    apart : (n ≡ x.0 → ⊥) → find xs d n ≡ d → find (x ∷ xs) d n ≡ d
    apart e r = rw (ne_eqb n x.0 e) r

    go : (a b : Bool) → ltb x.0 low ≡ a → ltb high x.0 ≡ b → T (pick (a || b) (clear low high xs) false)
        → (T (clear low high xs) → find xs d n ≡ d) → find (x ∷ xs) d n ≡ d
    go true b p q r f = apart (λ e. omega (arith, ltb-true x.0 low p)) (f r)
    go false true p q r f = apart (λ e. omega (arith, ltb-true high x.0 q)) (f r)
    go false false p q r f = absurd r

-- a list in two parts: what is not found in the first is looked up in the second
pub find_append : {A : Type 0} (s t : List (ℕ × A)) (d : A) (n : ℕ) → find (s ++ t) d n ≡ find s (find t d n) n
find_append [] t d n = refl
find_append (x ∷ xs) t d n = rw (find_append xs t d n)
