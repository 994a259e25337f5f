-- The first of a list of tests that holds, and an entry of a table at its own number. Assumes nothing.
use Rattle.std.specs.Prelude.{ℕ, ◌≡◌, refl, Bool, true, false, not, ◌&&◌, List, [], ◌∷◌, T, eqb}
use Rattle.std.proofs.Common.{T_not, eq-eqb, eqb-true}
use Rattle.cells.specs.Choice.{pick, find}
use Rattle.cells.specs.Laws.Tests.{pick_is}
use Rattle.cells.specs.Laws.Facts.{holds, both_hold, join_hold}
use Rattle.state.specs.Refusals.{first_of}

-- ---- the first of a list of tests that holds: none does where it is 0, if each that holds tells another number
abbrev pub Tell : List (ℕ × Bool) → Type 0
Tell [] = Unit {0}
Tell (x ∷ xs) = (T x.1 → x.0 ≡ 0 → ⊥) × Tell xs

abbrev pub None : List (ℕ × Bool) → Type 0
None [] = Unit {0}
None (x ∷ xs) = T (not x.1) × None xs

pub none_held : (xs : List (ℕ × Bool)) → Tell xs → first_of xs ≡ 0 → None xs
none_held [] h e = tt
none_held (x ∷ xs) h e = by x.1 h.0 (none_held xs h.1) e
  where
    by : (b : Bool) → (T b → x.0 ≡ 0 → ⊥) → (first_of xs ≡ 0 → None xs) → pick b x.0 (first_of xs) ≡ 0 → T (not b) × None xs
    by true f g e = absurd (f tt e)
    by false f g e = (tt, g e)

-- a number that no test tells where it holds is not the first's
abbrev pub untold : ℕ → List (ℕ × Bool) → Bool
untold n [] = true
untold n (x ∷ xs) = not (eqb x.0 n && x.1) && untold n xs

pub never_told : (n : ℕ) (xs : List (ℕ × Bool)) → T (untold n xs) → (0 ≡ n → ⊥) → first_of xs ≡ n → ⊥
never_told n [] h z = z
never_told n (x ∷ xs) h z =
    let same = eqb x.0 n in
    let (a, b) = both_hold (not (same && x.1)) (untold n xs) h in
    pick_is (λ (m : ℕ). m ≡ n → ⊥) x.1 x.0 (first_of xs)
    (λ t e. T_not (same && x.1) a (join_hold same x.1 (holds same (eq-eqb x.0 n e)) t)) (λ t. never_told n xs b z)

-- ---- an entry of a table at its own number
-- the facts of a list's entries, one behind the other
infixr 20 ◌▸◌
pub ◌▸◌ : {A B : Type 0} → A → B → A × B
◌▸◌ a b = (a, b)

abbrev pub EachAt : {A : Type 0} → (A → Type 0) → ℕ → List (ℕ × A) → Type 0
EachAt Q n [] = Unit {0}
EachAt Q n (x ∷ xs) = (n ≡ x.0 → Q x.1) × EachAt Q n xs

pub find_at : {A : Type 0} (Q : A → Type 0) (t : List (ℕ × A)) (d : A) (n : ℕ) → EachAt Q n t → Q d → Q (find t d n)
find_at Q [] d n e q = q
find_at Q (x ∷ xs) d n e q = by (eqb n x.0) refl (find_at Q xs d n e.1 q)
  where
    by : (b : Bool) → eqb n x.0 ≡ b → Q (find xs d n) → Q (pick b x.1 (find xs d n))
    by true k r = e.0 (eqb-true n x.0 k)
    by false k r = r
