-- What is known where a test chose: a flag read as a fact, what holds of a choice by a test, and of the default of a table.
-- Assumes nothing.
use Rattle.std.specs.Prelude.{◌≡◌, ℕ, ◌<◌, ◌≤◌, Bool, true, false, not, T, ◌≢◌, List, [], ◌∷◌, ◌==◌, nat_le, nat_lt, refl}
use Rattle.std.proofs.Common.{arith, T_not, ltb→lt, nltb→le, leb→le, eqb→eq, lt→ltb, le→leb, ne_eqb}
use Rattle.std.proofs.Math.Dec.{eqb_refl, nleb→lt}
use Rattle.std.proofs.Math.Arith.{le→nltb}
use Rattle.cells.specs.Choice.{pick, find}

pub neqb→ne : (m n : ℕ) → T (not (m == n)) → m ≢ n
neqb→ne m n t e = T_not (m == n) t (rw e (eqb_refl n))

-- for omega: what each test says where it holds, and where it does not
pub ruleset tests = (ltb→lt, nltb→le, leb→le, nleb→lt, eqb→eq, neqb→ne)

-- what holds of both ways of a choice holds of the way that its test takes: a choice by `elim`, and by `pick`
pub when_is {ℓ ℓ'} : {X : Type ℓ} (Q : X → Type ℓ') (b : Bool) (x y : X) → (T b → Q x) → (T (not b) → Q y)
    → Q (elim b [ true ↦ x | false ↦ y ])
when_is Q true x y u v = u tt
when_is Q false x y u v = v tt

pub pick_is {ℓ ℓ'} : {X : Type ℓ} (Q : X → Type ℓ') (b : Bool) (x y : X) → (T b → Q x) → (T (not b) → Q y) → Q (pick b x y)
pick_is Q true x y u v = u tt
pick_is Q false x y u v = v tt

-- a choice by an order: the first way below, the other from there on
pub chosen_below {ℓ} : {X : Type ℓ} (x y : X) (m n : ℕ) → m < n → elim (nat_lt m n) [ true ↦ x | false ↦ y ] ≡ x
chosen_below x y m n h = when_is (λ z. z ≡ x) (nat_lt m n) x y (λ t. refl) (λ t. absurd (omega (arith, tests)))

pub chosen_from {ℓ} : {X : Type ℓ} (x y : X) (m n : ℕ) → n ≤ m → elim (nat_lt m n) [ true ↦ x | false ↦ y ] ≡ y
chosen_from x y m n h = when_is (λ z. z ≡ y) (nat_lt m n) x y (λ t. absurd (omega (arith, tests))) (λ t. refl)

-- two tests that hold of the same numbers are one
same_test : (s t : Bool) → (T s → T t) → (T t → T s) → s ≡ t
same_test true true f g = refl
same_test true false f g = absurd (f tt)
same_test false true f g = absurd (g tt)
same_test false false f g = refl

pub same_ltb : (a b c d : ℕ) → (a < b → c < d) → (c < d → a < b) → nat_lt a b ≡ nat_lt c d
same_ltb a b c d f g =
    same_test (nat_lt a b) (nat_lt c d) (λ t. lt→ltb c d (f (ltb→lt a b t))) (λ t. lt→ltb a b (g (ltb→lt c d t)))

pub leb_ltb : (a b : ℕ) → nat_le a b ≡ not (nat_lt b a)
leb_ltb a b = same_test (nat_le a b) (not (nat_lt b a)) (λ t. le→nltb b a (leb→le a b t)) (λ t. le→leb a b (nltb→le b a t))

-- The default arm of a `match` on a number, against a table: what the arm knows is that the number is none of the keys, P being
-- what is known besides.
abbrev pub Rest {ℓ} : {A : Type ℓ} → Type 0 → List (ℕ × A) → ℕ → Type 0
Rest P [] n = P
Rest P (x ∷ xs) n = Rest (P × (n ≢ x.0)) xs n

rest_first {ℓ} : {A : Type ℓ} (P : Type 0) (t : List (ℕ × A)) (n : ℕ) → Rest P t n → P
rest_first P [] n r = r
rest_first P (x ∷ xs) n r = (rest_first (P × (n ≢ x.0)) xs n r).0

pub find_none {ℓ} : {A : Type ℓ} (P : Type 0) (t : List (ℕ × A)) (d : A) (n : ℕ) → Rest P t n → find t d n ≡ d
find_none P [] d n r = refl
find_none P (x ∷ xs) d n r =
    let q = P × (n ≢ x.0) in
    rw (ne_eqb n x.0 (rest_first q xs n r).1) (find_none q xs d n r)
