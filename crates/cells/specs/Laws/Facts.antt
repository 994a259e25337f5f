-- A test as a fact and as an equation, tests joined and denied, and a choice by a test that is known. Assumes nothing.
use Rattle.std.specs.Prelude.{◌≡◌, ℕ, Bool, true, false, not, ◌&&◌, ◌||◌, T, ◌==◌, refl}
use Rattle.std.proofs.Common.{sym, subst, true≢false, T_not, eqb→eq}

-- ---- a test as a fact, and as an equation
pub holds : (b : Bool) → b ≡ true → T b
holds true e = tt
holds false e = subst T (sym e) tt

pub fails : (b : Bool) → b ≡ false → T (not b)
fails true e = subst (λ (x : Bool). T (not x)) (sym e) tt
fails false e = tt

pub is_true : (b : Bool) → T b → b ≡ true
is_true true t = refl
is_true false t = absurd t

pub is_false : (b : Bool) → T (not b) → b ≡ false
is_false true t = absurd t
is_false false t = refl

pub never_true : (b : Bool) → (T b → ⊥) → b ≡ false
never_true true f = absurd (f tt)
never_true false f = refl

-- one that was asked by its opposite
pub not_off : (b : Bool) → not b ≡ true → b ≡ false
not_off true t = sym t
not_off false t = refl

pub not_on : (b : Bool) → not b ≡ false → b ≡ true
not_on true t = refl
not_on false t = sym t

-- ---- joined tests
pub both_hold : (a b : Bool) → T (a && b) → T a × T b
both_hold true b t = (tt, t)
both_hold false b t = absurd t

pub and_first : (a b : Bool) → a && b ≡ true → a ≡ true
and_first a b e = is_true a (both_hold a b (holds (a && b) e)).0

pub and_second : (a b : Bool) → a && b ≡ true → b ≡ true
and_second a b e = is_true b (both_hold a b (holds (a && b) e)).1

pub join_hold : (a b : Bool) → T a → T b → T (a && b)
join_hold true b s t = t
join_hold false b s t = absurd s

pub four_hold : (a b c d : Bool) → T (a && b && c && d) → T a × T b × T c × T d
four_hold a b c d t =
    let p = both_hold (a && b && c) d t in
    let q = both_hold (a && b) c p.0 in
    let r = both_hold a b q.0 in
    (r.0, r.1, q.1, p.1)

pub join_four : (a b c d : Bool) → T a → T b → T c → T d → T (a && b && c && d)
join_four a b c d s t u v = join_hold (a && b && c) d (join_hold (a && b) c (join_hold a b s t) u) v

-- the first of two tests is one of them, and so is the second
pub or_first : (a b : Bool) → T a → T (a || b)
or_first true b t = tt
or_first false b t = absurd t

pub or_second : (a b : Bool) → T b → T (a || b)
or_second true b t = tt
or_second false b t = t

-- what follows from each of two tests follows from either
pub either : (a b : Bool) (X : Type 0) → T (a || b) → (T a → X) → (T b → X) → X
either true b X t f g = f tt
either false b X t f g = g t

pub neither : (a b : Bool) → T (not (a || b)) → T (not a) × T (not b)
neither true b t = absurd t
neither false b t = (tt, t)

-- the same of tests that are known by equations
pub neither_is : (a b : Bool) → (a || b) ≡ false → (a ≡ false) × (b ≡ false)
neither_is true b e = absurd (true≢false e)
neither_is false b e = (refl, e)

pub or_is : (a b : Bool) → b ≡ true → (a || b) ≡ true
or_is true b e = refl
or_is false b e = e

-- one that does not fail
pub not-not : (b : Bool) → T (not (not b)) → T b
not-not true t = tt
not-not false t = absurd t

-- numbers that are not unlike
pub not_unequal : (m n : ℕ) → T (not (not (m == n))) → m ≡ n
not_unequal m n t = eqb→eq m n (not-not (m == n) t)

-- of a test that asks for two things, the other is wanting where one is there
pub not_both : (a b : Bool) → T a → T (not (a && b)) → T (not b)
not_both true b s t = t
not_both false b s t = absurd s

-- one that holds where another does
pub follows : (a b : Bool) → T (not a || b) → T a → T b
follows true b h t = h
follows false b h t = absurd t

-- and that fails where the other does
pub denied : (a b : Bool) → T (not a || b) → T (not b) → T (not a)
denied true b h n = absurd (T_not b n h)
denied false b h n = tt

-- ---- a choice by a test that is known
pub when_true {ℓ} : {X : Type ℓ} (x y : X) (b : Bool) → b ≡ true → elim b [ true ↦ x | false ↦ y ] ≡ x
when_true x y true e = refl
when_true x y false e = absurd (subst T (sym e) tt)

pub when_false {ℓ} : {X : Type ℓ} (x y : X) (b : Bool) → b ≡ false → elim b [ true ↦ x | false ↦ y ] ≡ y
when_false x y true e = absurd (subst T e tt)
when_false x y false e = refl
