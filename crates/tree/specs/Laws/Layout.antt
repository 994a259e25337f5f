-- The steps of the code come to what Property says: the walk finds the oldest property, and the stores leave the properties as they would
-- be. Assumes nothing.
use Prim.Native.Nat.{ℕ, zero, suc, ◌+◌, ◌-◌, ◌≤◌, ◌<◌}
use Rattle.std.proofs.Common.{add-zero, sym, ◌∙◌, length-append, drop_of_length-le, take-add, drop-drop, take_at, drop_at, take-take}
use Rattle.std.proofs.Common.{length-take-le, T_not}
use native.Mathlib.Omega.{arith}
use Rattle.std.specs.Prelude.{Bool, true, false, not, ◌≡◌, length, take, drop, replicate, T}
use mathlib.Core.List.{List, ◌∷◌, ◌++◌, append_assoc, append-nil}
use Rattle.std.proofs.Math.Path.{refl, ap}
use Rattle.std.proofs.lemmas.List.{length-replicate, take-append-le}
use Rattle.cells.specs.Laws.Tests.{when_is}
use Rattle.memory.specs.Window.{part_of}
use Rattle.memory.specs.Writing.{written_of, moved_of, cleared_of}
use Rattle.memory.specs.Laws.Memory.{written_append, written_is, length_written, length_part}
use Rattle.tree.specs.Held.{Property, property_at, name_size, value_size, held_from, live_among, live_from, laid_out, matches, index_of}
use Rattle.tree.specs.Held.{found_from}
use Rattle.tree.specs.Property.{put_in}
use Rattle.tree.specs.Joints.Steps.{appended_of, replaced_of}
use Rattle.tree.specs.declared.tree.Tree.{Tree}

-- by the two ways of a test
pub either {ℓ} : {P : Type ℓ} (b : Bool) → (b ≡ true → P) → (b ≡ false → P) → P
either true u v = u refl
either false u v = v refl

never : {A : Type 0} (b : Bool) → b ≡ true → T (not b) → A
never b e t = absurd (T_not b t (rw e tt))

never_not : {A : Type 0} (b : Bool) → b ≡ false → T b → A
never_not b e t = absurd (rw e at t)

-- a list of properties, by whether the first is the one
module _ (p : Property) (ps : List Property) (node : ℕ) (name : List ℕ) where
  pub index_here : matches p node name ≡ true → index_of (p ∷ ps) node name ≡ 0
  unfolding index_of
  index_here e = when_is (λ z. z ≡ 0) (matches p node name) 0 (suc (index_of ps node name)) (λ t. refl)
      (λ t. never (matches p node name) e t)

  pub index_next : matches p node name ≡ false → index_of (p ∷ ps) node name ≡ suc (index_of ps node name)
  unfolding index_of
  index_next e =
      when_is (λ z. z ≡ suc (index_of ps node name)) (matches p node name) 0 (suc (index_of ps node name))
      (λ t. never_not (matches p node name) e t) (λ t. refl)

  pub put_here : (value : List ℕ) → matches p node name ≡ true
      → put_in (p ∷ ps) node name value ≡ record { node = p.node; name = p.name; value = value } ∷ ps
  unfolding put_in
  put_here value e =
      let x : List Property = record { node = p.node; name = p.name; value = value } ∷ ps in
      when_is (λ z. z ≡ x) (matches p node name) x (p ∷ put_in ps node name value) (λ t. refl) (λ t. never (matches p node name) e t)

  pub put_next : (value : List ℕ) → matches p node name ≡ false → put_in (p ∷ ps) node name value ≡ p ∷ put_in ps node name value
  unfolding put_in
  put_next value e =
      let x : List Property = record { node = p.node; name = p.name; value = value } ∷ ps in
      when_is (λ z. z ≡ p ∷ put_in ps node name value) (matches p node name) x (p ∷ put_in ps node name value)
      (λ t. never_not (matches p node name) e t) (λ t. refl)

-- parts one behind the other are one part
pub part_join : (s : List ℕ) (at n m : ℕ) → part_of s at n ++ part_of s (at + n) m ≡ part_of s at (n + m)
part_join s at n m = rw (take-add n m (drop at s), drop-drop n at s)

pub take_join : (s : List ℕ) (at n : ℕ) (xs : List ℕ) → take at s ++ (part_of s at n ++ xs) ≡ take (at + n) s ++ xs
take_join s at n xs = rw (take-add at n s) (sym (append_assoc (take at s) (part_of s at n) xs))

module _ (t : Tree) (store : List ℕ) where
  pub length_held : (k i at : ℕ) → length (held_from t store k i at) ≡ k
  unfolding held_from
  length_held zero i at = refl
  length_held (suc k) i at = ap suc (length_held k (i + 1) (at + name_size t i + value_size t i))

  -- the store holds the properties' bytes one behind the other
  pub laid_held : (k i at : ℕ) → laid_out (held_from t store k i at) ≡ part_of store at (live_from t k i)
  unfolding held_from laid_out live_among
  laid_held zero i at = refl
  laid_held (suc k) i at =
      let n = name_size t i in
      let v = value_size t i in
      let l = live_from t k (i + 1) in
      rw (laid_held k (i + 1) (at + n + v), part_join store (at + n) v l, part_join store at n (v + l))
      (let e : n + (v + l) ≡ n + v + l = omega arith in rw e)

  -- the bytes before a record, with the record, are the bytes before the next
  laid_on : (i at : ℕ) (ps : List Property)
      → take at store ++ laid_out (property_at t store i at ∷ ps) ≡ take (at + name_size t i + value_size t i) store ++ laid_out ps
  unfolding laid_out
  laid_on i at ps =
      let n = name_size t i in
      take_join store at n (part_of store (at + n) (value_size t i) ++ laid_out ps)
      ∙ take_join store (at + n) (value_size t i) (laid_out ps)

  module _ (node : ℕ) (name value : List ℕ) where
    -- a record that is not there: it stands at the live end, behind them all
    abbrev pub Absent : ℕ → ℕ → ℕ → Type 0
    Absent k i at =
        ((found_from t store node name k i at).at ≡ at + live_from t k i)
        × (length (put_in (held_from t store k i at) node name value) ≡ suc k)
        × (take at store ++ laid_out (put_in (held_from t store k i at) node name value) ≡ take (at + live_from t k i)
        store ++ (name ++ value))

    -- a record that is there: its value's bytes lie between those before and those behind
    abbrev pub value_at : ℕ → ℕ → ℕ → ℕ
    value_at k i at = (found_from t store node name k i at).at + name_size t (found_from t store node name k i at).index

    abbrev pub end_at : ℕ → ℕ → ℕ → ℕ
    end_at k i at = value_at k i at + value_size t (found_from t store node name k i at).index

    abbrev pub Present : ℕ → ℕ → ℕ → Type 0
    Present k i at =
        (end_at k i at ≤ at + live_from t k i) × (length (put_in (held_from t store k i at) node name value) ≡ k)
        × (take at store ++ laid_out (put_in (held_from t store k i at) node name value)
        ≡ take (value_at k i at) store ++ (value ++ part_of store (end_at k i at) (at + live_from t k i - end_at k i at)))

    abbrev pub Walked : ℕ → ℕ → ℕ → Type 0
    Walked k i at =
        ((found_from t store node name k i at).index ≡ i + index_of (held_from t store k i at) node name)
        × ((found_from t store node name k i at).index ≤ i + k) × (i ≤ (found_from t store node name k i at).index)
        × ((found_from t store node name k i at).index ≡ i + k → Absent k i at)
        × ((found_from t store node name k i at).index < i + k → Present k i at)

    walked_none : (i at : ℕ) → Walked zero i at
    unfolding found_from held_from index_of put_in laid_out live_among
    walked_none i at = (
      omega arith,
      omega arith,
      omega arith,
      (λ e. (omega arith, refl, rw (add-zero at, append-nil value))),
      (λ h. absurd (omega arith)),
    )

    walked_here : (k i at : ℕ) → matches (property_at t store i at) node name ≡ true → Walked (suc k) i at
    unfolding found_from held_from laid_out live_among
    walked_here k i at m =
        let n = name_size t i in
        let v = value_size t i in
        let l = live_from t k (i + 1) in
        let ps = held_from t store k (i + 1) (at + n + v) in
        let e : at + (n + v + l) - (at + n + v) ≡ l = omega arith in
        rw (m, index_here (property_at t store i at) ps node name m, put_here (property_at t store i at) ps node name value m) (
          omega arith,
          omega arith,
          omega arith,
          (λ f. absurd (omega arith)),
          (λ h. (
            omega arith,
            ap suc (length_held k (i + 1) (at + n + v)),
            rw (laid_held k (i + 1) (at + n + v), e) (take_join store at n (value ++ part_of store (at + n + v) l)),
          )),
        )

    walked_next : (k i at : ℕ) → matches (property_at t store i at) node name ≡ false
        → Walked k (i + 1) (at + name_size t i + value_size t i)
        → Walked (suc k) i at
    unfolding found_from held_from live_among
    walked_next k i at m w =
        let n = name_size t i in
        let v = value_size t i in
        let l = live_from t k (i + 1) in
        let p = property_at t store i at in
        let ps = held_from t store k (i + 1) (at + n + v) in
        let e : at + (n + v + l) ≡ at + n + v + l = omega arith in
        rw (m, index_next p ps node name m, put_next p ps node name value m, e, laid_on i at (put_in ps node name value)) (
          omega arith,
          omega arith,
          omega arith,
          (λ f. let a = w.3 (omega arith) in (a.0, ap suc a.1, a.2)),
          (λ h. let a = w.4 (omega arith) in (a.0, ap suc a.1, a.2)),
        )

    pub walked : (k i at : ℕ) → Walked k i at
    walked zero i at = walked_none i at
    walked (suc k) i at =
        either (matches (property_at t store i at) node name) (λ m. walked_here k i at m)
        (λ m. walked_next k i at m (walked k (i + 1) (at + name_size t i + value_size t i)))

-- what is cleared behind a part
pub cleared_is : (p r : List ℕ) (n : ℕ) → length p ≡ n → cleared_of (p ++ r) n ≡ p ++ replicate (length (p ++ r) - n) 0
cleared_is p r n e =
    let m = length (p ++ r) in
    let z : List ℕ = replicate (m - n) 0 in
    let a = length-append p r in
    let l : length z ≡ m - n = length-replicate (m - n) 0 in
    written_is (p ++ r) n z (omega arith)
    ∙ rw (take_at p r n e, drop_of_length-le (p ++ r) {i = n + length z} (omega arith), append-nil z)

-- a property more, and another value
pub appended_is : (s : List ℕ) (l : ℕ) (name value : List ℕ) → l + length name + length value ≤ length s
    → appended_of s l name value ≡ (take l s ++ (name ++ value)) ++ replicate (length s - length (take l s ++ (name ++ value))) 0
appended_is s l name value h =
    let p = take l s ++ (name ++ value) in
    let a = length-append name value in
    let b = length-append (take l s) (name ++ value) in
    let c = length-take-le l s (omega arith) in
    let d = l + length (name ++ value) in
    let w = sym (written_append s l name value) ∙ written_is s l (name ++ value) (omega arith)
    ∙ sym (append_assoc (take l s) (name ++ value) (drop d s)) in
    let e : length p ≡ l + length name + length value = omega arith in
    let f = length_written s l (name ++ value) in
    let g = length_written (written_of s l name) (l + length name) value in
    let i = length_written s l name in
    let j : length (p ++ drop d s) ≡ length s = sym (ap length w) ∙ g ∙ i in
    rw w (cleared_is p (drop d s) (l + length name + length value) e ∙ rw (j, e))

pub replaced_is : (s : List ℕ) (l a v : ℕ) (value : List ℕ) → a + v ≤ l → l ≤ length s → a + length value + (l - (a + v)) ≤ length s
    → let p = take a s ++ (value ++ part_of s (a + v) (l - (a + v))) in
    replaced_of s l a v value ≡ p ++ replicate (length s - length p) 0
replaced_is s l a v value h k g =
    let w = length value in
    let b = part_of s (a + v) (l - (a + v)) in
    let p = take a s ++ (value ++ b) in
    let n = a + w + (l - (a + v)) in
    let q = length_part s (a + v) (l - (a + v)) (omega arith) in
    let t = length-take-le (a + w) s (omega arith) in
    let t' = length-take-le a s (omega arith) in
    let m = moved_of s (a + v) (a + w) (l - (a + v)) in
    let e1 : m ≡ take (a + w) s ++ (b ++ drop n s) = written_is s (a + w) b (omega arith) ∙ rw q in
    let lm : length m ≡ length s = length_written s (a + w) b in
    let e2 : take a m ≡ take a s = rw e1 (take-append-le a (take (a + w) s) (b ++ drop n s) (omega arith)
    ∙ take-take a (a + w) s (omega arith)) in
    let e3 : drop (a + w) m ≡ b ++ drop n s = rw e1 (drop_at (take (a + w) s) (b ++ drop n s) (a + w) t) in
    let x : written_of m a value ≡ p ++ drop n s =
    written_is m a value (omega arith) ∙ rw (e2, e3)
    (ap (λ (y : List ℕ). take a s ++ y) (sym (append_assoc value b (drop n s))) ∙ sym (append_assoc (take a s) (value ++ b) (drop n s))) in
    let lp : length p ≡ n = let f = length-append (take a s) (value ++ b) in let r = length-append value b in omega arith in
    let ls : length (p ++ drop n s) ≡ length s = sym (ap length x) ∙ length_written m a value ∙ lm in
    rw x (cleared_is p (drop n s) n lp ∙ rw (ls, lp))
