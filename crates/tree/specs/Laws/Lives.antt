-- Live bytes after a store of two lengths, and the node and the name that a record was found by. Assumes nothing.
use Prim.Native.Nat.{ℕ, zero, suc, ◌+◌, ◌≤◌, ◌<◌}
use native.Mathlib.Omega.{arith}
use Rattle.std.proofs.Math.Decide.{dec_le}
use Rattle.std.specs.Prelude.{true, List, [], ◌∷◌, ◌≡◌, length, get_or, set, eqb}
use Rattle.std.proofs.Common.{true≢false, sym, ap, ◌∙◌, eqb-true}
use Rattle.std.proofs.Math.Path.{refl}
use Rattle.std.proofs.Math.Seq.{get_or-set_same, get_or-set_other}
use Rattle.cells.specs.Laws.Facts.{and_first, and_second}
use Rattle.memory.specs.Window.{part_of}
use Rattle.memory.specs.Laws.Memory.{length_part}
use Rattle.tree.specs.Held.{owner_of, name_size, value_size, live_among, live_from, same_bytes, matches, property_at, found_from}
use Rattle.tree.specs.Laws.Layout.{either}
use Rattle.tree.specs.declared.tree.Tree.{Tree}

module _ (name_sizes value_sizes : List ℕ) (i n v : ℕ) where
  pub live_outside_low : (k j : ℕ) → j + k ≤ i → live_among (set name_sizes i n) (set value_sizes i v) k j ≡ live_among name_sizes
      value_sizes k j
  unfolding live_among
  live_outside_low zero j h = refl
  live_outside_low (suc k) j h =
      rw (
        get_or-set_other name_sizes i j n 0 (λ e. omega arith),
        get_or-set_other value_sizes i j v 0 (λ e. omega arith),
        live_outside_low k (j + 1) (omega arith),
      )

  pub live_outside_high : (k j : ℕ) → i < j → live_among (set name_sizes i n) (set value_sizes i v) k j ≡ live_among name_sizes value_sizes
      k j
  unfolding live_among
  live_outside_high zero j h = refl
  live_outside_high (suc k) j h =
      rw (
        get_or-set_other name_sizes i j n 0 (λ e. omega arith),
        get_or-set_other value_sizes i j v 0 (λ e. omega arith),
        live_outside_high k (j + 1) (omega arith),
      )

  module _ (f : i < length name_sizes) (g : i < length value_sizes) where
    pub live_inside : (k j : ℕ) → j ≤ i → i < j + k
        → live_among (set name_sizes i n) (set value_sizes i v) k j + (get_or name_sizes i 0 + get_or value_sizes i 0)
        ≡ live_among name_sizes value_sizes k j + (n + v)
    unfolding live_among
    live_inside zero j h l = absurd (omega arith)
    live_inside (suc k) j h l =
        elim (dec_le i j) [
          | yes p ↦ let e : j ≡ i = omega arith in
              rw (e, get_or-set_same name_sizes i n 0 f, get_or-set_same value_sizes i v 0 g, live_outside_high k (i + 1) (omega arith))
              (omega arith)
          | no p ↦ let r = live_inside k (j + 1) (omega arith) (omega arith) in
              rw (get_or-set_other name_sizes i j n 0 (λ e. omega arith), get_or-set_other value_sizes i j v 0 (λ e. omega arith))
              (omega arith)
        ]

    pub live_behind : (k j : ℕ) → i ≡ j + k → live_among (set name_sizes i n) (set value_sizes i v) (suc k) j
        ≡ live_among name_sizes value_sizes k j + (n + v)
    unfolding live_among
    live_behind zero j e =
        let d : j ≡ i = omega arith in
        rw (d, get_or-set_same name_sizes i n 0 f, get_or-set_same value_sizes i v 0 g) (omega arith)
    live_behind (suc k) j e =
        let r = live_behind k (j + 1) (omega arith) in
        rw (get_or-set_other name_sizes i j n 0 (λ d. omega arith), get_or-set_other value_sizes i j v 0 (λ d. omega arith)) (omega arith)

-- names that are the same have one length
pub same_length : (a b : List ℕ) → same_bytes a b ≡ true → length a ≡ length b
unfolding same_bytes
same_length [] [] e = refl
same_length [] (y ∷ ys) e = absurd (true≢false (sym e))
same_length (x ∷ xs) [] e = absurd (true≢false (sym e))
same_length (x ∷ xs) (y ∷ ys) e = ap suc (same_length xs ys (and_second (eqb x y) (same_bytes xs ys) e))

-- the record that is found has a name of the same length, and is the node's
module _ (t : Tree) (store : List ℕ) (node : ℕ) (name : List ℕ) where
  pub found_name : (k i at : ℕ) → at + live_from t k i ≤ length store → (found_from t store node name k i at).index < i + k
      → name_size t (found_from t store node name k i at).index ≡ length name
  unfolding found_from live_among
  found_name zero i at h l = absurd (omega arith)
  found_name (suc k) i at h l =
      either (matches (property_at t store i at) node name)
      (λ m. rw m
      (sym (length_part store at (name_size t i) (omega arith))
      ∙ same_length (part_of store at (name_size t i)) name
      (and_second (eqb (owner_of t i) node) (same_bytes (part_of store at (name_size t i)) name) m)))
      (λ m. let l' = rw m at l in rw m (found_name k (i + 1) (at + name_size t i + value_size t i) (omega arith) (omega arith)))

  pub found_owner : (k i at : ℕ) → (found_from t store node name k i at).index < i + k
      → owner_of t (found_from t store node name k i at).index ≡ node
  unfolding found_from
  found_owner zero i at l = absurd (omega arith)
  found_owner (suc k) i at l =
      either (matches (property_at t store i at) node name)
      (λ m. rw m (eqb-true (owner_of t i) node (and_first (eqb (owner_of t i) node) (same_bytes (part_of store at (name_size t i)) name)
      m)))
      (λ m. let l' = rw m at l in rw m (found_owner k (i + 1) (at + name_size t i + value_size t i) (omega arith)))
