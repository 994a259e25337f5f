-- The store and the tree that a property leaves hold what they should: read back, they are the properties as they would be. Assumes
-- nothing.
use Prim.Native.Nat.{ℕ, zero, suc, ◌+◌, ◌-◌, ◌≤◌, ◌<◌}
use Rattle.std.proofs.Common.{zero-add, ap, ◌∙◌, length-append, drop_at, take_at}
use native.Mathlib.Omega.{arith}
use Rattle.std.proofs.Math.Decide.{dec_le}
use mathlib.Core.List.{List, [], ◌∷◌, ◌++◌, append_assoc}
use Rattle.std.specs.Prelude.{◌≡◌, replicate, eqb}
use Rattle.std.proofs.Math.Path.{refl, sym}
use Rattle.std.proofs.Math.ListN.{length}
use Rattle.std.proofs.Math.Seq.{get_or-set_same, get_or-set_other}
use borrow.Author.Tests.{eqb-true, eq-eqb, ne_eqb}
use Rattle.cells.specs.Laws.Facts.{and_first, and_second}
use Rattle.memory.specs.Window.{part_of}
use Rattle.memory.specs.Laws.Memory.{length_part}
use Rattle.tree.specs.Held.{Property, owner_of, name_size, value_size, property_at, held_from, held_of, live_among, live_from, live_of}
use Rattle.tree.specs.Held.{laid_out, same_bytes, matches, found_from}
use Rattle.tree.specs.Property.{put_in, would_hold, put_refusal, store_with, recorded_of, tree_put, store_put}
use Rattle.tree.specs.Joints.Steps.{found_of}
use Rattle.tree.specs.Laws.Layout.{either, put_here, put_next, walked}
use Rattle.tree.specs.Laws.Lives.{same_length}
use Rattle.tree.specs.Laws.Puts.{absent, present, index_is, index_most, index_fits}
use Rattle.tree.specs.Laws.PutKept.{SizedTree, accepted}
use Rattle.rom.specs.Sizes.{properties_most, store_size}
use Rattle.tree.specs.declared.tree.Tree.{Tree}

-- records from record i on that are those of a list of properties
abbrev pub Records : Tree → ℕ → List Property → Type 0
Records t i [] = Unit {0}
Records t i (p ∷ ps) = ((owner_of t i ≡ p.node) × (name_size t i ≡ length p.name) × (value_size t i ≡ length p.value))
    × Records t (i + 1) ps

part_seam : (a b c : List ℕ) (m n : ℕ) → length a ≡ m → length b ≡ n → part_of (a ++ (b ++ c)) m n ≡ b
part_seam a b c m n e f = rw (drop_at a (b ++ c) m e) (take_at b c n f)

-- read from a store that has their bytes, such records are the properties
pub read_back : (t : Tree) (ps : List Property) (i : ℕ) (before behind : List ℕ) (at : ℕ) → length before ≡ at → Records t i ps
    → held_from t (before ++ (laid_out ps ++ behind)) (length ps) i at ≡ ps
unfolding held_from laid_out
read_back t [] i before behind at e r = refl
read_back t (p ∷ ps) i before behind at e r =
    let o = r.0.0 in
    let f = r.0.1 in
    let g = r.0.2 in
    let n = p.name in
    let v = p.value in
    let l = laid_out ps in
    let x : before ++ ((n ++ (v ++ l)) ++ behind) ≡ before ++ (n ++ (v ++ (l ++ behind))) =
    ap (λ (y : List ℕ). before ++ y) (append_assoc n (v ++ l) behind ∙ ap (λ (y : List ℕ). n ++ y) (append_assoc v l behind)) in
    let y : before ++ (n ++ (v ++ (l ++ behind))) ≡ (before ++ n) ++ (v ++ (l ++ behind)) =
    sym (append_assoc before n (v ++ (l ++ behind))) in
    let z : (before ++ n) ++ (v ++ (l ++ behind)) ≡ ((before ++ n) ++ v) ++ (l ++ behind) =
    sym (append_assoc (before ++ n) v (l ++ behind)) in
    let d : length (before ++ n) ≡ at + length n = length-append before n ∙ omega arith in
    let h : length ((before ++ n) ++ v) ≡ at + length n + length v = length-append (before ++ n) v ∙ omega arith in
    let pn : part_of (before ++ (n ++ (v ++ (l ++ behind)))) at (length n) ≡ n =
    part_seam before n (v ++ (l ++ behind)) at (length n) e refl in
    let pv : part_of (before ++ (n ++ (v ++ (l ++ behind)))) (at + length n) (length v) ≡ v =
    rw y (part_seam (before ++ n) v (l ++ behind) (at + length n) (length v) d refl) in
    let tl : held_from t (before ++ (n ++ (v ++ (l ++ behind)))) (length ps) (i + 1) (at + length n + length v) ≡ ps =
    rw (y ∙ z) (read_back t ps (i + 1) ((before ++ n) ++ v) behind (at + length n + length v) h r.1) in
    let told : held_from t (before ++ (n ++ (v ++ (l ++ behind)))) (suc (length ps)) i at ≡ p ∷ ps = rw (o, f, g, pn, pv, tl) in
    ap (λ (y : List ℕ). held_from t y (suc (length ps)) i at) x ∙ told

module _ (t : Tree) (store : List ℕ) (node : ℕ) (name value : List ℕ) (j : ℕ) (z : SizedTree t) (b : j < properties_most) where
  abbrev then : Tree
  then = recorded_of t j node (length name) (length value)

  -- the record itself, and another
  here : (owner_of then j ≡ node) × (name_size then j ≡ length name) × (value_size then j ≡ length value)
  unfolding recorded_of
  here =
      let zo = z.owners in
      let zn = z.name_sizes in
      let zv = z.value_sizes in (
        get_or-set_same t.owners j node 0 (omega arith),
        get_or-set_same t.name_sizes j (length name) 0 (omega arith),
        get_or-set_same t.value_sizes j (length value) 0 (omega arith),
      )

  other : (i : ℕ) → (i ≡ j → ⊥) → (owner_of then i ≡ owner_of t i) × (name_size then i ≡ name_size t i)
      × (value_size then i ≡ value_size t i)
  unfolding recorded_of
  other i n = (
    get_or-set_other t.owners j i node 0 n,
    get_or-set_other t.name_sizes j i (length name) 0 n,
    get_or-set_other t.value_sizes j i (length value) 0 n,
  )

  kept : (i at : ℕ) → (i ≡ j → ⊥) → at + name_size t i + value_size t i ≤ length store
      → (owner_of then i ≡ owner_of t i) × (name_size then i ≡ length (part_of store at (name_size t i)))
      × (value_size then i ≡ length (part_of store (at + name_size t i) (value_size t i)))
  kept i at n h =
      let o = other i n in (
        o.0,
        o.1 ∙ sym (length_part store at (name_size t i) (omega arith)),
        o.2
            ∙ sym (length_part store (at + name_size t i) (value_size t i) (omega arith)),
      )

  records_behind : (k i at : ℕ) → j < i → at + live_from t k i ≤ length store → Records then i (held_from t store k i at)
  unfolding held_from live_among
  records_behind zero i at g h = tt
  records_behind (suc k) i at g h = (
    kept i at (λ e. omega arith) (omega arith),
    records_behind k (i + 1) (at + name_size t i + value_size t i) (omega arith)
        (omega arith),
  )

  pub records_put : (k i at : ℕ) → at + live_from t k i ≤ length store → (found_from t store node name k i at).index ≡ j
      → Records then i (put_in (held_from t store k i at) node name value)
  unfolding held_from found_from live_among put_in
  records_put zero i at h e = (rw e here, tt)
  records_put (suc k) i at h e =
      let p = property_at t store i at in
      let ps = held_from t store k (i + 1) (at + name_size t i + value_size t i) in
      either (matches p node name)
      (λ m.
      let q : i ≡ j = rw m at e in
      let o = eqb-true (owner_of t i) node (and_first (eqb (owner_of t i) node) (same_bytes (part_of store at (name_size t i)) name) m) in
      let l = same_length (part_of store at (name_size t i)) name
      (and_second (eqb (owner_of t i) node) (same_bytes (part_of store at (name_size t i)) name) m) in
      rw (put_here p ps node name value m) (
        (rw (q) here.0 ∙ sym o, rw q here.1 ∙ sym l, rw q here.2),
        records_behind k (i + 1) (at + name_size t i + value_size t i)
            (omega arith) (omega arith),
      ))
      (λ m.
      let f : (found_from t store node name k (i + 1) (at + name_size t i + value_size t i)).index ≡ j = rw m at e in
      let w = (walked t store node name value k (i + 1) (at + name_size t i + value_size t i)).2 in
      rw (put_next p ps node name value m)
      (kept i at (λ d. omega arith) (omega arith), records_put k (i + 1) (at + name_size t i + value_size t i) (omega arith) f))

module _ (t : Tree) (s : List ℕ) (node : ℕ) (name value : List ℕ) (e : put_refusal t s node name value ≡ 0) (z : SizedTree t) where
  held_then : length (would_hold t s node name value) ≡ (recorded_of t (found_of t s node name).index node (length name)
      (length value)).held
  unfolding recorded_of
  held_then =
      let i = (found_of t s node name).index in
      let m = index_most t s node name value in
      elim (dec_le t.held i) [
        | yes p ↦ let q : i ≡ t.held = omega arith in rw (eq-eqb i t.held q) ((absent t s node name value q).1 ∙ omega arith)
        | no p ↦ let q : i ≡ t.held → ⊥ = λ d. omega arith in rw (ne_eqb i t.held q) (present t s node name value q).1
      ]

  -- the tree and the store after a call that is not refused hold the properties as they would be
  pub put_holds : held_of (tree_put t s node name value) (store_put t s node name value) ≡ would_hold t s node name value
  unfolding store_with
  put_holds =
      let a = accepted t s node name value e in
      let w = a.whole in
      let q = a.size in
      let l = w.live_most in
      let b : live_of t ≤ length s = omega arith in
      let i = (found_of t s node name).index in
      let c = index_fits t s node name value w.held_most b a.size a.roomy in
      let ps = would_hold t s node name value in
      let r = records_put t s node name value i z c t.held 0 0 (rw (zero-add (live_of t)) b) refl in
      rw (← index_is t s node name value)
      (ap (λ (k : ℕ). held_from (recorded_of t i node (length name) (length value)) (store_put t s node name value) k 0 0) (sym held_then)
      ∙ read_back (recorded_of t i node (length name) (length value)) ps 0 [] (replicate (store_size - length (laid_out ps)) 0) 0 refl r)
