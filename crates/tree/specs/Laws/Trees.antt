-- What callers, and the proofs, need of trees and their properties. Assumes nothing.
use Prim.Native.Nat.{ℕ, zero, suc, ◌+◌, ◌-◌, ◌≤◌, ◌<◌}
use Rattle.std.proofs.Common.{add-one, append-nil, ap, ◌∙◌, drop_of_length-le, length-append, drop-cons, leb→le, eq-eqb, ne_eqb}
use native.Mathlib.Omega.{arith}
use Rattle.std.proofs.Math.Decide.{dec_le}
use Rattle.std.specs.Prelude.{Bool, true, false, ◌&&◌, List, [], ◌∷◌, ◌≡◌, refl, length, get_or, drop, set, T, eqb, leb, ltb}
use Rattle.std.proofs.Math.Bool.{and-false}
use Rattle.cells.specs.Laws.Facts.{holds, is_true, both_hold, join_hold}
use Rattle.tree.specs.Held.{live_among, live_of, same_bytes, matches, property_at, name_size, value_size, found_from}
use Rattle.tree.specs.Whole.{every_below, older_among, older, sound, counted, whole_tree}
use Rattle.memory.specs.Writing.{written_of}
use Rattle.memory.specs.Laws.Memory.{written_append, written_more, written_none}
use Rattle.tree.specs.Property.{name_byte, all_name_bytes, value_of}
use Rattle.tree.specs.Joints.Steps.{size_of}
use Rattle.rom.specs.Sizes.{nodes_most, properties_most, store_size}
use Rattle.tree.specs.declared.tree.Tree.{Tree}

-- a test of every number below a count: one more, and one that fails
pub every_more : (n : ℕ) (f : ℕ → Bool) → every_below n f ≡ true → f n ≡ true → every_below (n + 1) f ≡ true
unfolding every_below
every_more n f e g = rw (add-one n, e) g

pub every_fails : (n k : ℕ) (f : ℕ → Bool) → k < n → f k ≡ false → every_below n f ≡ false
unfolding every_below
every_fails zero k f h g = absurd (omega arith)
every_fails (suc n) k f h g =
    elim (dec_le n k) [
      | yes l ↦ let e : k ≡ n = omega arith in rw (← e, g) (and-false (every_below k f))
      | no l ↦ rw (every_fails n k f (omega arith) g)
    ]

-- so it is a fact about every one of them, both ways
pub every_one : (n : ℕ) (f : ℕ → Bool) → T (every_below n f) → (i : ℕ) → i < n → T (f i)
unfolding every_below
every_one zero f t i h = absurd (omega arith)
every_one (suc n) f t i h =
    let b = both_hold (every_below n f) (f n) t in
    elim (dec_le n i) [ yes l ↦ let e : i ≡ n = omega arith in rw e b.1 | no l ↦ every_one n f b.0 i (omega arith) ]

pub every_all : (n : ℕ) (f : ℕ → Bool) → ((i : ℕ) → i < n → T (f i)) → T (every_below n f)
unfolding every_below
every_all zero f p = tt
every_all (suc n) f p = join_hold (every_below n f) (f n) (every_all n f (λ i h. p i (omega arith))) (p n (omega arith))

-- parents, of the root and of another node
pub older_root : (parents : List ℕ) (k : ℕ) → k ≡ 0 → older_among parents k ≡ eqb (get_or parents k 0) 0
older_root parents k e = rw e

pub older_child : (parents : List ℕ) (k : ℕ) → (k ≡ 0 → ⊥) → older_among parents k ≡ ltb (get_or parents k 0) k
older_child parents zero n = absurd (n refl)
older_child parents (suc k) n = refl

-- live bytes, one record more
pub live_more : (name_sizes value_sizes : List ℕ) (k i n : ℕ) → i < n → k ≡ n - i
    → live_among name_sizes value_sizes k i ≡ get_or name_sizes i 0 + get_or value_sizes i 0 + live_among name_sizes value_sizes
    (n - (i + 1)) (i + 1)
unfolding live_among
live_more name_sizes value_sizes k i n h e = let f : k ≡ suc (n - (i + 1)) = omega arith in rw f

pub live_none : (name_sizes value_sizes : List ℕ) (k i : ℕ) → k ≡ 0 → live_among name_sizes value_sizes k i ≡ 0
unfolding live_among
live_none name_sizes value_sizes k i e = rw e

-- names that are the same
pub same_unlike : (a b : List ℕ) → (length a ≡ length b → ⊥) → same_bytes a b ≡ false
unfolding same_bytes
same_unlike [] [] n = absurd (n refl)
same_unlike [] (y ∷ ys) n = refl
same_unlike (x ∷ xs) [] n = refl
same_unlike (x ∷ xs) (y ∷ ys) n = rw (same_unlike xs ys (λ e. n (ap suc e))) (and-false (eqb x y))

pub same_more : (a b : List ℕ) (k : ℕ) → k < length a → k < length b → get_or a k 0 ≡ get_or b k 0
    → same_bytes (drop (k + 1) a) (drop (k + 1) b) ≡ same_bytes (drop k a) (drop k b)
unfolding same_bytes
same_more a b k h g e = rw (drop-cons a k 0 h, drop-cons b k 0 g, eq-eqb (get_or a k 0) (get_or b k 0) e, add-one k)

pub same_differs : (a b : List ℕ) (k : ℕ) → k < length a → k < length b → (get_or a k 0 ≡ get_or b k 0 → ⊥)
    → same_bytes (drop k a) (drop k b) ≡ false
unfolding same_bytes
same_differs a b k h g n = rw (drop-cons a k 0 h, drop-cons b k 0 g, ne_eqb (get_or a k 0) (get_or b k 0) n)

pub same_end : (a b : List ℕ) (k : ℕ) → length a ≤ k → length b ≤ k → same_bytes (drop k a) (drop k b) ≡ true
unfolding same_bytes
same_end a b k h g = rw (drop_of_length-le a {i = k} h, drop_of_length-le b {i = k} g)

-- names, byte by byte
pub name_more : (a : List ℕ) (k : ℕ) → k < length a → name_byte (get_or a k 0) ≡ true
    → all_name_bytes (drop (k + 1) a) ≡ all_name_bytes (drop k a)
unfolding all_name_bytes
name_more a k h g = rw (drop-cons a k 0 h, g, add-one k)

pub name_stops : (a : List ℕ) (k : ℕ) → k < length a → name_byte (get_or a k 0) ≡ false → all_name_bytes (drop k a) ≡ false
unfolding all_name_bytes
name_stops a k h g = rw (drop-cons a k 0 h, g)

pub name_end : (a : List ℕ) (k : ℕ) → length a ≤ k → all_name_bytes (drop k a) ≡ true
unfolding all_name_bytes
name_end a k h = rw (drop_of_length-le a {i = k} h)

-- a value with its null, or without
pub laid_null : (m : List ℕ) (at : ℕ) (bs : List ℕ) → written_of m at (value_of bs true) ≡ set (written_of m at bs) (at + length bs) 0
laid_null m at bs =
    written_append m at bs (0 ∷ []) ∙ written_more (written_of m at bs) (at + length bs) 0 []
    ∙ written_none (set (written_of m at bs) (at + length bs) 0) (at + length bs + 1)

pub laid_bare : (m : List ℕ) (at : ℕ) (bs : List ℕ) → written_of m at (value_of bs false) ≡ written_of m at bs
laid_bare m at bs = rw (append-nil bs)

pub length_value : (bs : List ℕ) (null : Bool) → length (value_of bs null) ≡ size_of (length bs) null
length_value bs true = length-append bs (0 ∷ [])
length_value bs false = rw (append-nil bs)

-- the counts of a tree
pub counted_facts : (nodes held : ℕ) → counted nodes held ≡ true → (2 ≤ nodes) × (nodes ≤ nodes_most) × (held ≤ properties_most)
counted_facts nodes held e =
    let t : T (counted nodes held) = rw e tt in
    let p = both_hold (leb 2 nodes && leb nodes nodes_most) (leb held properties_most) t in
    let q = both_hold (leb 2 nodes) (leb nodes nodes_most) p.0 in
    (leb→le 2 nodes q.0, leb→le nodes nodes_most q.1, leb→le held properties_most p.1)

-- whether a tree is whole, by the tests that the code makes
module _ (t : Tree) where
  pub not_counted : counted t.nodes t.held ≡ false → false ≡ whole_tree t
  unfolding whole_tree
  not_counted e = rw e

  module _ (e : counted t.nodes t.held ≡ true) where
    pub not_older : every_below t.nodes (older t) ≡ false → false ≡ whole_tree t
    unfolding whole_tree
    not_older f = rw (e, f)

    module _ (f : every_below t.nodes (older t) ≡ true) where
      pub not_sound : every_below t.held (sound t) ≡ false → false ≡ whole_tree t
      unfolding whole_tree
      not_sound g = rw (e, f, g)

      pub whole_but_live : every_below t.held (sound t) ≡ true → leb (live_of t) store_size ≡ whole_tree t
      unfolding whole_tree
      whole_but_live g = rw (e, f, g)

-- the record that is looked for: here, further on, or not there
module _ (t : Tree) (store : List ℕ) (node : ℕ) (name : List ℕ) (k i at n : ℕ) where
  pub found_here : i < n → k ≡ n - i → matches (property_at t store i at) node name ≡ true
      → found_from t store node name k i at ≡ record { index = i; at = at }
  unfolding found_from
  found_here h e m = let f : k ≡ suc (n - (i + 1)) = omega arith in rw (f, m)

  pub found_next : i < n → k ≡ n - i → matches (property_at t store i at) node name ≡ false
      → found_from t store node name k i at ≡ found_from t store node name (n - (i + 1)) (i + 1) (at + name_size t i + value_size t i)
  unfolding found_from
  found_next h e m = let f : k ≡ suc (n - (i + 1)) = omega arith in rw (f, m)

  pub found_none : k ≡ 0 → found_from t store node name k i at ≡ record { index = i; at = at }
  unfolding found_from
  found_none e = rw e

-- what a whole tree says
pub record Whole (t : Tree) : Type 0 where
  pub nodes_least : 2 ≤ t.nodes
  pub nodes_most_lem : t.nodes ≤ nodes_most
  pub held_most : t.held ≤ properties_most
  pub parents_older : (k : ℕ) → k < t.nodes → T (older t k)
  pub records_sound : (i : ℕ) → i < t.held → T (sound t i)
  pub live_most : live_of t ≤ store_size

pub whole_facts : (t : Tree) → whole_tree t ≡ true → Whole t
unfolding whole_tree
whole_facts t e =
    let c = counted t.nodes t.held in
    let o = every_below t.nodes (older t) in
    let s = every_below t.held (sound t) in
    let l = leb (live_of t) store_size in
    let p = both_hold c (o && (s && l)) (holds (c && (o && (s && l))) e) in
    let q = both_hold o (s && l) p.1 in
    let r = both_hold s l q.1 in
    let f = counted_facts t.nodes t.held (is_true c p.0) in
    record {
      nodes_least = f.0;
      nodes_most_lem = f.1;
      held_most = f.2;
      parents_older = every_one t.nodes (older t) q.0;
      records_sound = every_one t.held (sound t) r.0;
      live_most = leb→le (live_of t) store_size r.1;
    }
