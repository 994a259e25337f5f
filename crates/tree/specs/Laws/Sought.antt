-- What it means that a property is found, and that it is not: of a whole tree, a store of its size and a path of good form, `find_property`
-- gives 30 exactly where the path leads to no node, or the node that it leads to holds no property of that name; and a place and a size
-- exactly where the node holds one, whose value's bytes lie there. Assumes nothing.
use Rattle.std.specs.Prelude.{ℕ, ◌+◌, ◌≤◌, false, ◌⊎◌, length, eqb, Err, Ok, Result}
use native.Mathlib.Omega.{arith}
use Rattle.std.proofs.Math.Bool.{true}
use Rattle.std.proofs.Common.{true≢false, inl, inr, ap, ◌∙◌, eq-eqb, eqb-true}
use mathlib.Core.List.{List, [], ◌∷◌}
use Rattle.std.proofs.Math.Option.{none, some}
use Rattle.std.proofs.Math.Path.{◌≡◌, refl, sym}
use Rattle.cells.specs.Laws.Facts.{and_first, and_second, when_true, when_false}
use Rattle.memory.specs.Window.{part_of}
use Rattle.rom.specs.Sizes.{store_size}
use Rattle.tree.specs.Held.{Property, held_of, same_bytes, matches}
use Rattle.tree.specs.Whole.{whole_tree}
use Rattle.tree.specs.Path.{malformed, value_in, find_node_of, named_place, find_property_of}
use Rattle.tree.specs.Laws.Layout.{either}
use Rattle.tree.specs.Laws.Trees.{whole_facts}
use Rattle.tree.specs.Laws.Path.{place_value, place_why, place_empty, path_unjudged, property_there, property_none}
use Rattle.tree.specs.declared.tree.Tree.{Tree}
use Rattle.tree.specs.Sought.{ValueSought, Value, Unfound}

-- a property is one of these
abbrev pub OneOf : Property → List Property → Type 0
OneOf p [] = ⊥
OneOf p (q ∷ qs) = (p ≡ q) ⊎ OneOf p qs

-- one of these properties is the node's and has the name
abbrev pub Has : List Property → ℕ → List ℕ → Property → Type 0
Has ps node name p = OneOf p ps × (p.node ≡ node) × (p.name ≡ name)

-- ---- two names are the same where their bytes are
pub same_is : (a b : List ℕ) → same_bytes a b ≡ true → a ≡ b
unfolding same_bytes
same_is [] [] e = refl
same_is [] (y ∷ ys) e = absurd (true≢false (sym e))
same_is (x ∷ xs) [] e = absurd (true≢false (sym e))
same_is (x ∷ xs) (y ∷ ys) e =
    let p = eqb-true x y (and_first (eqb x y) (same_bytes xs ys) e) in
    let q = same_is xs ys (and_second (eqb x y) (same_bytes xs ys) e) in
    rw (p, q)

same_refl : (a : List ℕ) → same_bytes a a ≡ true
unfolding same_bytes
same_refl [] = refl
same_refl (x ∷ xs) = rw (eq-eqb x x refl) (same_refl xs)

module _ (node : ℕ) (name : List ℕ) where
  matched : (p : Property) → matches p node name ≡ true → (p.node ≡ node) × (p.name ≡ name)
  matched p e = (
    eqb-true p.node node (and_first (eqb p.node node) (same_bytes p.name name) e),
    same_is p.name name (and_second (eqb p.node node) (same_bytes p.name name) e),
  )

  matching : (p : Property) → p.node ≡ node → p.name ≡ name → matches p node name ≡ true
  matching p e f = rw (e, f, eq-eqb node node refl) (same_refl name)

  -- the value that is found is one's that the node holds under the name
  value_had : (ps : List Property) (value : List ℕ) → value_in ps node name ≡ some value
      → (p : Property) × Has ps node name p × (p.value ≡ value)
  unfolding value_in
  value_had [] value e = let f : none ≡ some value = e in let z : ◌≡◌ {A = ℕ} 0 1 = cc in absurd (omega arith)
  value_had (p ∷ ps) value e =
      either (matches p node name)
      (λ m. let f = sym (when_true (some p.value) (value_in ps node name) (matches p node name) m) ∙ e in
      let v : p.value ≡ value = cc in (p, (inl refl, (matched p m).0, (matched p m).1), v))
      (λ m. let f = sym (when_false (some p.value) (value_in ps node name) (matches p node name) m) ∙ e in
      let r = value_had ps value f in (r.0, (inr r.1.0, r.1.1, r.1.2), r.2))

  -- where none is found it holds none
  value_lacked : (ps : List Property) → value_in ps node name ≡ none → (p : Property) → Has ps node name p → ⊥
  unfolding value_in
  value_lacked [] e p h = h.0
  value_lacked (q ∷ qs) e p h = by (λ f r. value_lacked qs f p (r, h.1, h.2)) h.0
    where
      unmatched : matches q node name ≡ true → ⊥
      unmatched k =
          let f = sym (when_true (some q.value) (value_in qs node name) (matches q node name) k) ∙ e in
          let z : ◌≡◌ {A = ℕ} 0 1 = cc in omega arith

      by : (value_in qs node name ≡ none → OneOf p qs → ⊥) → (p ≡ q) ⊎ OneOf p qs → ⊥
      by below (inl s) =
          unmatched (matching q (sym (ap (λ (x : Property). x.node) s) ∙ h.1) (sym (ap (λ (x : Property). x.name) s) ∙ h.2))
      by below (inr r) =
          either (matches q node name) unmatched
          (λ k. below (sym (when_false (some q.value) (value_in qs node name) (matches q node name) k) ∙ e) r)

-- ---- a property by its node's path and its name
module _ (t : Tree) (store path name : List ℕ) where
  -- the path leads to no node, or that node holds no property of the name
  abbrev pub Lacks : Type 0
  Lacks = (k : ℕ) → find_node_of t store path ≡ Ok k → (p : Property) → Has (held_of t store) k name p → ⊥

  -- the path leads to a node that holds a property of the name
  abbrev pub Holds : Type 0
  Holds = (k : ℕ) × (find_node_of t store path ≡ Ok k) × (p : Property) × Has (held_of t store) k name p

  -- and its bytes lie at a place of the store: the value of the oldest such property, of so many bytes
  abbrev pub LiesAt : ℕ → ℕ → Type 0
  LiesAt at size =
      (k : ℕ) × (find_node_of t store path ≡ Ok k) × (p : Property) × Has (held_of t store) k name p × (p.value ≡ part_of store at size)
      × (value_in (held_of t store) k name ≡ some p.value) × (at + size ≤ length store)

  -- 30 means that there is none, and where there is none it is 30
  pub lacked : find_property_of t store path name ≡ Unfound 30 → Lacks
  lacked f k g p h =
      let e = place_empty t store k name 30 (sym (property_there t store path name k g) ∙ f) in
      value_lacked k name (held_of t store) e p h

  pub unfound : length store ≡ store_size → whole_tree t ≡ true → malformed path ≡ false → Lacks
      → find_property_of t store path name ≡ Unfound 30
  unfound e w m lacks = by (find_node_of t store path) refl
    where
      placed : (k : ℕ) → find_node_of t store path ≡ Ok k → (v : ValueSought) → named_place t store k name ≡ v
          → find_property_of t store path name ≡ Unfound 30
      placed k g (Value at size) f =
          let r = value_had k name (held_of t store) (part_of store at size) (place_value t store k name at size f).1 in
          absurd (lacks k g r.0 r.1)
      placed k g (Unfound why) f = property_there t store path name k g ∙ f ∙ ap Unfound (place_why t store k name why f)

      by : (s : Result ℕ ℕ) → find_node_of t store path ≡ s → find_property_of t store path name ≡ Unfound 30
      by (Ok k) g = placed k g (named_place t store k name) refl
      by (Err why) g = property_none t store path name why g ∙ ap Unfound (path_unjudged t store path e w m why g)

  -- a place and a size mean that there is one, whose bytes lie there, and where there is one they are given
  pub found : length store ≡ store_size → whole_tree t ≡ true → (at size : ℕ) → find_property_of t store path name ≡ Value at size
      → LiesAt at size
  found e w at size f = by (find_node_of t store path) refl
    where
      by : (s : Result ℕ ℕ) → find_node_of t store path ≡ s → LiesAt at size
      by (Ok k) g =
          let v = place_value t store k name at size (sym (property_there t store path name k g) ∙ f) in
          let r = value_had k name (held_of t store) (part_of store at size) v.1 in
          let l = (whole_facts t w).live_most in
          let a = v.0 in
          (k, g, r.0, r.1, r.2, v.1 ∙ ap some (sym r.2), omega arith)
      by (Err why) g =
          let h = sym (property_none t store path name why g) ∙ f in
          let z : ◌≡◌ {A = ℕ} 0 1 = cc in absurd (omega arith)

  pub sought : Holds → (at : ℕ) × (size : ℕ) × (find_property_of t store path name ≡ Value at size)
  sought h = by (named_place t store h.0 name) refl
    where
      by : (v : ValueSought) → named_place t store h.0 name ≡ v → (at : ℕ) × (size : ℕ)
          × (find_property_of t store path name ≡ Value at size)
      by (Value at size) f = (at, size, property_there t store path name h.0 h.1 ∙ f)
      by (Unfound why) f = absurd (value_lacked h.0 name (held_of t store) (place_empty t store h.0 name why f) h.2 h.3)
