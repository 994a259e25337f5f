-- Paths and lookups by numbers, as the code goes, and what the code's steps come to. Assumes nothing.
use Prim.Native.Nat.{ℕ, zero, suc, ◌+◌, ◌-◌, ◌≤◌, ◌<◌}
use Rattle.std.proofs.Common.{zero-add, add-one, true≢false, sym, ◌∙◌, length-drop, drop_of_length-le, drop-cons, drop-drop, lt-ltb}
use Rattle.std.proofs.Common.{le-ltb, Err, Ok, Result}
use Rattle.std.proofs.Common.{eq-eqb, ne_eqb, eqb-true}
use native.Mathlib.Omega.{arith}
use Rattle.std.proofs.Math.Decide.{dec_le}
use Rattle.std.specs.Prelude.{Bool, true, false, ◌&&◌, List, [], ◌∷◌, ◌≡◌, length, get_or, take, drop, ltb, eqb}
use Rattle.std.proofs.Math.Option.{Option, none, some}
use Rattle.std.proofs.Math.Path.{refl}
use Rattle.std.proofs.Math.Dec.{leb-suc-suc}
use Rattle.std.proofs.lemmas.Bool.{eqb-false}
use Rattle.cells.specs.Choice.{pick}
use Rattle.cells.specs.Laws.Facts.{when_true, when_false}
use Rattle.memory.specs.Window.{part_of}
use Rattle.rom.specs.Sizes.{store_size, properties_most}
use Rattle.tree.specs.Held.{Property, name_size, value_size, property_at, held_from, held_of, live_of, matches, found_from}
use Rattle.tree.specs.Whole.{parent_of, whole_tree}
use Rattle.tree.specs.Laws.Trees.{whole_facts}
use Rattle.tree.specs.Laws.Layout.{either, walked}
use Rattle.tree.specs.Path.{slash, split_of, parts_of, is_empty, any_empty, malformed, value_in, less_null, is_called, child_from}
use Rattle.tree.specs.Path.{child_named}
use Rattle.tree.specs.Path.{down_from, behind_slash, find_node_of, named_place, find_property_of, property_value_of}
use Rattle.tree.specs.Path.{own_value_of}
use Rattle.tree.specs.declared.tree.Tree.{Tree}
use Rattle.tree.specs.declared.property.Found.{Found}
use Rattle.tree.specs.Sought.{ValueSought, Value, Unfound}

-- ---- parts
-- how many bytes stand before the first slash
unfoldable pub part_end : List ℕ → ℕ
part_end [] = 0
part_end (b ∷ bs) = pick (eqb b slash) 0 (suc (part_end bs))

pub end_most : (bs : List ℕ) → part_end bs ≤ length bs
unfolding part_end
end_most [] = omega arith
end_most (b ∷ bs) = either (eqb b slash) (λ e. rw e (omega arith)) (λ e. let h = end_most bs in rw e (omega arith))

pub end_slash : (bs : List ℕ) (k : ℕ) → k < length bs → get_or bs k 0 ≡ slash → part_end (drop k bs) ≡ 0
unfolding part_end
end_slash bs k h e = rw (drop-cons bs k 0 h, eq-eqb (get_or bs k 0) slash e)

pub end_next : (bs : List ℕ) (k : ℕ) → k < length bs → (get_or bs k 0 ≡ slash → ⊥) → part_end (drop k bs) ≡ suc (part_end (drop (k + 1) bs))
unfolding part_end
end_next bs k h n = rw (drop-cons bs k 0 h, ne_eqb (get_or bs k 0) slash n, add-one k)

pub end_last : (bs : List ℕ) (k : ℕ) → length bs ≤ k → part_end (drop k bs) ≡ 0
unfolding part_end
end_last bs k h = rw (drop_of_length-le bs {i = k} h)

-- bytes are split into those before the first slash and the parts behind it
abbrev pub behind_part : List ℕ → List (List ℕ)
behind_part bs = pick (ltb (part_end bs) (length bs)) (split_of (drop (suc (part_end bs)) bs)) []

split_first : (bs : List ℕ) → split_of bs ≡ take (part_end bs) bs ∷ behind_part bs
unfolding split_of part_end
split_first [] = refl
split_first (b ∷ bs) =
    either (eqb b slash) (λ e. rw (e, lt-ltb 0 (suc (length bs)) (omega arith), split_of))
    (λ e. rw (e, split_of, split_first bs, leb-suc-suc (suc (part_end bs)) (length bs)))

module _ (path : List ℕ) (at end : ℕ) (h : at ≤ length path) (e : end ≡ at + part_end (drop at path)) where
  pub split_part : split_of (drop at path) ≡ part_of path at (end - at) ∷ behind_part (drop at path)
  split_part = let f : part_end (drop at path) ≡ end - at = omega arith in rw (← f) (split_first (drop at path))

  pub split_last : end ≡ length path → split_of (drop at path) ≡ part_of path at (end - at) ∷ []
  split_last l =
      let d = length-drop at path in
      let f : part_end (drop at path) ≡ end - at = omega arith in
      rw (split_first (drop at path), le-ltb (part_end (drop at path)) (length (drop at path)) (omega arith), f)

  pub split_more : (end ≡ length path → ⊥) → split_of (drop at path) ≡ part_of path at (end - at) ∷ split_of (drop (end + 1) path)
  split_more n =
      let d = length-drop at path in
      let m = end_most (drop at path) in
      let f : part_end (drop at path) ≡ end - at = omega arith in
      let g : at + suc (end - at) ≡ end + 1 = omega arith in
      let l : part_end (drop at path) < length (drop at path) = omega arith in
      rw (split_first (drop at path), lt-ltb (part_end (drop at path)) (length (drop at path)) l, f, drop-drop (suc (end - at)) at path, g)

  -- whether a part is empty
  pub empty_here : end ≡ at → any_empty (split_of (drop at path)) ≡ true
  unfolding any_empty
  empty_here l =
      let f : part_end (drop at path) ≡ 0 = omega arith in
      rw (split_first (drop at path), f)

  full : (end ≡ at → ⊥) → is_empty (part_of path at (end - at)) ≡ false
  full n =
      let m = end_most (drop at path) in
      let d = length-drop at path in
      let f : end - at ≡ suc (end - at - 1) = omega arith in
      rw (drop-cons path at 0 (omega arith), f)

  pub empty_last : (end ≡ at → ⊥) → end ≡ length path → any_empty (split_of (drop at path)) ≡ false
  unfolding any_empty
  empty_last n l = rw (split_last l, full n)

  pub empty_more : (end ≡ at → ⊥) → (end ≡ length path → ⊥) → any_empty (split_of (drop at path)) ≡ any_empty
      (split_of (drop (end + 1) path))
  unfolding any_empty
  empty_more n l = rw (split_more l, full n)

-- a path by its first byte
pub pathless : (path : List ℕ) → length path < 1 → malformed path ≡ true
unfolding malformed
pathless [] h = refl
pathless (b ∷ bs) h = absurd (omega arith)

pub path_least : (path : List ℕ) → malformed path ≡ false → 1 ≤ length path
unfolding malformed
path_least [] e = absurd (true≢false e)
path_least (b ∷ bs) e = omega arith

pub headless : (path : List ℕ) → (get_or path 0 0 ≡ slash → ⊥) → malformed path ≡ true
unfolding malformed
headless [] n = refl
headless (b ∷ bs) n = rw (ne_eqb b slash n)

pub headed : (path : List ℕ) → 0 < length path → get_or path 0 0 ≡ slash → malformed path ≡ any_empty (parts_of (behind_slash path))
unfolding malformed
headed [] h e = absurd (omega arith)
headed (b ∷ bs) h e = rw (eq-eqb b slash e)

pub no_parts : (path : List ℕ) → length path ≡ 1 → parts_of (behind_slash path) ≡ []
no_parts [] e = absurd (omega arith)
no_parts (b ∷ []) e = refl
no_parts (b ∷ c ∷ cs) e = absurd (omega arith)

pub some_parts : (path : List ℕ) → 1 < length path → parts_of (behind_slash path) ≡ split_of (drop 1 path)
some_parts [] h = absurd (omega arith)
some_parts (b ∷ []) h = absurd (omega arith)
some_parts (b ∷ c ∷ cs) h = refl

-- ---- one final null
pub null_less : (bs : List ℕ) (n : ℕ) → length bs ≡ suc n → get_or bs n 0 ≡ 0 → less_null bs ≡ take n bs
unfolding less_null
null_less [] n h e = absurd (omega arith)
null_less (b ∷ []) zero h e = rw (eq-eqb b 0 e)
null_less (b ∷ []) (suc n) h e = absurd (omega arith)
null_less (b ∷ c ∷ cs) zero h e = absurd (omega arith)
null_less (b ∷ c ∷ cs) (suc n) h e = rw (null_less (c ∷ cs) n (omega arith) e)

pub null_none : (bs : List ℕ) (n : ℕ) → length bs ≡ suc n → (get_or bs n 0 ≡ 0 → ⊥) → less_null bs ≡ bs
unfolding less_null
null_none [] n h e = absurd (omega arith)
null_none (b ∷ []) zero h e = rw (ne_eqb b 0 e)
null_none (b ∷ []) (suc n) h e = absurd (omega arith)
null_none (b ∷ c ∷ cs) zero h e = absurd (omega arith)
null_none (b ∷ c ∷ cs) (suc n) h e = rw (null_none (c ∷ cs) n (omega arith) e)

pub null_empty : (bs : List ℕ) → length bs ≡ 0 → less_null bs ≡ bs
unfolding less_null
null_empty [] h = refl
null_empty (b ∷ bs) h = absurd (omega arith)

-- ---- values: the record that is found has the value
module _ (t : Tree) (store : List ℕ) (node : ℕ) (name : List ℕ) where
  value_here_lem : (p : Property) (ps : List Property) → matches p node name ≡ true → value_in (p ∷ ps) node name ≡ some p.value
  unfolding value_in
  value_here_lem p ps m = when_true (some p.value) (value_in ps node name) (matches p node name) m

  value_next : (p : Property) (ps : List Property) → matches p node name ≡ false → value_in (p ∷ ps) node name ≡ value_in ps node name
  unfolding value_in
  value_next p ps m = when_false (some p.value) (value_in ps node name) (matches p node name) m

  -- the value of the record that is found; none where it stands behind them all
  abbrev value_from : ℕ → ℕ → ℕ → List ℕ
  value_from k i at =
      part_of store ((found_from t store node name k i at).at + name_size t (found_from t store node name k i at).index)
      (value_size t (found_from t store node name k i at).index)

  value_found : (k i at : ℕ) → (found_from t store node name k i at).index < i + k
      → value_in (held_from t store k i at) node name ≡ some (value_from k i at)
  unfolding found_from held_from
  value_found zero i at h = absurd (omega arith)
  value_found (suc k) i at h =
      let p = property_at t store i at in
      let to = at + name_size t i + value_size t i in
      let ps = held_from t store k (i + 1) to in
      either (matches p node name) (λ m. rw (value_here_lem p ps m, m))
      (λ m. let l = rw m at h in rw (value_next p ps m, m) (value_found k (i + 1) to (omega arith)))

  value_none : (k i at : ℕ) → i + k ≤ (found_from t store node name k i at).index → value_in (held_from t store k i at) node name ≡ none
  unfolding found_from held_from value_in
  value_none zero i at h = refl
  value_none (suc k) i at h =
      let p = property_at t store i at in
      let to = at + name_size t i + value_size t i in
      let ps = held_from t store k (i + 1) to in
      either (matches p node name) (λ m. let l = rw m at h in absurd (omega arith))
      (λ m. let l = rw m at h in rw (value_next p ps m) (value_none k (i + 1) to (omega arith)))

  abbrev found : Found
  found = found_from t store node name t.held 0 0

  -- by the test that the code makes
  pub place_none : t.held ≤ found.index → named_place t store node name ≡ Unfound 30
  unfolding named_place
  place_none h = rw (le-ltb found.index t.held h)

  pub place_there : found.index < t.held
      → named_place t store node name ≡ Value (found.at + name_size t found.index) (value_size t found.index)
  unfolding named_place
  place_there h = rw (lt-ltb found.index t.held h)

  -- what lies there is the value, and it lies in the store
  pub place_end : found.index < t.held → found.at + name_size t found.index + value_size t found.index ≤ live_of t
  place_end h = rw (zero-add (live_of t)) at ((walked t store node name [] t.held 0 0).4 (omega arith)).0

  pub place_value : (at size : ℕ) → named_place t store node name ≡ Value at size
      → (at + size ≤ live_of t) × (value_in (held_of t store) node name ≡ some (part_of store at size))
  place_value at size e =
      elim (dec_le t.held found.index) [
        | yes h ↦ let f = sym (place_none h) ∙ e in let z : ◌≡◌ {A = ℕ} 0 1 = cc in absurd (omega arith)
        | no h ↦ let f = sym (place_there (omega arith)) ∙ e in
            let x : found.at + name_size t found.index ≡ at = cc in
            let y : value_size t found.index ≡ size = cc in
            rw (← x, ← y) (place_end (omega arith), value_found t.held 0 0 (omega arith))
      ]

  pub place_why : (why : ℕ) → named_place t store node name ≡ Unfound why → why ≡ 30
  place_why why e =
      elim (dec_le t.held found.index) [
        | yes h ↦ let f = sym (place_none h) ∙ e in cc
        | no h ↦ let f = sym (place_there (omega arith)) ∙ e in let z : ◌≡◌ {A = ℕ} 0 1 = cc in absurd (omega arith)
      ]

  pub place_empty : (why : ℕ) → named_place t store node name ≡ Unfound why → value_in (held_of t store) node name ≡ none
  place_empty why e =
      elim (dec_le t.held found.index) [
        | yes h ↦ value_none t.held 0 0 (omega arith)
        | no h ↦ let f = sym (place_there (omega arith)) ∙ e in let z : ◌≡◌ {A = ℕ} 0 1 = cc in absurd (omega arith)
      ]

-- ---- children
abbrev pub child_sought : Option ℕ → Result ℕ ℕ
child_sought none = Err 30
child_sought (some k) = Ok k

sought_child : (o : Option ℕ) (k : ℕ) → child_sought o ≡ Ok k → o ≡ some k
sought_child none k e = let z : ◌≡◌ {A = ℕ} 0 1 = cc in absurd (omega arith)
sought_child (some j) k e = let x : j ≡ k = cc in rw x

sought_none : (o : Option ℕ) (why : ℕ) → child_sought o ≡ Err why → o ≡ none
sought_none none why e = refl
sought_none (some j) why e = let z : ◌≡◌ {A = ℕ} 0 1 = cc in absurd (omega arith)

module _ (t : Tree) (store : List ℕ) (node : ℕ) (part : List ℕ) where
  abbrev is_child : ℕ → Bool
  is_child k = eqb (parent_of t k) node && is_called t store k part

  pub child_here : (n k : ℕ) → k < n → is_child k ≡ true → child_from t store node part (n - k) k ≡ some k
  unfolding child_from
  child_here n k h e = let f : n - k ≡ suc (n - (k + 1)) = omega arith in
      rw f (when_true (some k) (child_from t store node part (n - (k + 1)) (k + 1)) (is_child k) e)

  pub child_next : (n k : ℕ) → k < n → is_child k ≡ false
      → child_from t store node part (n - k) k ≡ child_from t store node part (n - (k + 1)) (k + 1)
  unfolding child_from
  child_next n k h e = let f : n - k ≡ suc (n - (k + 1)) = omega arith in
      rw f (when_false (some k) (child_from t store node part (n - (k + 1)) (k + 1)) (is_child k) e)

  pub child_none : (n k : ℕ) → n ≤ k → child_from t store node part (n - k) k ≡ none
  unfolding child_from
  child_none n k h = let f : n - k ≡ 0 = omega arith in rw f

  -- a level down
  pub down_child : (k : ℕ) (parts : List (List ℕ)) → child_sought (child_named t store node part) ≡ Ok k
      → down_from t store node (part ∷ parts) ≡ down_from t store k parts
  unfolding down_from
  down_child k parts e = rw (sought_child (child_named t store node part) k e, down_from)

  pub down_none : (why : ℕ) (parts : List (List ℕ)) → child_sought (child_named t store node part) ≡ Err why
      → down_from t store node (part ∷ parts) ≡ Err 30
  unfolding down_from
  down_none why parts e = rw (sought_none (child_named t store node part) why e, down_from)

pub down_end : (t : Tree) (store : List ℕ) (node : ℕ) → down_from t store node [] ≡ Ok node
unfolding down_from
down_end t store node = refl

-- ---- lookups
module _ (t : Tree) (store path : List ℕ) where
  -- the refusals in their order
  pub node_size : (length store ≡ store_size → ⊥) → find_node_of t store path ≡ Err 6
  unfolding find_node_of
  node_size n = rw (ne_eqb (length store) store_size n)

  module _ (e : length store ≡ store_size) where
    pub node_damaged : whole_tree t ≡ false → find_node_of t store path ≡ Err 7
    unfolding find_node_of
    node_damaged w = rw (eq-eqb (length store) store_size e, w)

    module _ (w : whole_tree t ≡ true) where
      pub node_malformed : malformed path ≡ true → find_node_of t store path ≡ Err 29
      unfolding find_node_of
      node_malformed m = rw (eq-eqb (length store) store_size e, w, m)

      pub node_down : malformed path ≡ false → find_node_of t store path ≡ down_from t store 0 (parts_of (behind_slash path))
      unfolding find_node_of
      node_down m = rw (eq-eqb (length store) store_size e, w, m)

  -- a node is found only in a whole tree, whose bytes lie in the store
  pub record Sought : Type 0 where
    pub held_most : t.held ≤ properties_most
    pub live_most : live_of t ≤ length store

  pub node_whole : (k : ℕ) → find_node_of t store path ≡ Ok k → Sought
  node_whole k e =
      either (eqb (length store) store_size)
      (λ a. let z = eqb-true (length store) store_size a in
      either (whole_tree t)
      (λ w. let f = whole_facts t w in let l = f.live_most in record { held_most = f.held_most; live_most = omega arith })
      (λ w. let f = sym (node_damaged z w) ∙ e in let x : ◌≡◌ {A = ℕ} 0 1 = cc in absurd (omega arith)))
      (λ a. let f = sym (node_size (eqb-false (length store) store_size a)) ∙ e in let x : ◌≡◌ {A = ℕ} 0 1 = cc in absurd (omega arith))

  module _ (name : List ℕ) where
    pub property_there : (k : ℕ) → find_node_of t store path ≡ Ok k → find_property_of t store path name ≡ named_place t store k name
    unfolding find_property_of
    property_there k e = rw (e, find_property_of)

    pub property_none : (why : ℕ) → find_node_of t store path ≡ Err why → find_property_of t store path name ≡ Unfound why
    unfolding find_property_of
    property_none why e = rw (e, find_property_of)

    value_there : (k : ℕ) (value : List ℕ) → find_node_of t store path ≡ Ok k → value_in (held_of t store) k name ≡ some value
        → property_value_of t store path name ≡ value
    unfolding property_value_of
    value_there k value e f = rw (e, f, property_value_of)

    value_missing : (k : ℕ) → find_node_of t store path ≡ Ok k → value_in (held_of t store) k name ≡ none
        → property_value_of t store path name ≡ []
    unfolding property_value_of
    value_missing k e f = rw (e, f, property_value_of)

    value_refused : (why : ℕ) → find_node_of t store path ≡ Err why → property_value_of t store path name ≡ []
    unfolding property_value_of
    value_refused why e = rw (e, property_value_of)

    -- the place that is found holds the value
    abbrev pub Holds : ValueSought → Type 0
    Holds (Value at size) = (at + size ≤ length store) × (property_value_of t store path name ≡ part_of store at size)
    Holds (Unfound why) = property_value_of t store path name ≡ []

    holds_there : (k : ℕ) → find_node_of t store path ≡ Ok k → (v : ValueSought) → named_place t store k name ≡ v → Holds v
    holds_there k e (Value at size) f =
        let p = place_value t store k name at size f in
        let l = (node_whole k e).live_most in
        (omega arith, value_there k (part_of store at size) e p.1)
    holds_there k e (Unfound why) f = value_missing k e (place_empty t store k name why f)

    holds_by : (n : Result ℕ ℕ) → find_node_of t store path ≡ n → (v : ValueSought) → find_property_of t store path name ≡ v → Holds v
    holds_by (Ok k) e v f = holds_there k e v (sym (property_there k e) ∙ f)
    holds_by (Err why) e v f = rw (← f, property_none why e) (value_refused why e)

    pub property_holds : (v : ValueSought) → find_property_of t store path name ≡ v → Holds v
    property_holds v e = holds_by (find_node_of t store path) refl v e

-- ---- a node's own property, by the tests that the code makes
module _ (t : Tree) (store : List ℕ) (node : ℕ) (name : List ℕ) where
  pub own_size : (length store ≡ store_size → ⊥) → own_value_of t store node name ≡ []
  unfolding own_value_of
  own_size n = rw (ne_eqb (length store) store_size n)

  module _ (e : length store ≡ store_size) where
    pub own_damaged : whole_tree t ≡ false → own_value_of t store node name ≡ []
    unfolding own_value_of
    own_damaged w = rw (eq-eqb (length store) store_size e, w)

    module _ (w : whole_tree t ≡ true) where
      pub own_there : (at size : ℕ) → named_place t store node name ≡ Value at size → (at + size ≤ length store)
          × (own_value_of t store node name ≡ part_of store at size)
      unfolding own_value_of
      own_there at size p =
          let v = place_value t store node name at size p in
          let l = (whole_facts t w).live_most in
          let a = v.0 in
          (omega arith, rw (eq-eqb (length store) store_size e, w, v.1))

      pub own_missing : (why : ℕ) → named_place t store node name ≡ Unfound why → own_value_of t store node name ≡ []
      unfolding own_value_of
      own_missing why p = rw (eq-eqb (length store) store_size e, w, place_empty t store node name why p)

-- ---- lookups judge no name: a path of good form, and any property's name, bring nothing but 30
module _ (t : Tree) (store : List ℕ) where
  down_why : (node : ℕ) (parts : List (List ℕ)) (why : ℕ) → down_from t store node parts ≡ Err why → why ≡ 30
  down_why node [] why e = let f = sym (down_end t store node) ∙ e in let z : ◌≡◌ {A = ℕ} 0 1 = cc in absurd (omega arith)
  down_why node (part ∷ parts) why e =
      by (λ k f. down_why k parts why (sym (down_child t store node part k parts f) ∙ e)) sought refl
    where
      sought : Result ℕ ℕ
      sought = child_sought (child_named t store node part)

      by : ((k : ℕ) → sought ≡ Ok k → why ≡ 30) → (s : Result ℕ ℕ) → sought ≡ s → why ≡ 30
      by below (Ok k) f = below k f
      by below (Err other) f = let g = sym (down_none t store node part other parts f) ∙ e in cc

  module _ (path : List ℕ) (e : length store ≡ store_size) (w : whole_tree t ≡ true) (m : malformed path ≡ false) where
    pub path_unjudged : (why : ℕ) → find_node_of t store path ≡ Err why → why ≡ 30
    path_unjudged why f = down_why 0 (parts_of (behind_slash path)) why (sym (node_down t store path e w m) ∙ f)

    pub name_unjudged : (name : List ℕ) (why : ℕ) → find_property_of t store path name ≡ Unfound why → why ≡ 30
    name_unjudged name why f = by (find_node_of t store path) refl
      where
        by : (s : Result ℕ ℕ) → find_node_of t store path ≡ s → why ≡ 30
        by (Ok k) g = place_why t store k name why (sym (property_there t store path name k g) ∙ f)
        by (Err other) g =
            let h = sym (property_none t store path name other g) ∙ f in
            let i : other ≡ why = cc in rw (← i) (path_unjudged other g)
