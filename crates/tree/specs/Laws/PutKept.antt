-- A property that is written leaves a whole tree and a store of the same size. Assumes nothing.
use Prim.Native.Nat.{ℕ, suc, ◌+◌, ◌-◌, ◌≤◌, ◌<◌}
use Rattle.std.proofs.Common.{zero-add, sym, ◌∙◌, length-append, le→leb, lt→ltb}
use native.Mathlib.Omega.{arith}
use Rattle.std.proofs.Math.Decide.{dec_le}
use Rattle.std.specs.Prelude.{true, false, List, ◌++◌, ◌≡◌, length, replicate, T, leb, ltb, eqb}
use Rattle.std.proofs.lemmas.List.{length-replicate}
use Rattle.std.proofs.Math.Seq.{get_or-set_same, get_or-set_other}
use borrow.Author.Tests.{eqb-true, eqb-false, eq-eqb, ne_eqb, ltb-false}
use Rattle.cells.specs.Choice.{pick}
use Rattle.cells.specs.Laws.Facts.{join_four}
use Rattle.tree.specs.Held.{Property, live_of, laid_out, name_size, value_size}
use Rattle.tree.specs.Whole.{sound_with, whole_tree, name_most}
use Rattle.tree.specs.Property.{bad_name, overfull, would_hold, put_refusal, store_with, recorded_of, tree_put, store_put, put_of, store_of}
use Rattle.tree.specs.Joints.Steps.{found_of}
use Rattle.tree.specs.Laws.Trees.{Whole, whole_facts}
use Rattle.tree.specs.Laws.Layout.{either}
use Rattle.tree.specs.Laws.Puts.{or_parts, wrong_size, damaged, misnamed, no_room, index_is, index_most, present, length_new}
use Rattle.tree.specs.Laws.Puts.{length_old, fits, index_fits, name_facts}
use Rattle.tree.specs.Laws.Kept.{whole_is}
use Rattle.tree.specs.Laws.Lives.{live_inside, live_behind, found_name}
use Rattle.rom.specs.Sizes.{nodes_most, properties_most, store_size}
use Rattle.tree.specs.declared.tree.Tree.{Tree}

-- the arrays are as long as the code has them
pub record SizedTree (t : Tree) : Type 0 where
  pub parents : length t.parents ≡ nodes_most
  pub owners : length t.owners ≡ properties_most
  pub name_sizes : length t.name_sizes ≡ properties_most
  pub value_sizes : length t.value_sizes ≡ properties_most

-- what is known of a call that is not refused, as far as the tree and the store go by it
pub record Accepted (t : Tree) (s : List ℕ) (node : ℕ) (name value : List ℕ) : Type 0 where
  pub size : length s ≡ store_size
  pub whole : Whole t
  pub least : 1 ≤ length name
  pub most : length name ≤ name_most
  pub roomy : overfull (would_hold t s node name value) ≡ false

pub accepted : (t : Tree) (s : List ℕ) (node : ℕ) (name value : List ℕ) → put_refusal t s node name value ≡ 0 → Accepted t s node name value
accepted t s node name value e =
    either (eqb (length s) store_size)
    (λ a. let z = eqb-true (length s) store_size a in
    either (whole_tree t)
    (λ w.
    either (bad_name name) (λ b. let x = sym (misnamed t s node name value z w b) ∙ e in absurd (omega arith))
    (λ b.
    either (overfull (would_hold t s node name value)) (λ o. let x = sym (no_room t s node name value z w b o) ∙ e in absurd (omega arith))
    (λ o. let d = name_facts name b in record { size = z; whole = whole_facts t w; least = d.0; most = d.1; roomy = o })))
    (λ w. let x = sym (damaged t s node name value z w) ∙ e in absurd (omega arith)))
    (λ a. let x = sym (wrong_size t s node name value (eqb-false (length s) store_size a)) ∙ e in absurd (omega arith))

-- one record more, or the same
held_most : (i h : ℕ) → i < properties_most → h ≤ properties_most → pick (eqb i h) (h + 1) h ≤ properties_most
held_most i h f g = either (eqb i h) (λ e. let q = eqb-true i h e in rw e (omega arith)) (λ e. rw e g)

held_below : (i h j : ℕ) → j < pick (eqb i h) (h + 1) h → (j ≡ i → ⊥) → j < h
held_below i h j l n =
    either (eqb i h) (λ e. let q = eqb-true i h e in let l' : j < h + 1 = rw e at l in
    elim (dec_le h j) [ yes p ↦ absurd (n (omega arith)) | no p ↦ omega arith ])
    (λ e. rw e at l)

sound_is : (n o a v : ℕ) → o < n → 1 ≤ a → a ≤ name_most → v ≤ store_size → T (sound_with n o a v)
sound_is n o a v f g h k = join_four (ltb o n) (leb 1 a) (leb a name_most) (leb v store_size) (lt→ltb o n f) (le→leb 1 a g)
    (le→leb a name_most h) (le→leb v store_size k)

module _ (t : Tree) (z : SizedTree t) (i node n v : ℕ) where
  pub live_new : i ≡ t.held → i < properties_most → live_of (recorded_of t i node n v) ≡ live_of t + (n + v)
  unfolding recorded_of
  live_new e h =
      let f = z.name_sizes in
      let g = z.value_sizes in
      let d : t.held + 1 ≡ suc t.held = omega arith in
      rw (eq-eqb i t.held e, d) (live_behind t.name_sizes t.value_sizes i n v (omega arith) (omega arith) t.held 0
      (omega arith))

  pub live_old : i < t.held → i < properties_most → live_of (recorded_of t i node n v) + (name_size t i + value_size t i) ≡ live_of
      t + (n + v)
  unfolding recorded_of
  live_old e h =
      let f = z.name_sizes in
      let g = z.value_sizes in
      rw (ne_eqb i t.held (λ d. omega arith))
      (live_inside t.name_sizes t.value_sizes i n v (omega arith) (omega arith) t.held 0 (omega arith) (omega arith))

  pub recorded_whole : Whole t → node < t.nodes → i < properties_most → 1 ≤ n → n ≤ name_most → v ≤ store_size
      → live_of (recorded_of t i node n v) ≤ store_size
      → Whole (recorded_of t i node n v)
  unfolding recorded_of
  recorded_whole w there h f g k l =
      let zo = z.owners in
      let zn = z.name_sizes in
      let zv = z.value_sizes in
      record {
        nodes_least = w.nodes_least;
        nodes_most_lem = w.nodes_most_lem;
        held_most = held_most i t.held h w.held_most;
        parents_older = w.parents_older;
        records_sound = λ j b.
            either (eqb j i)
            (λ q. let d = eqb-true j i q in
            rw (
              d,
              get_or-set_same t.owners i node 0 (omega arith),
              get_or-set_same t.name_sizes i n 0 (omega arith),
              get_or-set_same t.value_sizes i v 0 (omega arith),
            ) (sound_is t.nodes node n v there f g k))
            (λ q. let d = eqb-false j i q in
            rw (
              get_or-set_other t.owners i j node 0 d,
              get_or-set_other t.name_sizes i j n 0 d,
              get_or-set_other t.value_sizes i j v 0 d,
            ) (w.records_sound j (held_below i t.held j b d)));
        live_most = l;
      }

-- a store that holds properties which have room has the store's size
pub length_store : (ps : List Property) → overfull ps ≡ false → length (store_with ps) ≡ store_size
unfolding store_with overfull
length_store ps o =
    let f = ltb-false store_size (length (laid_out ps)) (or_parts (ltb properties_most (length ps)) (ltb store_size (length (laid_out ps)))
    o).1
    in
    let r : List ℕ = replicate (store_size - length (laid_out ps)) 0 in
    let x : length r ≡ store_size - length (laid_out ps) = length-replicate (store_size - length (laid_out ps)) 0 in
    let y : length (laid_out ps ++ r) ≡ length (laid_out ps) + length r = length-append (laid_out ps) r in
    omega arith

module _ (t : Tree) (s : List ℕ) (node : ℕ) (name value : List ℕ) (a : Accepted t s node name value) where
  pub put_size : length (store_put t s node name value) ≡ length s
  put_size = length_store (would_hold t s node name value) a.roomy ∙ sym a.size

  pub put_whole : SizedTree t → node < t.nodes → Whole (tree_put t s node name value)
  put_whole z there =
      let w = a.whole in
      let q = a.size in
      let l = w.live_most in
      let b : live_of t ≤ length s = omega arith in
      let h = w.held_most in
      let f = (fits t s node name value h b a.size a.roomy).1 in
      let i = (found_of t s node name).index in
      let c = index_fits t s node name value h b a.size a.roomy in
      let m = index_most t s node name value in
      let go : length value ≤ store_size → live_of (recorded_of t i node (length name) (length value)) ≤ store_size → Whole
      (tree_put t s node name value) =
      λ v x. rw (← index_is t s node name value)
      (recorded_whole t z i node (length name) (length value) a.whole there c a.least a.most v x) in
      elim (dec_le t.held i) [
        | yes p ↦ let n = length_new t s node name value h b (omega arith) in
            let y = live_new t z i node (length name) (length value) (omega arith) c in
            go (omega arith) (omega arith)
        | no p ↦ let o : i ≡ t.held → ⊥ = λ x. omega arith in
            let n = length_old t s node name value h b o in
            let r = (present t s node name value o).0 in
            let u = found_name t s node name t.held 0 0 (rw (zero-add (live_of t)) b) (omega arith) in
            let y = live_old t z i node (length name) (length value) (omega arith) c in
            go (omega arith) (omega arith)
      ]

-- whatever the call gives, the store has its size, and a whole tree is whole where the node is there
module _ (t : Tree) (s : List ℕ) (node : ℕ) (name value : List ℕ) where
  taken : put_refusal t s node name value ≡ 0 → Accepted t s node name value
  taken e = accepted t s node name value e

  pub store_kept : length (store_of t s node name value) ≡ length s
  unfolding store_of
  store_kept =
      either (eqb (put_refusal t s node name value) 0)
      (λ q. rw q (put_size t s node name value (taken (eqb-true (put_refusal t s node name value) 0 q)))) (λ q. rw q)

  pub tree_kept : SizedTree t → node < t.nodes → whole_tree t ≡ true → whole_tree (put_of t s node name value).tree ≡ true
  unfolding put_of
  tree_kept z there w =
      either (eqb (put_refusal t s node name value) 0)
      (λ q. rw q (whole_is (tree_put t s node name value)
      (put_whole t s node name value (taken (eqb-true (put_refusal t s node name value) 0 q)) z there))) (λ q. rw q w)
