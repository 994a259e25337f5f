-- A whole tree stays whole: a child; and the parent of a node is there. Assumes nothing.
use Rattle.std.specs.Prelude.{ℕ, zero, suc, ◌+◌, ◌≤◌, ◌<◌, true, false, List, ◌≢◌, ◌≡◌, length, get_or, set, T, leb, ltb}
use Rattle.std.proofs.Common.{arith, get_or-set_same, get_or-set_other, ltb→lt, lt→ltb, le-leb, leb-false}
use Rattle.std.proofs.Math.Decide.{dec_le}
use Rattle.std.proofs.Math.ListN.{get_or-eq_default}
use Rattle.std.proofs.Math.Seq.{set_out}
use Rattle.cells.specs.Laws.Facts.{is_true, four_hold, join_four}
use Rattle.tree.specs.Held.{live_of}
use Rattle.tree.specs.Whole.{every_below, parent_of, older, older_among, sound, sound_with, counted, whole_tree, name_most}
use Rattle.tree.specs.Node.{no_room, child_of, new_device_of}
use Rattle.tree.specs.Laws.Trees.{Whole, whole_facts, every_all, older_child}
use Rattle.tree.specs.Laws.Layout.{either}
use Rattle.rom.specs.Sizes.{nodes_most, properties_most, store_size}
use Rattle.tree.specs.declared.tree.Tree.{Tree}

pub counted_is : (nodes held : ℕ) → 2 ≤ nodes → nodes ≤ nodes_most → held ≤ properties_most → counted nodes held ≡ true
counted_is nodes held a b c = rw (le-leb 2 nodes a, le-leb nodes nodes_most b, le-leb held properties_most c)

pub whole_is : (t : Tree) → Whole t → whole_tree t ≡ true
unfolding whole_tree
whole_is t w =
    rw (
      counted_is t.nodes t.held w.nodes_least w.nodes_most_lem w.held_most,
      is_true (every_below t.nodes (older t)) (every_all t.nodes (older t) w.parents_older),
      is_true (every_below t.held (sound t)) (every_all t.held (sound t) w.records_sound),
    )
    (le-leb (live_of t) store_size w.live_most)

-- what a store into a list leaves
older_kept : (ps : List ℕ) (i a k : ℕ) → k ≢ i → older_among (set ps i a) k ≡ older_among ps k
older_kept ps i a zero n = rw (get_or-set_other ps i zero a 0 n)
older_kept ps i a (suc k) n = rw (get_or-set_other ps i (suc k) a 0 n)

at_most : (l : List ℕ) (i a : ℕ) → get_or (set l i a) i 0 ≤ a
at_most l i a =
    elim (dec_le (length l) i) [
      | yes h ↦ rw (set_out l i a h, get_or-eq_default l 0 {n = i} h) (omega arith)
      | no h ↦ rw (get_or-set_same l i a 0 (omega arith)) (omega arith)
    ]

sound_more : (n m o a v : ℕ) → n ≤ m → T (sound_with n o a v) → T (sound_with m o a v)
sound_more n m o a v h t =
    let (x, b, c, d) = four_hold (ltb o n) (leb 1 a) (leb a name_most) (leb v store_size) t in
    let l = ltb→lt o n x in
    join_four (ltb o m) (leb 1 a) (leb a name_most) (leb v store_size) (lt→ltb o m (omega arith)) b c d

module _ (t : Tree) (active : ℕ) (there : active < t.nodes) where
  -- a child of a node that is there
  pub child_whole : Whole t → no_room t ≡ false → Whole (child_of t active)
  child_whole w r =
      let b = leb-false nodes_most t.nodes r in
      let parents = set t.parents t.nodes active in
      record {
        nodes_least = omega (arith, w.nodes_least);
        nodes_most_lem = omega (arith, b);
        held_most = w.held_most;
        parents_older = λ k h.
            elim (dec_le t.nodes k) [
              | yes g ↦ let q : k ≡ t.nodes = omega arith in
                  let m = at_most t.parents t.nodes active in
                  let z = w.nodes_least in
                  rw (q, older_child parents t.nodes (λ x. omega arith)) (lt→ltb (get_or parents t.nodes 0) t.nodes (omega arith))
              | no g ↦ rw (older_kept t.parents t.nodes active k (λ x. omega arith)) (w.parents_older k (omega arith))
            ];
        records_sound = λ i h.
            sound_more t.nodes (t.nodes + 1) (get_or t.owners i 0) (get_or t.name_sizes i 0) (get_or t.value_sizes i 0)
            (omega arith) (w.records_sound i h);
        live_most = w.live_most;
      }

  -- whatever new-device gives
  pub new_kept : whole_tree t ≡ true → whole_tree (new_device_of t active).tree ≡ true
  new_kept e = either (no_room t) (λ r. rw r e) (λ r. rw r (whole_is (child_of t active) (child_whole (whole_facts t e) r)))

-- "a parent not older than its node (the root's is 0)": finish-device comes to a node that is there. It leaves it open that a node above 1
-- has the root as its parent; then the root becomes active.
pub parent_there : (t : Tree) (active : ℕ) → Whole t → 1 ≤ active → active < t.nodes → parent_of t active < active
parent_there t active w a b =
    let o = w.parents_older active b in
    let l : T (ltb (parent_of t active) active) = rw (older_child t.parents active (λ x. omega arith)) at o in
    ltb→lt (parent_of t active) active l
