-- What new-device, finish-device and a property's writing leave beside a whole tree, which is the tree's own law: the arrays' lengths, and
-- that no node younger than the first has a parent older than it. Assumes nothing.
use Rattle.std.specs.Prelude.{ℕ, ◌+◌, ◌<◌, ◌≤◌, ◌≡◌, Bool, true, false, not, List, length, T, eqb}
use Rattle.std.proofs.Common.{arith, ◌∙◌, get_or-set_same, get_or-set_other, eqb-true}
use Rattle.std.proofs.Math.Path.{refl}
use Rattle.std.proofs.Math.ListN.{length-set}
use Rattle.std.proofs.lemmas.Bool.{eqb-false}
use Rattle.cells.specs.Laws.Tests.{tests}
use Rattle.rom.specs.Sizes.{nodes_most}
use Rattle.tree.specs.Held.{held_of, index_of}
use Rattle.tree.specs.Whole.{parent_of}
use Rattle.tree.specs.Property.{recorded_of, tree_put}
use Rattle.tree.specs.Node.{no_room, outermost, child_of}
use Rattle.tree.specs.Laws.PutKept.{SizedTree}
use Rattle.tree.specs.declared.tree.Tree.{Tree}
use Rattle.state.specs.Laws.Keeps.Whole.{RootedAt}

module _ (t : Tree) (z : SizedTree t) (active : ℕ) where
  pub child_sized : SizedTree (child_of t active)
  child_sized =
      record {
        parents = length-set t.parents t.nodes active ∙ z.parents;
        owners = z.owners;
        name_sizes = z.name_sizes;
        value_sizes = z.value_sizes;
      }

  pub child_rooted : (first : ℕ) → T (not (no_room t)) → first < t.nodes → RootedAt first active t → RootedAt first t.nodes
      (child_of t active)
  child_rooted first room there r = (omega arith, λ k f h. by k f h (eqb k t.nodes) refl)
    where
      less : t.nodes < nodes_most
      less = omega (arith, tests)

      by : (k : ℕ) → first < k → k < t.nodes + 1 → (b : Bool) → eqb k t.nodes ≡ b → first ≤ parent_of (child_of t active) k
      by k f h true e =
          let q = eqb-true k t.nodes e in
          let l = less in
          rw (q, get_or-set_same t.parents t.nodes active 0 (omega (arith, z.parents))) r.0
      by k f h false e =
          let q = eqb-false k t.nodes e in
          rw (get_or-set_other t.parents t.nodes k active 0 (λ e. omega arith)) (r.1 k f (omega arith))

  pub put_sized : (store name value : List ℕ) → SizedTree (tree_put t store active name value)
  unfolding recorded_of
  put_sized store name value =
      let at = index_of (held_of t store) active name in
      record {
        parents = z.parents;
        owners = length-set t.owners at active ∙ z.owners;
        name_sizes = length-set t.name_sizes at (length name) ∙ z.name_sizes;
        value_sizes = length-set t.value_sizes at (length value) ∙ z.value_sizes;
      }

pub finish_rooted : (t : Tree) (first active : ℕ) → active < t.nodes → T (not (outermost first active)) → RootedAt first active t
    → RootedAt first (parent_of t active) t
finish_rooted t first active there o r = (r.1 active (omega (arith, tests, r.0)) there, r.1)

-- a property's writing makes no nodes
module _ (t : Tree) (store : List ℕ) (node : ℕ) (name value : List ℕ) where
  pub put_nodes : (tree_put t store node name value).nodes ≡ t.nodes
  unfolding recorded_of
  put_nodes = refl

  pub put_rooted : (first active : ℕ) → RootedAt first active t → RootedAt first active (tree_put t store node name value)
  unfolding recorded_of
  put_rooted first active r = r
