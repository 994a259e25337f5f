-- What the enums of this crate say is what the definitions compute. Assumes nothing.
use Rattle.std.specs.Prelude.{ℕ, Bool, true, false, not, List, [], ◌∷◌, ◌≡◌, refl, length, eqb, Err, Ok, Result}
use Rattle.std.proofs.Math.Option.{Option, none, some}
use Rattle.std.proofs.Common.{sym, ap, eqb-true}
use Rattle.cells.specs.Choice.{pick}
use Rattle.cells.specs.Numbered.{refuses}
use Rattle.rom.specs.Sizes.{store_size}
use Rattle.tree.specs.Whole.{whole_tree}
use Rattle.tree.specs.Node.{no_room, outermost, new_device_of, finish_device_of}
use Rattle.tree.specs.Property.{put_refusal, put_of}
use Rattle.tree.specs.Path.{parts_of, malformed, child_named, down_from, behind_slash, find_node_of, named_place, find_property_of}
use Rattle.tree.specs.Laws.Layout.{either}
use Rattle.tree.specs.declared.tree.Tree.{Tree}
use Rattle.tree.specs.Numbered.{outcome_says, node_says, value_says}

-- writing a property says the refusal that is computed for it, or 0
pub put_says : (t : Tree) (store : List ℕ) (node : ℕ) (name value : List ℕ)
    → outcome_says (put_of t store node name value).outcome ≡ refuses (put_refusal t store node name value)
unfolding put_of
put_says t store node name value =
    let why = put_refusal t store node name value in
    either (eqb why 0) (λ e. rw e (ap refuses (sym (eqb-true why 0 e)))) (λ e. rw e)

-- new-device says 20 for a 33rd node, finish-device at the first node
pub new_says : (t : Tree) (active : ℕ) → (outcome_says (new_device_of t active).outcome).number ≡ pick (no_room t) 20 0
new_says t active = either (no_room t) (λ e. rw e) (λ e. rw e)

pub finish_says : (t : Tree) (first active : ℕ)
    → (outcome_says (finish_device_of t first active).outcome).number ≡ pick (outermost first active) 20 0
finish_says t first active = either (outermost first active) (λ e. rw e) (λ e. rw e)

-- whether a way down from a node ends for want of a child: "no such node"
unfoldable pub leads_nowhere : Tree → List ℕ → ℕ → List (List ℕ) → Bool
leads_nowhere t store node [] = false
leads_nowhere t store node (part ∷ parts) =
    elim (child_named t store node part) [ none ↦ true | some k ↦ leads_nowhere t store k parts ]

pub down_says : (t : Tree) (store : List ℕ) (node : ℕ) (parts : List (List ℕ))
    → (node_says (down_from t store node parts)).number ≡ pick (leads_nowhere t store node parts) 30 0
unfolding down_from leads_nowhere
down_says t store node [] = refl
down_says t store node (part ∷ parts) = by (λ k. down_says t store k parts) (child_named t store node part) refl
  where
    by : ((k : ℕ) → (node_says (down_from t store k parts)).number ≡ pick (leads_nowhere t store k parts) 30 0)
        → (o : Option ℕ) → child_named t store node part ≡ o
        → (node_says (down_from t store node (part ∷ parts))).number ≡ pick (leads_nowhere t store node (part ∷ parts)) 30 0
    by below none e = rw (e, down_from, leads_nowhere)
    by below (some k) e = rw (e, down_from, leads_nowhere) (below k)

-- "Lookups test 6, 7, 29, 30": a node says the first of them that holds, or 0
pub node_says_lem : (t : Tree) (store path : List ℕ)
    → (node_says (find_node_of t store path)).number
    ≡ pick (not (eqb (length store) store_size)) 6
    (pick (not (whole_tree t)) 7
    (pick (malformed path) 29
    (pick (leads_nowhere t store 0 (parts_of (behind_slash path))) 30 0)))
unfolding find_node_of
node_says_lem t store path =
    either (eqb (length store) store_size)
    (λ e. either (whole_tree t)
    (λ w. either (malformed path) (λ m. rw (e, w, m)) (λ m. rw (e, w, m) (down_says t store 0 (parts_of (behind_slash path)))))
    (λ w. rw (e, w)))
    (λ e. rw e)

-- a property says what its node says, and where there is a node, 30 for no such property
pub property_says : (t : Tree) (store path name : List ℕ)
    → value_says (find_property_of t store path name)
    ≡ elim (find_node_of t store path) [ Ok k ↦ value_says (named_place t store k name) | Err why ↦ refuses why ]
unfolding find_property_of
property_says t store path name = by (find_node_of t store path) refl
  where
    by : (s : Result ℕ ℕ) → find_node_of t store path ≡ s
        → value_says (find_property_of t store path name)
        ≡ elim (find_node_of t store path) [ Ok k ↦ value_says (named_place t store k name) | Err why ↦ refuses why ]
    by (Ok k) e = rw (e, find_property_of)
    by (Err why) e = rw (e, find_property_of)
