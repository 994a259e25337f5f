-- A tree taken apart: its arrays are lent and its counts are plain numbers. Put together again it is a tree, and what a call in place comes
-- to is what Property and Node say of that tree, whatever its other parts are. Assumes nothing.
use Rattle.std.specs.Prelude.{ℕ, ◌≤◌, true, List, ◌≡◌, length, get_or, Err, Ok, Result}
use Rattle.rom.specs.Sizes.{properties_most, store_size}
use Rattle.rom.specs.Refusal.{numbered}
use Rattle.rom.specs.declared.refusal.Refusal.{Refusal}
use Rattle.tree.specs.Held.{live_among, found_from}
use Rattle.tree.specs.Whole.{whole_tree}
use Rattle.tree.specs.Tree.{tree_on_records, tree_on_nodes}
use Rattle.tree.specs.Node.{Written, activated, new_device_of, finish_device_of}
use Rattle.tree.specs.Property.{put_of, store_of}
use Rattle.tree.specs.declared.tree.Tree.{Tree}
use Rattle.tree.specs.declared.property.Found.{Found}
use Rattle.tree.specs.declared.in_place.Tail.{Tail}
use Rattle.tree.specs.declared.in_place.Kept.{Kept}
use Rattle.tree.specs.declared.in_place.Opened.{Opened}
use Rattle.tree.specs.declared.in_place.Closed.{Closed}

-- what a call in place gives, with the tree that is put together then
abbrev pub written_as : Result (Unit {0}) ℕ → Tree → Written
written_as outcome t = record { outcome = outcome; tree = t }

-- refused, with the records and the tail as they were; and done, with a store that is zero behind these live bytes
abbrev pub refused_with : Refusal → ℕ → Tail → Kept
refused_with why held tail = record { outcome = Err why; held = held; tail = tail }

abbrev pub done_with : ℕ → ℕ → Kept
done_with held live = record { outcome = Ok tt; held = held; tail = record { live = live; zeros = live } }

-- ---- the store behind the live bytes
-- a memory that is zero from a place on
abbrev pub Clean : List ℕ → ℕ → Type 0
Clean memory at = (k : ℕ) → at ≤ k → get_or memory k 0 ≡ 0

-- the tail of records whose store nothing is known of
abbrev pub tail_of : List ℕ → List ℕ → ℕ → Tail
tail_of name_sizes value_sizes held = record { live = live_among name_sizes value_sizes held 0; zeros = store_size }

-- the store is zero from the tail's place on, which lies between the live end and the store's
abbrev pub EndsAs : List ℕ → Tail → Type 0
EndsAs store tail = (tail.live ≤ tail.zeros) × (tail.zeros ≤ length store) × Clean store tail.zeros

-- the tail says how many live bytes the records have, and is the store's
abbrev pub Tallied : List ℕ → List ℕ → List ℕ → ℕ → Tail → Type 0
Tallied store name_sizes value_sizes held tail =
    (length store ≡ store_size) × (length name_sizes ≡ properties_most) × (length value_sizes ≡ properties_most) × (held ≤ properties_most)
    × (tail.live ≡ live_among name_sizes value_sizes held 0) × EndsAs store tail

-- ---- what the calls in place come to
-- where the record of a node and a name stands among the lent ones; one that is missing stands behind them all
abbrev pub Finds : List ℕ → List ℕ → List ℕ → List ℕ → ℕ → ℕ → List ℕ → Found → Type 0
Finds store owners name_sizes value_sizes held node name found =
    (t : Tree) → found ≡ found_from (tree_on_records t owners name_sizes value_sizes held) store node name held 0 0

abbrev pub Missing : List ℕ → List ℕ → List ℕ → List ℕ → ℕ → ℕ → List ℕ → Type 0
Missing store owners name_sizes value_sizes held node name =
    (t : Tree) → (found_from (tree_on_records t owners name_sizes value_sizes held) store node name held 0 0).index ≡ held

-- a property of a node is written: the records, the store and the tail behind, from those before
abbrev pub Puts : ℕ → List ℕ → List ℕ → List ℕ → List ℕ → List ℕ → List ℕ → ℕ → Kept → List ℕ → List ℕ → List ℕ → List ℕ → Type 0
Puts node name value store owners name_sizes value_sizes held r store' owners' name_sizes' value_sizes' =
    ((t : Tree) → let before = tree_on_records t owners name_sizes value_sizes held in
    whole_tree before ≡ true
    → (written_as (numbered r.outcome) (tree_on_records t owners' name_sizes' value_sizes' r.held) ≡ put_of before store node name value)
    × (store' ≡ store_of before store node name value))
    × Tallied store' name_sizes' value_sizes' r.held r.tail

-- a node is opened, and the active one is closed
abbrev pub Opens : List ℕ → ℕ → ℕ → Opened → List ℕ → Type 0
Opens parents nodes active r parents' =
    (t : Tree)
    → activated (numbered r.outcome) (tree_on_nodes t parents' r.nodes) r.active ≡ new_device_of (tree_on_nodes t parents nodes) active

abbrev pub Closes : List ℕ → ℕ → ℕ → Closed → Type 0
Closes parents first active r =
    (t : Tree) (nodes : ℕ)
    → activated (numbered r.outcome) (tree_on_nodes t parents nodes) r.active
    ≡ finish_device_of (tree_on_nodes t parents nodes) first active
