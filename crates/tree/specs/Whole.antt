-- The part of refusal 7 that speaks of the tree: "damaged state: a .. count (nodes: 2 to 32), property length .. outside its limit, .. a
-- record's node absent, .. a parent not older than its node (the root's is 0), or live property bytes above 16,384". Which node is active
-- is judged of the state, not here. What lies past a count is not judged. A name has 1 to 31 bytes, a value at most as many as the store.
-- Assumes nothing.
use Rattle.std.specs.Prelude.{ℕ, zero, suc, List, Bool, true, ◌&&◌, get_or, ltb, leb, eqb}
use Rattle.rom.specs.Sizes.{nodes_most, properties_most, store_size}
use Rattle.tree.specs.Held.{live_of}
use Rattle.tree.specs.declared.tree.Tree.{Tree}

-- a test of every number below a count
unfoldable pub every_below : ℕ → (ℕ → Bool) → Bool
every_below zero f = true
every_below (suc k) f = every_below k f && f k

abbrev pub name_most : ℕ
name_most = 31

-- a node's parent
abbrev pub parent_of : Tree → ℕ → ℕ
parent_of t k = get_or t.parents k 0

-- "a parent not older than its node (the root's is 0)"
abbrev pub older_among : List ℕ → ℕ → Bool
older_among parents zero = eqb (get_or parents zero 0) 0
older_among parents (suc k) = ltb (get_or parents (suc k) 0) (suc k)

abbrev pub older : Tree → ℕ → Bool
older t k = older_among t.parents k

-- a record whose node is there and whose lengths are in their limits
abbrev pub sound_with : ℕ → ℕ → ℕ → ℕ → Bool
sound_with nodes owner name value = ltb owner nodes && leb 1 name && leb name name_most && leb value store_size

abbrev pub sound_among : ℕ → List ℕ → List ℕ → List ℕ → ℕ → Bool
sound_among nodes owners name_sizes value_sizes i = sound_with nodes (get_or owners i 0) (get_or name_sizes i 0) (get_or value_sizes i 0)

abbrev pub sound : Tree → ℕ → Bool
sound t i = sound_among t.nodes t.owners t.name_sizes t.value_sizes i

-- counts in their limits
abbrev pub counted : ℕ → ℕ → Bool
counted nodes held = leb 2 nodes && leb nodes nodes_most && leb held properties_most

unfoldable pub whole_tree : Tree → Bool
whole_tree t =
    counted t.nodes t.held
    && (every_below t.nodes (older t) && (every_below t.held (sound t) && leb (live_of t) store_size))
