-- The properties that a tree's records and the store hold: "The store holds name then value of each property in order of first creation, no
-- gaps, zeros behind". A record has the node, the length of the name and the length of the value; the bytes lie in the store, one record's
-- behind the other's. Assumes nothing.
use Rattle.std.specs.Prelude.{ℕ, zero, suc, ◌+◌, Bool, true, false, ◌&&◌, List, [], ◌∷◌, ◌++◌, get_or, eqb}
use Rattle.memory.specs.Window.{part_of}
use Rattle.cells.specs.Choice.{pick}
use Rattle.tree.specs.declared.property.Found.{Found}
use Rattle.tree.specs.declared.tree.Tree.{Tree}

pub record Property : Type 0 where
  pub node : ℕ
  pub name : List ℕ
  pub value : List ℕ

-- the three numbers of record i
abbrev pub owner_of : Tree → ℕ → ℕ
owner_of t i = get_or t.owners i 0

abbrev pub name_size : Tree → ℕ → ℕ
name_size t i = get_or t.name_sizes i 0

abbrev pub value_size : Tree → ℕ → ℕ
value_size t i = get_or t.value_sizes i 0

-- the property of record i, whose bytes start at a place of the store
abbrev pub property_at : Tree → List ℕ → ℕ → ℕ → Property
property_at t store i at =
    record {
      node = owner_of t i;
      name = part_of store at (name_size t i);
      value = part_of store (at + name_size t i) (value_size t i);
    }

-- so many of them, from record i on
unfoldable pub held_from : Tree → List ℕ → ℕ → ℕ → ℕ → List Property
held_from t store zero i at = []
held_from t store (suc k) i at = property_at t store i at ∷ held_from t store k (i + 1) (at + name_size t i + value_size t i)

abbrev pub held_of : Tree → List ℕ → List Property
held_of t store = held_from t store t.held 0 0

-- the live bytes of so many records from record i on
unfoldable pub live_among : List ℕ → List ℕ → ℕ → ℕ → ℕ
live_among name_sizes value_sizes zero i = 0
live_among name_sizes value_sizes (suc k) i = get_or name_sizes i 0 + get_or value_sizes i 0 + live_among name_sizes value_sizes k (i + 1)

abbrev pub live_from : Tree → ℕ → ℕ → ℕ
live_from t k i = live_among t.name_sizes t.value_sizes k i

abbrev pub live_of : Tree → ℕ
live_of t = live_from t t.held 0

-- properties as the store has them
unfoldable pub laid_out : List Property → List ℕ
laid_out [] = []
laid_out (p ∷ ps) = p.name ++ (p.value ++ laid_out ps)

-- two names that are the same
unfoldable pub same_bytes : List ℕ → List ℕ → Bool
same_bytes [] [] = true
same_bytes [] (y ∷ ys) = false
same_bytes (x ∷ xs) [] = false
same_bytes (x ∷ xs) (y ∷ ys) = eqb x y && same_bytes xs ys

-- whether a property is the one of a node and a name
abbrev pub matches : Property → ℕ → List ℕ → Bool
matches p node name = eqb p.node node && same_bytes p.name name

-- where the property of a node and a name stands in a list, the oldest first; how many there are where it is not there
unfoldable pub index_of : List Property → ℕ → List ℕ → ℕ
index_of [] node name = 0
index_of (p ∷ ps) node name = elim (matches p node name) [ true ↦ 0 | false ↦ suc (index_of ps node name) ]

-- the first of so many records from record i on that is the one of a node and a name
unfoldable pub found_from : Tree → List ℕ → ℕ → List ℕ → ℕ → ℕ → ℕ → Found
found_from t store node name zero i at = record { index = i; at = at }
found_from t store node name (suc k) i at =
    pick (matches (property_at t store i at) node name) (record { index = i; at = at })
    (found_from t store node name k (i + 1) (at + name_size t i + value_size t i))
