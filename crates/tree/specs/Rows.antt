-- The node table: "For the installer, one lent row per node gives parent and property count; 32 rows or refusal 6, unused rows zero; 6,
-- then 7, write none." The rows are lent as a slice of structs, or as two slices of numbers, the parents and the counts. Assumes nothing.
use Rattle.std.specs.Prelude.{ℕ, zero, suc, ◌+◌, Bool, not, ◌&&◌, List, [], ◌∷◌, length, get_or, ltb, eqb}
use Rattle.cells.specs.Choice.{pick}
use Rattle.rom.specs.Sizes.{nodes_most}
use Rattle.tree.specs.Whole.{parent_of, whole_tree}
use Rattle.tree.specs.declared.tree.Tree.{Tree}
use Rattle.tree.specs.declared.rows.Row.{Row}

-- how many of so many records, from record i on, are a node's
unfoldable pub count_from : List ℕ → ℕ → ℕ → ℕ → ℕ
count_from owners node zero i = 0
count_from owners node (suc k) i = pick (eqb (get_or owners i 0) node) 1 0 + count_from owners node k (i + 1)

abbrev pub count_of : Tree → ℕ → ℕ
count_of t node = count_from t.owners node t.held 0

-- "unused rows zero"
abbrev pub node_row : Tree → ℕ → Row
node_row t k =
    pick (ltb k t.nodes) (record { parent = parent_of t k; count = count_of t k }) (record { parent = 0; count = 0 })

-- of so many rows from row k on, what each is asked for: one column, or all of the row
unfoldable pub column_from : {A : Type 0} → (Row → A) → Tree → ℕ → ℕ → List A
column_from column t zero k = []
column_from column t (suc n) k = column (node_row t k) ∷ column_from column t n (k + 1)

abbrev pub parents_of : Tree → List ℕ
parents_of t = column_from (λ r. r.parent) t nodes_most 0

abbrev pub counts_of : Tree → List ℕ
counts_of t = column_from (λ r. r.count) t nodes_most 0

-- so many rows from row k on
abbrev pub rows_from : Tree → ℕ → ℕ → List Row
rows_from t n k = column_from (λ r. r) t n k

-- "one lent row per node gives parent and property count"
abbrev pub rows_of : Tree → List Row
rows_of t = rows_from t nodes_most 0

-- 0, or "6, then 7": whether there are 32 rows, then whether the tree is whole
abbrev pub lent_refusal : Bool → Tree → ℕ
lent_refusal sized t = pick (not sized) 6 (pick (not (whole_tree t)) 7 0)

unfoldable pub table_refusal : Tree → List ℕ → List ℕ → ℕ
table_refusal t parents counts = lent_refusal (eqb (length parents) nodes_most && eqb (length counts) nodes_most) t

unfoldable pub rows_refusal : Tree → ℕ → ℕ
rows_refusal t size = lent_refusal (eqb size nodes_most) t

-- what the rows, or a column of them, hold then: "6, then 7, write none"
abbrev pub rows_then : {A : Type 0} → ℕ → List A → List A → List A
rows_then why was rows = pick (eqb why 0) rows was
