-- The node table by numbers, as the code goes: a count with one record more, a column with one row more; what stands in a row; and that the
-- two columns are the columns of the rows. Assumes nothing.
use Prim.Native.Nat.{ℕ, zero, suc, ◌+◌, ◌-◌, ◌≤◌, ◌<◌}
use Rattle.std.proofs.Common.{add-zero, zero-add, add-one, sym, ◌∙◌, take-suc-set, take_all, eqb→eq}
use native.Mathlib.Omega.{arith}
use Rattle.std.specs.Prelude.{Bool, true, false, not, ◌≡◌, length, get_or, take, set, eqb}
use mathlib.Core.List.{List, [], ◌∷◌, ◌++◌, map}
use Rattle.std.proofs.Math.Path.{refl, ap}
use borrow.Author.Tests.{eq-eqb, ne_eqb, lt-ltb, le-ltb}
use Rattle.cells.specs.Choice.{pick}
use Rattle.cells.specs.Laws.Facts.{holds}
use Rattle.tree.specs.Whole.{parent_of, whole_tree}
use Rattle.tree.specs.Rows.{count_from, count_of, node_row, column_from, parents_of, counts_of, rows_from, rows_of, table_refusal}
use Rattle.tree.specs.Rows.{rows_refusal}
use Rattle.rom.specs.Sizes.{nodes_most}
use Rattle.tree.specs.declared.tree.Tree.{Tree}
use Rattle.tree.specs.declared.rows.Row.{Row}

-- one record more: the node's, or another's
module _ (owners : List ℕ) (node n i : ℕ) where
  pub count_here : i < n → get_or owners i 0 ≡ node → count_from owners node (n - i) i ≡ 1 + count_from owners node (n - (i + 1)) (i + 1)
  unfolding count_from
  count_here h e = let f : n - i ≡ suc (n - (i + 1)) = omega arith in rw (f, eq-eqb (get_or owners i 0) node e)

  pub count_next : i < n → (get_or owners i 0 ≡ node → ⊥) → count_from owners node (n - i) i ≡ count_from owners node (n - (i + 1)) (i + 1)
  unfolding count_from
  count_next h e = let f : n - i ≡ suc (n - (i + 1)) = omega arith in
      rw (f, ne_eqb (get_or owners i 0) node e) (zero-add (count_from owners node (n - (i + 1)) (i + 1)))

  pub count_none : n ≤ i → count_from owners node (n - i) i ≡ 0
  unfolding count_from
  count_none h = let f : n - i ≡ 0 = omega arith in rw f

module _ {A : Type 0} (column : Row → A) (t : Tree) where
  column_more : (n k : ℕ) → column_from column t (suc n) k ≡ column_from column t n k ++ (column (node_row t (k + n)) ∷ [])
  unfolding column_from
  column_more zero k = rw (add-zero k)
  column_more (suc n) k =
      let e : k + suc n ≡ k + 1 + n = omega arith in
      rw e (ap (λ (l : List A). column (node_row t k) ∷ l) (column_more n (k + 1)))

  -- the rows that are written are the column's first: none, one row more, all
  pub column_none : (rows : List A) → take 0 rows ≡ column_from column t 0 0
  unfolding column_from
  column_none rows = refl

  pub column_set : (rows : List A) (k : ℕ) → k < length rows → take k rows ≡ column_from column t k 0
      → take (k + 1) (set rows k (column (node_row t k))) ≡ column_from column t (k + 1) 0
  column_set rows k h e = rw (add-one k, take-suc-set rows k (column (node_row t k)) h, e) (sym (rw (zero-add k) at (column_more k 0)))

  pub column_all : (rows : List A) (k : ℕ) → length rows ≤ k → take k rows ≡ column_from column t k 0 → rows ≡ column_from column t k 0
  column_all rows k h e = sym (take_all k rows h) ∙ e

  -- a column is that of the rows
  column_of : (n k : ℕ) → column_from column t n k ≡ map column (rows_from t n k)
  unfolding column_from
  column_of zero k = refl
  column_of (suc n) k = ap (λ (l : List A). column (node_row t k) ∷ l) (column_of n (k + 1))

  column_at : (d : A) (n k i : ℕ) → i < n → get_or (column_from column t n k) i d ≡ column (node_row t (k + i))
  unfolding column_from
  column_at d zero k i h = absurd (omega arith)
  column_at d (suc n) k zero h = rw (add-zero k)
  column_at d (suc n) k (suc i) h = let e : k + suc i ≡ k + 1 + i = omega arith in rw e (column_at d n (k + 1) i (omega arith))

-- both forms of the table say the same
module _ (t : Tree) where
  pub rows_parents : parents_of t ≡ map (λ (r : Row). r.parent) (rows_of t)
  rows_parents = column_of (λ r. r.parent) t nodes_most 0

  pub rows_counts : counts_of t ≡ map (λ (r : Row). r.count) (rows_of t)
  rows_counts = column_of (λ r. r.count) t nodes_most 0

  pub row_at : (d : Row) (k : ℕ) → k < nodes_most → get_or (rows_of t) k d ≡ node_row t k
  row_at d k h = rw (zero-add k) at (column_at (λ r. r) t d nodes_most 0 k h)

  -- "one lent row per node gives parent and property count", "unused rows zero"
  pub row_used : (k : ℕ) → k < t.nodes → node_row t k ≡ record { parent = parent_of t k; count = count_of t k }
  row_used k h = rw (lt-ltb k t.nodes h)

  pub row_unused : (k : ℕ) → t.nodes ≤ k → node_row t k ≡ record { parent = 0; count = 0 }
  row_unused k h = rw (le-ltb k t.nodes h)

-- the refusals in their order
module _ (t : Tree) (parents counts : List ℕ) where
  pub parents_size : (length parents ≡ nodes_most → ⊥) → table_refusal t parents counts ≡ 6
  unfolding table_refusal
  parents_size n = rw (ne_eqb (length parents) nodes_most n)

  module _ (e : length parents ≡ nodes_most) where
    pub counts_size : (length counts ≡ nodes_most → ⊥) → table_refusal t parents counts ≡ 6
    unfolding table_refusal
    counts_size n = rw (eq-eqb (length parents) nodes_most e, ne_eqb (length counts) nodes_most n)

    module _ (f : length counts ≡ nodes_most) where
      pub table_damaged : whole_tree t ≡ false → table_refusal t parents counts ≡ 7
      unfolding table_refusal
      table_damaged w = rw (eq-eqb (length parents) nodes_most e, eq-eqb (length counts) nodes_most f, w)

      pub table_good : whole_tree t ≡ true → table_refusal t parents counts ≡ 0
      unfolding table_refusal
      table_good w = rw (eq-eqb (length parents) nodes_most e, eq-eqb (length counts) nodes_most f, w)

-- where nothing is refused there are 32 rows, and the tree is whole
refused_none : (sized whole : Bool) → pick {A = ℕ} (not sized) 6 (pick (not whole) 7 0) ≡ 0 → (sized ≡ true) × (whole ≡ true)
refused_none true true e = (refl, refl)
refused_none true false e = absurd (omega (arith, e))
refused_none false whole e = absurd (omega (arith, e))

module _ (t : Tree) (size : ℕ) where
  pub rows_size : (size ≡ nodes_most → ⊥) → rows_refusal t size ≡ 6
  unfolding rows_refusal
  rows_size n = rw (ne_eqb size nodes_most n)

  pub rows_damaged : size ≡ nodes_most → whole_tree t ≡ false → rows_refusal t size ≡ 7
  unfolding rows_refusal
  rows_damaged e w = rw (eq-eqb size nodes_most e, w)

  pub rows_good : size ≡ nodes_most → whole_tree t ≡ true → rows_refusal t size ≡ 0
  unfolding rows_refusal
  rows_good e w = rw (eq-eqb size nodes_most e, w)

  pub rows_taken : rows_refusal t size ≡ 0 → (size ≡ nodes_most) × (whole_tree t ≡ true)
  unfolding rows_refusal
  rows_taken e = let f = refused_none (eqb size nodes_most) (whole_tree t) e in
      (eqb→eq size nodes_most (holds (eqb size nodes_most) f.0), f.1)
