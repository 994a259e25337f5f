-- Lookups and the node table of a state: of a whole state they answer what the tree's own calls do, of a damaged one 7, wherever the damage
-- is, once what is lent has its size. Both come from one law: they answer what the tree's calls do of the tree that a whole state has, and
-- a damaged one has none. Assumes nothing.
use Rattle.std.specs.Prelude.{ℕ, Bool, not, ◌&&◌, List, [], ◌≡◌, length, Err, Result}
use Rattle.std.proofs.Common.{ap, arith, sym, ◌∙◌}
use Rattle.std.proofs.Math.Bool.{true, false}
use Rattle.std.proofs.Math.Path.{refl}
use Rattle.std.proofs.Math.Dec.{eqb}
use borrow.Author.Tests.{eq-eqb, eqb-true}
use Rattle.cells.specs.Choice.{pick}
use Rattle.cells.specs.Laws.Facts.{and_first, and_second}
use Rattle.rom.specs.Sizes.{nodes_most, store_size}
use Rattle.tree.specs.Whole.{whole_tree}
use Rattle.tree.specs.Node.{no_tree}
use Rattle.tree.specs.Path.{find_node_of, find_property_of, property_value_of}
use Rattle.tree.specs.Rows.{table_refusal, rows_refusal, rows_then}
use Rattle.tree.specs.Laws.Layout.{either}
use Rattle.tree.specs.declared.tree.Tree.{Tree}
use Rattle.tree.specs.Sought.{Unfound}
use Rattle.state.specs.Whole.{heights_whole, calls_whole, numbers_whole, nodes_whole, whole_of, damaged_of}
use Rattle.state.specs.Lookup.{find_node_in, find_property_in, property_value_in, table_refusal_in, rows_refusal_in}
use Rattle.state.specs.Joints.Lookup.{tree_or_none}
use Rattle.state.specs.declared.state.State.{State}

-- a whole state has a whole tree
pub tree_whole : (st : State) → whole_of st ≡ true → whole_tree st.tree ≡ true
unfolding whole_of
tree_whole st w =
    let frames = calls_whole st.length st.calls st.back.height in
    let numbers = numbers_whole st.length st.numbers in
    let tree = whole_tree st.tree in
    let nodes = nodes_whole st in
    let rest = and_second (heights_whole st) (frames && (numbers && (tree && nodes))) w in
    and_first tree nodes (and_second numbers (tree && nodes) (and_second frames (numbers && (tree && nodes)) rest))

-- the tests of a damaged state, in their order, whatever stands behind them
abbrev tested : State → List ℕ → Result ℕ ℕ → Result ℕ ℕ
tested st store rest = pick (not (eqb (length store) store_size)) (Err 6) (pick (damaged_of st) (Err 7) rest)

tested_damaged : (st : State) (store : List ℕ) (rest : Result ℕ ℕ) → length store ≡ store_size → whole_of st ≡ false
    → tested st store rest ≡ Err 7
tested_damaged st store rest e w = rw (eq-eqb (length store) store_size e, w)

module _ (st : State) (store path : List ℕ) where
  -- of a whole state a lookup answers what the tree's own does
  pub node_whole : whole_of st ≡ true → find_node_in st store path ≡ find_node_of st.tree store path
  unfolding find_node_in find_node_of
  node_whole w = rw (w, tree_whole st w)

  -- of a damaged one 7
  pub node_damaged : length store ≡ store_size → whole_of st ≡ false → find_node_in st store path ≡ Err 7
  unfolding find_node_in
  node_damaged e w = tested_damaged st store _ e w

  -- and 6 before either
  pub node_sizeless : eqb (length store) store_size ≡ false → find_node_in st store path ≡ Err 6
  unfolding find_node_in
  node_sizeless e = rw e

  module _ (name : List ℕ) where
    pub property_whole : whole_of st ≡ true → find_property_in st store path name ≡ find_property_of st.tree store path name
    unfolding find_property_in find_property_of
    property_whole w = rw (node_whole w, find_property_in)

    pub property_damaged : length store ≡ store_size → whole_of st ≡ false → find_property_in st store path name ≡ Unfound 7
    unfolding find_node_in find_property_in
    property_damaged e w =
        let n : find_node_in st store path ≡ Err 7 = tested_damaged st store _ e w in
        rw (n, find_property_in)

    pub value_whole : whole_of st ≡ true → property_value_in st store path name ≡ property_value_of st.tree store path name
    unfolding property_value_in property_value_of
    value_whole w = rw (node_whole w, property_value_in)

    pub value_damaged : length store ≡ store_size → whole_of st ≡ false → property_value_in st store path name ≡ []
    unfolding find_node_in property_value_in
    value_damaged e w =
        let n : find_node_in st store path ≡ Err 7 = tested_damaged st store _ e w in
        rw (n, property_value_in)

-- the node table, of two columns and of rows
module _ (st : State) where
  pub table_whole : (parents counts : List ℕ) → whole_of st ≡ true
      → table_refusal_in st parents counts ≡ table_refusal st.tree parents counts
  unfolding table_refusal_in table_refusal
  table_whole parents counts w = rw (w, tree_whole st w)

  pub table_damaged : (parents counts : List ℕ) → length parents ≡ nodes_most → length counts ≡ nodes_most → whole_of st ≡ false
      → table_refusal_in st parents counts ≡ 7
  unfolding table_refusal_in
  table_damaged parents counts e f w = rw (eq-eqb (length parents) nodes_most e, eq-eqb (length counts) nodes_most f, w)

  pub rows_whole : (size : ℕ) → whole_of st ≡ true → rows_refusal_in st size ≡ rows_refusal st.tree size
  unfolding rows_refusal_in rows_refusal
  rows_whole size w = rw (w, tree_whole st w)

  pub rows_damaged : (size : ℕ) → size ≡ nodes_most → whole_of st ≡ false → rows_refusal_in st size ≡ 7
  unfolding rows_refusal_in
  rows_damaged size e w = rw (eq-eqb size nodes_most e, w)

-- ---- the calls on the tree that a state has to show
none_node : (store path : List ℕ) → find_node_of no_tree store path ≡ pick (not (eqb (length store) store_size)) (Err 6) (Err 7)
unfolding find_node_of whole_tree
none_node store path = refl

tree_shown : (st : State) → whole_of st ≡ true → tree_or_none st ≡ st.tree
tree_shown st w = rw w

tree_none : (st : State) → whole_of st ≡ false → tree_or_none st ≡ no_tree
tree_none st w = rw w

module _ (st : State) (store path : List ℕ) where
  -- a damaged state refuses every path
  tests_refused : whole_of st ≡ false → (sized : Bool) → eqb (length store) store_size ≡ sized → (rest : Result ℕ ℕ)
      → (find_node_of no_tree store path ≡ Err (pick sized 7 6)) × (tested st store rest ≡ Err (pick sized 7 6))
  tests_refused w true e rest = (rw (none_node store path, e), rw (e, w))
  tests_refused w false e rest = (rw (none_node store path, e), rw e)

  refused : whole_of st ≡ false → (sized : Bool) → eqb (length store) store_size ≡ sized
      → (find_node_of no_tree store path ≡ Err (pick sized 7 6)) × (find_node_in st store path ≡ Err (pick sized 7 6))
  unfolding find_node_in
  refused w sized e = tests_refused w sized e _

  pub node_shown : find_node_of (tree_or_none st) store path ≡ find_node_in st store path
  unfolding find_node_in
  node_shown =
      either (whole_of st) (λ w. ap (λ t. find_node_of t store path) (tree_shown st w) ∙ sym (node_whole st store path w))
      (λ w.
      let r = tests_refused w (eqb (length store) store_size) refl _ in
      ap (λ t. find_node_of t store path) (tree_none st w) ∙ r.0 ∙ sym r.1)

  module _ (name : List ℕ) where
    property_none : whole_of st ≡ false → find_property_of no_tree store path name ≡ find_property_in st store path name
    unfolding find_node_in find_property_of find_property_in
    property_none w =
        let r = tests_refused w (eqb (length store) store_size) refl _ in
        let n : find_node_in st store path ≡ Err (pick (eqb (length store) store_size) 7 6) = r.1 in
        rw (r.0, find_property_of, n, find_property_in)

    pub property_shown : find_property_of (tree_or_none st) store path name ≡ find_property_in st store path name
    unfolding find_node_in find_property_of find_property_in
    property_shown =
        either (whole_of st)
        (λ w. ap (λ t. find_property_of t store path name) (tree_shown st w) ∙ sym (property_whole st store path name w))
        (λ w.
        let r = tests_refused w (eqb (length store) store_size) refl _ in
        let n : find_node_in st store path ≡ Err (pick (eqb (length store) store_size) 7 6) = r.1 in
        let p : find_property_of no_tree store path name ≡ find_property_in st store path name =
        rw (r.0, find_property_of, n, find_property_in) in
        ap (λ t. find_property_of t store path name) (tree_none st w) ∙ p)

    value_none : whole_of st ≡ false → property_value_of no_tree store path name ≡ property_value_in st store path name
    unfolding find_node_in property_value_of property_value_in
    value_none w =
        let r = tests_refused w (eqb (length store) store_size) refl _ in
        let n : find_node_in st store path ≡ Err (pick (eqb (length store) store_size) 7 6) = r.1 in
        rw (r.0, property_value_of, n, property_value_in)

    pub value_shown : property_value_of (tree_or_none st) store path name ≡ property_value_in st store path name
    unfolding find_node_in property_value_of property_value_in
    value_shown =
        either (whole_of st) (λ w. ap (λ t. property_value_of t store path name) (tree_shown st w) ∙ sym (value_whole st store path name w))
        (λ w.
        let r = tests_refused w (eqb (length store) store_size) refl _ in
        let n : find_node_in st store path ≡ Err (pick (eqb (length store) store_size) 7 6) = r.1 in
        let p : property_value_of no_tree store path name ≡ property_value_in st store path name =
        rw (r.0, property_value_of, n, property_value_in) in
        ap (λ t. property_value_of t store path name) (tree_none st w) ∙ p)

module _ (st : State) where
  table_none : (parents counts : List ℕ) → whole_of st ≡ false → table_refusal no_tree parents counts ≡ table_refusal_in st parents counts
  unfolding table_refusal table_refusal_in whole_tree
  table_none parents counts w = rw w

  pub table_shown : (parents counts : List ℕ) → table_refusal (tree_or_none st) parents counts ≡ table_refusal_in st parents counts
  table_shown parents counts =
      either (whole_of st) (λ w. rw w (sym (table_whole st parents counts w))) (λ w. rw w (table_none parents counts w))

  rows_none : (size : ℕ) → whole_of st ≡ false → rows_refusal no_tree size ≡ rows_refusal_in st size
  unfolding rows_refusal rows_refusal_in whole_tree
  rows_none size w = rw w

  pub rows_shown : (size : ℕ) → rows_refusal (tree_or_none st) size ≡ rows_refusal_in st size
  rows_shown size = either (whole_of st) (λ w. rw w (sym (rows_whole st size w))) (λ w. rw w (rows_none size w))

  -- what is written, where nothing is refused, is of the state's own tree, which is whole then
  passed : (sized whole : Bool) → pick {A = ℕ} (not sized) 6 (pick (not whole) 7 0) ≡ 0 → whole ≡ true
  passed sized true e = refl
  passed true false e = absurd (omega (arith, e))
  passed false false e = absurd (omega (arith, e))

  shown : {A : Type 0} (why : ℕ) (was : List A) (rows : Tree → List A) → (why ≡ 0 → whole_of st ≡ true)
      → rows_then why was (rows (tree_or_none st)) ≡ rows_then why was (rows st.tree)
  shown why was rows f = either (eqb why 0) (λ e. rw (f (eqb-true why 0 e))) (λ e. rw e)

  pub table_then : (parents counts : List ℕ) (why : ℕ) → why ≡ table_refusal_in st parents counts
      → {A : Type 0} (was : List A) (rows : Tree → List A)
      → rows_then why was (rows (tree_or_none st)) ≡ rows_then why was (rows st.tree)
  unfolding table_refusal_in
  table_then parents counts why e was rows =
      shown why was rows (λ none. passed (eqb (length parents) nodes_most && eqb (length counts) nodes_most) (whole_of st) (sym e ∙ none))

  pub rows_then_lem : (size why : ℕ) → why ≡ rows_refusal_in st size → {A : Type 0} (was : List A) (rows : Tree → List A)
      → rows_then why was (rows (tree_or_none st)) ≡ rows_then why was (rows st.tree)
  unfolding rows_refusal_in
  rows_then_lem size why e was rows = shown why was rows (λ none. passed (eqb size nodes_most) (whole_of st) (sym e ∙ none))
