-- What writing a property comes to, refusal by refusal, and by the numbers of Steps where it has room. Assumes nothing.
use Rattle.std.specs.Prelude.{ℕ, suc, ◌+◌, ◌-◌, ◌≤◌, ◌<◌, Bool, true, false, not, ◌||◌, List, ◌++◌, ◌≡◌, refl, take, ltb}
use Rattle.std.proofs.Common.{zero-add, arith, true≢false, ap, ◌∙◌, length-append, length-take-le}
use Rattle.std.proofs.Math.Decide.{dec_le}
use Rattle.std.proofs.Math.Bool.{or-true}
use Rattle.std.proofs.Math.ListN.{length}
use borrow.Author.Tests.{lt-ltb, le-ltb, le-leb, lt-leb, eq-eqb, ne_eqb, ltb-false}
use Rattle.cells.specs.Laws.Tests.{same_ltb}
use Rattle.memory.specs.Window.{part_of}
use Rattle.memory.specs.Laws.Memory.{length_part}
use Rattle.tree.specs.Held.{held_of, live_of, laid_out, index_of, name_size, value_size}
use Rattle.tree.specs.Whole.{name_most, whole_tree}
use Rattle.tree.specs.Node.{write_done, write_refused}
use Rattle.tree.specs.Property.{all_name_bytes, bad_name, overfull, would_hold, put_refusal, store_with, tree_put, store_put, put_of}
use Rattle.tree.specs.Property.{store_of}
use Rattle.tree.specs.Joints.Steps.{found_of, full_with, laid_with}
use Rattle.tree.specs.Laws.Layout.{walked, appended_is, replaced_is}
use Rattle.rom.specs.Sizes.{properties_most, store_size}
use Rattle.tree.specs.declared.tree.Tree.{Tree}

pub or_parts : (a b : Bool) → a || b ≡ false → (a ≡ false) × (b ≡ false)
or_parts true b e = absurd (true≢false e)
or_parts false b e = (refl, e)

-- what a name that is good says
pub name_facts : (name : List ℕ) → bad_name name ≡ false → (1 ≤ length name) × (length name ≤ name_most)
unfolding bad_name
name_facts name e =
    let p = or_parts (ltb (length name) 1 || ltb name_most (length name)) (not (all_name_bytes name)) e in
    let q = or_parts (ltb (length name) 1) (ltb name_most (length name)) p.0 in
    (ltb-false (length name) 1 q.0, ltb-false name_most (length name) q.1)

module _ (t : Tree) (s : List ℕ) (node : ℕ) (name value : List ℕ) where
  -- refused, or done
  pub put_refused : (why : ℕ) → (why ≡ 0 → ⊥) → put_refusal t s node name value ≡ why → (write_refused why t ≡ put_of t s node name value) ×
      (s ≡ store_of t s node name value)
  unfolding put_of store_of
  put_refused why n e = (rw (e, ne_eqb why 0 n), rw (e, ne_eqb why 0 n))

  pub put_done : put_refusal t s node name value ≡ 0 → (write_done (tree_put t s node name value) ≡ put_of t s node name value) ×
      (store_put t s node name value ≡ store_of t s node name value)
  unfolding put_of store_of
  put_done e = (rw e, rw e)

  -- the refusals in their order
  pub wrong_size : (length s ≡ store_size → ⊥) → put_refusal t s node name value ≡ 6
  unfolding put_refusal
  wrong_size n = rw (ne_eqb (length s) store_size n)

  module _ (e : length s ≡ store_size) where
    pub damaged : whole_tree t ≡ false → put_refusal t s node name value ≡ 7
    unfolding put_refusal
    damaged w = rw (eq-eqb (length s) store_size e, w)

    module _ (w : whole_tree t ≡ true) where
      pub misnamed : bad_name name ≡ true → put_refusal t s node name value ≡ 26
      unfolding put_refusal
      misnamed b = rw (eq-eqb (length s) store_size e, w, b)

      module _ (b : bad_name name ≡ false) where
        pub no_room : overfull (would_hold t s node name value) ≡ true → put_refusal t s node name value ≡ 27
        unfolding put_refusal
        no_room o = rw (eq-eqb (length s) store_size e, w, b, o)

        pub room : overfull (would_hold t s node name value) ≡ false → put_refusal t s node name value ≡ 0
        unfolding put_refusal
        room o = rw (eq-eqb (length s) store_size e, w, b, o)

  -- where the record stands
  abbrev index : ℕ
  index = (found_of t s node name).index

  abbrev at : ℕ
  at = (found_of t s node name).at

  pub index_is : index ≡ index_of (held_of t s) node name
  index_is = let w = walked t s node name value t.held 0 0 in omega arith

  pub index_most : index ≤ t.held
  index_most = let w = walked t s node name value t.held 0 0 in omega arith

  -- a record that is not there, and one that is
  pub absent : index ≡ t.held
      → (at ≡ live_of t) × (length (would_hold t s node name value) ≡ suc t.held) ×
      (laid_out (would_hold t s node name value) ≡ take (live_of t) s ++ (name ++ value))
  absent e = rw (zero-add (live_of t)) at ((walked t s node name value t.held 0 0).3 (omega arith))

  abbrev start : ℕ
  start = at + name_size t index

  abbrev end : ℕ
  end = start + value_size t index

  pub present : (index ≡ t.held → ⊥)
      → (end ≤ live_of t) × (length (would_hold t s node name value) ≡ t.held)
      × (laid_out (would_hold t s node name value) ≡ take start s ++ (value ++ part_of s end (live_of t - end)))
  present n =
      let w = walked t s node name value t.held 0 0 in
      rw (zero-add (live_of t)) at (w.4 (omega arith))

  module _ (h : t.held ≤ properties_most) (l : live_of t ≤ length s) where
    pub length_new : index ≡ t.held → length (laid_out (would_hold t s node name value)) ≡ live_of t + length name + length value
    length_new e =
        let f = length-append name value in
        let g = length-append (take (live_of t) s) (name ++ value) in
        let q = length-take-le (live_of t) s l in
        ap length (absent e).2 ∙ omega arith

    pub length_old : (index ≡ t.held → ⊥) → length (laid_out (would_hold t s node name value)) ≡ start + length value + (live_of t - end)
    length_old n =
        let p = (present n).0 in
        let f = length-append value (part_of s end (live_of t - end)) in
        let g = length-append (take start s) (value ++ part_of s end (live_of t - end)) in
        let q = length-take-le start s (omega arith) in
        let r = length_part s end (live_of t - end) (omega arith) in
        ap length (present n).2 ∙ omega arith

    full_new : index ≡ t.held → overfull (would_hold t s node name value) ≡ full_with t (live_of t) index (length name) (length value)
    unfolding overfull
    full_new e =
        rw (length_new e, (absent e).1, eq-eqb index t.held e)
        (elim (dec_le properties_most t.held) [
          | yes p ↦ rw (lt-ltb properties_most (suc t.held) (omega arith), le-leb properties_most index (omega arith))
          | no p ↦ rw (le-ltb properties_most (suc t.held) (omega arith), lt-leb properties_most index (omega arith))
        ])

    full_old : (index ≡ t.held → ⊥) → overfull (would_hold t s node name value) ≡ full_with t (live_of t) index (length name) (length value)
    unfolding overfull
    full_old n =
        let p = (present n).0 in
        rw (length_old n, (present n).1, ne_eqb index t.held n, le-ltb properties_most t.held h)
        (same_ltb store_size (start + length value + (live_of t - end)) (store_size + value_size t index) (live_of t + length value)
        (λ x. omega arith) (λ x. omega arith))

    pub full_is : overfull (would_hold t s node name value) ≡ full_with t (live_of t) index (length name) (length value)
    full_is = elim (dec_le t.held index) [ yes p ↦ full_new (let m = index_most in omega arith) | no p ↦ full_old (λ e. omega arith) ]

    -- a value that is larger than the store has no room
    pub full_value : store_size < length value → overfull (would_hold t s node name value) ≡ true
    unfolding overfull
    full_value g =
        elim (dec_le t.held index) [
          | yes p ↦ let e = length_new (let m = index_most in omega arith) in
              rw (lt-ltb store_size (length (laid_out (would_hold t s node name value))) (omega arith))
              (or-true (ltb properties_most (length (would_hold t s node name value))))
          | no p ↦ let e = length_old (λ e. omega arith) in
              rw (lt-ltb store_size (length (laid_out (would_hold t s node name value))) (omega arith))
              (or-true (ltb properties_most (length (would_hold t s node name value))))
        ]

    -- what has room is laid as it should be
    module _ (z : length s ≡ store_size) (o : overfull (would_hold t s node name value) ≡ false) where
      pub fits : (length (would_hold t s node name value) ≤ properties_most)
          × (length (laid_out (would_hold t s node name value)) ≤ store_size)
      unfolding overfull
      fits =
          let p = or_parts (ltb properties_most (length (would_hold t s node name value)))
          (ltb store_size (length (laid_out (would_hold t s node name value)))) o in (
            ltb-false properties_most (length (would_hold t s node name value)) p.0,
            ltb-false store_size (length (laid_out (would_hold t s node name value))) p.1,
          )

      laid_new : (e : index ≡ t.held) → laid_with t s (live_of t) index at name value ≡ store_put t s node name value
      unfolding store_with
      laid_new e =
          let f = fits.1 in
          let g = length_new e in
          rw (eq-eqb index t.held e, (absent e).2, ← z) (appended_is s (live_of t) name value (omega arith))

      laid_old : (n : index ≡ t.held → ⊥) → laid_with t s (live_of t) index at name value ≡ store_put t s node name value
      unfolding store_with
      laid_old n =
          let f = fits.1 in
          let g = length_old n in
          rw (ne_eqb index t.held n, (present n).2, ← z)
          (replaced_is s (live_of t) start (value_size t index) value (present n).0 l (omega arith))

      pub laid_is : laid_with t s (live_of t) index at name value ≡ store_put t s node name value
      laid_is = elim (dec_le t.held index) [ yes p ↦ laid_new (let m = index_most in omega arith) | no p ↦ laid_old (λ e. omega arith) ]

      pub index_fits : index < properties_most
      index_fits =
          elim (dec_le t.held index) [
            | yes p ↦ let m = index_most in let a = (absent (omega arith)).1 in let f = fits.0 in omega arith
            | no p ↦ omega arith
          ]
