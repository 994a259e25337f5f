-- What writing a property in place comes to, by the tests that the code makes. Assumes nothing.
use Rattle.std.specs.Prelude.{ℕ, suc, ◌+◌, ◌-◌, ◌≤◌, ◌<◌, true, false, List, ◌≡◌, refl, length, get_or, set, replicate, leb}
use Rattle.std.proofs.Common.{zero-add, arith, sym, ap, subst, ◌∙◌, length-set, lt-ltb, le-ltb, le-leb, eq-eqb, ne_eqb}
use Rattle.std.proofs.Math.Bool.{or-true}
use Rattle.std.proofs.Math.ListN.{get_or-eq_default}
use Rattle.std.proofs.lemmas.List.{set-get_or}
use Rattle.std.proofs.Math.Arith.{lt_of_le-ne}
use Rattle.std.proofs.lemmas.Bool.{lt-leb}
use Rattle.memory.specs.Window.{part_of}
use Rattle.memory.specs.Writing.{written_of, moved_of}
use Rattle.memory.specs.Laws.Memory.{length_written}
use Rattle.tree.specs.Held.{live_among, found_from}
use Rattle.tree.specs.Whole.{whole_tree}
use Rattle.tree.specs.Tree.{tree_on_records}
use Rattle.tree.specs.Node.{fresh_tree, write_done}
use Rattle.tree.specs.Property.{bad_name, overfull, would_hold, put_refusal, recorded_of, put_of, store_of}
use Rattle.tree.specs.Joints.Steps.{found_of, appended_of, replaced_of}
use Rattle.tree.specs.Laws.Trees.{whole_facts}
use Rattle.tree.specs.Laws.Puts.{put_refused, put_done, misnamed, no_room, room, index_is, index_most, present}
use Rattle.tree.specs.Laws.Puts.{full_is, full_value, laid_is}
use Rattle.tree.specs.Laws.Lives.{live_behind, live_inside, found_name, found_owner}
use Rattle.tree.specs.Laws.PutKept.{SizedTree}
use Rattle.tree.specs.Joints.Apart.{refused_with, done_with, tail_of, Clean, Tallied, Finds, Missing, Puts}
use Rattle.tree.specs.Laws.Clean.{clean_cleared}
use Rattle.rom.specs.Sizes.{properties_most, store_size}
use Rattle.rom.specs.Refusal.{refusal_number}
use Rattle.rom.specs.declared.refusal.Refusal.{Refusal}
use Rattle.rom.specs.declared.refusal.Refusal.TheVariants.{BadName, StoreFull}
use Rattle.tree.specs.declared.tree.Tree.{Tree}
use Rattle.tree.specs.declared.property.Found.{Found}
use Rattle.tree.specs.declared.in_place.Tail.{Tail}
use Rattle.tree.specs.declared.in_place.Kept.{Kept}

-- the tail of a whole tree's records, of whose store nothing else is known
pub tallied_first : (t : Tree) (s : List ℕ) → SizedTree t → whole_tree t ≡ true → length s ≡ store_size
    → Tallied s t.name_sizes t.value_sizes t.held (tail_of t.name_sizes t.value_sizes t.held)
tallied_first t s z w l =
    let n = whole_facts t w in
    (l, z.name_sizes, z.value_sizes, n.held_most, refl, (n.live_most, omega arith, λ k h. get_or-eq_default s 0 {n = k} (omega arith)))

length_appended : (s : List ℕ) (live : ℕ) (name value : List ℕ) → length (appended_of s live name value) ≡ length s
length_appended s live name value =
    let x = written_of s live name in
    let y = written_of x (live + length name) value in
    let end = live + length name + length value in
    length_written y end (replicate (length y - end) 0) ∙ length_written x (live + length name) value ∙ length_written s live name

length_replaced : (s : List ℕ) (live at old : ℕ) (value : List ℕ) → length (replaced_of s live at old value) ≡ length s
length_replaced s live at old value =
    let n = live - (at + old) in
    let x = moved_of s (at + old) (at + length value) n in
    let y = written_of x at value in
    let end = at + length value + n in
    length_written y end (replicate (length y - end) 0) ∙ length_written x at value
    ∙ length_written s (at + length value) (part_of s (at + old) n)

module _ (node : ℕ) (name value s owners name_sizes value_sizes : List ℕ) (held : ℕ) (tail : Tail)
    (k : Tallied s name_sizes value_sizes held tail) where
  abbrev n : ℕ
  n = length name

  abbrev v : ℕ
  v = length value

  -- the tree put together
  abbrev lent : Tree → Tree
  lent t = tree_on_records t owners name_sizes value_sizes held

  abbrev Given : Kept → List ℕ → List ℕ → List ℕ → List ℕ → Type 0
  Given r s' owners' name_sizes' value_sizes' = Puts node name value s owners name_sizes value_sizes held r s' owners' name_sizes'
      value_sizes'

  -- the live bytes are in the store
  roomy : live_among name_sizes value_sizes held 0 ≤ length s
  roomy = let b = k.4 in let c = k.5 in omega arith

  -- a record that is not behind them all is one of them
  pub among_them : (f : Found) → Finds s owners name_sizes value_sizes held node name f → (f.index ≡ held → ⊥) → f.index < held
  among_them f e n =
      let i = ap (λ (x : Found). x.index) (e fresh_tree) in
      let m = index_most (lent fresh_tree) s node name value in
      lt_of_le-ne (omega arith) n

  refused_as : (why : Refusal) → (refusal_number why ≡ 0 → ⊥)
      → ((t : Tree) → whole_tree (lent t) ≡ true → put_refusal (lent t) s node name value ≡ refusal_number why)
      → Given (refused_with why held tail) s owners name_sizes value_sizes
  refused_as why n e = (λ t w. put_refused (lent t) s node name value (refusal_number why) n (e t w), k)

  pub bad_name_lem : bad_name name ≡ true → Given (refused_with BadName held tail) s owners name_sizes value_sizes
  bad_name_lem b = refused_as BadName (λ e. omega arith) (λ t w. misnamed (lent t) s node name value k.0 w b)

  module _ (b : bad_name name ≡ false) where
    full : ((t : Tree) → overfull (would_hold (lent t) s node name value) ≡ true)
        → Given (refused_with StoreFull held tail) s owners name_sizes value_sizes
    full o = refused_as StoreFull (λ e. omega arith) (λ t w. no_room (lent t) s node name value k.0 w b (o t))

    pub large_value : store_size < length value → Given (refused_with StoreFull held tail) s owners name_sizes value_sizes
    large_value g = full (λ t. full_value (lent t) s node name value k.3 roomy g)

    -- a property more
    module _ (m : Missing s owners name_sizes value_sizes held node name) where
      abbrev added_live : ℕ
      added_live = tail.live + n + v

      pub all_held : properties_most ≤ held → Given (refused_with StoreFull held tail) s owners name_sizes value_sizes
      all_held h =
          full (λ t.
          full_is (lent t) s node name value k.3 roomy ∙ rw (m t, eq-eqb held held refl, le-leb properties_most held h))

      pub store_full_lem : store_size < added_live → Given (refused_with StoreFull held tail) s owners name_sizes value_sizes
      store_full_lem h =
          full (λ t.
          full_is (lent t) s node name value k.3 roomy
          ∙ rw (m t, eq-eqb held held refl, ← k.4, lt-ltb store_size added_live h) (or-true (leb properties_most held)))

      module _ (h : held < properties_most) (l : added_live ≤ store_size) where
        has_room : (t : Tree) → overfull (would_hold (lent t) s node name value) ≡ false
        has_room t =
            full_is (lent t) s node name value k.3 roomy
            ∙ rw (m t, eq-eqb held held refl, ← k.4, lt-leb properties_most held h, le-ltb store_size added_live l)

        recorded_new : (t : Tree)
            → tree_on_records t (set owners held node) (set name_sizes held n) (set value_sizes held v) (held + 1)
            ≡ recorded_of (lent t) held node n v
        unfolding recorded_of
        recorded_new t = rw (eq-eqb held held refl)

        tree_added : (t : Tree) → whole_tree (lent t) ≡ true
            → (write_done (recorded_of (lent t) held node n v) ≡ put_of (lent t) s node name value)
            × (appended_of s tail.live name value ≡ store_of (lent t) s node name value)
        tree_added t w =
            let i = m t in
            let p = put_done (lent t) s node name value (room (lent t) s node name value k.0 w b (has_room t)) in (
              ap (λ (x : ℕ). write_done (recorded_of (lent t) x node n v)) (sym i ∙ index_is (lent t) s node name value) ∙ p.0,
              rw (i, eq-eqb held held refl, ← k.4) at (laid_is (lent t) s node name value k.3 roomy k.0 (has_room t)) ∙ p.1,
            )

        tally_added : Tallied (appended_of s tail.live name value) (set name_sizes held n) (set value_sizes held v) (held + 1)
            (record { live = added_live; zeros = added_live })
        tally_added =
            let live = tail.live in
            let kn = k.1 in
            let kv = k.2 in
            let e = k.4 in
            let f = live_behind name_sizes value_sizes held n v (omega arith) (omega arith) held 0 (omega arith) in
            let d : held + 1 ≡ suc held = omega arith in
            let size : length (appended_of s live name value) ≡ store_size = length_appended s live name value ∙ k.0 in (
              size,
              length-set name_sizes held n ∙ kn,
              length-set value_sizes held v ∙ kv,
              omega arith,
              rw d (omega arith),
              (omega arith, omega arith, clean_cleared (written_of (written_of s live name) (live + n) value) added_live),
            )

        pub added : Given (done_with (held + 1) added_live) (appended_of s tail.live name value)
            (set owners held node) (set name_sizes held n) (set value_sizes held v)
        added = (λ t w. let p = tree_added t w in (ap write_done (recorded_new t) ∙ p.0, p.1), tally_added)

    -- another value
    module _ (f : Found) (e : Finds s owners name_sizes value_sizes held node name f) (h : f.index < held) where
      abbrev i : ℕ
      i = f.index

      abbrev old : ℕ
      old = get_or value_sizes i 0

      abbrev changed_live : ℕ
      changed_live = tail.live - old + v

      there : (t : Tree) → i ≡ (found_from (lent t) s node name held 0 0).index
      there t = ap (λ (x : Found). x.index) (e t)

      -- the record is the node's, and its name is as long
      named : get_or name_sizes i 0 ≡ n
      named =
          let j = there fresh_tree in
          rw j (found_name (lent fresh_tree) s node name held 0 0 (rw (zero-add (live_among name_sizes value_sizes held 0)) roomy)
          (omega arith))

      owned : get_or owners i 0 ≡ node
      owned = let j = there fresh_tree in rw j (found_owner (lent fresh_tree) s node name held 0 0 (omega arith))

      -- its bytes are among the live ones
      pub inside : f.at + n + old ≤ tail.live
      inside =
          let j = there fresh_tree in
          let p = (present (lent fresh_tree) s node name value (λ x. omega arith)).0 in
          rw (← named, k.4, e fresh_tree) p

      pub value_grows : store_size < changed_live → Given (refused_with StoreFull held tail) s owners name_sizes value_sizes
      value_grows g =
          let q = inside in
          full (λ t.
          full_is (lent t) s node name value k.3 roomy
          ∙ rw (← there t, ne_eqb i held (λ x. omega arith), ← k.4) (lt-ltb (store_size + old) (tail.live + v) (omega arith)))

      module _ (l : changed_live ≤ store_size) where
        fits : (t : Tree) → overfull (would_hold (lent t) s node name value) ≡ false
        fits t =
            let q = inside in
            full_is (lent t) s node name value k.3 roomy
            ∙ rw (← there t, ne_eqb i held (λ x. omega arith), ← k.4) (le-ltb (store_size + old) (tail.live + v) (omega arith))

        -- the record keeps its node and its name
        same_owner : set owners i node ≡ owners
        same_owner = ap (λ (x : ℕ). set owners i x) (sym owned) ∙ set-get_or owners i 0

        same_name : set name_sizes i n ≡ name_sizes
        same_name = ap (λ (x : ℕ). set name_sizes i x) (sym named) ∙ set-get_or name_sizes i 0

        recorded_old : (t : Tree)
            → tree_on_records t owners name_sizes (set value_sizes i v) held
            ≡ recorded_of (lent t) i node n v
        unfolding recorded_of
        recorded_old t = rw (ne_eqb i held (λ x. omega arith), same_owner, same_name)

        abbrev other : List ℕ
        other = replaced_of s tail.live (f.at + n) old value

        tree_changed : (t : Tree) → whole_tree (lent t) ≡ true
            → (write_done (recorded_of (lent t) i node n v) ≡ put_of (lent t) s node name value)
            × (other ≡ store_of (lent t) s node name value)
        tree_changed t w =
            let j = there t in
            let d = ne_eqb (found_of (lent t) s node name).index held (λ x. omega arith) in
            let p = put_done (lent t) s node name value (room (lent t) s node name value k.0 w b (fits t)) in (
              ap (λ (x : ℕ). write_done (recorded_of (lent t) x node n v)) (there t ∙ index_is (lent t) s node name value) ∙ p.0,
              rw (← named, k.4, e t) (rw d at (laid_is (lent t) s node name value k.3 roomy k.0 (fits t))) ∙ p.1,
            )

        tally_changed : Tallied other name_sizes (set value_sizes i v) held (record { live = changed_live; zeros = changed_live })
        tally_changed =
            let live = tail.live in
            let at = f.at + n in
            let q = inside in
            let kn = k.1 in
            let kv = k.2 in
            let kh = k.3 in
            let e = k.4 in
            let d = named in
            let r = live_inside name_sizes value_sizes i n v (omega arith) (omega arith) held 0 (omega arith) (omega arith) in
            let g = rw same_name at r in
            let x : at + v + (live - (at + old)) ≡ changed_live = omega arith in
            let size : length other ≡ store_size = length_replaced s live at old value ∙ k.0 in (
              size,
              kn,
              length-set value_sizes i v ∙ kv,
              kh,
              omega arith,
              (
                omega arith,
                omega arith,
                subst (λ (z : ℕ). Clean other z) x
                    (clean_cleared (written_of (moved_of s (at + old) (at + v) (live - (at + old))) at value)
                    (at + v + (live - (at + old)))),
              ),
            )

        pub changed : Given (done_with held changed_live) other owners name_sizes (set value_sizes i v)
        changed = (λ t w. let p = tree_changed t w in (ap write_done (recorded_old t) ∙ p.0, p.1), tally_changed)
