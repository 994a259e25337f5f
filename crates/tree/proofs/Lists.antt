-- What the library's chains and fills say is what the definitions say. Assumes nothing.
use Prim.Native.Nat.{ℕ, zero, suc, ◌+◌, ◌-◌, ◌≤◌, ◌<◌}
use Rattle.std.proofs.Common.{add-one, zero-add, sym, ap, ◌∙◌, arith, drop-cons, lt-ltb, le-ltb}
use Rattle.std.specs.Prelude.{Bool, true, false, not, ◌&&◌, cond, List, [], ◌∷◌, ◌≡◌, refl, length, get_or, take, drop, replicate, eqb}
use Rattle.std.specs.Prelude.{Option, None, Some, option_copied, unwrap_or}
use Rattle.std.specs.Bool.{MatchBool}
use Rattle.std.specs.List.{range_with_len, list_all, count_by, slice_split, onto_first, AllWithin, HoldsAt}
use Rattle.std.proofs.lemmas.List.FromFn.{get_or-range_with_len, length-range_with_len}
use Rattle.cells.specs.Laws.Facts.{holds, is_true}
use Rattle.std.proofs.lemmas.List.Recursion.{is_count_by}
use Rattle.std.proofs.lemmas.List.{length-replicate}
use Rattle.std.proofs.lemmas.List.Sums.{list_all-from_AllPass}
use Rattle.std.proofs.lemmas.List.Folds.{list_all_at}
use Rattle.cells.specs.Choice.{pick}
use Rattle.tree.specs.Rows.{count_from}
use Rattle.tree.specs.Whole.{every_below, name_most}
use Rattle.tree.specs.Property.{name_byte, all_name_bytes, bad_name}
use Rattle.tree.specs.Held.{same_bytes}
use lib.Pointwise.{pointwise}
use Rattle.tree.specs.Path.{slash, longer, split_of, is_empty, any_empty}
use Rattle.std.proofs.Math.Bool.{or-true}
use Rattle.tree.specs.Joints.Steps.{zeroed_of}
use Rattle.memory.specs.Laws.Memory.{part_written}
use Rattle.std.proofs.Math.Decide.{dec_le}
use borrow.Rule.Slice.PartMut.{put_mid}
use Rattle.tree.specs.Laws.Trees.{every_all, every_fails}
use Rattle.tree.specs.Laws.Sought.{same_is}
use Rattle.std.specs.Option.{option_eq, is_some}
use Rattle.std.specs.Borrow.{Bor}
use Rattle.std.proofs.lemmas.Bool.{false≢true, false_from_ne_true, eq-eqb}

abbrev numbers : ℕ → List ℕ
numbers n = range_with_len 0 n

pub every_told : (n : ℕ) (f : ℕ → Bool) (r : Bool)
    → MatchBool r (AllWithin (λ k. f k ≡ true) (numbers n) 0 (length (numbers n)))
    ((k : ℕ) × (k < length (numbers n)) × HoldsAt (λ k. f k ≡ false) (numbers n) k)
    → r ≡ every_below n f
every_told n f true h =
    let l = length-range_with_len 0 n in
    sym (is_true (every_below n f)
    (every_all n f
    (λ i g.
    let e : get_or (numbers n) i 0 ≡ i = get_or-range_with_len 0 n i 0 g ∙ zero-add i in
    holds (f i) (rw e at (h i 0 (omega arith) (omega arith))))))
every_told n f false h =
    let l = length-range_with_len 0 n in
    let i = h.0 in
    let g : i < n = omega (arith, h.1) in
    let e : get_or (numbers n) i 0 ≡ i = get_or-range_with_len 0 n i 0 g ∙ zero-add i in
    sym (every_fails n i f g (rw e at (h.2 0)))

-- zeros up to a place that lies further
pub zeroed_part : (m : List ℕ) (at end n : ℕ) → at ≤ end → end ≤ length m → n ≡ end - at
    → put_mid at (end - at) m (replicate n 0) ≡ zeroed_of m at end
zeroed_part m at end n h g e =
    rw e (part_written m at (end - at) (replicate (end - at) 0) (length-replicate (end - at) 0) (omega arith))

-- the bytes of a name
name_listed : (bs : List ℕ) → all_name_bytes bs ≡ list_all name_byte bs
unfolding all_name_bytes
name_listed [] = refl
name_listed (b ∷ bs) = ap (λ (r : Bool). name_byte b && r) (name_listed bs)

pub name_told : (name : List ℕ) (r : Bool)
    → MatchBool r (AllWithin (λ b. name_byte b ≡ true) name 0 (length name))
    ((k : ℕ) × (k < length name) × HoldsAt (λ b. name_byte b ≡ false) name k)
    → r ≡ all_name_bytes name
name_told name true h = sym (name_listed name ∙ list_all-from_AllPass name_byte name (λ k d l. h k d (omega arith) l))
name_told name false h = sym (name_listed name ∙ list_all_at name_byte name h.0 0 h.1 (h.2 0))

-- a name of a length in its limits is judged by its bytes alone
pub name_sized : (name : List ℕ) → 1 ≤ length name → length name ≤ name_most → bad_name name ≡ not (all_name_bytes name)
unfolding bad_name
name_sized name h g = rw (le-ltb (length name) 1 h, le-ltb name_most (length name) g)

pub name_unsized : (name : List ℕ) → (1 ≤ length name → length name ≤ name_most → ⊥) → bad_name name ≡ true
unfolding bad_name
name_unsized name n =
    elim (dec_le 1 (length name)) [
      | yes h ↦
          elim (dec_le (length name) name_most) [
            | yes g ↦ absurd (n h g)
            | no g ↦ rw (le-ltb (length name) 1 h, lt-ltb name_most (length name) (omega arith))
          ]
      | no h ↦ rw (lt-ltb (length name) 1 (omega arith))
    ]

-- how many of the first records are a node's
module _ (node : ℕ) where
  counted : List ℕ → ℕ
  counted [] = 0
  counted (x ∷ xs) = cond (eqb x node) (1 + counted xs) (counted xs)

  counted_by : (xs : List ℕ) → counted xs ≡ count_by (λ x. eqb x node) xs
  unfolding counted
  counted_by xs = is_count_by counted (λ x. eqb x node) refl (λ x ys. refl) xs

  one_more : (b : Bool) (c : ℕ) → cond b (1 + c) c ≡ pick b 1 0 + c
  one_more true c = refl
  one_more false c = sym (zero-add c)

  counted_from : (owners : List ℕ) (n i : ℕ) → i + n ≤ length owners → counted (take n (drop i owners)) ≡ count_from owners node n i
  unfolding counted count_from
  counted_from owners zero i h = refl
  counted_from owners (suc n) i h =
      let l : i < length owners = omega arith in
      let more = counted_from owners n (i + 1) (omega arith) in
      rw (drop-cons owners i 0 l, ← add-one i, more) (one_more (eqb (get_or owners i 0) node) (count_from owners node n (i + 1)))

  pub counted_first : (owners : List ℕ) (n : ℕ) → n ≤ length owners
      → count_by (λ x. eqb x node) (take n owners) ≡ count_from owners node n 0
  counted_first owners n h = sym (counted_by (take n owners)) ∙ counted_from owners n 0 (omega arith)

-- the parts of a path
by_slash : (b : ℕ) (ps : List (List ℕ)) → longer b ps ≡ onto_first b ps
by_slash b [] = refl
by_slash b (p ∷ ps) = refl

pub split_listed : (bs : List ℕ) → split_of bs ≡ slice_split (λ b. eqb b slash) bs
unfolding split_of
split_listed [] = refl
split_listed (b ∷ bs) =
    elim (eqb b slash) as (λ t. elim t [ true ↦ [] ∷ split_of bs | false ↦ longer b (split_of bs) ]
    ≡ cond t ([] ∷ slice_split (λ c. eqb c slash) bs) (onto_first b (slice_split (λ c. eqb c slash) bs))) [
      | true ↦ ap (λ (ps : List (List ℕ)). [] ∷ ps) (split_listed bs)
      | false ↦ ap (longer b) (split_listed bs) ∙ by_slash b (slice_split (λ c. eqb c slash) bs)
    ]

empty_yes : (part : List ℕ) → length part ≡ 0 → is_empty part ≡ true
empty_yes [] e = refl
empty_yes (b ∷ bs) e = absurd (omega arith)

empty_no : (part : List ℕ) → (length part ≡ 0 → ⊥) → is_empty part ≡ false
empty_no [] n = absurd (n refl)
empty_no (b ∷ bs) n = refl

any_at : (parts : List (List ℕ)) (k : ℕ) → k < length parts → length (get_or parts k []) ≡ 0 → any_empty parts ≡ true
unfolding any_empty
any_at [] k h e = absurd (omega arith)
any_at (p ∷ ps) zero h e = rw (empty_yes p e)
any_at (p ∷ ps) (suc k) h e = rw (any_at ps k (omega arith) e) (or-true (is_empty p))

none_at : (parts : List (List ℕ)) → ((k : ℕ) → k < length parts → length (get_or parts k []) ≡ 0 → ⊥) → any_empty parts ≡ false
unfolding any_empty
none_at [] n = refl
none_at (p ∷ ps) n = rw (empty_no p (n 0 (omega arith))) (none_at ps (λ k h. n (suc k) (omega arith)))

pub empty_told : (parts : List (List ℕ)) (r : Bool)
    → MatchBool r ((k : ℕ) × (k < length parts) × HoldsAt (λ part. length part ≡ 0) parts k)
    (AllWithin (λ part. length part ≡ 0 → ⊥) parts 0 (length parts))
    → r ≡ any_empty parts
empty_told parts true h = sym (any_at parts h.0 h.1 (h.2 []))
empty_told parts false h = sym (none_at parts (λ k l. h k [] (omega arith) l))

-- two names that are the same
pub same_listed : (a b : List ℕ) → same_bytes a b ≡ pointwise eqb a b
unfolding same_bytes
same_listed [] [] = refl
same_listed [] (y ∷ ys) = refl
same_listed (x ∷ xs) [] = refl
same_listed (x ∷ xs) (y ∷ ys) = ap (λ (r : Bool). eqb x y && r) (same_listed xs ys)

-- bytes that may be missing, compared, where they are the same
ends_same : (p q : Option (Bor ℕ)) → option_copied p ≡ option_copied q → option_eq (λ x y. eqb x.now y.now) p q ≡ true
ends_same None None e = refl
ends_same None (Some y) e = absurd (false≢true (ap is_some e))
ends_same (Some x) None e = absurd (false≢true (sym (ap is_some e)))
ends_same (Some x) (Some y) e = eq-eqb x.now y.now (ap (λ o. unwrap_or o 0) e)

-- names are not the same where a byte that one rule picks from each is not
pub ends_differ : (g : List ℕ → Option ℕ) (a b : List ℕ) (p q : Option (Bor ℕ)) → option_copied p ≡ g a → option_copied q ≡ g b
    → option_eq (λ x y. eqb x.now y.now) p q ≡ false → false ≡ same_bytes a b
ends_differ g a b p q l m e =
    sym (false_from_ne_true (same_bytes a b) (λ s. false≢true (sym e ∙ ends_same p q (l ∙ ap g (same_is a b s) ∙ sym m))))
