-- What callers need of memory: what is written lies between what stood before and behind it, and a range that is good has as many bytes as
-- were asked for. Assumes nothing.
use Rattle.std.specs.Prelude.{ℕ, zero, suc, ◌+◌, ◌-◌, ◌≤◌, ◌<◌, min, Bool, ◌&&◌, List, [], ◌∷◌, ◌++◌, ◌≡◌, refl, get_or, take, drop, set, T}
use Rattle.std.specs.Prelude.{leb}
use Rattle.std.proofs.Common.{add-zero, add-one, arith, true≢false, append_assoc, sym, ap, ◌∙◌, length-set, length-take, length-drop}
use Rattle.std.proofs.Common.{get_or-set_same, get_or-set_other, leb→le, le-leb, leb-true}
use Rattle.std.proofs.Math.Bool.{true, false}
use Rattle.std.proofs.lemmas.Bool.{false≢true, lt-leb}
use Rattle.std.proofs.Math.ListN.{length}
use Rattle.std.proofs.lemmas.List.Edits.{sets, sets-eq}
use Rattle.std.proofs.Math.Seq.{length-sets, set_out, paste, take_all}
use Rattle.std.proofs.Common.{length-take-le}
use Rattle.std.proofs.lemmas.Slice.{put_mid-paste}
use borrow.Rule.Slice.PartMut.{put_mid}
use Rattle.std.proofs.lemmas.List.{set_comm}
use Rattle.cells.specs.Choice.{pick}
use Rattle.cells.specs.Laws.Tests.{pick_is}
use Rattle.memory.specs.Window.{window_of, rom_base, work_base, lies, is_nowhere, part_of, held_by, range_of, bad_range, resolve_of}
use Rattle.memory.specs.Window.{no_part, bad_string}
use Rattle.rom.specs.Spread.{is_spread}
use Rattle.memory.specs.Writing.{written_of}
use Rattle.memory.specs.declared.window.Window.{Window}
use Rattle.memory.specs.declared.window.Window.TheVariants.{Rom, Work, Nowhere}

-- the library's name for a run of stores
pub written_sets : (m : List ℕ) (at : ℕ) (bs : List ℕ) → written_of m at bs ≡ sets m at bs
unfolding written_of
written_sets m at [] = refl
written_sets m at (b ∷ bs) = rw (add-one at) (written_sets (set m at b) (suc at) bs)

pub length_written : (m : List ℕ) (at : ℕ) (bs : List ℕ) → length (written_of m at bs) ≡ length m
length_written m at bs = rw (written_sets m at bs) (length-sets m at bs)

pub written_is : (m : List ℕ) (at : ℕ) (bs : List ℕ) → at + length bs ≤ length m
    → written_of m at bs ≡ take at m ++ (bs ++ drop (at + length bs) m)
written_is m at bs h =
    written_sets m at bs ∙ sets-eq bs m at h ∙ append_assoc (take at m) bs (drop (at + length bs) m)

-- the library's name for a part that is replaced
pub paste_written : (m : List ℕ) (at : ℕ) (s : List ℕ) (n : ℕ) → at + n ≤ length m → n ≤ length s
    → paste m at s n ≡ written_of m at (take n s)
paste_written m at s n h f =
    let e = length-take-le n s f in
    rw (written_is m at (take n s) (omega arith), e) (append_assoc (take at m) (take n s) (drop (at + n) m))

pub part_written : (m : List ℕ) (at n : ℕ) (bs : List ℕ) → length bs ≡ n → at + n ≤ length m → put_mid at n m bs ≡ written_of m at bs
part_written m at n bs e h =
    put_mid-paste at n m bs bs n refl refl (sym e) ∙ paste_written m at bs n h (omega arith)
    ∙ ap (written_of m at) (take_all n bs (omega arith))

-- one byte, and one part behind the other
pub written_more : (m : List ℕ) (at b : ℕ) (bs : List ℕ) → written_of m at (b ∷ bs) ≡ written_of (set m at b) (at + 1) bs
unfolding written_of
written_more m at b bs = refl

pub written_none : (m : List ℕ) (at : ℕ) → written_of m at [] ≡ m
unfolding written_of
written_none m at = refl

pub written_append : (m : List ℕ) (at : ℕ) (xs ys : List ℕ) → written_of m at (xs ++ ys) ≡ written_of (written_of m at xs) (at + length xs)
    ys
unfolding written_of
written_append m at [] ys = rw (add-zero at)
written_append m at (x ∷ xs) ys =
    let e : at + suc (length xs) ≡ at + 1 + length xs = omega arith in
    rw e (written_append (set m at x) (at + 1) xs ys)

-- past the end nothing is written
pub written_out : (m : List ℕ) (at : ℕ) (bs : List ℕ) → length m ≤ at → written_of m at bs ≡ m
unfolding written_of
written_out m at [] h = refl
written_out m at (b ∷ bs) h = rw (set_out m at b h) (written_out m (at + 1) bs (omega arith))

pub written_take : (m : List ℕ) (at : ℕ) (bs : List ℕ) (n : ℕ) → length m - at ≤ n → written_of m at (take n bs) ≡ written_of m at bs
unfolding written_of
written_take m at bs zero h = sym (written_out m at bs (omega arith))
written_take m at [] (suc n) h = refl
written_take m at (b ∷ bs) (suc n) h =
    let l = length-set m at b in
    written_take (set m at b) (at + 1) bs n (omega arith)

-- a store behind what is written may come first
pub set_written : (m : List ℕ) (at : ℕ) (bs : List ℕ) (j b : ℕ) → at + length bs ≤ j
    → set (written_of m at bs) j b ≡ written_of (set m j b) at bs
unfolding written_of
set_written m at [] j b h = refl
set_written m at (x ∷ xs) j b h =
    rw (set_comm m j at b x (λ e. omega arith)) (set_written (set m at x) (at + 1) xs j b (omega arith))

-- what a byte is then: as before outside the part that was written, and the part's own inside
pub written_before : (m : List ℕ) (at : ℕ) (bs : List ℕ) (k : ℕ) → k < at → get_or (written_of m at bs) k 0 ≡ get_or m k 0
unfolding written_of
written_before m at [] k h = refl
written_before m at (b ∷ bs) k h =
    written_before (set m at b) (at + 1) bs k (omega arith) ∙ get_or-set_other m at k b 0 (λ e. omega arith)

pub written_behind : (m : List ℕ) (at : ℕ) (bs : List ℕ) (k : ℕ) → at + length bs ≤ k → get_or (written_of m at bs) k 0 ≡ get_or m k 0
unfolding written_of
written_behind m at [] k h = refl
written_behind m at (b ∷ bs) k h =
    written_behind (set m at b) (at + 1) bs k (omega arith) ∙ get_or-set_other m at k b 0 (λ e. omega arith)

pub written_inside : (m : List ℕ) (at : ℕ) (bs : List ℕ) (k : ℕ) → k < length bs → at + k < length m
    → get_or (written_of m at bs) (at + k) 0 ≡ get_or bs k 0
unfolding written_of
written_inside m at [] k h f = absurd (omega arith)
written_inside m at (b ∷ bs) zero h f =
    rw (add-zero at) (written_before (set m at b) (at + 1) bs at (omega arith) ∙ get_or-set_same m at b 0 (omega arith))
written_inside m at (b ∷ bs) (suc k) h f =
    let e : at + suc k ≡ at + 1 + k = omega arith in
    let l = length-set m at b in
    rw e (written_inside (set m at b) (at + 1) bs k (omega arith) (omega arith))

-- a part that lies in its memory has as many bytes as were asked for
pub length_part : (m : List ℕ) (start count : ℕ) → start + count ≤ length m → length (part_of m start count) ≡ count
length_part m start count h = rw (length-take count (drop start m), length-drop start m) (omega arith)

-- by the two ways of a test
either {ℓ} : {P : Type ℓ} (b : Bool) → (b ≡ true → P) → (b ≡ false → P) → P
either true u v = u refl
either false u v = v refl

-- what it is to lie in a window
and_parts : (a b : Bool) → T (a && b) → T a × T b
and_parts true b t = (tt, t)
and_parts false b t = absurd t

same_leb : (a b c d : ℕ) → (a ≤ b → c ≤ d) → (c ≤ d → a ≤ b) → leb a b ≡ leb c d
same_leb a b c d f g =
    either (leb a b) (λ e. e ∙ sym (le-leb c d (f (leb-true a b e))))
    (λ e. either (leb c d) (λ p. absurd (true≢false (sym (le-leb a b (g (leb-true c d p))) ∙ e))) (λ p. e ∙ sym p))

true_t : (b : Bool) → b ≡ true → T b
true_t true e = tt
true_t false e = absurd (false≢true e)

pub lies_within : (base size address count : ℕ) → lies base size address count ≡ true → (base ≤ address) × (address + count ≤ base + size)
lies_within base size address count e =
    let p = and_parts (leb base address) (leb (address + count) (base + size)) (true_t (lies base size address count) e) in
    (leb→le base address p.0, leb→le (address + count) (base + size) p.1)

pub lies_good : (base size address count : ℕ) → base ≤ address → address + count ≤ base + size → lies base size address count ≡ true
lies_good base size address count f g = rw (le-leb base address f, le-leb (address + count) (base + size) g)

pub lies_low : (base size address count : ℕ) → address < base → lies base size address count ≡ false
lies_low base size address count f = rw (lt-leb base address f)

pub lies_high : (base size address count : ℕ) → base ≤ address → base + size < address + count → lies base size address count ≡ false
lies_high base size address count f g = rw (le-leb base address f, lt-leb (address + count) (base + size) g)

-- counted from the window's base
pub lies_from : (base size address count : ℕ) → base ≤ address → lies base size address count ≡ leb (address - base + count) size
lies_from base size address count f =
    rw (le-leb base address f) (same_leb (address + count) (base + size) (address - base + count) size (λ h. omega arith)
    (λ h. omega arith))

-- the window of a range, by what the two tests say
module _ (rom work address count : ℕ) where
  pub in_rom : lies rom_base rom address count ≡ true → window_of rom work address count ≡ Rom (address - rom_base)
  unfolding window_of
  in_rom e = rw e

  pub in_work : lies rom_base rom address count ≡ false → lies work_base work address count ≡ true
      → window_of rom work address count ≡ Work (address - work_base)
  unfolding window_of
  in_work e f = rw (e, f)

  pub in_none : lies rom_base rom address count ≡ false → lies work_base work address count ≡ false
      → window_of rom work address count ≡ Nowhere
  unfolding window_of
  in_none e f = rw (e, f)

  -- what holds of a range in each window, and of one in none, holds of every range
  pub window_is {ℓ} : (Q : Window → Type ℓ)
      → (rom_base ≤ address → address + count ≤ rom_base + rom → Q (Rom (address - rom_base)))
      → (work_base ≤ address → address + count ≤ work_base + work → Q (Work (address - work_base)))
      → Q Nowhere → Q (window_of rom work address count)
  unfolding window_of
  window_is Q u v w =
      pick_is Q (lies rom_base rom address count) (Rom (address - rom_base))
      (pick (lies work_base work address count) (Work (address - work_base)) Nowhere)
      (λ t.
      let p = and_parts (leb rom_base address) (leb (address + count) (rom_base + rom)) t in
      u (leb→le rom_base address p.0) (leb→le (address + count) (rom_base + rom) p.1))
      (λ _.
      pick_is Q (lies work_base work address count) (Work (address - work_base)) Nowhere
      (λ t.
      let p = and_parts (leb work_base address) (leb (address + count) (work_base + work)) t in
      v (leb→le work_base address p.0) (leb→le (address + count) (work_base + work) p.1))
      (λ _. w))

module _ (rom work : List ℕ) (size address count : ℕ) where
  -- a good range has as many bytes as were asked for
  pub length_resolved : bad_range rom work size address count ≡ false → length (resolve_of rom work size address count) ≡ count
  unfolding resolve_of
  length_resolved =
      window_is (min size (length rom)) (length work) address count (λ w. is_nowhere w ≡ false → length (held_by rom work count w) ≡ count)
      (λ p q e. length_part rom (address - rom_base) count (omega arith))
      (λ p q e. length_part work (address - work_base) count (omega arith))
      (λ e. absurd (true≢false e))

  -- a string that may be handed back lies in a window
  pub string_range : bad_string rom work size address count ≡ false → bad_range rom work size address count ≡ false
  string_range e = told (range_of rom work size address count) e
    where
      told : (w : Window) → no_part (is_spread rom) w ≡ false → is_nowhere w ≡ false
      told (Rom k) e = refl
      told (Work k) e = refl
      told Nowhere e = e

  -- a range in no window has none
  pub none_resolved : bad_range rom work size address count ≡ true → resolve_of rom work size address count ≡ []
  unfolding resolve_of
  none_resolved =
      window_is (min size (length rom)) (length work) address count (λ w. is_nowhere w ≡ true → held_by rom work count w ≡ [])
      (λ p q e. absurd (false≢true e)) (λ p q e. absurd (false≢true e)) (λ e. refl)

  -- so the count of bytes tells which it is
  pub resolved_short : length (resolve_of rom work size address count) < count → bad_range rom work size address count ≡ true
  resolved_short h = either (bad_range rom work size address count) (λ e. e) (λ e. let n = length_resolved e in absurd (omega arith))

  pub resolved_whole : 0 < count → count ≤ length (resolve_of rom work size address count) → bad_range rom work size address count ≡ false
  resolved_whole z h = either (bad_range rom work size address count) (λ e. let n = ap length (none_resolved e) in
      absurd (omega arith)) (λ e. e)

  -- the part of a window in which a range lies
  pub range_rom : (k : ℕ) → range_of rom work size address count ≡ Rom k → k + count ≤ length rom
  range_rom k =
      window_is (min size (length rom)) (length work) address count (λ w. w ≡ Rom k → k + count ≤ length rom)
      (λ p q e. let f : address - rom_base ≡ k = cc in omega arith)
      (λ p q e. let z : ◌≡◌ {A = ℕ} 0 1 = cc in absurd (omega arith))
      (λ e. let z : ◌≡◌ {A = ℕ} 0 1 = cc in absurd (omega arith))

  pub range_work : (k : ℕ) → range_of rom work size address count ≡ Work k → k + count ≤ length work
  range_work k =
      window_is (min size (length rom)) (length work) address count (λ w. w ≡ Work k → k + count ≤ length work)
      (λ p q e. let z : ◌≡◌ {A = ℕ} 0 1 = cc in absurd (omega arith))
      (λ p q e. let f : address - work_base ≡ k = cc in omega arith)
      (λ e. let z : ◌≡◌ {A = ℕ} 0 1 = cc in absurd (omega arith))

  pub resolved_rom : (k : ℕ) → range_of rom work size address count ≡ Rom k → resolve_of rom work size address count ≡ part_of rom k count
  unfolding resolve_of
  resolved_rom k e = rw e

  pub resolved_work : (k : ℕ) → range_of rom work size address count ≡ Work k
      → resolve_of rom work size address count ≡ part_of work k count
  unfolding resolve_of
  resolved_work k e = rw e

  pub resolved_none : range_of rom work size address count ≡ Nowhere → resolve_of rom work size address count ≡ []
  unfolding resolve_of
  resolved_none e = rw e
