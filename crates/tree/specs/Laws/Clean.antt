-- A memory that is zero from a place on, and how little is left to clear after a write to it. Assumes nothing.
use Rattle.std.specs.Prelude.{ℕ, suc, ◌+◌, ◌-◌, ◌<◌, ◌≤◌, List, ◌≡◌, length, get_or, set, drop, replicate}
use Rattle.std.proofs.Common.{arith, sym, ap, ◌∙◌, length-take, take-append-drop, ext_get_or}
use Rattle.std.proofs.Math.Decide.{dec_le}
use Rattle.std.proofs.lemmas.List.{length-replicate, get_or-replicate}
use Rattle.std.proofs.Math.ListN.{get_or-eq_default}
use Rattle.memory.specs.Window.{part_of}
use Rattle.memory.specs.Writing.{written_of, moved_of, cleared_of}
use Rattle.memory.specs.Laws.Memory.{length_written, written_is, written_more, written_none, written_before, written_behind, written_inside}
use Rattle.memory.specs.Laws.Memory.{length_part}
use Rattle.tree.specs.Joints.Steps.{zeroed_of, appended_of, replaced_of}
use Rattle.tree.specs.Joints.Apart.{Clean}
use Rattle.tree.specs.Laws.Layout.{take_join}

-- ---- zeros up to a place, byte by byte
pub zeros_more : (m : List ℕ) (k end : ℕ) → k < end → zeroed_of (set m k 0) (k + 1) end ≡ zeroed_of m k end
zeros_more m k end h =
    let e : end - k ≡ suc (end - (k + 1)) = omega arith in
    sym (written_more m k 0 (replicate (end - (k + 1)) 0)) ∙ sym (ap (λ (n : ℕ). written_of m k (replicate n 0)) e)

pub zeros_none : (m : List ℕ) (k end : ℕ) → end ≤ k → zeroed_of m k end ≡ m
zeros_none m k end h =
    let e : end - k ≡ 0 = omega arith in
    ap (λ (n : ℕ). written_of m k (replicate n 0)) e ∙ written_none m k

-- ---- zeros up to where a memory is clean are enough
-- zero from the further of two places on
abbrev CleanPast : List ℕ → ℕ → ℕ → Type 0
CleanPast m at end = (k : ℕ) → at ≤ k → end ≤ k → get_or m k 0 ≡ 0

module _ (m : List ℕ) (at end : ℕ) (h : end ≤ length m) (c : CleanPast m at end) where
  abbrev zs : List ℕ
  zs = replicate (end - at) 0

  clean_zeroed : Clean (zeroed_of m at end) at
  clean_zeroed k l =
      let n = length-replicate {A = ℕ} (end - at) 0 in
      elim (dec_le end k) [
        | yes g ↦ written_behind m at zs k (omega arith) ∙ c k l g
        | no g ↦ let e : at + (k - at) ≡ k = omega arith in
            (rw e at (written_inside m at zs (k - at) (omega arith) (omega arith)))
            ∙ get_or-replicate {A = ℕ} (end - at) (k - at) 0 0 (omega arith)
      ]

-- what is cleared is clean from there on
pub clean_cleared : (m : List ℕ) (at : ℕ) → Clean (cleared_of m at) at
clean_cleared m at = clean_zeroed m at (length m) (omega arith) (λ k l g. get_or-eq_default m 0 {n = k} g)

zeros_enough : (m : List ℕ) (at end : ℕ) → end ≤ length m → CleanPast m at end → zeroed_of m at end ≡ cleared_of m at
zeros_enough m at end h c =
    let all = replicate {A = ℕ} (length m - at) 0 in
    ext_get_or 0 (zeroed_of m at end) (cleared_of m at) (length_written m at (zs m at end h c) ∙ sym (length_written m at all))
    (λ i l.
    elim (dec_le at i) [
      | yes g ↦ clean_zeroed m at end h c i g ∙ sym (clean_cleared m at i g)
      | no g ↦ written_before m at (zs m at end h c) i (omega arith) ∙ sym (written_before m at all i (omega arith))
    ])

-- ---- a part that is moved to where it stands
pub moved_nowhere : (m : List ℕ) (at n : ℕ) → at + n ≤ length m → moved_of m at at n ≡ m
moved_nowhere m at n h =
    let e = length_part m at n h in
    written_is m at (part_of m at n) (omega arith) ∙ rw e (take_join m at n (drop (at + n) m) ∙ take-append-drop (at + n) m)

-- ---- a property more, and another value, as the code goes: the value's size by itself, and the memory after each of its stores
module _ (m x y t v : List ℕ) (size end : ℕ) (n : size ≡ length v) (l : end ≤ length m) (c : Clean m end) where
  pub appended_so : (live : ℕ) (name : List ℕ) → x ≡ written_of m live name → y ≡ written_of x (live + length name) v
      → t ≡ zeroed_of y (live + length name + size) end → t ≡ appended_of m live name v
  appended_so live name e f g =
      let at = live + length name in
      let z : length y ≡ length m = ap length f ∙ length_written x at v ∙ ap length e ∙ length_written m live name in
      g ∙ zeros_enough y (at + size) end (omega arith)
      (λ k a b. ap (λ (w : List ℕ). get_or w k 0) f ∙ written_behind x at v k (omega arith)
      ∙ ap (λ (w : List ℕ). get_or w k 0) e ∙ written_behind m live name k (omega arith) ∙ c k b)
      ∙ rw (f, e, n)

  pub replaced_so : (live at old : ℕ) → x ≡ moved_of m (at + old) (at + size) (live - (at + old)) → y ≡ written_of x at v
      → t ≡ zeroed_of y (at + size + (live - (at + old))) end → t ≡ replaced_of m live at old v
  replaced_so live at old e f g =
      let behind = live - (at + old) in
      let part = part_of m (at + old) behind in
      let p = length-take behind (drop (at + old) m) in
      let z : length y ≡ length m = ap length f ∙ length_written x at v ∙ ap length e ∙ length_written m (at + size) part in
      g ∙ zeros_enough y (at + size + behind) end (omega arith)
      (λ k a b. ap (λ (w : List ℕ). get_or w k 0) f ∙ written_behind x at v k (omega arith)
      ∙ ap (λ (w : List ℕ). get_or w k 0) e ∙ written_behind m (at + size) part k (omega arith) ∙ c k b)
      ∙ rw (f, e, n)
