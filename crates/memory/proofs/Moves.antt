-- What a copy, a fill or a move leaves of a slice is what the definitions say, also where the bytes are not all there or have no room.
-- Assumes nothing.
use Prim.Native.Nat.{ℕ, suc, ◌+◌, ◌-◌, ◌≤◌, ◌<◌, min, max}
use native.Mathlib.Numerals.{add-one}
use native.Mathlib.Omega.{arith}
use native.Mathlib.Decide.{dec_le}
use mathlib.Core.List.{List, [], ◌∷◌, ◌++◌}
use mathlib.Core.Path.{◌≡◌, sym, ap, ◌∙◌}
use lib.ListN.{length, get_or, take, drop, set, replicate, length-drop, length-replicate, drop_of_length-le}
use lib.Seq.{drop-cons, drop-set-lt, drop-set-add, take-set-le, take-suc, take-take, take_all, get_or-drop}
use borrow.Rule.Slice.PartMut.{put_mid}
use Rattle.memory.specs.Window.{part_of}
use Rattle.memory.specs.Writing.{written_of, moved_of, cleared_of}
use Rattle.memory.specs.Laws.Memory.{part_written, written_more, written_none, written_append, written_out, written_take}
use Rattle.memory.specs.Laws.Memory.{set_written, length_part}

-- bytes of another memory
pub laid_more : (m : List ℕ) (at : ℕ) (bs : List ℕ) (i : ℕ) → i < length bs
    → written_of (set m (at + i) (get_or bs i 0)) (at + (i + 1)) (drop (i + 1) bs) ≡ written_of m (at + i) (drop i bs)
laid_more m at bs i h =
    let e : at + (i + 1) ≡ at + i + 1 = omega arith in
    rw (drop-cons bs i 0 h, e, add-one i) (sym (written_more m (at + i) (get_or bs i 0) (drop (suc i) bs)))

pub laid_all : (m : List ℕ) (at : ℕ) (bs : List ℕ) (i : ℕ) → length bs ≤ i → written_of m at (drop i bs) ≡ m
laid_all m at bs i h = rw (drop_of_length-le bs {i = i} h) (written_none m at)

-- bytes that have no room
pub laid_cut : (m : List ℕ) (at : ℕ) (bs : List ℕ) (n : ℕ) → n ≡ min (length bs) (length m - at)
    → written_of m at (take n bs) ≡ written_of m at bs
laid_cut m at bs n e = elim (dec_le (length bs) n) [ yes h ↦ rw (take_all n bs h) | no h ↦ written_take m at bs n (omega arith) ]

-- zeros from a place that is not behind the end
pub cleared_part : (m : List ℕ) (at k n : ℕ) → k ≡ min at (length m) → n ≡ length m - k
    → put_mid k (length m - k) m (replicate n 0) ≡ cleared_of m at
cleared_part m at k n e z =
    rw z (part_written m k (length m - k) (replicate (length m - k) 0) (length-replicate (length m - k) 0) (omega arith)
    ∙ elim (dec_le at (length m)) [
      | yes h ↦ let p : k ≡ at = omega arith in rw p
      | no h ↦ written_out m k (replicate (length m - k) 0) (omega arith)
          ∙ sym (written_out m at (replicate (length m - at) 0) (omega arith))
    ])

-- a byte of the memory itself: the first one where it goes towards the start, the last one where it goes towards the end
pub moved_first : (m : List ℕ) (s t k : ℕ) → t ≤ s → s < length m
    → moved_of (set m t (get_or m s 0)) (s + 1) (t + 1) k ≡ moved_of m s t (suc k)
moved_first m s t k h f =
    rw (drop-cons m s 0 f, add-one s, drop-set-lt (suc s) m t (get_or m s 0) (omega arith))
    (sym (written_more m t (get_or m s 0) (take k (drop (suc s) m))))

pub moved_next : (m : List ℕ) (s t n i : ℕ) → t ≤ s → i < n → s + i < length m
    → moved_of (set m (t + i) (get_or m (s + i) 0)) (s + (i + 1)) (t + (i + 1)) (n - (i + 1)) ≡ moved_of m (s + i) (t + i) (n - i)
moved_next m s t n i h g f =
    let e : s + (i + 1) ≡ s + i + 1 = omega arith in
    let d : t + (i + 1) ≡ t + i + 1 = omega arith in
    let k : n - i ≡ suc (n - (i + 1)) = omega arith in
    rw (e, d, k) (moved_first m (s + i) (t + i) (n - (i + 1)) (omega arith) f)

part_kept : (m : List ℕ) (s k j b : ℕ) → s + k ≤ j → part_of (set m j b) s k ≡ part_of m s k
part_kept m s k j b h =
    let e : j ≡ s + (j - s) = omega arith in
    rw (e, drop-set-add s m (j - s) b) (take-set-le k (drop s m) (j - s) b (omega arith))

part_last : (m : List ℕ) (s k : ℕ) → s + k < length m → part_of m s (suc k) ≡ part_of m s k ++ (get_or m (s + k) 0 ∷ [])
part_last m s k h =
    let d = length-drop s m in
    rw (← get_or-drop s m k 0) (take-suc (drop s m) k 0 (omega arith))

moved_end : (m : List ℕ) (s t k : ℕ) → s ≤ t → s + k < length m
    → moved_of (set m (t + k) (get_or m (s + k) 0)) s t k ≡ moved_of m s t (suc k)
moved_end m s t k h f =
    let x = get_or m (s + k) 0 in
    let n = length_part m s k (omega arith) in
    rw (part_kept m s k (t + k) x (omega arith))
    (sym
    (rw (part_last m s k f, written_append m t (part_of m s k) (x ∷ []), n)
    (written_more (written_of m t (part_of m s k)) (t + k) x [] ∙ written_none (set (written_of m t (part_of m s k)) (t + k) x) (t + k + 1)
    ∙ set_written m t (part_of m s k) (t + k) x (omega arith))))

pub moved_last : (m : List ℕ) (s t k : ℕ) → 0 < k → s ≤ t → t + k ≤ length m
    → moved_of (set m (t + (k - 1)) (get_or m (s + (k - 1)) 0)) s t (k - 1) ≡ moved_of m s t k
moved_last m s t k z h f = let e : k ≡ suc (k - 1) = omega arith in
    moved_end m s t (k - 1) h (omega arith) ∙ ap (λ (n : ℕ). moved_of m s t n) (sym e)

pub moved_none : (m : List ℕ) (s t k : ℕ) → k ≡ 0 → moved_of m s t k ≡ m
moved_none m s t k e = rw e (written_none m t)

-- bytes that are not there, or have no room
pub moved_cut : (m : List ℕ) (s t c n : ℕ) → n ≡ min c (length m - max s t) → moved_of m s t n ≡ moved_of m s t c
moved_cut m s t c n e =
    elim (dec_le (length m - s) n) [
      | yes h ↦ let d = length-drop s m in
          elim (dec_le c n) [
            | yes g ↦ let p : n ≡ c = omega arith in
                rw p
            | no g ↦ rw (take_all n (drop s m) (omega arith), take_all c (drop s m) (omega arith))
          ]
      | no h ↦
          elim (dec_le c n) [
            | yes g ↦ let p : n ≡ c = omega arith in
                rw p
            | no g ↦ rw (← take-take n c (drop s m) (omega arith)) (written_take m t (part_of m s c) n (omega arith))
          ]
    ]

-- none, where none is there or none has room
pub none_within : (m : List ℕ) (s t c n : ℕ) → n ≡ min c (length m - max s t) → n ≡ 0 → m ≡ moved_of m s t c
none_within m s t c n e z = sym (moved_none m s t n z) ∙ moved_cut m s t c n e
