-- What the proofs need of a path, part by part, and how long a node's lines can be. Assumes nothing.
use Prim.Native.Nat.{ℕ, zero, suc, ◌+◌, ◌*◌, ◌-◌, ◌≤◌}
use Rattle.std.specs.Prelude.{true, not, ◌&&◌, ◌||◌, ◌≡◌, length, drop, eqb, leb}
use mathlib.Core.List.{List, [], ◌∷◌, ◌++◌}
use Rattle.std.proofs.Math.Path.{refl}
use Rattle.std.proofs.Common.{◌∙◌, length-append, length-take, leb→le, eq-eqb, ne_eqb}
use native.Mathlib.Omega.{arith}
use Rattle.cells.specs.Laws.Facts.{is_true, both_hold, neither, not-not, when_true, when_false}
use Rattle.cells.specs.Laws.Tests.{when_is, pick_is, neqb→ne}
use Rattle.rom.specs.Words.{letters_of}
use Rattle.rom.specs.Bytes.{word32_of}
use Rattle.rom.specs.Sizes.{store_size}
use Rattle.memory.specs.Window.{part_of}
use Rattle.tree.specs.Held.{Property, held_from, held_of, live_among, live_from, name_size, value_size}
use Rattle.tree.specs.Whole.{parent_of, whole_tree}
use Rattle.tree.specs.Laws.Trees.{whole_facts}
use Rattle.tree.specs.Path.{own_value_of}
use Rattle.tree.specs.declared.tree.Tree.{Tree}
use Rattle.lines.specs.Digits.{decimal_of}
use Rattle.lines.specs.Printed.{all_printed, quoted, text_of, is_text}
use Rattle.lines.specs.Lines.{line_end, text_read, number_read, bytes_read, read_line, own_lines}
use Rattle.lines.specs.Laws.Texts.{length_decimal, length_shown}
use Rattle.lines.specs.Explain.{is_title, title_shown, path_to, path_line, read_lines}

module _ (t : Tree) (store : List ℕ) where
  pub path_none : (deep k : ℕ) → deep ≡ 0 → path_to t store deep k ≡ []
  unfolding path_to
  path_none deep k e = rw e

  pub path_root : (deep k : ℕ) → k ≡ 0 → path_to t store deep k ≡ []
  unfolding path_to
  path_root zero k e = refl
  path_root (suc deep) k e = when_true [] (path_to t store deep (parent_of t k) ++ (letters_of "/" ++ title_shown t store k)) (eqb k 0)
      (eq-eqb k 0 e)

  pub path_more : (deep k : ℕ) → (deep ≡ 0 → ⊥) → (k ≡ 0 → ⊥)
      → path_to t store deep k ≡ path_to t store (deep - 1) (parent_of t k) ++ (letters_of "/" ++ title_shown t store k)
  unfolding path_to
  path_more zero k d n = absurd (d refl)
  path_more (suc deep) k d n =
      let e : suc deep - 1 ≡ deep = omega arith in
      when_false [] (path_to t store deep (parent_of t k) ++ (letters_of "/" ++ title_shown t store k)) (eqb k 0) (ne_eqb k 0 n) ∙ rw e

-- ---- how long the lines of a node can be: its path, and its properties, which never pass the text that they are written to
title_most : (t : Tree) (store : List ℕ) (k : ℕ) → length (title_shown t store k) ≤ 31
unfolding title_shown letters_of
title_most t store k =
    let v = own_value_of t store k (letters_of "name") in
    let d = length_decimal 10 k in
    let a = length-append (decimal_of k) (letters_of ")") in
    pick_is (λ z. length z ≤ 31) (is_title v) (text_of v) (letters_of "(node " ++ (decimal_of k ++ letters_of ")"))
    (λ i.
    let l = length-take (length v - 1) v in
    let h = both_hold (leb 2 (length v)) (leb (length v) 32 && is_text v) i in
    let m = leb→le (length v) 32 (both_hold (leb (length v) 32) (is_text v) h.1).0 in
    omega arith)
    (λ i. omega arith)

path_deep : (t : Tree) (store : List ℕ) (n k : ℕ) → length (path_to t store n k) ≤ 32 * n
unfolding path_to letters_of
path_deep t store zero k = omega arith
path_deep t store (suc n) k =
    let above = path_to t store n (parent_of t k) in
    let own = letters_of "/" ++ title_shown t store k in
    let a = length-append above own in
    let b = title_most t store k in
    let c = path_deep t store n (parent_of t k) in
    when_is (λ z. length z ≤ 32 * suc n) (eqb k 0) [] (above ++ own) (λ i. omega arith) (λ i. omega arith)

pub path_most : (t : Tree) (store : List ℕ) (k : ℕ) → length (path_line t store k) ≤ 1025
unfolding path_line letters_of
path_most t store k =
    let deep = path_to t store 32 k in
    let p = path_deep t store 32 k in
    pick_is (λ z. length (z ++ line_end) ≤ 1025) (eqb k 0) (letters_of "/") deep (λ i. omega arith)
    (λ i. let a = length-append deep line_end in omega arith)

text_read_most : (value : List ℕ) → length (text_read value) ≤ length value + 2
unfolding is_text quoted letters_of
text_read_most value =
    let x = text_of value in
    let l = length-take (length value - 1) value in
    let a = length-append x (letters_of "\"") in
    pick_is (λ z. length z ≤ length value + 2) (is_text value) (quoted x) []
    (λ i.
    let n = neqb→ne (length value) 0 (both_hold (not (eqb (length value) 0)) _ i).0 in
    pick_is (λ z. length z ≤ length value + 2) (all_printed x) (letters_of " \"" ++ (x ++ letters_of "\"")) [] (λ j. omega arith)
    (λ j. omega arith))
    (λ i. omega arith)

number_most : (value : List ℕ) → length (number_read value) ≤ 11
number_most value =
    let d = length_decimal 10 (word32_of value 0) in
    pick_is (λ z. length z ≤ 11) (eqb (length value) 4) (0x20 ∷ decimal_of (word32_of value 0)) [] (λ i. omega arith) (λ i. omega arith)

bytes_most : (value : List ℕ) → length (bytes_read value) ≤ 2 * length value + 3
unfolding letters_of
bytes_most [] = omega arith
bytes_most (b ∷ bs) = let s = (length_shown (b ∷ bs)).0 in omega arith

read_line_most : (name value : List ℕ) → length (read_line name value) ≤ length name + 3 * length value + 19
unfolding read_line letters_of
read_line_most name value =
    let t = text_read value in
    let n = number_read value in
    let b = bytes_read value in
    let w = length-append b line_end in
    let x = length-append n (b ++ line_end) in
    let y = length-append t (n ++ (b ++ line_end)) in
    let z = length-append name (t ++ (n ++ (b ++ line_end))) in
    let i = text_read_most value in
    let j = number_most value in
    let k = bytes_most value in
    omega arith

-- all lines of these properties, each once, are no fewer bytes than those of one node
abbrev read_sizes : List Property → ℕ
read_sizes [] = 0
read_sizes (p ∷ ps) = length (read_line p.name p.value) + read_sizes ps

own_read : (ps : List Property) (k : ℕ) → length (own_lines true ps k) ≤ read_sizes ps
unfolding own_lines
own_read [] k = omega arith
own_read (p ∷ ps) k =
    let line = read_line p.name p.value in
    let a = length-append line (own_lines true ps k) in
    let i = own_read ps k in
    pick_is (λ z. length (z ++ own_lines true ps k) ≤ length line + read_sizes ps) (eqb p.node k) line [] (λ t. omega arith)
    (λ t. omega arith)

held_read : (t : Tree) (store : List ℕ) (k i at : ℕ) → read_sizes (held_from t store k i at) ≤ 3 * live_from t k i + 19 * k
unfolding held_from live_among
held_read t store zero i at = omega arith
held_read t store (suc k) i at =
    let n = name_size t i in
    let v = value_size t i in
    let r = held_read t store k (i + 1) (at + n + v) in
    let name = part_of store at n in
    let value = part_of store (at + n) v in
    let a = length-take n (drop at store) in
    let b = length-take v (drop (at + n) store) in
    let l = read_line_most name value in
    omega arith

pub read_most : (t : Tree) (store : List ℕ) (k : ℕ) → length (read_lines t store k) ≤ 51584
unfolding read_lines
read_most t store k =
    pick_is (λ z. length z ≤ 51584) (not (eqb (length store) store_size) || not (whole_tree t)) [] (own_lines true (held_of t store) k)
    (λ i. omega arith)
    (λ i.
    let w = not-not (whole_tree t) (neither (not (eqb (length store) store_size)) (not (whole_tree t)) i).1 in
    let f = whole_facts t (is_true (whole_tree t) w) in
    let a = own_read (held_of t store) k in
    let b = held_read t store t.held 0 0 in
    omega (arith, f.held_most, f.live_most))
