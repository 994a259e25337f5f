-- A quick read's steps: the table's entries, and the tokens that are read at once. Assumes nothing.
use Prim.Native.Nat.{ℕ, zero, suc, ◌+◌, ◌/◌, ◌≤◌, ◌<◌}
use mathlib.Core.Path.{◌≡◌, refl, sym, ◌∙◌}
use mathlib.Core.Bool.{Bool, false, ◌&&◌}
use mathlib.Core.List.{List, [], ◌∷◌}
use native.Mathlib.Omega.{arith}
use lib.Dec.{T, eqb, leb, eqb→eq, leb→le}
use lib.ListN.{get_or}
use Rattle.cells.specs.Laws.Facts.{both_hold}
use Rattle.rom.specs.Bytes.{byte_of}
use Rattle.tokens.specs.Table.{ends, lows, highs, doubles, table, row_of}
use Rattle.tokens.specs.Code.{code_of, out_of_place_in, form_in}
use Rattle.tokens.specs.Place.{misplaced_of}
use Rattle.tokens.specs.Joints.Glance.{first_says, seen_as, glance_of}
use Rattle.tokens.specs.Laws.Glance.{read_plain, read_literal}
use Rattle.tokens.specs.Laws.GlanceForms.{has_none, of_one, of_literal, in_time, seen_one}
use Rattle.tokens.specs.Joints.Quick.{Codes, QuickRead}
use Rattle.tokens.specs.declared.quick.Quick.{Quick}

-- ---- the table, by a test of its entries from number k on, which antt computes
abbrev pub coded : ℕ → List ℕ → Bool
coded k [] = leb 256 k
coded k (x ∷ xs) = eqb x (first_says k) && coded (suc k) xs

from : (l : List ℕ) (k : ℕ) → T (coded k l) → (j : ℕ) → k + j < 256 → get_or l j 0 ≡ first_says (k + j)
from [] k t j h = let g = leb→le 256 k t in absurd (omega arith)
from (x ∷ xs) k t zero h =
    let e : k + 0 ≡ k = omega arith in
    rw e (eqb→eq x (first_says k) (both_hold (eqb x (first_says k)) (coded (suc k) xs) t).0)
from (x ∷ xs) k t (suc j) h =
    let e : k + suc j ≡ suc k + j = omega arith in
    rw e (from xs (suc k) (both_hold (eqb x (first_says k)) (coded (suc k) xs) t).1 j (omega arith))

pub codes_are : (l : List ℕ) → T (coded 0 l) → Codes l
unfolding Codes
codes_are l t b h = let e : 0 + b ≡ b = omega arith in rw e at (from l 0 t b (omega arith))

-- ---- a token that is read at once
stands_anywhere : (code : ℕ) (within : Bool) → out_of_place_in code ≡ 0 → misplaced_of code within ≡ false
unfolding misplaced_of
stands_anywhere code within e = rw e

-- b(;) leaves its body
no_end : (b code : ℕ) → code ≡ code_of b → code < 0x200_0000 → b ≡ 0xC2 → ⊥
unfolding code_of row_of table ends lows highs doubles
no_end b code e h z = let k = rw z at e in omega arith

module _ (rom : List ℕ) (length p b code : ℕ) (e : b ≡ byte_of rom p) (f : code ≡ first_says b) where
  abbrev at : ℕ → Quick
  at next = record { first = b; code = code; next = next }

  -- one of one byte
  pub quick_one : p < length → code / 0x100 ≡ 0x1_0000 → QuickRead rom length p (at (p + 1))
  quick_one l q =
      let n = has_none b code f (λ t. omega arith) in
      let z : code ≡ 0 → ⊥ = λ t. omega arith in
      let k : form_in code ≡ 0 = omega arith in
      let o : out_of_place_in code ≡ 0 = omega arith in
      let g : (wide : Bool) → glance_of rom length wide p ≡ seen_as code b (p + 1) 0 0 =
      λ wide. rw n.1 (seen_one rom length wide p b e l n.0 (rw n.1 at z) (rw n.1 at k)) in
      record {
        read = λ wide within. (
          _,
          read_plain rom length wide within p (seen_as code b (p + 1) 0 0) (g wide) z (stands_anywhere code within o) k,
          refl,
          refl,
          no_end b code n.1 (omega arith),
        );
        plainly = omega arith;
        alone = (omega arith, omega arith);
      }

  -- a literal
  pub quick_literal : code ≡ 0x0101_0001 → p + 5 ≤ length → QuickRead rom length p (at (p + 5))
  quick_literal q l =
      let n = has_none b code f (λ t. omega arith) in
      let z : code ≡ 0 → ⊥ = λ t. omega arith in
      let k : form_in code ≡ 1 = rw q in
      let o : out_of_place_in code ≡ 0 = rw q in
      let s : p + 1 + 4 ≡ p + 5 = omega arith in
      let g : (wide : Bool) → glance_of rom length wide p ≡ seen_as code b (p + 5) 0 0 =
      λ wide. sym (in_time length code b (p + 5) l ∙ rw s at (of_literal rom length wide code b (p + 1) z k)
      ∙ of_one rom length wide p b code e n.0 n.1) in
      record {
        read = λ wide within. (
          _,
          read_literal rom length wide within p (seen_as code b (p + 5) 0 0) (g wide) z (stands_anywhere code within o) k,
          refl,
          refl,
          no_end b code n.1 (omega arith),
        );
        plainly = rw q;
        alone = (rw q, rw q);
      }
