-- What the proofs need of the table of numbers: each part of it answers for its own numbers, and no words are long. Assumes nothing.
use Rattle.std.specs.Prelude.{ℕ, zero, suc, ◌<◌, ◌≤◌, Bool, true, false, not, ◌&&◌, ◌||◌, [], ◌∷◌, ◌≡◌, refl, T, ltb, leb, eqb, length}
use Prim.Native.String.{String}
use Rattle.std.proofs.Math.Decide.{dec_lt}
use Rattle.std.proofs.Common.{arith, sym, ap, eqb→eq, ltb→lt, leb→le, le-ltb}
use Rattle.cells.specs.Choice.{find}
use Rattle.cells.specs.Laws.Facts.{both_hold, is_true, is_false}
use Rattle.cells.specs.Laws.Tests.{pick_is}
use Rattle.rom.specs.Words.{letters_of}
use Rattle.lines.specs.Numbers.{Numbers, opening, naming, moving, running, other, numbers, words_of, has_words}

-- every entry of a table passes a test of its number and its words
abbrev pub every_entry : (ℕ → String → Bool) → Numbers → Bool
every_entry f [] = true
every_entry f (x ∷ xs) = f x.0 x.1 && every_entry f xs

-- and so does what is found in it, where what is given for none does
pub found : (f : ℕ → String → Bool) (t : Numbers) (d : String) (n : ℕ) → T (every_entry f t) → T (f n d) → T (f n (find t d n))
found f [] d n h q = q
found f (x ∷ xs) d n h q =
    let b = both_hold (f x.0 x.1) (every_entry f xs) h in
    pick_is (λ w. T (f n w)) (eqb n x.0) x.1 (find xs d n) (λ t. rw (eqb→eq n x.0 t) b.0) (λ t. found f xs d n b.1 q)

-- a number that fails a test of all of a table's numbers is not in it
outside : (f : ℕ → Bool) (t : Numbers) (d : String) (n : ℕ) → T (every_entry (λ k w. f k) t) → (T (f n) → ⊥) → find t d n ≡ d
outside f [] d n h q = refl
outside f (x ∷ xs) d n h q =
    let b = both_hold (f x.0) (every_entry (λ k w. f k) xs) h in
    pick_is (λ w. w ≡ d) (eqb n x.0) x.1 (find xs d n)
    (λ t. absurd (q (rw (eqb→eq n x.0 t) b.0)))
    (λ t. outside f xs d n b.1 q)

-- so one below all of them, and one above
below : (m n : ℕ) (t : Numbers) (d : String) → T (every_entry (λ k w. leb m k) t) → n < m → find t d n ≡ d
below m n t d h l = outside (λ k. leb m k) t d n h (λ u. omega (arith, leb→le m n u))

above : (m n : ℕ) (t : Numbers) (d : String) → T (every_entry (λ k w. ltb k m) t) → m ≤ n → find t d n ≡ d
above m n t d h l = outside (λ k. ltb k m) t d n h (λ u. omega (arith, ltb→lt n m u))

-- the table is looked up part by part
by_parts : (n : ℕ) → words_of n ≡ letters_of (find opening (find naming (find moving (find running (find other "" n) n) n) n) n)
unfolding words_of opening naming moving running other
by_parts n = refl

-- and each part answers for its own numbers
module _ (n : ℕ) where
  pub words_opening : n < 10 → words_of n ≡ letters_of (find opening "" n)
  unfolding naming moving running other
  words_opening h =
      let o = below 28 n other "" tt (omega arith) in
      let r = below 21 n running "" tt (omega arith) in
      let m = below 14 n moving "" tt (omega arith) in
      rw (by_parts n, o, r, m, below 10 n naming "" tt h)

  pub words_naming : 10 ≤ n → n < 14 → words_of n ≡ letters_of (find naming "" n)
  unfolding opening moving running other
  words_naming l h =
      let o = below 28 n other "" tt (omega arith) in
      let r = below 21 n running "" tt (omega arith) in
      rw (by_parts n, o, r, below 14 n moving "" tt h, above 10 n opening (find naming "" n) tt l)

  pub words_moving : 14 ≤ n → n < 21 → words_of n ≡ letters_of (find moving "" n)
  unfolding opening naming running other
  words_moving l h =
      let here = find moving "" n in
      let o = below 28 n other "" tt (omega arith) in
      rw (by_parts n, o, below 21 n running "" tt h, above 14 n naming here tt l, above 10 n opening here tt (omega arith))

  pub words_running : 21 ≤ n → n < 28 → words_of n ≡ letters_of (find running "" n)
  unfolding opening naming moving other
  words_running l h =
      let here = find running "" n in
      let e = above 14 n naming here tt (omega arith) in
      rw (by_parts n, below 28 n other "" tt h, above 21 n moving here tt l, e, above 10 n opening here tt (omega arith))

  pub words_other : 28 ≤ n → words_of n ≡ letters_of (find other "" n)
  unfolding opening naming moving running
  words_other l =
      let here = find other "" n in
      let m = above 21 n moving here tt (omega arith) in
      let e = above 14 n naming here tt (omega arith) in
      rw (by_parts n, above 28 n running here tt l, m, e, above 10 n opening here tt (omega arith))

-- no number from 32 on has words
pub words_none : (n : ℕ) → 32 ≤ n → words_of n ≡ []
unfolding words_of opening naming moving running other letters_of
words_none n l = ap letters_of (above 32 n numbers "" tt l)

-- the longest words are those of 16
pub length_words : (n : ℕ) → length (words_of n) ≤ 107
unfolding words_of opening naming moving running other letters_of
length_words n = leb→le (length (words_of n)) 107 (found (λ k w. leb (length (letters_of w)) 107) numbers "" n tt tt)

-- what a test says of every number below a bound
abbrev up_to : (ℕ → Bool) → ℕ → Bool
up_to f zero = true
up_to f (suc k) = f k && up_to f k

up_to_lem : (f : ℕ → Bool) (k n : ℕ) → T (up_to f k) → n < k → T (f n)
up_to_lem f zero n h l = absurd (omega arith)
up_to_lem f (suc k) n h l =
    let b = both_hold (f k) (up_to f k) h in
    elim (dec_lt n k) [ yes m ↦ up_to_lem f k n b.1 m | no m ↦ let e : n ≡ k = omega arith in rw e b.0 ]

abbrev same : Bool → Bool → Bool
same true b = b
same false b = not b

same_is : (a b : Bool) → T (same a b) → a ≡ b
same_is true b t = sym (is_true b t)
same_is false b t = sym (is_false b t)

-- the numbers that have words: 1 to 7, and 10 to 31
abbrev pub worded : ℕ → Bool
worded n = (ltb n 8 && ltb 0 n) || (ltb n 32 && ltb 9 n)

pub has_words_lem : (n : ℕ) → worded n ≡ has_words n
unfolding has_words words_of opening naming moving running other letters_of
has_words_lem n =
    elim (dec_lt n 32) [
      | yes h ↦ same_is (worded n) (has_words n) (up_to_lem (λ k. same (worded k) (has_words k)) 32 n tt h)
      | no h ↦ rw (le-ltb n 8 (omega arith), le-ltb n 32 (omega arith), above 32 n numbers "" tt (omega arith))
    ]
