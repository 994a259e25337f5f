-- What the proofs need of numbers, lines and texts, and that digits read back: a decimal as its number, hexadecimal ones as their bytes.
-- Assumes nothing.
use Prim.Native.Nat.{ℕ, zero, suc, ◌+◌, ◌*◌, ◌-◌, ◌/◌, ◌%◌, ◌^◌, ◌≤◌, ◌<◌}
use Rattle.std.proofs.Common.{pow-suc, add-one, append_assoc, sym, ◌∙◌, length-append, drop_of_length-le, drop-cons, lt-ltb, le-ltb}
use Rattle.std.proofs.Math.Decide.{dec_lt}
use native.Mathlib.Omega.{arith}
use Rattle.std.specs.Prelude.{Bool, true, false, List, [], ◌∷◌, ◌++◌, ◌≡◌, refl, length, get_or, drop, set, ltb, eqb}
use Rattle.cells.specs.Choice.{pick}
use Rattle.cells.specs.Laws.Tests.{when_is, pick_is, chosen_below, chosen_from, tests}
use Rattle.rom.specs.Words.{letters_of}
use Rattle.memory.specs.Window.{part_of}
use Rattle.memory.specs.Laws.Memory.{written_is}
use Rattle.tree.specs.Held.{Property, owner_of, name_size, value_size, held_from}
use Rattle.tree.specs.Whole.{parent_of}
use Rattle.tree.specs.declared.tree.Tree.{Tree}
use Rattle.lines.specs.Digits.{digit, decimal_from, decimal_of, hex_digit, hex_pair, hex_of}
use Rattle.lines.specs.Lines.{shown, bytes_read, node_line, line_for, own_lines, node_lines}
use Rattle.lines.specs.Printed.{printed, all_printed}
use Rattle.lines.specs.Told.{told, filled, told_as}
use Rattle.lines.specs.Wrote.{Wrote}
use Rattle.lines.specs.Laws.Wrote.{wrote_one, wrote_then, wrote_whole, length_wrote}

-- a number of one digit, and the last digit of another
pub decimal_one : (k n : ℕ) → n < 10 → decimal_from (suc k) n ≡ digit n ∷ []
unfolding decimal_from
decimal_one k n h = chosen_below (digit n ∷ []) (decimal_from k (n / 10) ++ (digit (n % 10) ∷ [])) n 10 h

pub decimal_last : (k n : ℕ) → 10 ≤ n → decimal_from (suc k) n ≡ decimal_from k (n / 10) ++ (digit (n % 10) ∷ [])
unfolding decimal_from
decimal_last k n h = chosen_from (digit n ∷ []) (decimal_from k (n / 10) ++ (digit (n % 10) ∷ [])) n 10 h

pub length_decimal : (k n : ℕ) → length (decimal_from k n) ≤ k
unfolding decimal_from
length_decimal zero n = omega arith
length_decimal (suc k) n =
    when_is (λ z. length z ≤ suc k) (ltb n 10) (digit n ∷ []) (decimal_from k (n / 10) ++ (digit (n % 10) ∷ [])) (λ t. omega arith)
    (λ t.
    let l = length-append (decimal_from k (n / 10)) (digit (n % 10) ∷ []) in
    let i = length_decimal k (n / 10) in
    omega arith)

-- a number that has at most so many digits is written the same where more were allowed
decimal_wider : (k n : ℕ) → n < 10 ^ suc k → decimal_from (suc (suc k)) n ≡ decimal_from (suc k) n
decimal_wider zero n h = decimal_one 1 n h ∙ sym (decimal_one 0 n h)
decimal_wider (suc k) n h =
    elim (dec_lt n 10) [
      | yes l ↦ decimal_one (suc (suc k)) n l ∙ sym (decimal_one (suc k) n l)
      | no l ↦ let p = pow-suc 10 (suc k) in
          decimal_last (suc (suc k)) n (omega arith)
          ∙ rw (decimal_wider k (n / 10) (omega arith)) (sym (decimal_last (suc k) n (omega arith)))
    ]

-- so a number of 32 bits is its tenth's digits, and its last
pub decimal_more : (n : ℕ) → 10 ≤ n → n < 4294967296 → decimal_of n ≡ decimal_of (n / 10) ++ (digit (n % 10) ∷ [])
decimal_more n h g = decimal_last 9 n h ∙ rw (decimal_wider 8 (n / 10) (omega arith))

-- what a reader makes of decimal digits
unfoldable pub read_from : ℕ → List ℕ → ℕ
read_from so [] = so
read_from so (d ∷ ds) = read_from (so * 10 + (d - 0x30)) ds

read_append : (so : ℕ) (xs ys : List ℕ) → read_from so (xs ++ ys) ≡ read_from (read_from so xs) ys
unfolding read_from
read_append so [] ys = refl
read_append so (x ∷ xs) ys = read_append (so * 10 + (x - 0x30)) xs ys

-- the digits of a number read back as the number
pub reads_back : (k n : ℕ) → n < 10 ^ k → read_from 0 (decimal_from k n) ≡ n
unfolding decimal_from read_from
reads_back zero n h = omega arith
reads_back (suc k) n h =
    when_is (λ z. read_from 0 z ≡ n) (ltb n 10) (digit n ∷ []) (decimal_from k (n / 10) ++ (digit (n % 10) ∷ [])) (λ t. omega arith)
    (λ t.
    let p = pow-suc 10 k in
    read_append 0 (decimal_from k (n / 10)) (digit (n % 10) ∷ []) ∙ rw (reads_back k (n / 10) (omega arith)) (omega arith))

pub decimal_reads : (n : ℕ) → n < 4294967296 → read_from 0 (decimal_of n) ≡ n
decimal_reads n h = reads_back 10 n (omega arith)

first_of_lem : (xs ys : List ℕ) (n : ℕ) → n < get_or xs 0 0 → get_or (xs ++ ys) 0 0 ≡ get_or xs 0 0
first_of_lem [] ys n h = absurd (omega arith)
first_of_lem (x ∷ xs) ys n h = refl

-- and have no zero in front, but for the number 0
pub no_zero_first : (k n : ℕ) → 0 < n → n < 10 ^ k → 0x30 < get_or (decimal_from k n) 0 0
unfolding decimal_from
no_zero_first zero n z h = absurd (omega arith)
no_zero_first (suc k) n z h =
    when_is (λ x. 0x30 < get_or x 0 0) (ltb n 10) (digit n ∷ []) (decimal_from k (n / 10) ++ (digit (n % 10) ∷ [])) (λ t. omega arith)
    (λ t.
    let p = pow-suc 10 k in
    let i = no_zero_first k (n / 10) (omega (arith, tests)) (omega arith) in
    rw (first_of_lem (decimal_from k (n / 10)) (digit (n % 10) ∷ []) 0x30 i) i)

-- a list from a place on: an element more, or none
pub drop_more : (xs : List ℕ) (k : ℕ) → k < length xs → drop k xs ≡ (get_or xs k 0 ∷ []) ++ drop (k + 1) xs
drop_more xs k h = rw (drop-cons xs k 0 h, add-one k)

pub drop_none : (xs : List ℕ) (k : ℕ) → length xs ≤ k → drop k xs ≡ []
drop_none xs k h = drop_of_length-le xs {i = k} h

-- bytes that are printed, from a place on
pub printed_more : (a : List ℕ) (k : ℕ) → k < length a → printed (get_or a k 0) ≡ true
    → all_printed (drop (k + 1) a) ≡ all_printed (drop k a)
unfolding all_printed
printed_more a k h g = rw (drop-cons a k 0 h, g, add-one k)

pub printed_stops : (a : List ℕ) (k : ℕ) → k < length a → printed (get_or a k 0) ≡ false → all_printed (drop k a) ≡ false
unfolding all_printed
printed_stops a k h g = rw (drop-cons a k 0 h, g)

pub printed_end : (a : List ℕ) (k : ℕ) → length a ≤ k → all_printed (drop k a) ≡ true
unfolding all_printed
printed_end a k h = rw (drop_none a k h)

-- hexadecimal digits, a byte more
pub hex_more : (value : List ℕ) (k : ℕ) → k < length value → hex_of (drop k value) ≡ hex_pair (get_or value k 0) ++ hex_of
    (drop (k + 1) value)
unfolding hex_of
hex_more value k h = rw (drop-cons value k 0 h, add-one k)

pub hex_none : (value : List ℕ) (k : ℕ) → length value ≤ k → hex_of (drop k value) ≡ []
unfolding hex_of
hex_none value k h = rw (drop_of_length-le value {i = k} h)

pub length_hex : (value : List ℕ) → length (hex_of value) ≡ 2 * length value
unfolding hex_of
length_hex [] = refl
length_hex (b ∷ bs) = let i = length_hex bs in omega arith

-- what a reader makes of hexadecimal digits, two for each byte
abbrev pub hex_value : ℕ → ℕ
hex_value d = pick (ltb d 0x3A) (d - 0x30) (d - 0x37)

unfoldable pub read_pairs : List ℕ → List ℕ
read_pairs [] = []
read_pairs (d ∷ []) = []
read_pairs (d ∷ e ∷ ds) = (hex_value d * 16 + hex_value e) ∷ read_pairs ds

abbrev pub Bytes : List ℕ → Type 0
Bytes [] = Unit {0}
Bytes (b ∷ bs) = (b < 256) × Bytes bs

digit_reads : (n : ℕ) → n < 16 → hex_value (hex_digit n) ≡ n
digit_reads n h =
    pick_is (λ d. hex_value d ≡ n) (ltb n 10) (0x30 + n) (0x37 + n)
    (λ t. let l : 0x30 + n < 0x3A = omega (arith, tests) in rw (lt-ltb (0x30 + n) 0x3A l) (omega arith))
    (λ t. let l : 0x3A ≤ 0x37 + n = omega (arith, tests) in rw (le-ltb (0x37 + n) 0x3A l) (omega arith))

-- the digits of bytes read back as the bytes
pub hex_reads : (bs : List ℕ) → Bytes bs → read_pairs (hex_of bs) ≡ bs
unfolding hex_of read_pairs
hex_reads [] h = refl
hex_reads (b ∷ bs) h =
    let l = h.0 in
    let e : b / 16 * 16 + b % 16 ≡ b = omega arith in
    rw (digit_reads (b / 16) (omega arith), digit_reads (b % 16) (omega arith), e, hex_reads bs h.1)

-- a value that is empty, and one that is not
pub shown_none : (value : List ℕ) → length value ≡ 0 → shown value ≡ []
shown_none [] e = refl
shown_none (b ∷ bs) e = absurd (omega arith)

pub shown_some : (value : List ℕ) → (length value ≡ 0 → ⊥) → shown value ≡ 0x20 ∷ hex_of value
shown_some [] n = absurd (n refl)
shown_some (b ∷ bs) n = refl

-- the same for people
pub read_none : (value : List ℕ) → length value ≡ 0 → bytes_read value ≡ []
read_none [] e = refl
read_none (b ∷ bs) e = absurd (omega arith)

pub read_some : (value : List ℕ) → (length value ≡ 0 → ⊥) → bytes_read value ≡ letters_of " =" ++ shown value
read_some [] n = absurd (n refl)
read_some (b ∷ bs) n = refl

-- a space and two digits for each byte; nothing for none
pub length_shown : (value : List ℕ) → (length (shown value) ≤ 2 * length value + 1) × (length (shown value) ≤ 3 * length value)
length_shown [] = (omega arith, omega arith)
length_shown (b ∷ bs) = let h = length_hex (b ∷ bs) in (omega arith, omega arith)

-- what is left of a walk over the records, and over the nodes
module _ (t : Tree) (store : List ℕ) where
  -- what a record adds to the lines of a node, in either form
  abbrev pub own_line : Bool → ℕ → ℕ → ℕ → List ℕ
  own_line people i at node =
      pick (eqb (owner_of t i) node) (line_for people (part_of store at (name_size t i))
      (part_of store (at + name_size t i) (value_size t i))) []

  -- the same, of lengths that were read and parts between places
  pub line_at : (people : Bool) (i at node n v : ℕ) → n ≡ name_size t i → v ≡ value_size t i
      → pick (eqb (owner_of t i) node) (line_for people (part_of store at (at + n - at)) (part_of store (at + n) (at + n + v - (at + n))))
      []
      ≡ own_line people i at node
  line_at people i at node n v e f =
      let x : at + n - at ≡ n = omega arith in
      let y : at + n + v - (at + n) ≡ v = omega arith in
      rw (x, y, e, f)

  pub own_more : (people : Bool) (k i at node n : ℕ) → i < n → k ≡ n - i
      → own_lines people (held_from t store k i at) node
      ≡ own_line people i at node ++ own_lines people (held_from t store (n - (i + 1)) (i + 1) (at + name_size t i + value_size t i)) node
  unfolding held_from own_lines
  own_more people k i at node n h e = let f : k ≡ suc (n - (i + 1)) = omega arith in rw f

  pub own_none : (people : Bool) (k i at node : ℕ) → k ≡ 0 → own_lines people (held_from t store k i at) node ≡ []
  unfolding held_from own_lines
  own_none people k i at node e = rw e

module _ (t : Tree) (ps : List Property) where
  pub nodes_more : (m k n : ℕ) → k < n → m ≡ n - k
      → node_lines t ps m k ≡ node_line k (parent_of t k) ++ (own_lines false ps k ++ node_lines t ps (n - (k + 1)) (k + 1))
  unfolding node_lines
  nodes_more m k n h e = let f : m ≡ suc (n - (k + 1)) = omega arith in rw f

  pub nodes_none : (m k : ℕ) → m ≡ 0 → node_lines t ps m k ≡ []
  unfolding node_lines
  nodes_none m k e = rw e

-- a text that was written whole from the start, and one zero behind it, is told
pub told_whole : {m n k : List ℕ} {end : ℕ} {words : List ℕ} → length words < length m → Wrote m n 0 end words → k ≡ set n end 0
    → told end k ≡ told_as m words
told_whole {m} {n} {k} {end} {words} h w e =
    let p = wrote_whole (omega arith) w in
    let l = length_wrote w in
    let s : List ℕ = 0 ∷ [] in
    let v : Wrote n k end (end + 1) s = wrote_one 0 (omega arith) e in
    let a = length-append words s in
    let f = written_is m 0 (words ++ s) (omega arith) in
    let q : 0 + length (words ++ s) ≡ length words + 1 = omega arith in
    let g : k ≡ filled m words = (wrote_then w v).text ∙ (rw q at f) ∙ append_assoc words s (drop (length words + 1) m) in
    rw (p, g)
