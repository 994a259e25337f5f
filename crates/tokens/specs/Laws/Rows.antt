-- What the token list says of a number whose code is known: each is one test over the whole list, which antt computes. Assumes nothing.
use Rattle.std.specs.Prelude.{ℕ, ◌≡◌, Bool, true, not, ◌&&◌, ◌||◌, List, [], ◌∷◌, length, T, eqb}
use Rattle.std.proofs.Math.Dec.{eqb_refl, eqb→eq}
use Rattle.std.proofs.Common.{ne_eqb}
use Rattle.cells.specs.Choice.{find, among}
use Rattle.cells.specs.Laws.Tests.{pick_is}
use Rattle.cells.specs.Laws.Facts.{both_hold, or_first, follows}
use Rattle.tokens.specs.Family.{plain}
use Rattle.tokens.specs.Row.{Row}
use Rattle.tokens.specs.Table.{ends, lows, highs, doubles, table, program, not_listed, is_program, row_of}
use Rattle.tokens.specs.Code.{packed, code_of, family_in, gives_in, return_gives_in}

-- ---- a test of every row of the list with its number, and of the rows of a program number and of none
abbrev pub every_row : (ℕ → Row → Bool) → List (ℕ × Row) → Bool
every_row f [] = true
every_row f (x ∷ xs) = f x.0 x.1 && every_row f xs

pub found : (f : ℕ → Row → Bool) (t : List (ℕ × Row)) (d : Row) (n : ℕ) → T (every_row f t) → T (f n d) → T (f n (find t d n))
found f [] d n h q = q
found f (x ∷ xs) d n h q =
    let b = both_hold (f x.0 x.1) (every_row f xs) h in
    pick_is (λ r. T (f n r)) (eqb n x.0) x.1 (find xs d n) (λ t. rw (eqb→eq n x.0 t) b.0) (λ t. found f xs d n b.1 q)

pub rows_pass : (f : ℕ → Row → Bool) → T (every_row f table) → ((n : ℕ) → T (f n program)) → ((n : ℕ) → T (f n not_listed)) → (n : ℕ)
    → T (f n (row_of n))
unfolding row_of
rows_pass f h p u n = pick_is (λ r. T (f n r)) (is_program n) program (find table not_listed n) (λ t. p n)
    (λ t. found f table not_listed n h (u n))

-- the same of the codes alone
pub code_fact : (f : ℕ → Bool) → T (every_row (λ m r. f (packed r)) table) → T (f (packed program)) → T (f (packed not_listed)) → (n : ℕ)
    → T (f (code_of n))
unfolding code_of
code_fact f h p u n = rows_pass (λ m r. f (packed r)) h (λ m. p) (λ m. u) n

-- ---- the numbers that have a code
abbrev pub has_code : ℕ → List ℕ → ℕ → Row → Bool
has_code k ks n r = not (eqb (packed r) k) || among n ks

-- no row but those of the numbers ks has the code k
abbrev pub only : ℕ → List ℕ → Bool
only k ks = every_row (has_code k ks) table && (not (eqb (packed program) k) && not (eqb (packed not_listed) k))

pub coded : (k : ℕ) (ks : List ℕ) → T (only k ks) → (n : ℕ) → code_of n ≡ k → T (among n ks)
unfolding code_of
coded k ks h n e =
    let b = both_hold (every_row (has_code k ks) table) (not (eqb (packed program) k) && not (eqb (packed not_listed) k)) h in
    let d = both_hold (not (eqb (packed program) k)) (not (eqb (packed not_listed) k)) b.1 in
    follows (eqb (packed (row_of n)) k) (among n ks)
    (rows_pass (has_code k ks) b.0 (λ m. or_first (not (eqb (packed program) k)) (among m ks) d.0)
    (λ m. or_first (not (eqb (packed not_listed) k)) (among m ks) d.1) n)
    (rw e (eqb_refl k))

-- ---- what the default arm of a `match` knows of a number: it is none of the keys
abbrev pub Beside : Type 0 → List ℕ → ℕ → Type 0
Beside P [] n = P
Beside P (k ∷ ks) n = Beside (P × (n ≡ k → ⊥)) ks n

beside_first : (P : Type 0) (ks : List ℕ) (n : ℕ) → Beside P ks n → P
beside_first P [] n r = r
beside_first P (k ∷ ks) n r = (beside_first (P × (n ≡ k → ⊥)) ks n r).0

pub none_left : (P : Type 0) (ks : List ℕ) (n : ℕ) → Beside P ks n → T (among n ks) → ⊥
none_left P [] n r t = t
none_left P (k ∷ ks) n r t =
    let q = P × (n ≡ k → ⊥) in
    none_left q ks n r (rw (ne_eqb n k (beside_first q ks n r).1) at t)

-- ---- the plain tokens
abbrev pub plain_codes : List ℕ
plain_codes =
    0x0100_0000 ∷ 0x0100_0001 ∷ 0x0101_0001 ∷ 0x0100_0011 ∷ 0x0100_0021 ∷ 0x0100_0031 ∷ 0x0100_0010 ∷ 0x0100_0020 ∷ 0x0100_0012 ∷
    0x0100_0023 ∷ 0x0100_0022
    ∷ 0x0100_0033 ∷ 0x0100_0024 ∷ 0x0100_0046 ∷ 0x0100_0044 ∷ 0x0100_0066 ∷ 0x0100_0110 ∷ 0x0100_1001 ∷ 0x0100_1101 ∷ []

pub plain_coded : (n code : ℕ) → code ≡ code_of n → family_in code ≡ plain → T (among code plain_codes)
unfolding code_of table ends lows highs doubles
plain_coded n code e f =
    rw e
    (follows (eqb (family_in (packed (row_of n))) plain) (among (packed (row_of n)) plain_codes)
    (rows_pass (λ m r. not (eqb (family_in (packed r)) plain) || among (packed r) plain_codes) tt (λ m. tt) (λ m. tt) n)
    (rw (rw e at f) (eqb_refl plain)))

-- what is reckoned is what is given
abbrev given : Row → Bool
given r = eqb (length r.results) (gives_in (packed r)) && eqb (length r.return_results) (return_gives_in (packed r))

fits : (n : ℕ) → family_in (code_of n) ≡ plain → T (given (row_of n))
unfolding code_of table ends lows highs doubles
fits n e =
    follows (eqb (family_in (packed (row_of n))) plain) (given (row_of n))
    (rows_pass (λ m r. not (eqb (family_in (packed r)) plain) || given r) tt (λ m. tt) (λ m. tt) n)
    (rw e (eqb_refl plain))

module _ (n : ℕ) (e : family_in (code_of n) ≡ plain) where
  pub results_fit : length (row_of n).results ≡ gives_in (code_of n)
  unfolding code_of
  results_fit =
      eqb→eq (length (row_of n).results) (gives_in (packed (row_of n)))
      (both_hold (eqb (length (row_of n).results) (gives_in (packed (row_of n))))
      (eqb (length (row_of n).return_results) (return_gives_in (packed (row_of n)))) (fits n e)).0

  pub return_results_fit : length (row_of n).return_results ≡ return_gives_in (code_of n)
  unfolding code_of
  return_results_fit =
      eqb→eq (length (row_of n).return_results) (return_gives_in (packed (row_of n)))
      (both_hold (eqb (length (row_of n).results) (gives_in (packed (row_of n))))
      (eqb (length (row_of n).return_results) (return_gives_in (packed (row_of n)))) (fits n e)).1
