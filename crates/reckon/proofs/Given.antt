-- The one cell that a row gives, by its number, and the numbers of the rows that a code has. Assumes nothing.
use Prim.Native.Nat.{ℕ}
use mathlib.Core.Path.{◌≡◌, ◌∙◌}
use mathlib.Core.List.{List, [], ◌∷◌}
use lib.Dec.{T}
use Rattle.tokens.specs.Row.{Seen}
use Rattle.tokens.specs.Table.{ends, lows, highs, doubles, table, row_of}
use Rattle.tokens.specs.Code.{code_of}
use Rattle.state.specs.Stacks.{reckoned_of}
use Rattle.tokens.specs.Laws.Rows.{coded}
use Rattle.reckon.specs.Joints.Reckoned.{Like, OfNone, OfOne, OfTwo, OfThree}
use Rattle.cells.specs.Choice.{among}

module _ (k : ℕ) where
  pub none_by : {n h r : ℕ} (f : ℕ → ℕ) → ((s : Seen) → reckoned_of (row_of k).results s ≡ f s.height ∷ []) → n ≡ k → r ≡ f h
      → OfNone n h r
  none_by f w e g s p = rw e (w s ∙ rw (p, g))

  pub one_by : {n a r : ℕ} (f : ℕ → ℕ) → ((s : Seen) → reckoned_of (row_of k).results s ≡ f (s.cell 0) ∷ []) → n ≡ k → r ≡ f a → OfOne n a r
  one_by f w e g s p = rw e (w s ∙ rw (p, g))

  pub two_by : {n b a r : ℕ} (f : ℕ → ℕ → ℕ) → ((s : Seen) → reckoned_of (row_of k).results s ≡ f (s.cell 1) (s.cell 0) ∷ []) → n ≡ k
      → r ≡ f b a
      → OfTwo n b a r
  two_by f w e g s p q = rw e (w s ∙ rw (p, q, g))

  pub three_by : {n c b a r : ℕ} (f : ℕ → ℕ → ℕ → ℕ)
      → ((s : Seen) → reckoned_of (row_of k).results s ≡ f (s.cell 2) (s.cell 1) (s.cell 0) ∷ [])
      → n ≡ k → r ≡ f c b a → OfThree n c b a r
  three_by f w e g s o p q = rw e (w s ∙ rw (o, p, q, g))

-- ---- the numbers, in the code's order
abbrev pub nones : List ℕ
nones = 0xA4 ∷ 0xA5 ∷ 0xA6 ∷ 0xA7 ∷ 0xA8 ∷ 0x51 ∷ []

abbrev pub ones : List ℕ
ones = 0x26 ∷ 0x2C ∷ 0x2D ∷ 0x34 ∷ 0x35 ∷ 0x36 ∷ 0x37 ∷ 0x38 ∷ 0x39 ∷ 0x57 ∷ 0x58 ∷ 0x59 ∷ []

abbrev pub twos : List ℕ
twos =
    0x1E ∷ 0x1F ∷ 0x20 ∷ 0x23 ∷ 0x24 ∷ 0x25 ∷ 0x27 ∷ 0x28 ∷ 0x29 ∷ 0x2E ∷ 0x2F ∷ 0x3A ∷ 0x3B ∷ 0x3C ∷ 0x3D ∷ 0x3E ∷ 0x3F ∷ 0x40 ∷ 0x41 ∷
    0x42 ∷ 0x43 ∷ 0x4D ∷ []

abbrev pub threes : List ℕ
threes = 0x44 ∷ 0x45 ∷ []

module _ (n : ℕ) where
  pub none_code : Like n 0xA5 → code_of n ≡ 0x0100_0001
  unfolding code_of row_of table ends lows highs doubles
  none_code e = e

  pub none_coded : Like n 0xA5 → T (among n nones)
  unfolding table ends lows highs doubles
  none_coded e = coded 0x0100_0001 nones tt n (none_code e)

  pub one_code : Like n 0x26 → code_of n ≡ 0x0100_0011
  unfolding code_of row_of table ends lows highs doubles
  one_code e = e

  pub one_coded : Like n 0x26 → T (among n ones)
  unfolding table ends lows highs doubles
  one_coded e = coded 0x0100_0011 ones tt n (one_code e)

  pub two_code : Like n 0x1E → code_of n ≡ 0x0100_0021
  unfolding code_of row_of table ends lows highs doubles
  two_code e = e

  pub two_coded : Like n 0x1E → T (among n twos)
  unfolding table ends lows highs doubles
  two_coded e = coded 0x0100_0021 twos tt n (two_code e)

  pub three_code : Like n 0x44 → code_of n ≡ 0x0100_0031
  unfolding code_of row_of table ends lows highs doubles
  three_code e = e

  pub three_coded : Like n 0x44 → T (among n threes)
  unfolding table ends lows highs doubles
  three_coded e = coded 0x0100_0031 threes tt n (three_code e)

  pub nothing_code : Like n 0x7B → code_of n ≡ 0x0100_0000
  unfolding code_of row_of table ends lows highs doubles
  nothing_code e = e
