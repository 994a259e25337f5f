-- What each kind of plain token leaves, where no test refuses it: a law for each way out of the code. Assumes nothing.
use Prim.Native.Nat.{ℕ, ◌+◌, ◌-◌, ◌≤◌, ◌<◌}
use mathlib.Core.Path.{◌≡◌, refl, sym, ◌∙◌}
use mathlib.Core.Bool.{Bool}
use mathlib.Core.List.{List, [], ◌∷◌}
use native.Mathlib.Omega.{arith}
use lib.ListN.{get_or, set}
use lib.Seq.{set-get_or}
use Rattle.tokens.specs.Table.{ends, lows, highs, doubles, table, row_of}
use Rattle.tokens.specs.Code.{code_of}
use Rattle.rom.specs.Bytes.{word32_of}
use Rattle.state.specs.Stacks.{stacks, left_of, plain_of}
use Rattle.tokens.specs.Laws.Rows.{results_fit}
use Rattle.reckon.specs.Joints.Reckoned.{Like, OfNone, OfOne, OfTwo, OfThree}
use Rattle.reckon.specs.Joints.Fast.{OnData, Reads, turned}
use Rattle.reckon.specs.Joints.Turned.{On, Not}
use Rattle.reckon.proofs.Made.{literal_made}
use Rattle.reckon.proofs.Paths.{high, fine, data_fine, none_given}
use Rattle.reckon.proofs.Given.{none_code, one_code, two_code, three_code, nothing_code}
use Rattle.state.specs.Joints.Reckoning.{reckoned_as}
use Rattle.rom.specs.Sizes.{data_most, return_most}

-- the cell that has k others above it
seen : (c : List ℕ) (h k : ℕ) → get_or c (h - 1 - k) 0 ≡ get_or c (h - (k + 1)) 0
seen c h k = let e : h - 1 - k ≡ h - (k + 1) = omega arith in rw e

-- a cell put where it stands already
stays : (c : List ℕ) (base v : ℕ) (vs : List ℕ) → v ≡ get_or c base 0 → left_of c base (v ∷ vs) ≡ left_of c (base + 1) vs
unfolding left_of
stays c base v vs e = rw (e, set-get_or c base 0)

module _ (h b place : ℕ) (c : List ℕ) (t : h ≤ data_most) (r : b ≤ return_most) where
  -- the k-th cell from the top, the top being the first, and a cell put there
  abbrev at : ℕ → ℕ
  at k = get_or c (h - k) 0

  abbrev put : List ℕ → ℕ → ℕ → List ℕ
  put d k v = set d (h - k) v

  module _ (n : ℕ) where
    -- nothing, and a push
    pub nothing_fine : Like n 0x7B → OnData n c h b place (turned On h b (place + 1)) c
    unfolding left_of
    nothing_fine e =
        data_fine n h b place 0x0100_0000 c (nothing_code n e) (refl, refl, refl, refl) t r (omega arith) [] _ _
        (λ o bk. let d = nothing_code n e in none_given _ (row_of n).results (results_fit n (rw d) ∙ rw d)) refl (omega arith) t

    module _ (l : h < data_most) where
      pub push_fine : (v : ℕ) → Like n 0xA5 → OfNone n h v → OnData n c h b place (turned On (h + 1) b (place + 1)) (set c h v)
      unfolding left_of
      push_fine v e f =
          let z : h - 0 ≡ h = omega arith in
          data_fine n h b place 0x0100_0001 c (none_code n e) (refl, refl, refl, refl) t r (omega arith) (v ∷ []) _ _ (λ o bk. f _ refl)
          (rw z) (omega arith) (omega arith)

    -- one cell of the highest
    pub one_fine : (v : ℕ) → Like n 0x26 → 1 ≤ h → OfOne n (at 1) v → OnData n c h b place (turned On h b (place + 1)) (put c 1 v)
    unfolding left_of
    one_fine v e l f = data_fine n h b place 0x0100_0011 c (one_code n e) (refl, refl, refl, refl) t r l (v ∷ []) _ _
        (λ o bk. f _ (seen c h 0)) refl (omega arith) t

    pub two_fine : (v : ℕ) → Like n 0x1E → 2 ≤ h → OfTwo n (at 2) (at 1) v
        → OnData n c h b place (turned On (h - 1) b (place + 1)) (put c 2 v)
    unfolding left_of
    two_fine v e l f =
        data_fine n h b place 0x0100_0021 c (two_code n e) (refl, refl, refl, refl) t r l (v ∷ []) _ _
        (λ o bk. f _ (seen c h 1) (seen c h 0)) refl (omega arith) (omega arith)

    pub three_fine : (v : ℕ) → Like n 0x44 → 3 ≤ h → OfThree n (at 3) (at 2) (at 1) v
        → OnData n c h b place (turned On (h - 2) b (place + 1)) (put c 3 v)
    unfolding left_of
    three_fine v e l f =
        data_fine n h b place 0x0100_0031 c (three_code n e) (refl, refl, refl, refl) t r l (v ∷ []) _ _
        (λ o bk. f _ (seen c h 2) (seen c h 1) (seen c h 0)) refl (omega arith)
        (omega arith)

  -- the stack words
  pub drop_fine : 1 ≤ h → OnData 0x46 c h b place (turned On (h - 1) b (place + 1)) c
  unfolding left_of code_of row_of table ends lows highs doubles
  drop_fine l =
      data_fine 0x46 h b place 0x0100_0010 c refl (refl, refl, refl, refl) t r l [] _ _ (λ o bk. refl) refl (omega arith) (omega arith)

  pub drop_two_fine : 2 ≤ h → OnData 0x52 c h b place (turned On (h - 2) b (place + 1)) c
  unfolding left_of code_of row_of table ends lows highs doubles
  drop_two_fine l =
      data_fine 0x52 h b place 0x0100_0020 c refl (refl, refl, refl, refl) t r l [] _ _ (λ o bk. refl) refl (omega arith) (omega arith)

  pub dup_fine : 1 ≤ h → h < data_most → OnData 0x47 c h b place (turned On (h + 1) b (place + 1)) (set c h (at 1))
  unfolding left_of code_of row_of table ends lows highs doubles
  dup_fine l m =
      let i1 : h - 1 + 1 ≡ h = omega arith in
      data_fine 0x47 h b place 0x0100_0012 c refl (refl, refl, refl, refl) t r l (at 1 ∷ at 1 ∷ []) _ _
      (λ o bk. simp (seen c h 0))
      (sym
      (stays c (h - 1) (at 1) (at 1 ∷ []) refl
      ∙ simp i1)) (omega arith) (omega arith)

  pub over_fine : 2 ≤ h → h < data_most → OnData 0x48 c h b place (turned On (h + 1) b (place + 1)) (set c h (at 2))
  unfolding left_of code_of row_of table ends lows highs doubles
  over_fine l m =
      let i2 : h - 2 + 1 ≡ h - 1 = omega arith in
      let i1 : h - 1 + 1 ≡ h = omega arith in
      data_fine 0x48 h b place 0x0100_0023 c refl (refl, refl, refl, refl) t r l (at 2 ∷ at 1 ∷ at 2 ∷ []) _ _
      (λ o bk. simp (seen c h 0, seen c h 1))
      (sym
      (stays c (h - 2) (at 2) (at 1 ∷ at 2 ∷ []) refl
      ∙ stays c (h - 2 + 1) (at 1) (at 2 ∷ []) (simp i2)
      ∙ simp (i2, i1))) (omega arith) (omega arith)

  pub tuck_fine : 2 ≤ h → h < data_most
      → OnData 0x4C c h b place (turned On (h + 1) b (place + 1)) (set (put (put c 2 (at 1)) 1 (at 2)) h (at 1))
  unfolding left_of code_of row_of table ends lows highs doubles
  tuck_fine l m =
      let i2 : h - 2 + 1 ≡ h - 1 = omega arith in
      let i1 : h - 1 + 1 ≡ h = omega arith in
      data_fine 0x4C h b place 0x0100_0023 c refl (refl, refl, refl, refl) t r l (at 1 ∷ at 2 ∷ at 1 ∷ []) _ _
      (λ o bk. simp (seen c h 0, seen c h 1))
      (simp (i2, i1)) (omega arith) (omega arith)

  pub swap_fine : 2 ≤ h → OnData 0x49 c h b place (turned On h b (place + 1)) (put (put c 2 (at 1)) 1 (at 2))
  unfolding left_of code_of row_of table ends lows highs doubles
  swap_fine l =
      let i2 : h - 2 + 1 ≡ h - 1 = omega arith in
      data_fine 0x49 h b place 0x0100_0022 c refl (refl, refl, refl, refl) t r l (at 1 ∷ at 2 ∷ []) _ _
      (λ o bk. simp (seen c h 0, seen c h 1))
      (simp i2) (omega arith) t

  pub rot_fine : 3 ≤ h
      → OnData 0x4A c h b place (turned On h b (place + 1)) (put (put (put c 3 (at 2)) 2 (at 1)) 1 (at 3))
  unfolding left_of code_of row_of table ends lows highs doubles
  rot_fine l =
      let i3 : h - 3 + 1 ≡ h - 2 = omega arith in
      let i2 : h - 2 + 1 ≡ h - 1 = omega arith in
      data_fine 0x4A h b place 0x0100_0033 c refl (refl, refl, refl, refl) t r l (at 2 ∷ at 1 ∷ at 3 ∷ []) _ _
      (λ o bk. simp (seen c h 0, seen c h 1, seen c h 2))
      (simp (i3, i2)) (omega arith) t

  pub back_rot_fine : 3 ≤ h
      → OnData 0x4B c h b place (turned On h b (place + 1)) (put (put (put c 3 (at 1)) 2 (at 3)) 1 (at 2))
  unfolding left_of code_of row_of table ends lows highs doubles
  back_rot_fine l =
      let i3 : h - 3 + 1 ≡ h - 2 = omega arith in
      let i2 : h - 2 + 1 ≡ h - 1 = omega arith in
      data_fine 0x4B h b place 0x0100_0033 c refl (refl, refl, refl, refl) t r l (at 1 ∷ at 3 ∷ at 2 ∷ []) _ _
      (λ o bk. simp (seen c h 0, seen c h 1, seen c h 2))
      (simp (i3, i2)) (omega arith) t

  pub dup_two_fine : 2 ≤ h → h < 63
      → OnData 0x53 c h b place (turned On (h + 2) b (place + 1)) (set (set c h (at 2)) (h + 1) (at 1))
  unfolding left_of code_of row_of table ends lows highs doubles
  dup_two_fine l m =
      let i2 : h - 2 + 1 ≡ h - 1 = omega arith in
      let i1 : h - 1 + 1 ≡ h = omega arith in
      data_fine 0x53 h b place 0x0100_0024 c refl (refl, refl, refl, refl) t r l (at 2 ∷ at 1 ∷ at 2 ∷ at 1 ∷ []) _ _
      (λ o bk. simp (seen c h 0, seen c h 1))
      (sym
      (stays c (h - 2) (at 2) (at 1 ∷ at 2 ∷ at 1 ∷ []) refl
      ∙ stays c (h - 2 + 1) (at 1) (at 2 ∷ at 1 ∷ []) (simp i2)
      ∙ simp (i2, i1))) (omega arith) (omega arith)

  pub over_two_fine : 4 ≤ h → h < 63
      → OnData 0x54 c h b place (turned On (h + 2) b (place + 1)) (set (set c h (at 4)) (h + 1) (at 3))
  unfolding left_of code_of row_of table ends lows highs doubles
  over_two_fine l m =
      let i4 : h - 4 + 1 ≡ h - 3 = omega arith in
      let i3 : h - 3 + 1 ≡ h - 2 = omega arith in
      let i2 : h - 2 + 1 ≡ h - 1 = omega arith in
      let i1 : h - 1 + 1 ≡ h = omega arith in
      data_fine 0x54 h b place 0x0100_0046 c refl (refl, refl, refl, refl) t r l (at 4 ∷ at 3 ∷ at 2 ∷ at 1 ∷ at 4 ∷ at 3 ∷ []) _ _
      (λ o bk. simp (seen c h 0, seen c h 1, seen c h 2, seen c h 3))
      (sym
      (stays c (h - 4) (at 4) (at 3 ∷ at 2 ∷ at 1 ∷ at 4 ∷ at 3 ∷ []) refl
      ∙ stays c (h - 4 + 1) (at 3) (at 2 ∷ at 1 ∷ at 4 ∷ at 3 ∷ []) (simp i4)
      ∙ stays c (h - 4 + 1 + 1) (at 2) (at 1 ∷ at 4 ∷ at 3 ∷ []) (simp (i4, i3))
      ∙ stays c (h - 4 + 1 + 1 + 1) (at 1) (at 4 ∷ at 3 ∷ []) (simp (i4, i3, i2))
      ∙ simp (i4, i3, i2, i1))) (omega arith) (omega arith)

  pub swap_two_fine : 4 ≤ h
      → OnData 0x55 c h b place (turned On h b (place + 1)) (put (put (put (put c 4 (at 2)) 3 (at 1)) 2 (at 4)) 1 (at 3))
  unfolding left_of code_of row_of table ends lows highs doubles
  swap_two_fine l =
      let i4 : h - 4 + 1 ≡ h - 3 = omega arith in
      let i3 : h - 3 + 1 ≡ h - 2 = omega arith in
      let i2 : h - 2 + 1 ≡ h - 1 = omega arith in
      data_fine 0x55 h b place 0x0100_0044 c refl (refl, refl, refl, refl) t r l (at 2 ∷ at 1 ∷ at 4 ∷ at 3 ∷ []) _ _
      (λ o bk. simp (seen c h 0, seen c h 1, seen c h 2, seen c h 3))
      (simp (i4, i3, i2)) (omega arith) t

  pub rot_two_fine : 6 ≤ h
      → OnData 0x56 c h b place (turned On h b (place + 1))
      (put (put (put (put (put (put c 6 (at 4)) 5 (at 3)) 4 (at 2)) 3 (at 1)) 2 (at 6)) 1 (at 5))
  unfolding left_of code_of row_of table ends lows highs doubles
  rot_two_fine l =
      let i6 : h - 6 + 1 ≡ h - 5 = omega arith in
      let i5 : h - 5 + 1 ≡ h - 4 = omega arith in
      let i4 : h - 4 + 1 ≡ h - 3 = omega arith in
      let i3 : h - 3 + 1 ≡ h - 2 = omega arith in
      let i2 : h - 2 + 1 ≡ h - 1 = omega arith in
      data_fine 0x56 h b place 0x0100_0066 c refl (refl, refl, refl, refl) t r l (at 4 ∷ at 3 ∷ at 2 ∷ at 1 ∷ at 6 ∷ at 5 ∷ []) _ _
      (λ o bk. simp (seen c h 0, seen c h 1, seen c h 2, seen c h 3, seen c h 4, seen c h 5))
      (simp (i6, i5, i4, i3, i2)) (omega arith) t

-- ---- b(lit)
module _ (rom : List ℕ) (size h b place : ℕ) (c : List ℕ) (t : h ≤ data_most) (r : b ≤ return_most) (l : place + 5 ≤ size) where
  literal_code_lem : code_of 0x10 ≡ 0x0101_0001
  unfolding code_of row_of table ends lows highs doubles
  literal_code_lem = refl

  pub literal_high : data_most ≤ h → (wide : Bool) → Reads 0x10 rom size wide c h b place (turned (Not 15) h b place) c
  literal_high m =
      literal_made rom size h b place c t r 15 h c l t
      (λ base k. high 0x10 (word32_of rom (place + 1)) base (stacks c h k b) 0x0101_0001 literal_code_lem (omega arith) (omega arith)
      (omega arith) (omega arith))

  literal_left : (operand : ℕ) (k : List ℕ)
      → reckoned_as 0 (stacks (set c h operand) (h + 1) k b) ≡ reckoned_as 0 (plain_of 0x10 operand (stacks c h k b))
  unfolding plain_of left_of code_of row_of table ends lows highs doubles
  literal_left operand k =
      let x : h - 0 ≡ h = omega arith in
      let y : b - 0 + 0 ≡ b = omega arith in
      simp (x, y)

  pub literal_fine : h < data_most → (wide : Bool)
      → Reads 0x10 rom size wide c h b place (turned On (h + 1) b (place + 5)) (set c h (word32_of rom (place + 1)))
  literal_fine m =
      literal_made rom size h b place c t r 0 (h + 1) (set c h (word32_of rom (place + 1))) l (omega arith)
      (λ base k. literal_left (word32_of rom (place + 1)) k
      ∙ fine 0x10 (word32_of rom (place + 1)) base (stacks c h k b) 0x0101_0001 literal_code_lem (omega arith) (omega arith) (omega arith)
      (omega arith))
