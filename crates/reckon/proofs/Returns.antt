-- What the plain tokens leave that work on both stacks: a law for each way out of the code. Assumes nothing.
use Prim.Native.Nat.{ℕ, ◌+◌, ◌-◌, ◌≤◌, ◌<◌}
use mathlib.Core.Path.{◌≡◌, refl, ◌∙◌}
use mathlib.Core.List.{List}
use native.Mathlib.Omega.{arith}
use lib.ListN.{get_or, set}
use lib.Seq.{set-get_or}
use Rattle.tokens.specs.Table.{ends, lows, highs, doubles, table, row_of}
use Rattle.tokens.specs.Code.{code_of}
use Rattle.state.specs.Stacks.{stacks, left_of, plain_of}
use Rattle.reckon.specs.Joints.Fast.{OnBoth, turned}
use Rattle.reckon.specs.Joints.Turned.{On, Not}
use Rattle.reckon.proofs.Made.{both_made}
use Rattle.reckon.proofs.Paths.{low, back_low, back_high, high, fine}
use Rattle.state.specs.Joints.Reckoning.{reckoned_as}
use Rattle.rom.specs.Sizes.{data_most, return_most}

module _ (base h b place : ℕ) (c k : List ℕ) (t : h ≤ data_most) (r : b ≤ return_most) where
  -- >r
  to_code : code_of 0x30 ≡ 0x0100_0110
  unfolding code_of row_of table ends lows highs doubles
  to_code = refl

  pub to_low : h < 1 → OnBoth 0x30 base c h k b place (turned (Not 14) h b place) c k
  to_low l =
      both_made 0x30 h b place 0x0100_0110 to_code refl refl t r base c k 14 h b c k t r (λ o. o)
      (λ operand. low 0x30 operand base (stacks c h k b) 0x0100_0110 to_code l)

  pub to_high : 1 ≤ h → return_most ≤ b → OnBoth 0x30 base c h k b place (turned (Not 16) h b place) c k
  to_high l m =
      both_made 0x30 h b place 0x0100_0110 to_code refl refl t r base c k 16 h b c k t r (λ o. o)
      (λ operand. back_high 0x30 operand base (stacks c h k b) 0x0100_0110 to_code l (omega arith) (omega arith))

  to_left : (operand : ℕ) → reckoned_as 0 (stacks c (h - 1) (set k b (get_or c (h - 1) 0)) (b + 1)) ≡ reckoned_as 0
      (plain_of 0x30 operand (stacks c h k b))
  unfolding plain_of left_of code_of row_of table ends lows highs doubles
  to_left operand =
      let x : h - 1 + 0 ≡ h - 1 = omega arith in
      let y : h - 1 - 0 ≡ h - 1 = omega arith in
      let z : b - 0 ≡ b = omega arith in
      simp (x, y, z)

  pub to_fine : 1 ≤ h → b < return_most → OnBoth 0x30 base c h k b place (turned On (h - 1) (b + 1) (place + 1)) c
      (set k b (get_or c (h - 1) 0))
  to_fine l m =
      both_made 0x30 h b place 0x0100_0110 to_code refl refl t r base c k 0 (h - 1) (b + 1) c (set k b (get_or c (h - 1) 0)) (omega arith)
      (omega arith)
      (λ o. omega arith)
      (λ operand. to_left operand ∙ fine 0x30 operand base (stacks c h k b) 0x0100_0110 to_code l (omega arith) (omega arith) (omega arith))

  -- r>
  from_code : code_of 0x31 ≡ 0x0100_1001
  unfolding code_of row_of table ends lows highs doubles
  from_code = refl

  pub from_low : b ≤ base → OnBoth 0x31 base c h k b place (turned (Not 16) h b place) c k
  from_low l =
      both_made 0x31 h b place 0x0100_1001 from_code refl refl t r base c k 16 h b c k t r (λ o. o)
      (λ operand. back_low 0x31 operand base (stacks c h k b) 0x0100_1001 from_code (omega arith) (omega arith))

  from_left : (operand : ℕ) → reckoned_as 0 (stacks (set c h (get_or k (b - 1) 0)) (h + 1) k (b - 1)) ≡ reckoned_as 0
      (plain_of 0x31 operand (stacks c h k b))
  unfolding plain_of left_of code_of row_of table ends lows highs doubles
  from_left operand =
      let x : h - 0 ≡ h = omega arith in
      let y : b - 1 - 0 ≡ b - 1 = omega arith in
      let z : b - 1 + 0 ≡ b - 1 = omega arith in
      simp (x, y, z)

  -- r@
  copy_code : code_of 0x32 ≡ 0x0100_1101
  unfolding code_of row_of table ends lows highs doubles
  copy_code = refl

  pub copy_low : b ≤ base → OnBoth 0x32 base c h k b place (turned (Not 16) h b place) c k
  copy_low l =
      both_made 0x32 h b place 0x0100_1101 copy_code refl refl t r base c k 16 h b c k t r (λ o. o)
      (λ operand. back_low 0x32 operand base (stacks c h k b) 0x0100_1101 copy_code (omega arith) (omega arith))

  copy_left : 1 ≤ b → (operand : ℕ) → reckoned_as 0 (stacks (set c h (get_or k (b - 1) 0)) (h + 1) k b) ≡ reckoned_as 0
      (plain_of 0x32 operand (stacks c h k b))
  unfolding plain_of left_of code_of row_of table ends lows highs doubles
  copy_left l operand =
      let x : h - 0 ≡ h = omega arith in
      let y : b - 1 - 0 ≡ b - 1 = omega arith in
      let z : b - 1 + 1 ≡ b = omega arith in
      simp (x, y, z, set-get_or k (b - 1) 0)

  module _ (l : base < b) where
    pub from_high : data_most ≤ h → OnBoth 0x31 base c h k b place (turned (Not 15) h b place) c k
    from_high m =
        both_made 0x31 h b place 0x0100_1001 from_code refl refl t r base c k 15 h b c k t r (λ o. o)
        (λ operand. high 0x31 operand base (stacks c h k b) 0x0100_1001 from_code (omega arith) (omega arith) (omega arith) (omega arith))

    pub from_fine : h < data_most → OnBoth 0x31 base c h k b place (turned On (h + 1) (b - 1) (place + 1)) (set c h (get_or k (b - 1) 0)) k
    from_fine m =
        both_made 0x31 h b place 0x0100_1001 from_code refl refl t r base c k 0 (h + 1) (b - 1) (set c h (get_or k (b - 1) 0)) k
        (omega arith)
        (omega arith)
        (λ o. omega arith)
        (λ operand. from_left operand ∙ fine 0x31 operand base (stacks c h k b) 0x0100_1001 from_code (omega arith) (omega arith)
        (omega arith) (omega arith))

    pub copy_high : data_most ≤ h → OnBoth 0x32 base c h k b place (turned (Not 15) h b place) c k
    copy_high m =
        both_made 0x32 h b place 0x0100_1101 copy_code refl refl t r base c k 15 h b c k t r (λ o. o)
        (λ operand. high 0x32 operand base (stacks c h k b) 0x0100_1101 copy_code (omega arith) (omega arith) (omega arith) (omega arith))

    pub copy_fine : h < data_most → OnBoth 0x32 base c h k b place (turned On (h + 1) b (place + 1)) (set c h (get_or k (b - 1) 0)) k
    copy_fine m =
        both_made 0x32 h b place 0x0100_1101 copy_code refl refl t r base c k 0 (h + 1) b (set c h (get_or k (b - 1) 0)) k (omega arith) r
        (λ o. o)
        (λ operand. copy_left (omega arith) operand
        ∙ fine 0x32 operand base (stacks c h k b) 0x0100_1101 copy_code (omega arith) (omega arith) (omega arith) (omega arith))
