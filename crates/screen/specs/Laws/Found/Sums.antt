-- The sum of a program number as one number, five pairs of hexadecimal digits, as the table of sums has it. Assumes nothing.
use Rattle.std.specs.Prelude.{ℕ, ◌+◌, ◌*◌, ◌/◌, ◌%◌, ◌<◌, ◌≡◌}
use Rattle.std.proofs.Common.{arith}
use Rattle.screen.specs.declared.effect.Sum.{Sum}

unfoldable pub packed_sum : Sum → ℕ
packed_sum s = s.need * 0x1_0000_0000 + s.out * 0x100_0000 + s.peak * 0x1_0000 + s.return_peak * 0x100 + s.frames

unfoldable pub unpacked_sum : ℕ → Sum
unpacked_sum code =
    record {
      need = code / 0x1_0000_0000 % 256;
      out = code / 0x100_0000 % 256;
      peak = code / 0x1_0000 % 256;
      return_peak = code / 0x100 % 256;
      frames = code % 256;
    }

-- each part of a sum has two hexadecimal digits at most
pub record SmallSum (s : Sum) : Type 0 where
  pub need : s.need < 256
  pub out : s.out < 256
  pub peak : s.peak < 256
  pub return_peak : s.return_peak < 256
  pub frames : s.frames < 256

pub unpacked_small : (code : ℕ) → SmallSum (unpacked_sum code)
unfolding unpacked_sum
unpacked_small code =
    record { need = omega arith; out = omega arith; peak = omega arith; return_peak = omega arith; frames = omega arith }

-- a sum is what its code says
pub unpacked_packed : (s : Sum) → SmallSum s → unpacked_sum (packed_sum s) ≡ s
unfolding packed_sum unpacked_sum
unpacked_packed s y = same (omega (arith, y)) (omega (arith, y)) (omega (arith, y)) (omega (arith, y)) (omega (arith, y))
  where
    same : {a b c d e : ℕ} → a ≡ s.need → b ≡ s.out → c ≡ s.peak → d ≡ s.return_peak → e ≡ s.frames
        → record { need = a; out = b; peak = c; return_peak = d; frames = e } ≡ s
    same f g h i j = rw (f, g, h, i, j)
