-- The header's verdict, by what the code has found before each answer: a law for each. Assumes nothing.
use Rattle.std.proofs.Common.{◌≡◌, ℕ, true, false, not, eqb, List, eq-eqb, ne_eqb}
use Rattle.rom.specs.Bytes.{byte_of}
use Rattle.rom.specs.Sum.{sum_of}
use Rattle.rom.specs.Header.{start_of, length_of, checksum_of, wrong_rom, wrong_length, header_of}

module _ (rom : List ℕ) where
  pub wrong_size : wrong_rom rom ≡ true → 1 ≡ header_of rom
  unfolding header_of
  wrong_size w = rw w

  module _ (w : wrong_rom rom ≡ false) where
    pub no_start : start_of rom ≡ false → 2 ≡ header_of rom
    unfolding header_of
    no_start s = rw (w, s)

    module _ (s : start_of rom ≡ true) where
      pub no_format : (byte_of rom 1 ≡ 8 → ⊥) → 3 ≡ header_of rom
      unfolding header_of
      no_format f = rw (w, s, ne_eqb _ _ f)

      module _ (f : byte_of rom 1 ≡ 8) where
        pub bad_length : wrong_length rom (length_of rom) ≡ true → 4 ≡ header_of rom
        unfolding header_of
        bad_length l = rw (w, s, eq-eqb _ _ f, l)

        module _ (l : wrong_length rom (length_of rom) ≡ false) where
          pub wrong_sum : not (eqb (sum_of rom (length_of rom)) (checksum_of rom)) ≡ true → 5 ≡ header_of rom
          unfolding header_of
          wrong_sum d = rw (w, s, eq-eqb _ _ f, l, d)

          pub right_sum : not (eqb (sum_of rom (length_of rom)) (checksum_of rom)) ≡ false → 0 ≡ header_of rom
          unfolding header_of
          right_sum d = rw (w, s, eq-eqb _ _ f, l, d)
