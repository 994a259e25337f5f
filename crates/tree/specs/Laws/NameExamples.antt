-- The definition of a name, run: the bytes that may stand in one, written out, and names at the ends of their length. Assumes nothing.
use Rattle.std.specs.Prelude.{ℕ, zero, suc, ◌+◌, Bool, true, false, List, [], ◌∷◌, ◌≡◌, refl, replicate}
use Rattle.rom.specs.Words.{letters_of}
use Rattle.tree.specs.Property.{is_one_of, name_byte, all_name_bytes, bad_name}

-- those among so many numbers from one on for which a test holds
unfoldable kept_from : (ℕ → Bool) → ℕ → ℕ → List ℕ
kept_from f zero from = []
kept_from f (suc count) from = elim (f from) [ true ↦ from ∷ kept_from f count (from + 1) | false ↦ kept_from f count (from + 1) ]

-- of the 256 bytes
name_bytes : kept_from name_byte 256 0 ≡ letters_of "!\"#$%&'()*+,-.0123456789;<=>?^_`abcdefghijklmnopqrstuvwxyz{|}~"
unfolding kept_from name_byte is_one_of letters_of
name_bytes = refl

no_bytes : bad_name [] ≡ true
unfolding bad_name all_name_bytes
no_bytes = refl

longest : bad_name (replicate 31 0x61) ≡ false
unfolding bad_name all_name_bytes name_byte is_one_of letters_of
longest = refl

too_long : bad_name (replicate 32 0x61) ≡ true
unfolding bad_name all_name_bytes name_byte is_one_of letters_of
too_long = refl

-- "Our inventory import choked on a name with a colon"
colon_bad : bad_name (letters_of "lane:1") ≡ true
unfolding bad_name all_name_bytes name_byte is_one_of letters_of
colon_bad = refl

upper_case_bad : bad_name (letters_of "Lanes") ≡ true
unfolding bad_name all_name_bytes name_byte is_one_of letters_of
upper_case_bad = refl

-- the standard only reserves a name that begins with a plus
plus_good : bad_name (letters_of "+lanes") ≡ false
unfolding bad_name all_name_bytes name_byte is_one_of letters_of
plus_good = refl
