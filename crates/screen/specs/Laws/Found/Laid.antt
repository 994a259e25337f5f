-- The marks as they are laid out from the cells: one for each byte that a ROM can have. Assumes nothing.
use Rattle.std.specs.Prelude.{ℕ, zero, suc, ◌-◌, ◌≤◌, ◌≡◌, refl, List, [], ◌∷◌, map, ◌++◌, length, get_or, replicate}
use Rattle.std.proofs.Common.{arith, ◌∙◌, sym, length-append}
use Rattle.std.proofs.lemmas.List.{length-map, length-replicate}
use Rattle.rom.specs.Header.{length_of, header_of}
use Rattle.rom.specs.Laws.Header.{header_facts}
use Rattle.rom.specs.Sizes.{marks_size, rom_most}
use Rattle.screen.specs.Laws.Found.Model.{laid_of}
use Rattle.screen.specs.Laws.Found.Room.{zeros}
use Rattle.screen.specs.Laws.Found.Cell.{mark_in, mark_none}

-- a good header leaves a program that is no longer than a ROM can be
pub header_length : (rom : List ℕ) → header_of rom ≡ 0 → length_of rom ≤ rom_most
header_length rom e = let h = header_facts rom e in let a = h.most in let b = h.rom_to in omega arith

-- a mark is its cell's
pub mark_of : (l : List ℕ) (k : ℕ) → get_or (map mark_in l) k 0 ≡ mark_in (get_or l k 0)
mark_of [] k = sym mark_none
mark_of (x ∷ xs) zero = refl
mark_of (x ∷ xs) (suc k) = mark_of xs k

-- ---- the marks of all cells, and 0 behind them
-- as many as the buffer has
pub laid_size : (seen : List ℕ) → length seen ≤ marks_size → length (laid_of seen) ≡ marks_size
unfolding laid_of
laid_size seen l =
    length-append (map mark_in seen) (replicate (marks_size - length seen) 0)
    ∙ omega (arith, length-map seen mark_in, length-replicate {A = ℕ} (marks_size - length seen) 0)

-- zeros behind the marks of cells change none of them
behind : (n : ℕ) (seen : List ℕ) (p : ℕ) → get_or (map mark_in seen ++ replicate n 0) p 0 ≡ get_or (map mark_in seen) p 0
behind n [] p = zeros n p
behind n (c ∷ cs) zero = refl
behind n (c ∷ cs) (suc p) = behind n cs p

-- each is its cell's
pub laid_at : (seen : List ℕ) (p : ℕ) → get_or (laid_of seen) p 0 ≡ mark_in (get_or seen p 0)
unfolding laid_of
laid_at seen p = behind (marks_size - length seen) seen p ∙ mark_of seen p
