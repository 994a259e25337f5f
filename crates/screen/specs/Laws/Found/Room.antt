-- How many cells the screen has for a program, and what they are before it starts. Assumes nothing.
use Rattle.std.specs.Prelude.{ℕ, zero, suc, ◌≤◌, ◌≡◌, refl, List, leb, get_or, replicate}
use Rattle.std.proofs.Common.{arith, sym, subst, leb→le}
use Rattle.cells.specs.Laws.Tests.{pick_is}
use Rattle.rom.specs.Sizes.{rom_most}
use Rattle.screen.specs.Laws.Found.Model.{room_of}

-- every place of a program has one
pub room_fits : (n : ℕ) → n ≤ rom_most → n ≤ room_of n
room_fits n l =
    pick_is (λ k. n ≤ k) (leb n 256) 256 _ (λ t. leb→le n 256 t)
    (λ t.
    pick_is (λ k. n ≤ k) (leb n 1024) 1024 _ (λ u. leb→le n 1024 u)
    (λ u.
    pick_is (λ k. n ≤ k) (leb n 4096) 4096 _ (λ v. leb→le n 4096 v)
    (λ v. pick_is (λ k. n ≤ k) (leb n 16384) 16384 rom_most (λ w. leb→le n 16384 w) (λ w. l))))

-- and there are never more than for the longest
pub room_most : (n : ℕ) → room_of n ≤ rom_most
room_most n =
    pick_is (λ k. k ≤ rom_most) (leb n 256) 256 _ (λ t. omega arith)
    (λ t.
    pick_is (λ k. k ≤ rom_most) (leb n 1024) 1024 _ (λ u. omega arith)
    (λ u.
    pick_is (λ k. k ≤ rom_most) (leb n 4096) 4096 _ (λ v. omega arith)
    (λ v. pick_is (λ k. k ≤ rom_most) (leb n 16384) 16384 rom_most (λ w. omega arith) (λ w. omega arith))))

-- so that as many cells are enough for the program, and a walk over them ends
pub has_room : (n : ℕ) → n ≤ rom_most → {k : ℕ} → k ≡ room_of n → (n ≤ k) × (k ≤ rom_most)
has_room n l e = (subst (λ m. n ≤ m) (sym e) (room_fits n l), subst (λ m. m ≤ rom_most) (sym e) (room_most n))

-- ---- before it starts they are 0
abbrev pub clear : ℕ → List ℕ
clear n = replicate n 0

-- at every place, and behind the last
pub zeros : (n p : ℕ) → get_or (clear n) p 0 ≡ 0
zeros zero p = refl
zeros (suc n) zero = refl
zeros (suc n) (suc p) = zeros n p
