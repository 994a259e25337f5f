-- Whether a number lies from one number to another, by the tests that the code makes. Assumes nothing.
use Prim.Native.Nat.{ℕ, ◌≤◌, ◌<◌}
use mathlib.Core.Path.{◌≡◌}
use mathlib.Core.Bool.{true, false, ◌&&◌}
use borrow.Author.Tests.{le-leb, lt-leb, leb-true}
use lib.Dec.{leb}
use Rattle.cells.specs.Laws.Facts.{and_first, and_second}

module _ (low high n : ℕ) where
  pub among : low ≤ n → n ≤ high → true ≡ (leb low n && leb n high)
  among l h = simp (le-leb _ _ l, le-leb _ _ h)

  pub under : n < low → false ≡ (leb low n && leb n high)
  under l = simp (lt-leb _ _ l)

  pub over : low ≤ n → high < n → false ≡ (leb low n && leb n high)
  over l h = simp (le-leb _ _ l, lt-leb _ _ h)

  -- and what such a test says
  pub bounds : (leb low n && leb n high) ≡ true → (low ≤ n) × (n ≤ high)
  bounds e = (leb-true low n (and_first (leb low n) (leb n high) e), leb-true n high (and_second (leb low n) (leb n high) e))
