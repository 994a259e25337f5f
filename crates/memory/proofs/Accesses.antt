-- What is fetched and stored, by the tests that the code makes: a law for each answer. Assumes nothing.
use Rattle.std.proofs.Common.{Err, Ok}
use Prim.Native.Nat.{ℕ, ◌-◌, ◌%◌, ◌≤◌, ◌<◌}
use native.Mathlib.Omega.{arith}
use mathlib.Core.Bool.{true, false}
use mathlib.Core.List.{List, [], ◌∷◌}
use mathlib.Core.Path.{◌≡◌}
use lib.ListN.{length}
use borrow.Author.Tests.{eq-eqb, ne_eqb}
use Rattle.rom.specs.Bytes.{byte_of, word32_of}
use Rattle.memory.specs.Window.{work_base, lies, resolve_of}
use Rattle.memory.specs.Writing.{written_of, bytes_of}
use Rattle.memory.specs.Cells.{fetch_cell_of, fetch_byte_of, cell_refusal, byte_refusal, cell_stored, byte_stored}
use Rattle.memory.specs.Laws.Memory.{resolved_short, resolved_whole}

module _ (rom work : List ℕ) (size address : ℕ) where
  pub no_cell : length (resolve_of rom work size address 4) < 4 → Err 22 ≡ fetch_cell_of rom work size address
  unfolding fetch_cell_of
  no_cell h = rw (resolved_short rom work size address 4 h)

  pub uneven_cell : 4 ≤ length (resolve_of rom work size address 4) → (address % 4 ≡ 0 → ⊥)
      → Err 23 ≡ fetch_cell_of rom work size address
  unfolding fetch_cell_of
  uneven_cell h n = rw (resolved_whole rom work size address 4 (omega arith) h, ne_eqb (address % 4) 0 n)

  pub whole_cell : 4 ≤ length (resolve_of rom work size address 4) → address % 4 ≡ 0
      → Ok (word32_of (resolve_of rom work size address 4) 0) ≡ fetch_cell_of rom work size address
  unfolding fetch_cell_of
  whole_cell h n = rw (resolved_whole rom work size address 4 (omega arith) h, eq-eqb (address % 4) 0 n)

  pub no_byte : length (resolve_of rom work size address 1) < 1 → Err 22 ≡ fetch_byte_of rom work size address
  unfolding fetch_byte_of
  no_byte h = rw (resolved_short rom work size address 1 h)

  pub one_byte : 1 ≤ length (resolve_of rom work size address 1)
      → Ok (byte_of (resolve_of rom work size address 1) 0) ≡ fetch_byte_of rom work size address
  unfolding fetch_byte_of
  one_byte h = rw (resolved_whole rom work size address 1 (omega arith) h)

module _ (work : List ℕ) (address cell : ℕ) where
  pub cell_outside : lies work_base (length work) address 4 ≡ false
      → (22 ≡ cell_refusal work address) × (work ≡ cell_stored work address cell)
  unfolding cell_refusal
  cell_outside e = (rw e, rw e)

  pub cell_uneven : lies work_base (length work) address 4 ≡ true → (address % 4 ≡ 0 → ⊥)
      → (23 ≡ cell_refusal work address) × (work ≡ cell_stored work address cell)
  unfolding cell_refusal
  cell_uneven e n = (rw (e, ne_eqb (address % 4) 0 n), rw (e, ne_eqb (address % 4) 0 n))

  pub cell_inside : lies work_base (length work) address 4 ≡ true → address % 4 ≡ 0
      → (0 ≡ cell_refusal work address) × (written_of work (address - work_base) (bytes_of cell) ≡ cell_stored work address cell)
  unfolding cell_refusal
  cell_inside e n = (rw (e, eq-eqb (address % 4) 0 n), rw (e, eq-eqb (address % 4) 0 n))

  pub byte_outside : lies work_base (length work) address 1 ≡ false
      → (22 ≡ byte_refusal work address) × (work ≡ byte_stored work address cell)
  unfolding byte_refusal
  byte_outside e = (rw e, rw e)

  pub byte_inside : lies work_base (length work) address 1 ≡ true
      → (0 ≡ byte_refusal work address) × (written_of work (address - work_base) ((cell % 256) ∷ []) ≡ byte_stored work address cell)
  unfolding byte_refusal
  byte_inside e = (rw e, rw e)
