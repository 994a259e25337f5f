-- The screen as a whole: what it says of any bytes, and what it leaves in the marks. "Tests run in the order 6, 1, 2, 3, 4, 5", and then
-- 31. Assumes nothing.
use Rattle.std.specs.Prelude.{ℕ, true, false, List, length, replicate, eqb, Err, Ok, Result}
use Rattle.std.proofs.Math.Option.{Option, none, some}
use Rattle.rom.specs.Sizes.{marks_size}
use Rattle.rom.specs.Header.{header_of}
use Rattle.screen.specs.Laws.Found.Model.{screen_of}

pub record Screened : Type 0 where
  pub verdict : Result (Unit {0}) ℕ
  pub marks : List ℕ

abbrev pub screened : Result (Unit {0}) ℕ → List ℕ → Screened
screened verdict marks = record { verdict = verdict; marks = marks }

-- of a ROM with a good header: the marks where it passes, and all zero where it does not
abbrev pub verdict_on : List ℕ → Option (List ℕ) → Screened
verdict_on marks none = screened (Err 31) (replicate (length marks) 0)
verdict_on marks (some found) = screened (Ok tt) found

unfoldable pub judged_of : List ℕ → List ℕ → Screened
judged_of rom marks = verdict_on marks (screen_of rom)

unfoldable pub screened_of : List ℕ → List ℕ → Screened
screened_of rom marks =
    elim (eqb (length marks) marks_size) [
      | true ↦ elim (eqb (header_of rom) 0) [ true ↦ judged_of rom marks | false ↦ screened (Err (header_of rom)) marks ]
      | false ↦ screened (Err 6) marks
    ]
