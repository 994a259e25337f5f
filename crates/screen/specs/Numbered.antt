-- The screen's verdict, as document 01 numbers it: 0 for a ROM that passes, or the refusal. Assumes nothing.
use Rattle.std.specs.Prelude.{[], Err, Ok, Result, ℕ}
use Rattle.cells.specs.Numbered.{Numbered, gives, refuses}

abbrev pub verdict_says : Result (Unit {0}) ℕ → Numbered
verdict_says (Ok tt) = gives []
verdict_says (Err why) = refuses why
