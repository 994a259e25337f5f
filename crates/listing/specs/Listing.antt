-- The listing of a ROM: "A refused run ends with "refused" and its number in place of "done"; .. a refused ROM prints only that line, 31
-- included." The sizes of the buffers are tested first, then the header and the height rules, and then the ROM is opened and run. Work
-- memory and store are as they were wherever the ROM is not run. Assumes nothing.
use Rattle.std.specs.Prelude.{ℕ, Bool, not, ◌||◌, List, ◌≡◌, length, eqb, Err, Ok, Result}
use Rattle.cells.specs.Choice.{pick}
use Rattle.rom.specs.Sizes.{marks_size}
use Rattle.state.specs.Scene.{scene, Turn, answer_number}
use Rattle.state.specs.Step.{wrong_sizes}
use Rattle.state.specs.Open.{open_of}
use Rattle.state.specs.Run.{RunResult, run_of}
use Rattle.screen.specs.Promise.{Promised}
use Rattle.lines.specs.Lines.{refused_line, run_text}
use Rattle.lines.specs.Told.{filled, wrong_text}

-- the text's length, and what each lent buffer holds then
pub record Listed : Type 0 where
  pub size : ℕ
  pub marks : List ℕ
  pub work : List ℕ
  pub store : List ℕ
  pub text : List ℕ

abbrev pub listed_with : ℕ → List ℕ → List ℕ → List ℕ → List ℕ → Listed
listed_with size marks work store text = record { size = size; marks = marks; work = work; store = store; text = text }

-- words in the text's buffer, one zero behind them, and what lies behind that as it was
abbrev pub listed_as : List ℕ → List ℕ → List ℕ → List ℕ → List ℕ → Listed
listed_as words marks work store text = listed_with (length words) marks work store (filled text words)

-- 6: "a lent buffer has the wrong size"
abbrev pub wrong_buffer : List ℕ → List ℕ → List ℕ → Bool
wrong_buffer marks work store = not (eqb (length marks) marks_size) || wrong_sizes work store

-- the run of a ROM from its opening on
abbrev pub started_of : List ℕ → Turn → ℕ → RunResult
started_of rom opened budget = run_of budget (scene rom opened.work opened.store opened.state)

abbrev pub run_words : RunResult → List ℕ
run_words o = run_text o.state.tree o.store o.count (answer_number o.answer)

abbrev pub ran_as : List ℕ → RunResult → List ℕ → Listed
ran_as marks o text = listed_as (run_words o) marks o.work o.store text

-- by the screen's verdict, with the marks that it left
abbrev pub judged_as : Result (Unit {0}) ℕ → List ℕ → List ℕ → List ℕ → List ℕ → ℕ → List ℕ → Listed
judged_as (Err why) marks rom work store budget text = listed_as (refused_line why) marks work store text
judged_as (Ok tt) marks rom work store budget text = ran_as marks (started_of rom (open_of rom work store) budget) text

-- a text buffer of the wrong size gets nothing written, here and anywhere else
unfoldable pub list_with : Result (Unit {0}) ℕ → List ℕ → List ℕ → List ℕ → List ℕ → List ℕ → ℕ → List ℕ → Listed
list_with verdict after rom marks work store budget text =
    pick (wrong_text text) (listed_with 0 marks work store text)
    (pick (wrong_buffer marks work store) (listed_as (refused_line 6) marks work store text)
    (judged_as verdict after rom work store budget text))

-- What a listing is: one by a verdict, and marks, that the screen's promise allows. It allows one verdict and one content of the marks, and
-- so there is one listing (`one_listing`, Laws/Listing.antt).
abbrev pub Lists : List ℕ → List ℕ → List ℕ → List ℕ → ℕ → List ℕ → Listed → Type 0
Lists rom marks work store budget text l =
    (verdict : Result (Unit {0}) ℕ) × (after : List ℕ) × Promised rom marks verdict after
    × (l ≡ list_with verdict after rom marks work store budget text)
