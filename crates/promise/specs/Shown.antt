-- What demand 3 is to those who look at the lamp. A person reads the listing: it is one line `refused N`, for a buffer of the wrong
-- size or for a ROM that does not pass, or it starts with `screen pass`, and then its last line is `done`, `refused 28`, or `refused`
-- with a number from 21 to 27, and `steps` shows no more than the budget. A C program is handed numbers: where `fcode_screen` gives 0,
-- `fcode_run` with buffers of their sizes gives 0, 28, or a number from 21 to 27, and no more steps than the budget. Both are said of
-- what the contracts of `list` (listing/src/listing.rt), `fcode_list`, `fcode_screen` and `fcode_run` (host/src/lib.rt) promise: of
-- `fcode_run` the definition that it is an equation with, of the others any result that the screen's promise allows. Assumes nothing.
use Rattle.std.specs.Prelude.{ℕ, ◌≤◌, ◌≡◌, not, List, length, T, Err, Ok}
use Rattle.rom.specs.Sizes.{work_size, store_size, text_size}
use Rattle.state.specs.Scene.{answer_number}
use Rattle.state.specs.Open.{open_of}
use Rattle.state.specs.Run.{RunResult}
use Rattle.screen.specs.Promise.{Promised}
use Rattle.lines.specs.Lines.{refused_line}
use Rattle.lines.specs.Told.{filled}
use Rattle.listing.specs.Listing.{Listed, wrong_buffer, started_of, run_words, Lists}
use Rattle.host.specs.Host.{HostScreened, host_run_of}
use Rattle.promise.specs.Trail.{DependsOnData}

-- the number that the last line tells, or that C is handed: 0 is `done`
pub data Closing : ℕ → Type 0 where
  done : Closing 0
  budget_spent : Closing 28
  by_data : {n : ℕ} → DependsOnData n → Closing n

-- the run that is listed
abbrev pub run_here : List ℕ → List ℕ → List ℕ → ℕ → RunResult
run_here rom work store budget = started_of rom (open_of rom work store) budget

-- the words of a listing of this ROM, with these buffers: of a ROM that passes they show the nodes and properties that its run leaves,
-- its count and its end
pub data Shown (rom marks work store : List ℕ) (budget : ℕ) : List ℕ → Type 0 where
  wrong_buffer_lem : T (wrong_buffer marks work store) → Shown rom marks work store budget (refused_line 6)
  refused_rom : {n : ℕ} {after : List ℕ} → T (not (wrong_buffer marks work store)) → Promised rom marks (Err n) after
      → Shown rom marks work store budget (refused_line n)
  screen_pass : {after : List ℕ} → T (not (wrong_buffer marks work store)) → Promised rom marks (Ok tt) after
      → (run_here rom work store budget).count ≤ budget → Closing (answer_number (run_here rom work store budget).answer)
      → Shown rom marks work store budget (run_words (run_here rom work store budget))

-- a buffer that holds such words, one zero behind them and the rest as it was, and the length that was handed back
abbrev pub ShownIn : List ℕ → List ℕ → List ℕ → List ℕ → ℕ → List ℕ → Listed → Type 0
ShownIn rom marks work store budget text l =
    (words : List ℕ) × Shown rom marks work store budget words × (l.size ≡ length words) × (l.text ≡ filled text words)

-- of every ROM, every budget and every buffer, if the text's has its size
abbrev pub PersonSees : Type 0
PersonSees = (rom marks work store text : List ℕ) (budget : ℕ) (l : Listed) → length text ≡ text_size
    → Lists rom marks work store budget text l → ShownIn rom marks work store budget text l

-- of every ROM that `fcode_screen` handed 0 back for, with any mark buffer
abbrev pub HostSees : Type 0
HostSees = (rom marks after work store : List ℕ) (budget : ℕ) → HostScreened rom marks 0 after → length work ≡ work_size
    → length store ≡ store_size → Closing (host_run_of rom work store budget).number × ((host_run_of rom work store budget).steps ≤ budget)
