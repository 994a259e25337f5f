-- What the C host is handed back: numbers and bytes alone. 0 stands for a ROM that passes and for a run that finishes, 28 for a spent
-- budget, and every other number for the refusal that document 01 gives it. Assumes nothing.
use Rattle.std.specs.Prelude.{ℕ, ◌≡◌, List, eqb, Result}
use Rattle.cells.specs.Choice.{pick}
use Rattle.state.specs.Scene.{answer_number}
use Rattle.state.specs.Open.{open_refusal, open_of}
use Rattle.state.specs.Run.{RunResult}
use Rattle.screen.specs.Promise.{Promised, verdict_number}
use Rattle.listing.specs.Listing.{started_of}

-- a ROM screened, with a mark buffer that held `before`: the number of a verdict that the screen's promise allows, with what the
-- buffer holds then
abbrev pub HostScreened : List ℕ → List ℕ → ℕ → List ℕ → Type 0
HostScreened rom before number after = (v : Result (Unit {0}) ℕ) × (number ≡ verdict_number v) × Promised rom before v after

-- a run that the host asked for: its number, the tokens carried out, and the two memories then
pub record HostRun : Type 0 where
  pub number : ℕ
  pub steps : ℕ
  pub work : List ℕ
  pub store : List ℕ

abbrev pub host_run : ℕ → ℕ → List ℕ → List ℕ → HostRun
host_run number steps work store = record { number = number; steps = steps; work = work; store = store }

abbrev pub host_ran : RunResult → HostRun
host_ran o = host_run (answer_number o.answer) o.count o.work o.store

-- opened, and run from there; a refused opening carries nothing out and leaves the memories as they were
unfoldable pub host_run_of : List ℕ → List ℕ → List ℕ → ℕ → HostRun
host_run_of rom work store budget =
    pick (eqb (open_refusal rom work store) 0) (host_ran (started_of rom (open_of rom work store) budget))
    (host_run (open_refusal rom work store) 0 work store)
