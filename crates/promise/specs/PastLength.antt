-- "Bytes past the length are ignored."
--
-- In plain words. Two ROMs have the same header and the same bytes up to the program length that it tells. What lies past that may
-- differ, and how much of it there is; but both have a ROM's size and neither is shorter than its program, since refusals 1 and 4 tell
-- of the ROM as it is lent. Then the header test and opening hand back the same (`OpensAlike`). Heights of the one are heights of the other
-- (`HeightsAlike`), and whatever `screen` answers for the one, with the marks that it leaves, is what it answers and leaves for the other
-- (`Screens`). A step, and a run with any budget, of any state and with any work memory and store, hand back the same and leave the
-- same (`Steps`, `Runs`). For these two the length is the state's own, which may be another than the header's: the ROMs are the same
-- up to that, and what their headers tell is not asked. So C is handed the same by `fcode_run`, and a person reads the same listing
-- (`Handed`).
--
-- It is said of what the contracts of `check_header`, `screen`, `open`, `step`, `run` and of the calls from C promise, and so it holds
-- of whatever code meets them. `Alike` and `AlikeTo` are in rom/specs/Alike.antt. Every ROM with a good header is alike to what is
-- left of it without the bytes past its length (`cut_alike`, rom/specs/Laws/Past.antt). Assumes nothing.
use Rattle.std.specs.Prelude.{ℕ, ◌≡◌, List, Result}
use Rattle.rom.specs.Header.{header_of}
use Rattle.rom.specs.Alike.{AlikeTo, Alike}
use Rattle.state.specs.Scene.{scene}
use Rattle.state.specs.Step.{step_of}
use Rattle.state.specs.Open.{open_of}
use Rattle.state.specs.Run.{run_of}
use Rattle.state.specs.declared.state.State.{State}
use Rattle.screen.specs.Rules.{Assignment}
use Rattle.screen.specs.Promise.{Promised}
use Rattle.listing.specs.Listing.{Listed, Lists}
use Rattle.host.specs.Host.{host_run_of}

-- the header test, and opening
abbrev pub OpensAlike : Type 0
OpensAlike = (rom other : List ℕ) → Alike rom other
    → (header_of rom ≡ header_of other) × ((work store : List ℕ) → open_of rom work store ≡ open_of other work store)

-- what an assignment of heights says
abbrev pub HeightsAlike : Type 0
HeightsAlike = (rom other : List ℕ) → Alike rom other → (h : Assignment rom)
    → (k : Assignment other) × (k.height ≡ h.height) × (k.back ≡ h.back) × (k.sum ≡ h.sum)

-- whatever `screen(rom, marks)` answers for the two, with the same mark buffer
abbrev pub Screens : Type 0
Screens = (rom other before after after' : List ℕ) (v v' : Result (Unit {0}) ℕ) → Alike rom other → Promised rom before v after
    → Promised other before v' after' → (v ≡ v') × (after ≡ after')

-- a step, whatever the state
abbrev pub Steps : Type 0
Steps = (rom other work store : List ℕ) (st : State) → AlikeTo st.length rom other
    → step_of (scene rom work store st) ≡ step_of (scene other work store st)

abbrev pub Runs : Type 0
Runs = (rom other work store : List ℕ) (st : State) → AlikeTo st.length rom other
    → (budget : ℕ) → run_of budget (scene rom work store st) ≡ run_of budget (scene other work store st)

-- what C is handed by `fcode_run`, and by `fcode_list` for people to read
abbrev pub Handed : Type 0
Handed = (rom other marks work store text : List ℕ) (budget : ℕ) → Alike rom other
    → (host_run_of rom work store budget ≡ host_run_of other work store budget)
    × ((l k : Listed) → Lists rom marks work store budget text l → Lists other marks work store budget text k → l ≡ k)

-- The theorem.
abbrev pub PastLength : Type 0
PastLength = OpensAlike × HeightsAlike × Screens × Steps × Runs × Handed
