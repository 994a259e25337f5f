-- Demand 3: screening passes a ROM exactly when stack heights can be assigned by document 01's rules, and a passed ROM's run finishes,
-- spends its budget, or meets a refusal that depends on data (21 to 27). Nothing else, ever.
--
-- In plain words. Somebody screens a ROM that has a good header, with a mark buffer of its size. The answer is pass exactly where stack
-- heights can be assigned to the ROM (`Exactly`). Somebody sees a ROM pass, opens it, and runs what opening handed back, with any budget.
-- Then the run finishes; or it spends the budget; or a token is refused with a number from 21 to 27: a divisor is zero; an address range
-- lies in no window, or a store outside work memory; a cell's address is no multiple of 4; work memory is exhausted; two arrays do not
-- adjoin; a property's name is bad; a property would be the 129th, or the store is full. It never meets 6, 1, 7, 4, or 10 to 20
-- (`MeetsOnlyData`). This holds for every ROM, every mark buffer, work memory and store, and every budget.
--
-- It is said of what the contracts of `screen`, `open` and `run` promise, and so it holds of whatever code meets them. Of the caller it
-- asks that the three are called with the same ROM, that opening was not refused, and that the run is lent memory of the sizes that opening
-- had. How it is proved: Laws/Standing.antt says how the state stands before each token, and proofs/Running.antt that it always does.
-- An answer is taken by document 01's number: `numbered`, `stepped_in` and `ran_in` in those contracts give it for a refusal's name, and no
-- two names have one number (`same_refusal`, rom/specs/Laws/Refusal.antt). Assumes nothing.
use Rattle.std.specs.Prelude.{ℕ, ◌+◌, ◌≤◌, ◌≡◌, ◌↔◌, List, length, Ok, Result}
use Rattle.rom.specs.Sizes.{marks_size}
use Rattle.rom.specs.Header.{header_of}
use Rattle.screen.specs.Rules.{Assignment}
use Rattle.screen.specs.Promise.{Promised}
use Rattle.state.specs.Scene.{Scene, scene, handed_back}
use Rattle.state.specs.Open.{open_of}
use Rattle.state.specs.Step.{token_turn, step_of}
use Rattle.state.specs.Run.{RunResult, told_ran, run_of}
use Rattle.state.specs.Answer.{Answer, Going, Finished, Refused, Stepped}
use Rattle.state.specs.Answer.{Ran}
use Rattle.promise.specs.Trail.{DependsOnData, Allowed, Trail, RunEnds, HeightIs, OpenCall}

-- whatever `screen(rom, marks)` answers for a ROM with a good header and a mark buffer of its size: the contract in screen/src/screening.rt
abbrev pub Exactly : Type 0
Exactly = (rom before after : List ℕ) (verdict : Result (Unit {0}) ℕ) → length before ≡ marks_size → header_of rom ≡ 0
    → Promised rom before verdict after
    → (verdict ≡ (Ok tt)) ↔ Assignment rom

-- What a caller saw who screened a ROM and opened it: each call with what its contract says of it.
pub record Opened : Type 0 where
  pub rom : List ℕ
  -- `screen(rom, marks)` answered that the ROM passes: the contract in screen/src/screening.rt
  pub before : List ℕ
  pub marks : List ℕ
  pub screened : Promised rom before (Ok tt) marks
  -- `open(rom, work, store)` handed back a fresh state: the contract in state/src/opening.rt
  pub work : List ℕ
  pub store : List ℕ
  pub fresh : Stepped
  pub work_fresh : List ℕ
  pub store_fresh : List ℕ
  pub opens : handed_back fresh work_fresh store_fresh ≡ open_of rom work store
  pub going : fresh.answer ≡ Going
  -- the memory that is lent from there on: what opening left, or any other of its sizes
  pub work_lent : List ℕ
  pub store_lent : List ℕ
  pub same_work : length work_lent ≡ length work_fresh
  pub same_store : length store_lent ≡ length store_fresh

-- and who ran it: `run(rom, work, store, fresh.state, budget)` handed this back, the contract in machine/src/running.rt
pub record SeenRun : Type 0 where
  pub opened : Opened
  pub budget : ℕ
  pub ran : Ran
  pub work_ran : List ℕ
  pub store_ran : List ℕ
  pub runs : told_ran ran work_ran store_ran ≡ run_of budget (scene opened.rom opened.work_lent opened.store_lent opened.fresh.state)

-- of the answers finished, spent, and refused with a number from 21 to 27 it has one (`Allowed`, Trail.antt)
abbrev pub MeetsOnlyData : Type 0
MeetsOnlyData = (c : SeenRun) → Allowed c.ran.answer

-- The theorem.
abbrev pub Demand3 : Type 0
Demand3 = Exactly × MeetsOnlyData

-- ---- what follows beside it
abbrev pub TrailOf : Opened → ℕ → List OpenCall → Scene → Type 0
TrailOf c n open_calls s = Trail c.rom c.work_lent c.store_lent n open_calls s

-- the run as the tokens that were carried out one by one, with the count of them, which never exceeds the budget, and with what the last of
-- them left
abbrev pub Counted : Type 0
Counted = (c : SeenRun) → RunEnds c.opened.rom c.opened.work_lent c.opened.store_lent 0 c.budget
    (told_ran c.ran c.work_ran c.store_ran)
    × (c.ran.count ≤ c.budget)

-- the data height before each of these tokens, by the screen's marks; as many calls are open as the state has frames
abbrev pub HeightsByMarks : Type 0
HeightsByMarks = (c : Opened) (n : ℕ) (open_calls : List OpenCall) (s : Scene) → TrailOf c n open_calls s
    → HeightIs c.marks s.state open_calls × (length open_calls ≡ s.state.calls.count)

-- what a run leaves for the next
abbrev pub left_by : Scene → RunResult → Scene
left_by s o = scene s.rom o.work o.store o.state

-- Where runs come to that are taken up one behind the other, as often as one likes, each with a budget of its own, from what the last one
-- left that did not finish; and the count of tokens in all.
pub data Came (c : Opened) : (count : ℕ) → Scene → Type 0 where
  first : Came c 0 (scene c.rom c.work_lent c.store_lent c.fresh.state)
  again : {n : ℕ} {s : Scene} → Came c n s → (budget : ℕ) → ((run_of budget s).answer ≡ Finished → ⊥)
      → Came c (n + (run_of budget s).count) (left_by s (run_of budget s))

-- each of them ends as the first may
abbrev pub Resumed : Type 0
Resumed = (c : Opened) (n : ℕ) (s : Scene) → Came c n s → (budget : ℕ)
    → RunEnds c.rom c.work_lent c.store_lent n budget (run_of budget s) × Allowed (run_of budget s).answer

-- a caller who steps: each `step` is its token, which goes on, finishes, or is refused by data
pub data AllowedStep : Answer → Type 0 where
  goes : AllowedStep Going
  ends : AllowedStep Finished
  refuses : {why : ℕ} → DependsOnData why → AllowedStep (Refused why)

abbrev pub Stepwise : Type 0
Stepwise = (c : Opened) (n : ℕ) (open_calls : List OpenCall) (s : Scene) → TrailOf c n open_calls s → (step_of s ≡ token_turn s)
    × AllowedStep (step_of s).answer
