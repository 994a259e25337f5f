-- How a run goes from the fresh state on, token by token, how it ends, and how high its data stack stands at each of its tokens by the
-- screen's marks. Assumes nothing.
use Rattle.std.specs.Prelude.{ℕ, suc, ◌+◌, ◌-◌, ◌≤◌, ◌<◌, ◌≡◌, List, [], ◌∷◌, get_or, T, ltb}
use Rattle.cells.specs.Choice.{pick, among}
use Rattle.state.specs.Scene.{Scene, scene}
use Rattle.state.specs.Step.{token_turn}
use Rattle.state.specs.Run.{RunResult, ended, then}
use Rattle.state.specs.Open.{fresh_state}
use Rattle.state.specs.declared.state.State.{State}
use Rattle.state.specs.Answer.{Answer, Going, Finished, Refused, Spent}

-- an open call: the data height at which its body was entered, and the place of the body's first byte
pub record OpenCall : Type 0 where
  pub height : ℕ
  pub first : ℕ

abbrev pub open_call : ℕ → ℕ → OpenCall
open_call height first = record { height = height; first = first }

-- ---- the open calls, from a token to the next
abbrev pub without : List OpenCall → List OpenCall
without [] = []
without (c ∷ cs) = cs

-- one more where a token opened a call, the youngest gone where it left a body
abbrev pub open_after : List OpenCall → State → State → List OpenCall
open_after open_calls st then =
    pick (ltb st.calls.count then.calls.count) (open_call st.stack.height then.place ∷ open_calls)
    (pick (ltb then.calls.count st.calls.count) (without open_calls) open_calls)

-- "a refusal that depends on data (21 to 27)": the list of them, once
abbrev pub data_refusals : List ℕ
data_refusals = 21 ∷ 22 ∷ 23 ∷ 24 ∷ 25 ∷ 26 ∷ 27 ∷ []

abbrev pub DependsOnData : ℕ → Type 0
DependsOnData why = T (among why data_refusals)

-- the answers that a run of a passed ROM may have, and no others
pub data Allowed : Answer → Type 0 where
  finished : Allowed Finished
  spent : (count : ℕ) → Allowed (Spent count)
  refused : {why : ℕ} → DependsOnData why → Allowed (Refused why)

-- So many tokens of a ROM were carried out from its fresh state on, with this work memory and store lent at first, and the run has come to
-- this scene, with these open calls, the youngest first.
pub data Trail (rom work store : List ℕ) : (count : ℕ) → List OpenCall → Scene → Type 0 where
  start : Trail rom work store 0 [] (scene rom work store (fresh_state rom))
  token : {n : ℕ} {open_calls : List OpenCall} {s : Scene} → Trail rom work store n open_calls s → (token_turn s).answer ≡ Going
      → Trail rom work store (suc n) (open_after open_calls s.state (token_turn s).state) (then s (token_turn s))

-- How a run with a budget ends that was begun, or taken up again, behind so many tokens, with its own count and the state and memory that
-- it leaves: "The count equals the tokens carried out; the final token counts, a refused one doesn't." A refused token leaves all as it
-- was.
pub data RunEnds (rom work store : List ℕ) (before budget : ℕ) : RunResult → Type 0 where
  finishes : {n : ℕ} {open_calls : List OpenCall} {s : Scene} → Trail rom work store (before + n) open_calls s → n < budget
      → (token_turn s).answer ≡ Finished
      → RunEnds rom work store before budget (ended Finished (suc n) (then s (token_turn s)))
  stops : {n why : ℕ} {open_calls : List OpenCall} {s : Scene} → Trail rom work store (before + n) open_calls s → n < budget
      → (token_turn s).answer ≡ Refused why
      → DependsOnData why → RunEnds rom work store before budget (ended (Refused why) n s)
  runs_out : {open_calls : List OpenCall} {s : Scene} → Trail rom work store (before + budget) open_calls s
      → RunEnds rom work store before budget (ended (Spent budget) budget s)

-- The data stack's height by the marks: outside bodies it is the mark less one. In a body it is the mark less one, plus the height at
-- entry, less the body's need; the need is the mark of the body's first byte less one.
pub data HeightIs (marks : List ℕ) (st : State) : List OpenCall → Type 0 where
  outside : get_or marks st.place 0 ≡ suc st.stack.height → HeightIs marks st []
  within : {c : OpenCall} {older : List OpenCall} {need more : ℕ} → get_or marks c.first 0 ≡ suc need → need ≤ c.height
      → get_or marks st.place 0 ≡ suc more
      → st.stack.height ≡ (c.height - need) + more → HeightIs marks st (c ∷ older)
