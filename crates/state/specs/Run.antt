-- A run: "A run stops at finish, refusal or budget: 6, 1, 7 and 4 are tested first, then finish, then budget, then the token. The count
-- equals the tokens carried out; the final token counts, a refused one doesn't." Assumes nothing.
use Rattle.std.specs.Prelude.{ℕ, zero, suc, ◌+◌, List}
use Rattle.state.specs.Scene.{Scene, scene, Turn}
use Rattle.state.specs.Step.{ready_of, token_turn}
use Rattle.state.specs.declared.state.State.{State}
use Rattle.state.specs.Answer.{Answer, Going, Finished, Refused, Spent, Ran}

-- what a run leaves
pub record RunResult : Type 0 where
  pub answer : Answer
  pub count : ℕ
  pub state : State
  pub work : List ℕ
  pub store : List ℕ

abbrev pub ended : Answer → ℕ → Scene → RunResult
ended a n s = record { answer = a; count = n; state = s.state; work = s.work; store = s.store }

abbrev pub told_ran : Ran → List ℕ → List ℕ → RunResult
told_ran r work store = record { answer = r.answer; count = r.count; state = r.state; work = work; store = store }

abbrev pub ran_of : Answer → ℕ → State → Ran
ran_of a n st = record { answer = a; count = n; state = st }

-- what the next token has before it
abbrev pub then : Scene → Turn → Scene
then s r = scene s.rom r.work r.store r.state

-- after a token, n having been carried out before it: the end of the run, or the run from there
abbrev pub run_on : Answer → ℕ → Scene → (Scene → RunResult) → RunResult
run_on Going n s go = go s
run_on Finished n s go = ended Finished (n + 1) s
run_on (Refused why) n s go = ended (Refused why) n s
run_on (Spent m) n s go = ended (Spent m) n s

-- where nothing is known before the token: the budget, and then the token
abbrev pub unless : Answer → ℕ → Scene → RunResult → RunResult
unless Going n s go = go
unless Finished n s go = ended Finished n s
unless (Refused why) n s go = ended (Refused why) n s
unless (Spent m) n s go = ended (Spent m) n s

-- a run of at most so many tokens more, n having been carried out
unfoldable pub run_from : ℕ → ℕ → Scene → RunResult
run_from zero n s = unless (ready_of s) n s (ended (Spent n) n s)
run_from (suc k) n s =
    elim (ready_of s) [
      | Going ↦ run_on (token_turn s).answer n (then s (token_turn s)) (λ to. run_from k (n + 1) to)
      | Finished ↦ ended Finished n s
      | Refused why ↦ ended (Refused why) n s
      | Spent m ↦ ended (Spent m) n s
    ]

abbrev pub run_of : ℕ → Scene → RunResult
run_of budget s = run_from budget 0 s
