-- What the enums of this crate say is what the definitions compute. Assumes nothing.
use Rattle.std.specs.Prelude.{ℕ, zero, suc, ◌+◌, Bool, true, false, not, List, [], ◌∷◌, ◌≡◌, refl, eqb, length, Err, Ok, Result}
use Rattle.std.proofs.Common.{arith, sym, ap, subst, eqb-true}
use Rattle.cells.specs.Choice.{pick}
use Rattle.cells.specs.Laws.Tests.{pick_is, when_is}
use Rattle.cells.specs.Numbered.{refuses}
use Rattle.tree.specs.Laws.Layout.{either}
use Rattle.tokens.specs.Code.{family_in}
use Rattle.tokens.specs.Definition.{colon, value, variable, kind_in}
use Rattle.tokens.specs.Place.{read_of}
use Rattle.tokens.specs.declared.decoding.Token.{Token}
use Rattle.state.specs.Scene.{Scene, Turn, answer_number}
use Rattle.state.specs.State.{is_open}
use Rattle.state.specs.Whole.{damaged_of, whole_of}
use Rattle.state.specs.Open.{open_refusal, open_of}
use Rattle.state.specs.Numbers.{is_body, seek_of}
use Rattle.state.specs.Refusals.{refusal_of}
use Rattle.state.specs.Effects.{effects, nothing, defines, colons, values, variables, calls, act_of}
use Rattle.rom.specs.Header.{wrong_rom, wrong_length}
use Rattle.state.specs.Step.{wrong_sizes, ready_of, done_of, read_turn, token_turn}
use Rattle.state.specs.Run.{RunResult, ended, then, run_on, unless, run_from, run_of}
use Rattle.state.specs.Laws.Keeps.Tests.{◌▸◌, find_at}
use Rattle.state.specs.Answer.{Answer, Going, Finished, Refused, Spent}
use Rattle.state.specs.Numbered.{answer_says}
use Rattle.rom.specs.Sizes.{store_size}
use Rattle.tree.specs.Path.{parts_of, malformed, behind_slash}
use Rattle.tree.specs.Numbered.{node_says}
use Rattle.tree.specs.Laws.Numbered.{leads_nowhere, down_says}
use Rattle.state.specs.Lookup.{find_node_in}
use Rattle.state.specs.declared.state.State.{State}

-- `number_of` gives that number
pub answer_number_lem : (a : Answer) → (answer_says a).number ≡ answer_number a
answer_number_lem Going = refl
answer_number_lem Finished = refl
answer_number_lem (Refused why) = refl
answer_number_lem (Spent count) = refl

-- ---- opening says the refusal that is computed for it, or 0, and nothing besides
pub open_says : (rom work store : List ℕ) → answer_says (open_of rom work store).answer ≡ refuses (open_refusal rom work store)
unfolding open_of
open_says rom work store =
    either (eqb (open_refusal rom work store) 0)
    (λ e. rw (e, open_of) (ap refuses (sym (eqb-true (open_refusal rom work store) 0 e)))) (λ e. rw (e, open_of))

-- ---- what is known before a token says 6, 1, 7 or 4, or 0
abbrev pub ready_refusal : Scene → ℕ
ready_refusal s =
    pick (wrong_sizes s.work s.store) 6
    (pick (wrong_rom s.rom) 1 (pick (damaged_of s.state) 7 (pick (wrong_length s.rom s.state.length) 4 0)))

pub ready_says : (s : Scene) → answer_says (ready_of s) ≡ refuses (ready_refusal s)
unfolding ready_of
ready_says s =
    let size = wrong_sizes s.work s.store in
    either size (λ a. rw a)
    (λ a. either (wrong_rom s.rom) (λ b. rw (a, b))
    (λ b. either (damaged_of s.state) (λ c. rw (a, b, c))
    (λ c. either (wrong_length s.rom s.state.length) (λ d. rw (a, b, c, d))
    (λ d. either s.state.finished (λ e. rw (a, b, c, d, e)) (λ e. rw (a, b, c, d, e))))))

-- ---- a token's refusal, as it is read and then where it stands, or 0; and a step's, of a state that is not finished the token's
abbrev pub read_refusal : Scene → Result Token ℕ → ℕ
read_refusal s (Err why) = why
read_refusal s (Ok t) = refusal_of s t

abbrev pub token_refusal : Scene → ℕ
token_refusal s =
    read_refusal s (read_of s.rom s.state.length s.state.wide (is_open s.state.calls) s.state.place)

abbrev pub step_refusal : Scene → ℕ
step_refusal s = pick (eqb (ready_refusal s) 0) (pick s.state.finished 0 (token_refusal s)) (ready_refusal s)

-- ---- a run: no test before a token and no token says that a budget is spent
abbrev Unspent : Answer → Type 0
Unspent Going = Unit {0}
Unspent Finished = Unit {0}
Unspent (Refused why) = Unit {0}
Unspent (Spent count) = ⊥

ready_unspent : (s : Scene) → Unspent (ready_of s)
unfolding ready_of
ready_unspent s =
    pick_is Unspent (wrong_sizes s.work s.store) (Refused 6) _ (λ h. tt)
    (λ h. pick_is Unspent (wrong_rom s.rom) (Refused 1) _ (λ i. tt)
    (λ i. pick_is Unspent (damaged_of s.state) (Refused 7) _ (λ j. tt)
    (λ j. pick_is Unspent (wrong_length s.rom s.state.length) (Refused 4) _ (λ k. tt)
    (λ k. pick_is Unspent s.state.finished Finished Going (λ l. tt) (λ l. tt)))))

act_unspent : (s : Scene) (t : Token) → Unspent (act_of s t).answer
unfolding act_of effects
act_unspent s t =
    find_at (λ e. Unspent (e s t).answer) effects nothing (family_in t.code)
    (go ▸ go ▸ go ▸ go ▸ go ▸ go ▸ go ▸ go ▸ go ▸ go ▸ go ▸ go ▸ go ▸ (λ k. kinds) ▸ go ▸ (λ k. body body_here refl)
    ▸ go ▸ go ▸ go ▸ go ▸ go ▸ go ▸ go ▸ tt)
    tt
  where
    go : {m n : ℕ} → m ≡ n → Unit {0}
    go k = tt

    kinds : Unspent (defines s t).answer
    kinds =
        find_at (λ e. Unspent (e s t).answer) ((colon, colons) ∷ (value, values) ∷ (variable, variables) ∷ []) values (kind_in t.operand)
        (go ▸ go ▸ go ▸ tt) tt

    body_here : Bool
    body_here = is_body s.state.numbers (seek_of s.state.numbers t.number)

    body : (b : Bool) → body_here ≡ b → Unspent (calls s t).answer
    body true e = rw e tt
    body false e = rw e tt

done_unspent : (s : Scene) (t : Token) → Unspent (done_of s t).answer
unfolding done_of
done_unspent s t = when_is (λ (r : Turn). Unspent r.answer) (eqb (refusal_of s t) 0) (act_of s t) _ (λ e. act_unspent s t) (λ e. tt)

read_unspent : (s : Scene) (r : Result Token ℕ) → Unspent (read_turn s r).answer
read_unspent s (Err why) = tt
read_unspent s (Ok t) = done_unspent s t

pub token_unspent : (s : Scene) → Unspent (token_turn s).answer
unfolding token_turn
token_unspent s = read_unspent s (read_of s.rom s.state.length s.state.wide (is_open s.state.calls) s.state.place)

-- what a run of at most so many tokens in all may answer: it is over; and a budget that is spent is the count, which is the budget
abbrev pub EndSays : ℕ → RunResult → Answer → Type 0
EndSays budget o Going = ⊥
EndSays budget o Finished = Unit {0}
EndSays budget o (Refused why) = Unit {0}
EndSays budget o (Spent count) = (count ≡ o.count) × (o.count ≡ budget)

abbrev EndedRun : ℕ → RunResult → Type 0
EndedRun budget o = EndSays budget o o.answer

run_ended : (k n : ℕ) (s : Scene) → EndedRun (n + k) (run_from k n s)
unfolding run_from
run_ended zero n s = by (ready_of s) (ready_unspent s)
  where
    by : (a : Answer) → Unspent a → EndedRun (n + zero) (unless a n s (ended (Spent n) n s))
    by Going u = (refl, omega arith)
    by Finished u = tt
    by (Refused why) u = tt
    by (Spent m) u = absurd u
run_ended (suc k) n s = by (λ to. run_ended k (n + 1) to) (ready_of s) refl
  where
    next : ((to : Scene) → EndedRun (n + 1 + k) (run_from k (n + 1) to)) → (a : Answer) → Unspent a
        → EndedRun (n + suc k) (run_on a n (then s (token_turn s)) (λ to. run_from k (n + 1) to))
    next below Going u =
        let e : n + 1 + k ≡ n + suc k = omega arith in
        let to = then s (token_turn s) in subst (λ b. EndedRun b (run_from k (n + 1) to)) e (below to)
    next below Finished u = tt
    next below (Refused why) u = tt
    next below (Spent m) u = absurd u

    by : ((to : Scene) → EndedRun (n + 1 + k) (run_from k (n + 1) to)) → (a : Answer) → ready_of s ≡ a
        → EndedRun (n + suc k) (run_from (suc k) n s)
    by below Going e = rw (e, run_from) (next below (token_turn s).answer (token_unspent s))
    by below Finished e = rw (e, run_from) tt
    by below (Refused why) e = rw (e, run_from) tt
    by below (Spent m) e = absurd (subst Unspent e (ready_unspent s))

all_ended : (budget : ℕ) (s : Scene) → EndedRun budget (run_of budget s)
all_ended budget s = let e : 0 + budget ≡ budget = omega arith in subst (λ b. EndedRun b (run_of budget s)) e (run_ended budget 0 s)

module _ (budget : ℕ) (s : Scene) where
  -- a run is over when it answers
  pub run_over : (run_of budget s).answer ≡ Going → ⊥
  run_over e = subst (EndSays budget (run_of budget s)) e (all_ended budget s)

  -- where its budget is spent it says 28 with the count of tokens carried out, which is the budget
  pub run_spent : (count : ℕ) → (run_of budget s).answer ≡ Spent count
      → (count ≡ (run_of budget s).count) × ((run_of budget s).count ≡ budget)
  run_spent count e = subst (EndSays budget (run_of budget s)) e (all_ended budget s)

  pub spent_says : (count : ℕ) → (run_of budget s).answer ≡ Spent count
      → answer_says (run_of budget s).answer ≡ record { number = 28; values = budget ∷ [] }
  spent_says count e = let f = run_spent count e in rw (e, f.0, f.1)

-- ---- a lookup of a state: "Lookups test 6, 7, 29, 30", with all of 7; it says the first of them that holds, or 0
pub lookup_says : (st : State) (store path : List ℕ)
    → (node_says (find_node_in st store path)).number
    ≡ pick (not (eqb (length store) store_size)) 6
    (pick (damaged_of st) 7
    (pick (malformed path) 29
    (pick (leads_nowhere st.tree store 0 (parts_of (behind_slash path))) 30 0)))
unfolding find_node_in
lookup_says st store path =
    either (eqb (length store) store_size)
    (λ e. either (whole_of st)
    (λ w. either (malformed path) (λ m. rw (e, w, m)) (λ m. rw (e, w, m) (down_says st.tree store 0 (parts_of (behind_slash path)))))
    (λ w. rw (e, w)))
    (λ e. rw e)
