-- A step, as document 01 numbers it: it says the refusal that is computed for it, or 0, and nothing besides; and so does a token. No token
-- that is read is refused but for what is computed of it. Assumes nothing.
use Rattle.std.specs.Prelude.{ℕ, Bool, true, false, [], ◌∷◌, ◌≡◌, refl, T, eqb, Err, Ok, Result}
use Rattle.std.proofs.Common.{sym, ap, ◌∙◌, eqb-true}
use Rattle.cells.specs.Choice.{pick}
use Rattle.cells.specs.Numbered.{gives, refuses}
use Rattle.tree.specs.Laws.Layout.{either}
use Rattle.tokens.specs.Code.{family_in}
use Rattle.tokens.specs.Definition.{colon, value, variable, kind_in}
use Rattle.tokens.specs.Place.{read_of}
use Rattle.rom.specs.Header.{wrong_rom, wrong_length}
use Rattle.tokens.specs.declared.decoding.Token.{Token}
use Rattle.state.specs.Scene.{Scene}
use Rattle.state.specs.State.{is_open}
use Rattle.state.specs.Whole.{damaged_of}
use Rattle.state.specs.Numbers.{is_body, seek_of}
use Rattle.state.specs.Refusals.{refusal_of}
use Rattle.state.specs.Effects.{effects, nothing, defines, colons, values, variables, calls, act_of}
use Rattle.state.specs.Step.{wrong_sizes, ready_of, done_of, read_turn, token_turn, step_of}
use Rattle.state.specs.Laws.Keeps.Tests.{◌▸◌, find_at}
use Rattle.state.specs.Laws.Steps.{step_going, finished_stays, step_refused}
use Rattle.state.specs.Laws.Done.{carried, stopped}
use Rattle.state.specs.Numbered.{answer_says}
use Rattle.state.specs.Laws.Numbered.{ready_refusal, read_refusal, token_refusal, step_refusal}
use Rattle.state.specs.Answer.{Going, Finished, Refused}
use Rattle.promise.specs.Laws.Families.{has_entry, find_in, family_known}

-- a token that is carried out says 0
act_says : (s : Scene) (t : Token) → T (has_entry (family_in t.code) effects) → answer_says (act_of s t).answer ≡ gives []
unfolding act_of effects
act_says s t h =
    find_in (λ e. answer_says (e s t).answer ≡ gives []) effects nothing (family_in t.code)
    (go ▸ go ▸ go ▸ go ▸ go ▸ go ▸ go ▸ go ▸ go ▸ go ▸ go ▸ go ▸ go ▸ (λ k. kinds) ▸ go ▸ (λ k. body body_here refl)
    ▸ go ▸ go ▸ go ▸ go ▸ go ▸ go ▸ go ▸ tt)
    h
  where
    go : {m n : ℕ} → m ≡ n → gives [] ≡ gives []
    go k = refl

    kinds : answer_says (defines s t).answer ≡ gives []
    kinds =
        find_at (λ e. answer_says (e s t).answer ≡ gives []) ((colon, colons) ∷ (value, values) ∷ (variable, variables) ∷ []) values
        (kind_in t.operand) (go ▸ go ▸ go ▸ tt) refl

    body_here : Bool
    body_here = is_body s.state.numbers (seek_of s.state.numbers t.number)

    body : (b : Bool) → body_here ≡ b → answer_says (calls s t).answer ≡ gives []
    body true e = rw e refl
    body false e = rw e refl

-- one that may stand where it stands says its refusal, or 0
done_says : (s : Scene) (t : Token) → T (has_entry (family_in t.code) effects) → answer_says (done_of s t).answer ≡ refuses (refusal_of s t)
done_says s t h =
    either (eqb (refusal_of s t) 0)
    (λ e. let z = eqb-true (refusal_of s t) 0 e in rw (carried s t z) (act_says s t h ∙ ap refuses (sym z)))
    (λ e. rw (stopped s t (refusal_of s t) e refl))

-- the token at the state's place says the refusal that it is read with, or has where it stands, or 0
pub token_says : (s : Scene) → answer_says (token_turn s).answer ≡ refuses (token_refusal s)
unfolding token_turn
token_says s = by (read_of s.rom s.state.length s.state.wide (is_open s.state.calls) s.state.place) refl
  where
    by : (r : Result Token ℕ) → read_of s.rom s.state.length s.state.wide (is_open s.state.calls) s.state.place ≡ r
        → answer_says (read_turn s r).answer ≡ refuses (read_refusal s r)
    by (Err why) e = refl
    by (Ok t) e =
        done_says s t (family_known s.rom s.state.length s.state.wide (is_open s.state.calls) s.state.place t e)

-- where nothing is known before it, the token's
unfinished : (ready : ℕ) (finished : Bool) (token : ℕ) → ready ≡ 0 → finished ≡ false
    → pick (eqb ready 0) (pick finished 0 token) ready ≡ token
unfinished ready finished token e f = rw (e, f)

-- a step says the first of 6, 1, 7, 4; 0 of a finished state; and else what its token says
pub step_says : (s : Scene) → answer_says (step_of s).answer ≡ refuses (step_refusal s)
unfolding ready_of
step_says s =
    either (wrong_sizes s.work s.store) (λ a. let r : ready_of s ≡ Refused 6 = rw a in rw (step_refused s 6 r, a))
    (λ a. either (wrong_rom s.rom) (λ b. let r : ready_of s ≡ Refused 1 = rw (a, b) in rw (step_refused s 1 r, a, b))
    (λ b. either (damaged_of s.state) (λ c. let r : ready_of s ≡ Refused 7 = rw (a, b, c) in rw (step_refused s 7 r, a, b, c))
    (λ c. either (wrong_length s.rom s.state.length)
    (λ d. let r : ready_of s ≡ Refused 4 = rw (a, b, c, d) in rw (step_refused s 4 r, a, b, c, d))
    (λ d. either s.state.finished
    (λ e. let r : ready_of s ≡ Finished = rw (a, b, c, d, e) in rw (finished_stays s r, a, b, c, d, e))
    (λ e. let r : ready_of s ≡ Going = rw (a, b, c, d, e) in
    let none : ready_refusal s ≡ 0 = rw (a, b, c, d) in
    rw (step_going s r) (token_says s ∙ ap refuses (sym (unfinished (ready_refusal s) s.state.finished (token_refusal s) none e))))))))
