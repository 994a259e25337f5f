-- The laws of steps and runs: a refused step changes nothing, a finished state stays, a step of a ready state is its token, and a run asks
-- what it asks of a state once. Assumes nothing.
use Rattle.std.specs.Prelude.{ℕ, zero, suc, ◌+◌, ◌≤◌, ◌≡◌, refl, Bool, true, false, List, [], ◌∷◌, length, leb, eqb, Err, Ok, Result}
use Rattle.std.proofs.Common.{arith, ap, subst, ◌∙◌, sym, ne_eqb, le-leb}
use Rattle.cells.specs.Laws.Tests.{when_is}
use Rattle.tokens.specs.Code.{family_in}
use Rattle.tokens.specs.Place.{read_of}
use Rattle.tokens.specs.declared.decoding.Token.{Token}
use Rattle.tree.specs.Laws.Kept.{whole_is as tree_whole}
use Rattle.tokens.specs.Definition.{colon, kind_in, value, variable}
use Rattle.state.specs.State.{is_open}
use Rattle.state.specs.Numbers.{is_body, seek_of}
use Rattle.state.specs.Scene.{Scene, Turn, refuse}
use Rattle.state.specs.Refusals.{refusal_of}
use Rattle.state.specs.Effects.{effects, nothing, act_of, defines, colons, values, variables, calls}
use Rattle.state.specs.Step.{ready_of, done_of, read_turn, token_turn, known_turn, step_of}
use Rattle.state.specs.Laws.Keeps.Tests.{find_at, ◌▸◌}
use Rattle.state.specs.Laws.Keeps.Whole.{whole_facts, ready_facts, not_going, not_finished, whole_is, parts_whole}
use Rattle.state.specs.Laws.Keeps.Whole.{ready_is, facts_ready, Rooted}
use Rattle.state.specs.Laws.Keeps.Step.{token_keeps}
use Rattle.state.specs.Laws.Keeps.Open.{opened, opened_ready, fresh_rooted}
use Rattle.rom.specs.Sizes.{store_size}
use Rattle.rom.specs.Header.{header_of}
use Rattle.state.specs.Laws.Sized.{Sized, fresh_sized}
use Rattle.state.specs.Run.{RunResult, ended, then, run_on, unless, run_from, run_of}
use Rattle.tree.specs.Whole.{whole_tree}
use Rattle.cells.specs.Choice.{pick}
use Rattle.state.specs.declared.state.State.{State}
use Rattle.state.specs.Answer.{Answer, Going, Finished, Refused, Spent}

-- the same of tokens alone, where nothing is asked beforehand: what a run does from an opened state on (`run_opened`)
unfoldable pub tokens_from : ℕ → ℕ → Scene → RunResult
tokens_from zero n s = ended (Spent n) n s
tokens_from (suc k) n s = run_on (token_turn s).answer n (then s (token_turn s)) (λ to. tokens_from k (n + 1) to)

-- ---- "A refused step leaves state, work memory and store as before it."
-- what a turn is by its answer: a refused one has everything as it was, and one that ends a run else its tree and its store
abbrev Same : Scene → Turn → Type 0
Same s r = (r.state.tree ≡ s.state.tree) × (r.store ≡ s.store)

abbrev FairRun : Scene → Turn → Answer → Type 0
FairRun s r Going = Unit {0}
FairRun s r Finished = Same s r
FairRun s r (Refused why) = r ≡ refuse why s
FairRun s r (Spent n) = Same s r

abbrev FairTurn : Scene → Turn → Type 0
FairTurn s r = FairRun s r r.answer

act_fair : (s : Scene) (t : Token) → FairTurn s (act_of s t)
unfolding act_of effects
act_fair s t =
    find_at (λ e. FairTurn s (e s t)) effects nothing (family_in t.code)
    (go ▸ (λ k. (refl, refl)) ▸ go ▸ go ▸ go ▸ go ▸ go ▸ go ▸ go ▸ go ▸ go ▸ go ▸ go ▸ (λ k. kinds) ▸ go ▸
    (λ k. body body_here refl) ▸ go ▸ go ▸ go ▸ go ▸ go ▸ go ▸ go ▸ tt)
    refl
  where
    go : {m n : ℕ} → m ≡ n → Unit {0}
    go k = tt

    kinds : FairTurn s (defines s t)
    kinds =
        find_at (λ e. FairTurn s (e s t)) ((colon, colons) ∷ (value, values) ∷ (variable, variables) ∷ []) values (kind_in t.operand)
        (go ▸ go ▸ go ▸ tt) tt

    body_here : Bool
    body_here = is_body s.state.numbers (seek_of s.state.numbers t.number)

    body : (b : Bool) → body_here ≡ b → FairTurn s (calls s t)
    body true e = rw e tt
    body false e = rw e tt

done_fair : (s : Scene) (t : Token) → FairTurn s (done_of s t)
unfolding done_of
done_fair s t = when_is (FairTurn s) (eqb (refusal_of s t) 0) (act_of s t) (refuse (refusal_of s t) s) (λ e. act_fair s t) (λ e. refl)

read_fair : (s : Scene) (r : Result Token ℕ) → FairTurn s (read_turn s r)
read_fair s (Err why) = refl
read_fair s (Ok t) = done_fair s t

token_fair : (s : Scene) → FairTurn s (token_turn s)
unfolding token_turn
token_fair s = read_fair s (read_of s.rom s.state.length s.state.wide (is_open s.state.calls) s.state.place)

pub refused_keeps : (s : Scene) (why : ℕ) → (token_turn s).answer ≡ Refused why → token_turn s ≡ refuse why s
refused_keeps s why e = subst (FairRun s (token_turn s)) e (token_fair s)

-- ---- a step: what is known beforehand, or the token
pub step_going : (s : Scene) → ready_of s ≡ Going → step_of s ≡ token_turn s
unfolding step_of
step_going s e = rw (e, step_of)

-- "After the first four tests a finished state says finished again and takes no step."
pub finished_stays : (s : Scene) → ready_of s ≡ Finished → step_of s ≡ known_turn Finished s
unfolding step_of
finished_stays s e = rw (e, step_of)

pub step_refused : (s : Scene) (why : ℕ) → ready_of s ≡ Refused why → step_of s ≡ refuse why s
unfolding step_of
step_refused s why e = rw (e, step_of)

pub step_spent : (s : Scene) (n : ℕ) → ready_of s ≡ Spent n → step_of s ≡ known_turn (Spent n) s
unfolding step_of
step_spent s n e = rw (e, step_of)

step_fair : (s : Scene) (a : Answer) → ready_of s ≡ a → FairTurn s (step_of s)
step_fair s Going e = rw (step_going s e) (token_fair s)
step_fair s Finished e = rw (finished_stays s e) (refl, refl)
step_fair s (Refused why) e = rw (step_refused s why e) refl
step_fair s (Spent n) e = rw (step_spent s n e) (refl, refl)

pub refused_step_keeps : (s : Scene) (why : ℕ) → (step_of s).answer ≡ Refused why → step_of s ≡ refuse why s
refused_step_keeps s why e = subst (FairRun s (step_of s)) e (step_fair s (ready_of s) refl)

-- ---- a run
same_after : (a : Answer) (n : ℕ) (s : Scene) (f g : Scene → RunResult) → (a ≡ Going → f s ≡ g s) → run_on a n s f ≡ run_on a n s g
same_after Going n s f g h = h refl
same_after Finished n s f g h = refl
same_after (Refused why) n s f g h = refl
same_after (Spent m) n s f g h = refl

-- what is known before a token after another was carried out
abbrev pub watched_of : State → Answer
watched_of st = pick (eqb st.active 0) (Refused 7) Going

-- tokens alone, but for that
unfoldable pub watched_from : ℕ → ℕ → Scene → RunResult
watched_from zero n s = unless (watched_of s.state) n s (ended (Spent n) n s)
watched_from (suc k) n s =
    elim (eqb s.state.active 0) [
      | true ↦ ended (Refused 7) n s
      | false ↦ run_on (token_turn s).answer n (then s (token_turn s)) (λ to. watched_from k (n + 1) to)
    ]

-- a step keeps a state whole where no node younger than the first has a parent older than it
pub keeps : (s : Scene) → Sized s.state → Rooted s.state → ready_of s ≡ Going → (token_turn s).answer ≡ Going
    → (ready_of (then s (token_turn s)) ≡ Going) × Sized (token_turn s).state × Rooted (token_turn s).state
keeps s z r e g =
    let k = token_keeps s z e g in
    let a = k.rooted r in
    let h : 1 ≤ (token_turn s).state.active = omega (arith, a.0, k.parts.first_least) in
    (facts_ready (then s (token_turn s)) k.lent (parts_whole (token_turn s).state k.parts h), k.sized, a)

-- what a run does from a ready state on is what its tokens do
pub run_tokens : (k n : ℕ) (s : Scene) → Sized s.state → Rooted s.state → ready_of s ≡ Going → run_from k n s ≡ tokens_from k n s
unfolding run_from tokens_from
run_tokens zero n s z r e = rw e
run_tokens (suc k) n s z r e =
    rw (e, run_from)
    (same_after (token_turn s).answer n (then s (token_turn s)) (λ to. run_from k (n + 1) to) (λ to. tokens_from k (n + 1) to)
    (λ g. let h = keeps s z r e g in run_tokens k (n + 1) (then s (token_turn s)) h.1 h.2 h.0))

-- In any other state the one thing that a token can spoil is which node is active: finish-device may make it the root.
pub keeps_watched : (s : Scene) → Sized s.state → ready_of s ≡ Going → (token_turn s).answer ≡ Going
    → (ready_of (then s (token_turn s)) ≡ watched_of (token_turn s).state) × Sized (token_turn s).state
keeps_watched s z e g =
    let k = token_keeps s z e g in
    (ready_is (then s (token_turn s)) k.lent ∙ rw (whole_is (token_turn s).state k.parts) (by (token_turn s).state.active), k.sized)
  where
    by : (active : ℕ) → pick (leb 1 active) Going (Refused 7) ≡ pick (eqb active 0) (Refused 7) Going
    by zero = refl
    by (suc n) = rw (le-leb 1 (suc n) (omega arith), ne_eqb (suc n) 0 (λ e. omega arith))

pub run_watched : (k n : ℕ) (s : Scene) → Sized s.state → ready_of s ≡ watched_of s.state → run_from k n s ≡ watched_from k n s
unfolding run_from watched_from
run_watched zero n s z e = rw e
run_watched (suc k) n s z e = by (eqb s.state.active 0) refl (λ to z e. run_watched k (n + 1) to z e)
  where
    by : (b : Bool) → eqb s.state.active 0 ≡ b
        → ((to : Scene) → Sized to.state → ready_of to ≡ watched_of to.state → run_from k (n + 1) to ≡ watched_from k (n + 1) to)
        → run_from (suc k) n s ≡ watched_from (suc k) n s
    by true q f = let r : ready_of s ≡ Refused 7 = e ∙ rw q in rw (r, q, run_from, watched_from)
    by false q f =
        let r : ready_of s ≡ Going = e ∙ rw q in
        rw (r, q, run_from, watched_from)
        (same_after (token_turn s).answer n (then s (token_turn s)) (λ to. run_from k (n + 1) to) (λ to. watched_from k (n + 1) to)
        (λ g. let h = keeps_watched s z r g in f (then s (token_turn s)) h.1 h.0))

-- where a run ends before its first token
run_known : (k n : ℕ) (s : Scene) (a : Answer) → ready_of s ≡ a → (a ≡ Going → ⊥) → run_from k n s ≡ unless a n s (watched_from k n s)
unfolding run_from
run_known zero n s Going e h = absurd (h refl)
run_known zero n s Finished e h = rw e
run_known zero n s (Refused why) e h = rw e
run_known zero n s (Spent m) e h = rw e
run_known (suc k) n s Going e h = absurd (h refl)
run_known (suc k) n s Finished e h = rw (e, run_from)
run_known (suc k) n s (Refused why) e h = rw (e, run_from)
run_known (suc k) n s (Spent m) e h = rw (e, run_from)

-- a ready state has no root that is active
ready_watched : (s : Scene) → ready_of s ≡ Going → ready_of s ≡ watched_of s.state
ready_watched s e =
    let a = (whole_facts s.state (ready_facts s e).1).1 in
    e ∙ sym (rw (ne_eqb s.state.active 0 (λ z. omega arith)))

-- A run asks everything of its state once, and after each token whether the root is active.
pub run_once : (k n : ℕ) (s : Scene) → Sized s.state → run_from k n s ≡ unless (ready_of s) n s (watched_from k n s)
run_once k n s z = by (ready_of s) refl
  where
    not_spent : (m : ℕ) → Spent m ≡ Going → ⊥
    not_spent m g = let z : ◌≡◌ {A = ℕ} 0 1 = cc in omega arith

    by : (a : Answer) → ready_of s ≡ a → run_from k n s ≡ unless (ready_of s) n s (watched_from k n s)
    by Going e = rw e (run_watched k n s z (ready_watched s e))
    by Finished e = rw e (run_known k n s Finished e (λ g. not_finished g))
    by (Refused why) e = rw e (run_known k n s (Refused why) e (λ g. not_going why g))
    by (Spent m) e = rw e (run_known k n s (Spent m) e (λ g. not_spent m g))

-- of an opened ROM it is its tokens alone
pub run_opened : (budget : ℕ) (rom : List ℕ) → header_of rom ≡ 0 → run_of budget (opened rom) ≡ tokens_from budget 0 (opened rom)
run_opened budget rom e = run_tokens budget 0 (opened rom) (fresh_sized rom) (fresh_rooted rom) (opened_ready rom e)

-- ---- what the run of an opened ROM leaves, however it ends: a tree that is whole, and a store of its size
pub record Left (o : RunResult) : Type 0 where
  pub tree : whole_tree o.state.tree ≡ true
  pub store : length o.store ≡ store_size

ready_left : (a : Answer) (n : ℕ) (s : Scene) → ready_of s ≡ Going → Left (ended a n s)
ready_left a n s e =
    let f = ready_facts s e in
    let w = whole_facts s.state f.1 in
    record { tree = tree_whole s.state.tree w.0.tree; store = f.0.store }

same_left : (a : Answer) (n : ℕ) (s : Scene) (r : Turn) → ready_of s ≡ Going → Same s r → Left (ended a n (then s r))
same_left a n s r e k =
    let l = ready_left a n s e in
    record { tree = ap whole_tree k.0 ∙ l.tree; store = ap length k.1 ∙ l.store }

tokens_left : (k n : ℕ) (s : Scene) → Sized s.state → Rooted s.state → ready_of s ≡ Going → Left (tokens_from k n s)
unfolding tokens_from
tokens_left zero n s z r e = ready_left (Spent n) n s e
tokens_left (suc k) n s z r e = by (token_turn s).answer refl (λ to y q f. tokens_left k (n + 1) to y q f)
  where
    by : (a : Answer) → (token_turn s).answer ≡ a
        → ((to : Scene) → Sized to.state → Rooted to.state → ready_of to ≡ Going → Left (tokens_from k (n + 1) to))
        → Left (tokens_from (suc k) n s)
    by Going g f = let h = keeps s z r e g in rw (g, tokens_from) (f (then s (token_turn s)) h.1 h.2 h.0)
    by Finished g f = rw (g, tokens_from) (same_left Finished (n + 1) s (token_turn s) e
        (subst (FairRun s (token_turn s)) g (token_fair s)))
    by (Refused why) g f =
        let q = refused_keeps s why g in
        rw (g, tokens_from) (same_left (Refused why) n s (token_turn s) e
        (ap (λ (x : Turn). x.state.tree) q, ap (λ (x : Turn). x.store) q))
    by (Spent m) g f = rw (g, tokens_from) (same_left (Spent m) n s (token_turn s) e (subst (FairRun s (token_turn s)) g (token_fair s)))

pub run_left : (budget : ℕ) (rom : List ℕ) → header_of rom ≡ 0 → Left (run_of budget (opened rom))
run_left budget rom e =
    rw (run_opened budget rom e)
    (tokens_left budget 0 (opened rom) (fresh_sized rom) (fresh_rooted rom) (opened_ready rom e))
