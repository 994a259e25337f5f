-- A step and a run, turn by turn, from what is carried out on the stacks and what each other token leaves. Assumes nothing.
use Prim.Native.Nat.{ℕ, zero, suc, ◌+◌, ◌-◌, ◌<◌, ◌≤◌}
use mathlib.Core.Path.{◌≡◌, refl, sym, ◌∙◌, ap, subst}
use mathlib.Core.Bool.{Bool, true, false}
use mathlib.Core.List.{List}
use native.Mathlib.Omega.{arith}
use borrow.Author.Tests.{eq-eqb, ne_eqb}
use native.Mathlib.Nat.{sub-zero}
use lib.Dec.{eqb}
use Rattle.cells.specs.Choice.{pick}
use Rattle.tree.specs.Whole.{whole_tree}
use Rattle.tree.specs.Laws.Kept.{whole_is as whole_tree_lem}
use Rattle.state.specs.Scene.{Scene, Turn, scene, turn, handed_back}
use Rattle.state.specs.Step.{ready_of, token_turn, known_turn, step_of}
use Rattle.state.specs.State.{base_of}
use Rattle.state.specs.Run.{RunResult, ended, then, run_on, unless, run_from, told_ran}
use Rattle.state.specs.Laws.Sized.{Sized}
use Rattle.state.specs.Laws.Steps.{watched_of, keeps_watched, step_going, finished_stays, step_refused, step_spent}
use Rattle.state.specs.Laws.Keeps.Whole.{Lent, ready_facts, whole_facts, not_going, not_finished}
use Rattle.state.specs.Laws.Keeps.Parts.{base_below}
use Rattle.state.specs.Joints.Apart.{Arrays, arrays_of, core_of, joined}
use Rattle.state.specs.declared.apart.Core.{Core}
use Rattle.state.specs.declared.state.State.{State}
use Rattle.rom.specs.Refusal.{refusal_number}
use Rattle.rom.specs.declared.refusal.Refusal.{Refusal}
use Rattle.state.specs.Answer.{Answer, Going, Finished, Refused, Spent, Ran, answer_in}
use Rattle.state.specs.declared.answer.AnswerBy.{AnswerBy as SaidBy}
use Rattle.state.specs.declared.answer.AnswerBy.TheVariants.{Going as OnIt, Finished as Over, Refused as Stopped, Spent as Used}
use Rattle.acts.specs.Joints.Acts.{Fit, every_on}
use Rattle.state.specs.Joints.Hot.{Cold as IsCold}
use Rattle.reckon.specs.Joints.Fast.{packed_fast, Goes, HoldsFast, Fares, Fast}
use Rattle.reckon.specs.Joints.Turned.{Fared, On, Cold, Not, Turned}
use Rattle.machine.specs.Joints.Cruised.{one_answer, one_of}
use Rattle.rom.specs.Sizes.{data_most, return_most, rom_most}

-- ---- tokens, one after the other
-- the first token of a run from a ready state
run_first : (b n : ℕ) (s : Scene) → ready_of s ≡ Going → n < b
    → run_from (b - n) n s ≡ run_on (token_turn s).answer n (then s (token_turn s)) (λ to. run_from (b - (n + 1)) (n + 1) to)
unfolding run_from
run_first b n s e l =
    let k : b - n ≡ suc (b - (n + 1)) = omega arith in
    rw (k, e, run_from)

-- ---- how a run ends
-- the budget is spent
pub run_spent : (b n : ℕ) (s : Scene) → ready_of s ≡ Going → b ≤ n → run_from (b - n) n s ≡ ended (Spent n) n s
unfolding run_from
run_spent b n s e l = let k : b - n ≡ 0 = omega arith in rw (k, e)

-- what follows a token, by its answer
pub run_turn : (b n : ℕ) (s : Scene) (r : Turn) (a : Answer) → ready_of s ≡ Going → n < b → r ≡ token_turn s → r.answer ≡ a
    → run_from (b - n) n s ≡ run_on a n (then s r) (λ to. run_from (b - (n + 1)) (n + 1) to)
run_turn b n s r a e l t g =
    run_first b n s e l ∙ ap (λ (x : Turn). run_on x.answer n (then s x) (λ to. run_from (b - (n + 1)) (n + 1) to)) (sym t)
    ∙ ap (λ (x : Answer). run_on x n (then s r) (λ to. run_from (b - (n + 1)) (n + 1) to)) g

-- and whether the state behind it is ready
pub turn_ready : (s : Scene) (r : Turn) → Sized s.state → ready_of s ≡ Going → r ≡ token_turn s → r.answer ≡ Going
    → (ready_of (then s r) ≡ watched_of r.state) × Sized r.state
turn_ready s r z e t g =
    subst (λ (x : Turn). (ready_of (then s x) ≡ watched_of x.state) × Sized x.state) (sym t)
    (keeps_watched s z e (ap (λ (x : Turn). x.answer) (sym t) ∙ g))

-- the root became active: the run's next test is 7
pub run_rooted : (k n : ℕ) (s : Scene) → ready_of s ≡ watched_of s.state → s.state.active ≡ 0 → run_from k n s ≡ ended (Refused 7) n s
unfolding run_from
run_rooted zero n s e a = let r : ready_of s ≡ Refused 7 = e ∙ rw (eq-eqb _ _ a) in rw r
run_rooted (suc k) n s e a = let r : ready_of s ≡ Refused 7 = e ∙ rw (eq-eqb _ _ a) in rw (r, run_from)

pub ready_again : (s : Scene) → ready_of s ≡ watched_of s.state → (s.state.active ≡ 0 → ⊥) → ready_of s ≡ Going
ready_again s e a = e ∙ rw (ne_eqb _ _ a)

-- what is known before the first token
pub run_known : (k n : ℕ) (s : Scene) (a : Answer) → ready_of s ≡ a → (a ≡ Going → ⊥) → run_from k n s ≡ ended a n s
unfolding run_from
run_known zero n s Going e h = absurd (h refl)
run_known zero n s Finished e h = rw e
run_known zero n s (Refused why) e h = rw e
run_known zero n s (Spent m) e h = rw e
run_known (suc k) n s Going e h = absurd (h refl)
run_known (suc k) n s Finished e h = rw (e, run_from)
run_known (suc k) n s (Refused why) e h = rw (e, run_from)
run_known (suc k) n s (Spent m) e h = rw (e, run_from)

-- ---- the loop of a run
-- a ready scene, whose run ends as the whole run does
abbrev pub Going-on : ℕ → RunResult → ℕ → Scene → Type 0
Going-on b w n s = (ready_of s ≡ Going) × Sized s.state × (run_from (b - n) n s ≡ w)

pub begun : (b : ℕ) (s : Scene) → ready_of s ≡ Going → Sized s.state → Going-on b (run_from b 0 s) 0 s
begun b s e z = (e, z, ap (λ (k : ℕ). run_from k 0 s) (sub-zero b))

-- what the other tokens ask of a ready state
pub fit : (s : Scene) → ready_of s ≡ Going → Fit s.rom (core_of s.state)
fit s e =
    let f = ready_facts s e in
    let p = (whole_facts s.state f.1).0 in
    let a = f.0.most in
    let b = f.0.rom_to in
    let d = p.place.to in
    (p.height, p.numbers.count, p.work, a, omega arith)

pub tree_whole : (s : Scene) → ready_of s ≡ Going → whole_tree s.state.tree ≡ true
tree_whole s e = whole_tree_lem s.state.tree (whole_facts s.state (ready_facts s e).1).0.tree

pub ends_spent : (b n : ℕ) (w : RunResult) (s : Scene) → Going-on b w n s → b ≤ n → ended (Spent n) n s ≡ w
ends_spent b n w s i l = sym (run_spent b n s i.0 l) ∙ i.2

module _ (b n : ℕ) (w : RunResult) (s : Scene) (i : Going-on b w n s) (l : n < b) where
  -- behind a token, by its answer
  module _ (r : Turn) (t : r ≡ token_turn s) where
    pub turn_ends : (a : Answer) → r.answer ≡ a → run_on a n (then s r) (λ to. run_from (b - (n + 1)) (n + 1) to) ≡ w
    turn_ends a g = sym (run_turn b n s r a i.0 l t g) ∙ i.2

    pub turn_rooted : r.answer ≡ Going → r.state.active ≡ 0 → ended (Refused 7) (n + 1) (then s r) ≡ w
    turn_rooted g a =
        let k = turn_ready s r i.1 i.0 t g in
        sym (run_rooted (b - (n + 1)) (n + 1) (then s r) k.0 a) ∙ turn_ends Going g

    pub turn_goes : r.answer ≡ Going → (r.state.active ≡ 0 → ⊥) → Going-on b w (n + 1) (then s r)
    turn_goes g a =
        let k = turn_ready s r i.1 i.0 t g in
        (ready_again (then s r) k.0 a, k.1, turn_ends Going g)

-- ---- a hot token, on the arrays of the scene's state
-- what it asks of a ready state
pub hot_fit : (s : Scene) → ready_of s ≡ Going
    → (s.state.stack.height ≤ data_most) × (base_of s.state.calls ≤ s.state.back.height) × (s.state.back.height ≤ return_most)
    × (8 ≤ s.state.place) × (s.state.place ≤ s.state.length) × (s.state.length ≤ rom_most) × HoldsFast s.rom s.state.length
hot_fit s e =
    let f = ready_facts s e in
    let p = (whole_facts s.state f.1).0 in
    let h = base_below s.state.length s.state.calls s.state.back.height p.calls in
    (p.height, h, p.returns, p.place.from, p.place.to, under f.0, f.0.most)
  where
    under : Lent s → s.state.length ≤ rom_most
    under l = let a = l.most in let b = l.rom_to in omega arith

-- the numbers, and the state, with the cells, the heights and the place that it leaves
abbrev pub turned_to : Core → Turned → Core
turned_to k r =
    record {
      length = k.length;
      place = r.place;
      wide = k.wide;
      finished = k.finished;
      height = r.height;
      returns = r.returns;
      frames = k.frames;
      held = k.held;
      work_place = k.work_place;
      nodes = k.nodes;
      active = k.active;
      first = k.first;
      records = k.records;
    }

-- how it fared with the cells then
abbrev Fared-so : Fared → Scene → Turned → List ℕ → List ℕ → Type 0
Fared-so x s r d q =
    Fares x s.rom s.state.length s.state.wide (base_of s.state.calls) s.state.stack.cells s.state.stack.height
    s.state.back.cells s.state.back.height s.state.place r d q

abbrev pub Hot : Scene → Turned → List ℕ → List ℕ → Type 0
Hot s r d q =
    Fast s.rom s.state.length s.state.wide (base_of s.state.calls) s.state.stack.cells s.state.stack.height
    s.state.back.cells s.state.back.height s.state.place r d q

module _ (b n : ℕ) (w : RunResult) (s : Scene) (i : Going-on b w n s) (l : n < b) (r : Turned) (d q : List ℕ) (f : Hot s r d q) where
  abbrev there : Scene
  there = scene s.rom s.work s.store (packed_fast s.state d r.height q r.returns r.place)

  goes : Goes s.state s.state.length s.state.wide (base_of s.state.calls)
  goes = record { of_size = refl; of_width = refl; of_base = refl }

  faring : (x : Fared) → r.fared ≡ x → Fared-so x s r d q
  faring x z = subst (λ (y : Fared). Fared-so y s r d q) z f.1

  abbrev left_with : Answer → Turn
  left_with x = turn x there.state s.work s.store

  -- it was carried out, and left the tree alone
  pub hot_goes : r.fared ≡ On → Going-on b w (n + 1) there
  hot_goes z =
      let a = (whole_facts s.state (ready_facts s i.0).1).1 in
      turn_goes b n w s i l (left_with Going) (sym (faring On z s.state s.work s.store goes)) refl (λ x. omega arith)

  -- it was refused
  pub hot_refused : (why : ℕ) → r.fared ≡ Not why → ended (Refused why) n there ≡ w
  hot_refused why z =
      let e = sym (faring (Not why) z s.state s.work s.store goes) in
      turn_ends b n w s i l (left_with (Refused why)) e (Refused why) refl

  -- it is not hot: nothing is changed
  pub hot_left : r.fared ≡ Cold → Going-on b w n there × IsCold s.rom r.place
  hot_left z =
      let u = faring Cold z in
      let q : s ≡ there = rw (u.1, u.2, u.3, u.4, u.5) in
      (subst (λ (x : Scene). Going-on b w n x) q i, subst (λ (p : ℕ). IsCold s.rom p) (sym u.5) u.0)

-- ---- a token that is not hot, on the arrays of the scene's state: what it leaves is the scene's own turn
pub came : (t : Scene) (k : Core) (c p : List ℕ) (w : List Bool) (b n ki v : List ℕ) (wy : List Bool) (pa ow ti si : List ℕ)
    (then : Arrays → State) (x : Answer) (work store : List ℕ)
    → ready_of t ≡ Going
    → ((a : Arrays) → whole_tree (joined (every_on c p w b n ki v wy pa ow ti si a) k).tree ≡ true
    → turn x (then a) work store ≡ token_turn (scene t.rom t.work t.store (joined (every_on c p w b n ki v wy pa ow ti si a) k)))
    → k ≡ core_of t.state
    → c ≡ t.state.stack.cells
    → p ≡ t.state.calls.places
    → w ≡ t.state.calls.wides
    → b ≡ t.state.calls.bases
    → n ≡ t.state.numbers.programs
    → ki ≡ t.state.numbers.kinds
    → v ≡ t.state.numbers.values
    → wy ≡ t.state.numbers.wides
    → pa ≡ t.state.tree.parents
    → ow ≡ t.state.tree.owners
    → ti ≡ t.state.tree.name_sizes
    → si ≡ t.state.tree.value_sizes
    → turn x (then (arrays_of t.state)) work store ≡ token_turn t
came t k c p w b n ki v wy pa ow ti si then x work store e h q q1 q2 q3 q4 q5 q6 q7 q8 q9 q10 q11 q12 =
    let q0 : joined (every_on c p w b n ki v wy pa ow ti si (arrays_of t.state)) k ≡ t.state =
    rw (q, q1, q2, q3, q4, q5, q6, q7, q8, q9, q10, q11, q12) in
    h (arrays_of t.state) (ap (λ (x : State). whole_tree x.tree) q0 ∙ tree_whole t e)
    ∙ ap (λ (x : State). token_turn (scene t.rom t.work t.store x)) q0

pub not_spent : (n : ℕ) → Spent n ≡ Going → ⊥
not_spent n e = let z : ◌≡◌ {A = ℕ} 0 1 = cc in omega arith

-- what the code says goes on where it does
pub still_going : (a : SaidBy Refusal) → answer_in a ≡ Going → a ≡ OnIt
still_going OnIt e = refl
still_going Over e = absurd (not_finished e)
still_going (Stopped why) e = absurd (not_going (refusal_number why) e)
still_going (Used n) e = absurd (not_spent n e)

-- ---- a step from a run of one token
module _ (s : Scene) (z : Sized s.state) (e : ready_of s ≡ Going) where
  one_from : (a : Answer) (r : Turn) → token_turn s ≡ r → r.answer ≡ a → (x : Ran) (work store : List ℕ)
      → told_ran x work store ≡ run_on a 0 (then s r) (λ to. run_from 0 1 to) → handed_back (one_of x) work store ≡ r
  unfolding run_from
  one_from Going r t g x work store d = by (ready_of (then s r)) refl d
    where
      watched : ready_of (then s r) ≡ watched_of r.state
      watched = (turn_ready s r z e (sym t) g).0

      carried : (a : Answer) → one_answer a ≡ Going → told_ran x work store ≡ ended a 1 (then s r) → handed_back (one_of x) work store ≡ r
      carried a o f =
          let n : x.count ≡ 1 = ap (λ (y : RunResult). y.count) f in
          let p : x.answer ≡ a = ap (λ (y : RunResult). y.answer) f in
          rw n (ap (λ (y : Answer). turn (one_answer y) x.state work store) p
          ∙ ap (λ (y : Answer). turn y x.state work store) (o ∙ sym g)
          ∙ ap (λ (y : RunResult). turn r.answer y.state y.work y.store) f)

      by : (a : Answer) → ready_of (then s r) ≡ a
          → told_ran x work store ≡ unless (ready_of (then s r)) 1 (then s r) (ended (Spent 1) 1 (then s r))
          → handed_back (one_of x) work store ≡ r
      by Going q f = carried (Spent 1) refl (f ∙ rw q)
      by Finished q f = absurd (never_finished (eqb r.state.active 0) (sym q ∙ watched))
        where
          never_finished : (b : Bool) → Finished ≡ pick b (Refused 7) Going → ⊥
          never_finished true k = let y : ◌≡◌ {A = ℕ} 0 1 = cc in omega arith
          never_finished false k = let y : ◌≡◌ {A = ℕ} 0 1 = cc in omega arith
      by (Refused why) q f = carried (Refused why) refl (f ∙ rw q)
      by (Spent m) q f = carried (Spent m) refl (f ∙ rw q)
  one_from Finished r t g x work store f =
      let n : x.count ≡ 1 = ap (λ (y : RunResult). y.count) f in
      let p : x.answer ≡ Finished = ap (λ (y : RunResult). y.answer) f in
      rw n (ap (λ (y : Answer). turn (one_answer y) x.state work store) p
      ∙ ap (λ (y : Answer). turn y x.state work store) (sym g)
      ∙ ap (λ (y : RunResult). turn r.answer y.state y.work y.store) f)
  one_from (Refused why) r t g x work store f = uncarried (Refused why) g f
    where
      uncarried : (a : Answer) → r.answer ≡ a → told_ran x work store ≡ ended a 0 (then s r) → handed_back (one_of x) work store ≡ r
      uncarried a g f =
          let n : x.count ≡ 0 = ap (λ (y : RunResult). y.count) f in
          let p : x.answer ≡ a = ap (λ (y : RunResult). y.answer) f in
          rw n (ap (λ (y : Answer). turn y x.state work store) (p ∙ sym g)
          ∙ ap (λ (y : RunResult). turn r.answer y.state y.work y.store) f)
  one_from (Spent m) r t g x work store f =
      let n : x.count ≡ 0 = ap (λ (y : RunResult). y.count) f in
      let p : x.answer ≡ Spent m = ap (λ (y : RunResult). y.answer) f in
      rw n (ap (λ (y : Answer). turn y x.state work store) (p ∙ sym g)
      ∙ ap (λ (y : RunResult). turn r.answer y.state y.work y.store) f)

  pub one_told : (x : Ran) (work store : List ℕ) → told_ran x work store ≡ run_from 1 0 s → handed_back (one_of x) work store ≡ token_turn s
  one_told x work store d = one_from (token_turn s).answer (token_turn s) refl refl x work store
      (d ∙ run_turn 1 0 s (token_turn s) (token_turn s).answer e (omega arith) refl refl)

-- a step of any state is a run of one token
module _ (s : Scene) (z : Sized s.state) (x : Ran) (work store : List ℕ) (d : told_ran x work store ≡ run_from 1 0 s) where
  -- what is known beforehand is said by both, and nothing is carried out
  known_told : (a : Answer) → ready_of s ≡ a → (a ≡ Going → ⊥) → handed_back (one_of x) work store ≡ known_turn a s
  known_told a e g =
      let f : told_ran x work store ≡ ended a 0 s = d ∙ run_known 1 0 s a e g in
      let n : x.count ≡ 0 = ap (λ (y : RunResult). y.count) f in
      rw n (ap (λ (y : RunResult). turn y.answer y.state y.work y.store) f)

  step_by : (a : Answer) → ready_of s ≡ a → handed_back (one_of x) work store ≡ step_of s
  step_by Going e = one_told s z e x work store d ∙ sym (step_going s e)
  step_by Finished e = known_told Finished e not_finished ∙ sym (finished_stays s e)
  step_by (Refused why) e = known_told (Refused why) e (not_going why) ∙ sym (step_refused s why e)
  step_by (Spent n) e = known_told (Spent n) e (not_spent n) ∙ sym (step_spent s n e)

  pub step_told : handed_back (one_of x) work store ≡ step_of s
  step_told = step_by (ready_of s) refl
