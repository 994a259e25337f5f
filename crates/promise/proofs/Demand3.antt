-- Demand 3 and what follows beside it, proved. Assumes nothing.
use Rattle.std.specs.Prelude.{ℕ, ◌+◌, ◌≤◌, ◌≡◌, refl, List, [], length, replicate, eqb, Err, Ok, Result}
use Rattle.std.proofs.Common.{arith, sym, ap, subst, ◌∙◌}
use Rattle.std.proofs.lemmas.List.{length-replicate}
use Rattle.cells.specs.Laws.Tests.{when_is}
use Rattle.rom.specs.Sizes.{work_size, store_size}
use Rattle.rom.specs.Header.{header_of}
use Rattle.screen.specs.Rules.{Assignment}
use Rattle.screen.specs.Promise.{Marks, Promised, wrong_size, bad_header, no_heights, passes}
use Rattle.state.specs.Scene.{Scene, scene, Turn, turn, handed_back}
use Rattle.state.specs.Open.{fresh_state, open_refusal, open_of}
use Rattle.state.specs.Step.{token_turn}
use Rattle.state.specs.Run.{RunResult, told_ran, run_of}
use Rattle.state.specs.Laws.Keeps.Whole.{not_going}
use Rattle.state.specs.declared.state.State.{State}
use Rattle.state.specs.Answer.{Answer, Going, Finished, Refused, Spent}
use Rattle.promise.specs.Trail.{Allowed, finished, spent, refused, start, RunEnds, finishes, stops, runs_out, OpenCall}
use Rattle.promise.proofs.Steps.{Fine}
use Rattle.promise.proofs.Running.{trail_arrived, trail_ends, ends_trail, stands_high, steps_so}
use Rattle.promise.specs.Demand3.{Exactly, Opened, SeenRun, Demand3, TrailOf, Counted, HeightsByMarks, Came, Resumed, AllowedStep}
use Rattle.promise.specs.Demand3.{Stepwise, first, again, goes, ends, refuses}

refused_not_pass : {why : ℕ} → ◌≡◌ {A = Result (Unit {0}) ℕ} (Err why) (Ok tt) → ⊥
refused_not_pass e = let z : ◌≡◌ {A = ℕ} 0 1 = cc in omega arith

exactly : Exactly
exactly rom before after verdict l h (wrong_size n) = absurd (n l)
exactly rom before after verdict l h (bad_header m n) = absurd (n h)
exactly rom before after verdict l h (no_heights m n f) = (λ e. absurd (refused_not_pass e), λ a. absurd (f a))
exactly rom before after verdict l h (passes m n a k) = (λ e. a, λ b. refl)

-- a pass has an assignment of heights, and marks that are its heights
pub record Passed (rom marks : List ℕ) : Type 0 where
  pub header : header_of rom ≡ 0
  pub assignment : Assignment rom
  pub marked : Marks rom assignment marks

pub passed : {rom before marks : List ℕ} → Promised rom before (Ok tt) marks → Passed rom marks
passed (passes l h a m) = record { header = h; assignment = a; marked = m }

-- what opening hands back with `Going` is the fresh state, and both memories zeroed
open_fresh : (rom work store : List ℕ) → (open_of rom work store).answer ≡ Going
    → open_of rom work store ≡ turn Going (fresh_state rom) (replicate work_size 0) (replicate store_size 0)
unfolding open_of
open_fresh rom work store =
    when_is (λ r. r.answer ≡ Going → r ≡ turn Going (fresh_state rom) (replicate work_size 0) (replicate store_size 0))
    (eqb (open_refusal rom work store) 0) _ _
    (λ t e. refl) (λ t e. absurd (not_going (open_refusal rom work store) e))

module _ (c : Opened) where
  pass : Passed c.rom c.marks
  pass = passed c.screened

  handed : handed_back c.fresh c.work_fresh c.store_fresh ≡ turn Going (fresh_state c.rom) (replicate work_size 0)
      (replicate store_size 0)
  handed = c.opens ∙ open_fresh c.rom c.work c.store (sym (ap (λ r. r.answer) c.opens) ∙ c.going)

  work_size_lem : length c.work_lent ≡ work_size
  work_size_lem = c.same_work ∙ ap (λ r. length r.work) handed ∙ length-replicate {A = ℕ} work_size 0

  store_size_lem : length c.store_lent ≡ store_size
  store_size_lem = c.same_store ∙ ap (λ r. length r.store) handed ∙ length-replicate {A = ℕ} store_size 0

  -- a run from a scene that tokens come to
  from_trail : {n : ℕ} {open_calls : List OpenCall} {s : Scene} → TrailOf c n open_calls s → (budget : ℕ)
      → RunEnds c.rom c.work_lent c.store_lent n budget (run_of budget s)
  from_trail t budget = trail_ends pass.assignment c.work_lent c.store_lent work_size_lem store_size_lem pass.header t budget

  -- the first is that of the fresh state
  first_trail : TrailOf c 0 [] (scene c.rom c.work_lent c.store_lent c.fresh.state)
  first_trail = subst (λ st. TrailOf c 0 [] (scene c.rom c.work_lent c.store_lent st)) (sym (ap (λ r. r.state) handed)) start

  came_trail : {n : ℕ} {s : Scene} → Came c n s → (open_calls : List OpenCall) × TrailOf c n open_calls s
  came_trail first = ([], first_trail)
  came_trail (again {n} {s} k budget f) =
      let t = (came_trail k).1 in
      let o = run_of budget s in
      let same = (trail_arrived pass.assignment c.work_lent c.store_lent work_size_lem store_size_lem pass.header t).same in
      let e = ends_trail pass.assignment c.work_lent c.store_lent work_size_lem store_size_lem pass.header (from_trail t budget) f in
      (e.0, subst (λ r. TrailOf c (n + o.count) e.0 (scene r o.work o.store o.state)) (sym same) e.1)

ran_ends : (c : SeenRun) → RunEnds c.opened.rom c.opened.work_lent c.opened.store_lent 0 c.budget
    (told_ran c.ran c.work_ran c.store_ran)
ran_ends c =
    let o = c.opened in
    subst (λ v. RunEnds o.rom o.work_lent o.store_lent 0 c.budget v) (sym c.runs) (from_trail o (first_trail o) c.budget)

allowed : {rom work store : List ℕ} {before budget : ℕ} {o : RunResult} → RunEnds rom work store before budget o → Allowed o.answer
allowed (finishes t l e) = finished
allowed (stops t l e d) = refused d
allowed {budget = budget} (runs_out t) = spent budget

most : {rom work store : List ℕ} {before budget : ℕ} {o : RunResult} → RunEnds rom work store before budget o → o.count ≤ budget
most (finishes t l e) = l
most (stops t l e d) = omega arith
most (runs_out t) = omega arith

pub demand_3 : Demand3
demand_3 = (exactly, λ c. allowed (ran_ends c))

pub counted : Counted
counted c = (ran_ends c, most (ran_ends c))

pub heights : HeightsByMarks
heights c n open_calls s t = stands_high (pass c).assignment c.work_lent c.store_lent (work_size_lem c) (store_size_lem c) (pass c).header
    (pass c).marked t

pub resumed : Resumed
resumed c n s k budget = let e = from_trail c (came_trail c k).1 budget in (e, allowed e)

fine_step : {rom : List ℕ} (a : Assignment rom) (open_calls : List OpenCall) (st : State) (r : Turn) (w : Answer) → Fine a open_calls st r w
    → AllowedStep w
fine_step a open_calls st r Going f = goes
fine_step a open_calls st r Finished f = ends
fine_step a open_calls st r (Refused why) f = refuses f
fine_step a open_calls st r (Spent n) f = absurd f

pub stepwise : Stepwise
stepwise c n open_calls s t =
    let k = steps_so (pass c).assignment c.work_lent c.store_lent (work_size_lem c) (store_size_lem c) (pass c).header t in (
      k.0,
      subst (λ r. AllowedStep r.answer) (sym k.0)
          (fine_step (pass c).assignment open_calls s.state (token_turn s) (token_turn s).answer k.1),
    )
