-- What the lamp shows, proved. Assumes nothing.
use Rattle.std.specs.Prelude.{ℕ, ◌≤◌, ◌≡◌, not, List, length, T, eqb, Err, Ok, Result}
use Rattle.std.proofs.Common.{arith, sym, ap, subst, eq-eqb}
use Rattle.std.proofs.Math.Path.{refl}
use Rattle.cells.specs.Laws.Tests.{pick_is}
use Rattle.cells.specs.Laws.Facts.{neither, not_unequal}
use Rattle.rom.specs.Sizes.{marks_size, work_size, store_size, text_size}
use Rattle.state.specs.Scene.{answer_number}
use Rattle.state.specs.Step.{wrong_sizes}
use Rattle.state.specs.Open.{open_of}
use Rattle.state.specs.Run.{RunResult, ran_of}
use Rattle.state.specs.Joints.Moves.{stepped}
use Rattle.state.specs.Laws.Keeps.Open.{open_good}
use Rattle.state.specs.Answer.{Answer}
use Rattle.screen.specs.Promise.{Promised, wrong_size, bad_header, no_heights, verdict_number}
use Rattle.lines.specs.Lines.{refused_line}
use Rattle.listing.specs.Listing.{wrong_buffer, run_words, judged_as, list_with}
use Rattle.host.specs.Host.{host_run_of}
use Rattle.promise.specs.Trail.{Allowed, finished, spent, refused}
use Rattle.promise.specs.Demand3.{Opened, SeenRun}
use Rattle.promise.proofs.Demand3.{demand_3, counted, passed}
use Rattle.promise.specs.Shown.{Closing, run_here, ShownIn, PersonSees, HostSees, done, budget_spent, by_data, wrong_buffer_lem}
use Rattle.promise.specs.Shown.{refused_rom, screen_pass}

closing : {w : Answer} → Allowed w → Closing (answer_number w)
closing finished = done
closing (spent n) = budget_spent
closing (refused d) = by_data d

-- what the executable definitions give is what a caller saw
module _ (rom marks work store : List ℕ) (budget : ℕ) (w : length work ≡ work_size) (s : length store ≡ store_size) where
  abbrev pub run : RunResult
  run = run_here rom work store budget

  module _ {after : List ℕ} (p : Promised rom marks (Ok tt) after) where
    pub opened : Opened
    opened =
        record {
          rom = rom;
          before = marks;
          marks = after;
          screened = p;
          work = work;
          store = store;
          fresh = stepped (open_of rom work store).answer (open_of rom work store).state;
          work_fresh = (open_of rom work store).work;
          store_fresh = (open_of rom work store).store;
          opens = refl;
          going = ap (λ r. r.answer) (open_good rom work store w s (passed p).header);
          work_lent = (open_of rom work store).work;
          store_lent = (open_of rom work store).store;
          same_work = refl;
          same_store = refl;
        }

    pub seen : SeenRun
    unfolding opened
    seen =
        record {
          opened = opened;
          budget = budget;
          ran = ran_of run.answer run.count run.state;
          work_ran = run.work;
          store_ran = run.store;
          runs = refl;
        }

    pub seen_ran : seen.ran ≡ ran_of run.answer run.count run.state
    unfolding seen
    seen_ran = refl

    closes : Closing (answer_number run.answer) × (run.count ≤ budget)
    unfolding seen
    closes = (closing (demand_3.1 seen), (counted seen).1)

  -- by the screen's verdict
  shown_judged : T (not (wrong_buffer marks work store)) → (v : Result (Unit {0}) ℕ) (after text : List ℕ) → Promised rom marks v after
      → ShownIn rom marks work store budget text (judged_as v after rom work store budget text)
  shown_judged b (Err n) after text p = (refused_line n, refused_rom b p, refl, refl)
  shown_judged b (Ok tt) after text p = let c = closes p in (run_words run, screen_pass b p c.1 c.0, refl, refl)

-- the three buffers beside the text have their sizes
pub right_buffers : (marks work store : List ℕ) → T (not (wrong_buffer marks work store))
    → (length marks ≡ marks_size) × (length work ≡ work_size) × (length store ≡ store_size)
right_buffers marks work store b =
    let c = neither (not (eqb (length marks) marks_size)) (wrong_sizes work store) b in
    let d = neither (not (eqb (length work) work_size)) (not (eqb (length store) store_size)) c.1 in
    (not_unequal (length marks) marks_size c.0, not_unequal (length work) work_size d.0, not_unequal (length store) store_size d.1)

pub person_sees : PersonSees
unfolding list_with
person_sees rom marks work store text budget l e (v, after, p, q) = subst (ShownIn rom marks work store budget text) (sym q) by_tests
  where
    by_tests : ShownIn rom marks work store budget text (list_with v after rom marks work store budget text)
    by_tests =
        rw (eq-eqb (length text) text_size e)
        (pick_is (ShownIn rom marks work store budget text) (wrong_buffer marks work store) _ _
        (λ b. (refused_line 6, wrong_buffer_lem b, refl, refl))
        (λ b. let r = right_buffers marks work store b in shown_judged rom marks work store budget r.1 r.2 b v after text p))

-- no verdict but a pass has the number 0
zero_passes : {rom before after : List ℕ} (v : Result (Unit {0}) ℕ) → Promised rom before v after → verdict_number v ≡ 0 → v ≡ (Ok tt)
zero_passes (Ok tt) p e = refl
zero_passes (Err n) (wrong_size h) e = absurd (omega arith)
zero_passes (Err n) (bad_header l h) e = absurd (h e)
zero_passes (Err n) (no_heights l h f) e = absurd (omega arith)

pub host_sees : HostSees
unfolding host_run_of
host_sees rom marks after work store budget (v, e, k) w s =
    let p : Promised rom marks (Ok tt) after = subst (λ v. Promised rom marks v after) (zero_passes v k (sym e)) k in
    rw (eq-eqb (length work) work_size w, eq-eqb (length store) store_size s, (passed p).header) (closes rom marks work store budget w s p)
