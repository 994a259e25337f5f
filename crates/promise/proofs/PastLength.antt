-- Bytes past the length are ignored, proved. Assumes nothing.
use Rattle.std.specs.Prelude.{ℕ, ◌≤◌, ◌≡◌, refl, List, eqb, Err, Ok, Result}
use Rattle.std.proofs.Common.{arith, sym, ap, ◌∙◌}
use Rattle.cells.specs.Choice.{pick}
use Rattle.cells.specs.Laws.Tests.{when_is}
use Rattle.rom.specs.Header.{length_of}
use Rattle.rom.specs.Alike.{Alike}
use Rattle.rom.specs.Laws.Past.{alike_below, same_header}
use Rattle.tokens.specs.Laws.Past.{alike_programs}
use Rattle.state.specs.Scene.{Turn}
use Rattle.state.specs.Open.{open_refusal, open_of}
use Rattle.state.specs.Run.{RunResult}
use Rattle.state.specs.Laws.Past.{same_open_refusal, same_open, alike_read, alike_sees, same_step, same_run}
use Rattle.screen.proofs.Exact.Exactly.{one_result}
use Rattle.screen.specs.Laws.Rules.Past.{heights_there, same_heights, promised_there}
use Rattle.lines.specs.Lines.{refused_line}
use Rattle.lines.specs.Told.{wrong_text}
use Rattle.listing.specs.Listing.{Listed, listed_with, listed_as, wrong_buffer, started_of, ran_as, judged_as, list_with, Lists}
use Rattle.listing.specs.Laws.Listing.{one_listing}
use Rattle.host.specs.Host.{host_run, host_ran, host_run_of}
use Rattle.promise.specs.PastLength.{OpensAlike, HeightsAlike, Screens, Steps, Runs, Handed, PastLength}

opens : OpensAlike
opens rom other a = (same_header a, same_open (alike_programs a))

heights : HeightsAlike
heights rom other a h = let p = alike_programs a in let s = same_heights p h in (heights_there p h, s.0, s.1, s.2)

screens : Screens
screens rom other before after after' v v' a p q = one_result (promised_there (alike_programs a) p) q

steps : Steps
steps rom other work store st a = same_step rom other work store st (alike_read a) (alike_sees rom other work st a)

runs : Runs
runs rom other work store st a budget = same_run budget 0 rom other work store st a

-- a length that is not above the header's: of what opening hands back, the program length, or 0 where it was refused
opened_length : (rom work store : List ℕ) → (open_of rom work store).state.length ≤ length_of rom
unfolding open_of
opened_length rom work store =
    when_is (λ (r : Turn). r.state.length ≤ length_of rom) (eqb (open_refusal rom work store) 0) _ _ (λ t. omega arith) (λ t. omega arith)

module _ {rom other : List ℕ} (a : Alike rom other) (work store : List ℕ) (budget : ℕ) where
  -- the run from opening on
  same_started : started_of rom (open_of rom work store) budget ≡ started_of other (open_of other work store) budget
  same_started =
      let o = open_of rom work store in
      same_run budget 0 rom other o.work o.store o.state (alike_below (opened_length rom work store) a.program)
      ∙ ap (λ (r : Turn). started_of other r budget) (same_open (alike_programs a) work store)

  same_host : host_run_of rom work store budget ≡ host_run_of other work store budget
  unfolding host_run_of
  same_host =
      λ i.
      pick (eqb (same_open_refusal (alike_programs a) work store i) 0) (host_ran (same_started i))
      (host_run (same_open_refusal (alike_programs a) work store i) 0 work store)

  same_judged : (v : Result (Unit {0}) ℕ) (after text : List ℕ)
      → judged_as v after rom work store budget text ≡ judged_as v after other work store budget text
  same_judged (Ok tt) after text = ap (λ (o : RunResult). ran_as after o text) same_started
  same_judged (Err why) after text = refl

  same_list : (v : Result (Unit {0}) ℕ) (after marks text : List ℕ)
      → list_with v after rom marks work store budget text ≡ list_with v after other marks work store budget text
  unfolding list_with
  same_list v after marks text =
      λ i.
      pick (wrong_text text) (listed_with 0 marks work store text)
      (pick (wrong_buffer marks work store) (listed_as (refused_line 6) marks work store text) (same_judged v after text i))

  -- a listing of the one is a listing of the other
  lists_there : (marks text : List ℕ) {l : Listed} → Lists rom marks work store budget text l → Lists other marks work store budget text l
  lists_there marks text (v, after, p, e) = (v, after, promised_there (alike_programs a) p, e ∙ same_list v after marks text)

handed : Handed
handed rom other marks work store text budget a = (
  same_host a work store budget,
  λ l k p q.
      one_listing other marks work store budget text (lists_there a work store budget marks text p)
      ∙ sym (one_listing other marks work store budget text q),
)

pub past_length : PastLength
past_length = (opens, heights, screens, steps, runs, handed)
