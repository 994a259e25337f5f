use Rattle.rom.specs.Spread.{fcode_of}
use Rattle.state.specs.Answer.{stepped_in, ran_in}
use Rattle.listing.specs.Laws.Listing.{listed_run}
use Rattle.listing.proofs.listing.list_run.Goals as goal

pub returns : goal.returns
unfolding ran_in
returns c =
    let p = c.requires in
    let a = c.args in
    listed_run (fcode_of a.rom.now) a.work.now a.store.now a.budget p.0 p.1 p.2 (stepped_in c.open-opened.result) _ _ c.open-opened.ensures
    (ran_in c.run-r.result) _ _
    c.run-r.ensures _ c.number_of.ensures a.text.now _ _ p.3 c.run_text.ensures
