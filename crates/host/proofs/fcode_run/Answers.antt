use Rattle.rom.specs.Spread.{fcode_of}
use Rattle.state.specs.Answer.{stepped_in, ran_in}
use Rattle.std.proofs.Common.{sym, ◌∙◌, rules}
use Rattle.host.proofs.Runs.{host_refused, host_ran_lem}
use Rattle.host.proofs.fcode_run.Goals as goal

pub returns-then-why-ne0 : goal.returns-then-why-ne0
returns-then-why-ne0 c =
    let a = c.args in
    let o = c.open-opened in
    host_refused (fcode_of a.rom.now) a.work.now a.store.now a.budget (stepped_in o.result) _ _ o.ensures _
    c.number_of-why.ensures
    (search rules)

pub returns : goal.returns
unfolding ran_in
returns c =
    let a = c.args in
    let o = c.open-opened in
    host_ran_lem (fcode_of a.rom.now) a.work.now a.store.now a.budget (stepped_in o.result) _ _ o.ensures (sym c.number_of-why.ensures
    ∙ c.if-why-ne0.false)
    (ran_in c.run-r.result) _ _ c.run-r.ensures _ c.number_of.ensures
