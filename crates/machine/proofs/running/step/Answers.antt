use Rattle.rom.specs.Spread.{fcode_of}
use Rattle.state.specs.Answer.{Stepped, ran_in}
use Rattle.state.specs.Scene.{scene, handed_back}
use Rattle.std.proofs.Common.{ap, ◌∙◌, rules}
use Rattle.machine.proofs.Turns.{step_told}
use Rattle.machine.proofs.running.step.Goals as goal

pub returns : goal.returns
returns c =
    let a = c.args in
    let good = c.well_formed.1.1.1.0 in
    ap (λ (x : Stepped). handed_back x c.run.new.work c.run.new.store) c.one.ensures
    ∙ (step_told (scene (fcode_of a.rom.now) a.work.now a.store.now a.st)
    (record {
      stack = let a = good.1.1.1.1.1.1.0 in search rules;
      back = let a = good.1.1.1.1.1.1.1.0 in search rules;
      calls = let a = good.1.1.1.1.1.1.1.1.0 in record { places = search rules; wides = search rules; bases = search rules };
      numbers =
          let a = good.1.1.1.1.1.1.1.1.1.0 in
          record { programs = search rules; kinds = search rules; values = search rules; wides = search rules };
      tree =
          let a = good.1.1.1.1.1.1.1.1.1.1.1.1.1.0 in
          record { parents = search rules; owners = search rules; name_sizes = search rules; value_sizes = search rules };
    })
    (ran_in c.run.result) _ _ c.run.ensures)
