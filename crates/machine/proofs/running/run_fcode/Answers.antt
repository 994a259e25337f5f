use Rattle.std.proofs.Common.{ap, sym, ◌∙◌, rules}
use Rattle.state.specs.Answer.{answer_in}
use Rattle.state.specs.Scene.{scene}
use Rattle.machine.proofs.Turns.{run_known, still_going}
use Rattle.machine.proofs.running.run_fcode.Goals as goal

pub tokens-requires : goal.tokens-requires
tokens-requires c =
    let good = c.well_formed.1.1.1.0 in (
      sym c.ready.ensures ∙ ap answer_in c.in-Going.is,
      record {
        stack = search rules;
        back = search rules;
        calls = let a = good.1.1.1.1.1.1.1.1.0 in record { places = search rules; wides = search rules; bases = search rules };
        numbers =
            let a = good.1.1.1.1.1.1.1.1.1.0 in
            record { programs = search rules; kinds = search rules; values = search rules; wides = search rules };
        tree =
            let a = good.1.1.1.1.1.1.1.1.1.1.1.1.1.0 in
            record { parents = search rules; owners = search rules; name_sizes = search rules; value_sizes = search rules };
      },
    )

pub returns-in_default : goal.returns-in_default
returns-in_default c =
    let a = c.args in
    rw c.ended.ensures
    (sym (run_known a.budget 0 (scene a.fcode.now a.work.now a.store.now a.st) _ (sym c.ready.ensures)
    (λ e. c.in_default.not-Going (still_going c.ready.result e))))
