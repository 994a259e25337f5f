use Rattle.acts.proofs.Cold.{finish_good}
use Rattle.state.specs.Laws.Done.{carried}
use Rattle.state.specs.Effects.{effects, act_of}
use Rattle.std.proofs.Common.{sym}
use Rattle.acts.proofs.flow.end_program.Goals as goal

pub returns : goal.returns
unfolding act_of effects
returns c = λ a o n rom work store. sym (carried _ _ (finish_good _ n o _ c.requires))
