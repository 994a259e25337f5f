use Rattle.acts.proofs.Cold.{widen_good}
use Rattle.state.specs.Laws.Done.{carried}
use Rattle.state.specs.Effects.{effects, act_of}
use Rattle.std.proofs.Common.{sym}
use Rattle.acts.proofs.flow.widen_offsets.Goals as goal

pub returns : goal.returns
unfolding act_of effects
returns c = λ a o n rom work store. rw c.go.ensures (sym (carried _ _ (widen_good _ n o _ c.requires)))
