use Rattle.acts.proofs.Backs.{via}
use Rattle.acts.proofs.Cold.{text_high, text_good}
use Rattle.state.specs.Laws.Done.{carried, stopped}
use Rattle.state.specs.Effects.{effects, act_of}
use Rattle.std.proofs.Common.{sym, refl}
use Rattle.acts.proofs.flow.quote.Goals as goal

pub returns-then-core-gt-DATA_MOST : goal.returns-then-core-gt-DATA_MOST
unfolding act_of effects
returns-then-core-gt-DATA_MOST c = λ a n rom work store. rw c.stop.ensures
    (sym (stopped _ _ 15 refl (text_high _ n _ _ c.if-core-gt-DATA_MOST.true)))

pub returns : goal.returns
unfolding act_of effects
returns c =
    λ a n rom work store.
    via _ _ work store _ (c.pair.ensures a)
    (sym (carried _ _ (text_good _ n _ _ c.if-core-gt-DATA_MOST.false)))
