use Rattle.acts.proofs.Backs.{via, leaves}
use Rattle.state.specs.Joints.Apart.{on_calls, joined}
use Rattle.std.proofs.Common.{refl}
use Rattle.acts.proofs.flow.leave_body.Goals as goal

pub returns : goal.returns
returns c =
    λ a o n rom work store.
    let s = joined (on_calls c.args.places.now c.args.wides.now c.args.bases.now a)
    c.args.core in
    via _ _ work store _ (c.leave.ensures a)
    (leaves s c.args.next _ refl c.requires.0 c.requires.1 o n rom work store)
