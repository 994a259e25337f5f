use Rattle.acts.proofs.Pops.{paired}
use Rattle.state.specs.Joints.Apart.{on_stack, joined}
use Rattle.acts.proofs.flow.pair.Goals as goal

pub returns : goal.returns
returns c =
    let args = c.args in
    let pre = c.requires in
    λ a. paired (joined (on_stack args.cells.now a) args.core) _ _ _ _ _ (pre) (c.push-one.ensures a) (c.push.ensures a)
