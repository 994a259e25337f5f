use Rattle.acts.proofs.Defining.{constant_left}
use Rattle.state.specs.Joints.Apart.{on_stack}
use Rattle.acts.proofs.define.define_new.Goals as goal

pub returns-in-183 : goal.returns-in-183
returns-in-183 c =
    let args = c.args in
    (λ a n store. rw c.in-183.is (c.colon.ensures.0 (on_stack args.cells.now a) _ n store), c.colon.ensures.1)

pub returns-in-185 : goal.returns-in-185
returns-in-185 c =
    let args = c.args in
    (λ a n store. rw c.in-185.is (c.variable.ensures.0 (on_stack args.cells.now a) _ n store), c.variable.ensures.1)

pub returns-in_default : goal.returns-in_default
returns-in_default c =
    let args = c.args in
    let pre = c.requires in (
      λ a n store. rw (constant_left args.kind pre.5 c.in_default.in_default-own.rest) (c.constant-in_default.ensures.0 a n _ _ store),
      c.constant-in_default.ensures.1,
    )
