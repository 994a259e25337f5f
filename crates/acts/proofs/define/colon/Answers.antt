use Rattle.std.proofs.Common.{◌+◌, ◌≤◌, refl, ap, rules}
use Rattle.acts.proofs.Backs.{no_arrays}
use Rattle.acts.proofs.Defining.{colon_stops_told, colon_told, colon_end}
use Rattle.state.specs.Joints.Apart.{joined, on_numbers}
use Rattle.state.specs.Joints.Moves.{stepped}
use Rattle.state.specs.State.{moved_to}
use Rattle.state.specs.Answer.{Going}
use Rattle.state.specs.declared.state.State.{State}
use Rattle.tokens.specs.Body.{body_in}
use Rattle.acts.proofs.define.colon.Goals as goal

pub overflow_add-behind : goal.overflow_add-behind
overflow_add-behind c =
    let a = no_arrays in
    let b : c.in-Ok.at + 1 ≤ c.args.core.length =
    colon_end c.args.rom.now
    (joined (on_numbers c.args.names.now
    c.args.kinds.now
    c.args.values.now
    c.args.ways.now a)
    c.args.core) c.args.number
    c.args.next c.requires.0
    c.requires.1 c.args.known.now
    (body_in c.read_body.result)
    (c.requires.2.0
    c.args.values.now
    c.args.ways.now).1 c.read_body.ensures _
    c.requires.3 (ap body_in c.in-Ok.is) in search rules

pub returns-in-Ok : goal.returns-in-Ok
returns-in-Ok c =
    let args = c.args in
    let pre = c.requires in
    rw c.go.ensures (
      λ a. colon_told args.rom.now
          (joined (on_numbers args.names.now args.kinds.now args.values.now args.ways.now a) args.core) args.number
          args.next pre.0 pre.1 args.known.now (body_in c.read_body.result) (pre.2.0 args.values.now args.ways.now).1
          c.read_body.ensures _ _ (ap body_in c.in-Ok.is)
          (ap (λ (x : State). stepped Going (moved_to x (c.in-Ok.at + 1))) (c.defined-k.ensures.0 a)),
      c.defined-k.ensures.1,
    )

pub returns-in-Err : goal.returns-in-Err
returns-in-Err c =
    let args = c.args in
    let pre = c.requires in
    rw c.stop.ensures (
      λ a. colon_stops_told args.rom.now
          (joined (on_numbers args.names.now args.kinds.now args.values.now args.ways.now a) args.core) args.number
          args.next pre.0 pre.1 args.known.now (body_in c.read_body.result) (pre.2.0 args.values.now args.ways.now).1
          c.read_body.ensures _ _ _ (ap body_in c.in-Err.is) refl,
      pre.2.0,
    )
