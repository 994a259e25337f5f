use Rattle.std.proofs.Common.{◌+◌, ◌∙◌, get_or, rules}
use Rattle.reckon.proofs.Deep.{turns, turned, turn_starts}
use Rattle.reckon.proofs.reckon.turn.Goals as goal

pub loop-i-init : goal.loop-i-init
loop-i-init c = turn_starts c.args.stack.now c.args.start c.args.count

pub loop-i-preserved : goal.loop-i-preserved
loop-i-preserved c =
    let s = c.args in
    turns c.loop-i.stack c.loop-i.i (s.start + s.count) (get_or s.stack.now s.start 0) c.loop-i-test.true ∙ c.loop-i.invariant

pub returns : goal.returns
returns c =
    let s = c.args in
    turned c.loop-i.stack c.loop-i.i (s.start + s.count) (get_or s.stack.now s.start 0) (search rules) ∙ c.loop-i.invariant
