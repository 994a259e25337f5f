use Rattle.std.proofs.Common.{rules, le-leb}
use borrow.Author.Tests.{tests}
use Rattle.state.specs.Whole.{frame_whole, calls_whole}
use Rattle.state.proofs.Wholes.{every_told}
use Rattle.state.proofs.whole.are_frames.Goals as goal

pub returns-then-calls-le-FRAMES_MOST : goal.returns-then-calls-le-FRAMES_MOST
unfolding calls_whole
returns-then-calls-le-FRAMES_MOST c =
    let a = c.args in
    rw (le-leb _ _ c.if-calls-le-FRAMES_MOST.true)
    (every_told _ (frame_whole a.length a.calls.now a.returns) _ _ c.all.result c.all.ensures.ran (λ i b p k. search (rules, tests)))
