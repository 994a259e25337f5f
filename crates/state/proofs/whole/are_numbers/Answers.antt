use Rattle.std.proofs.Common.{rules, le-leb}
use borrow.Author.Tests.{tests}
use Rattle.state.specs.Whole.{entry_whole, numbers_whole}
use Rattle.state.proofs.Wholes.{every_told}
use Rattle.state.proofs.whole.are_numbers.Goals as goal

pub returns-then-numbers-le-NUMBERS_MOST : goal.returns-then-numbers-le-NUMBERS_MOST
unfolding numbers_whole
returns-then-numbers-le-NUMBERS_MOST c =
    let a = c.args in
    rw (le-leb _ _ c.if-numbers-le-NUMBERS_MOST.true)
    (every_told _ (entry_whole a.length a.numbers.now) _ _ c.all.result c.all.ensures.ran (λ i b p k. search (rules, tests)))
