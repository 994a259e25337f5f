use Rattle.std.proofs.Common.{add-zero, rules}
use Rattle.tree.specs.Whole.{every_below}
use Rattle.tree.proofs.property.same_eight.Goals as goal

pub bounds-a-k : goal.bounds-a-k
unfolding every_below
bounds-a-k c = search rules

pub bounds-b-k : goal.bounds-b-k
unfolding every_below
bounds-b-k c = search rules

pub overflow_add-result : goal.overflow_add-result
unfolding every_below
overflow_add-result c = search rules

pub bounds-a-k-2 : goal.bounds-a-k-2
unfolding every_below
bounds-a-k-2 c = search rules

pub overflow_add-result-2 : goal.overflow_add-result-2
unfolding every_below
overflow_add-result-2 c = search rules

pub bounds-b-k-2 : goal.bounds-b-k-2
unfolding every_below
bounds-b-k-2 c = search rules

pub overflow_add-result-3 : goal.overflow_add-result-3
unfolding every_below
overflow_add-result-3 c = search rules

pub bounds-a-k-3 : goal.bounds-a-k-3
unfolding every_below
bounds-a-k-3 c = search rules

pub overflow_add-result-4 : goal.overflow_add-result-4
unfolding every_below
overflow_add-result-4 c = search rules

pub bounds-b-k-3 : goal.bounds-b-k-3
unfolding every_below
bounds-b-k-3 c = search rules

pub overflow_add-result-5 : goal.overflow_add-result-5
unfolding every_below
overflow_add-result-5 c = search rules

pub bounds-a-k-4 : goal.bounds-a-k-4
unfolding every_below
bounds-a-k-4 c = search rules

pub overflow_add-result-6 : goal.overflow_add-result-6
unfolding every_below
overflow_add-result-6 c = search rules

pub bounds-b-k-4 : goal.bounds-b-k-4
unfolding every_below
bounds-b-k-4 c = search rules

pub overflow_add-result-7 : goal.overflow_add-result-7
unfolding every_below
overflow_add-result-7 c = search rules

pub bounds-a-k-5 : goal.bounds-a-k-5
unfolding every_below
bounds-a-k-5 c = search rules

pub overflow_add-result-8 : goal.overflow_add-result-8
unfolding every_below
overflow_add-result-8 c = search rules

pub bounds-b-k-5 : goal.bounds-b-k-5
unfolding every_below
bounds-b-k-5 c = search rules

pub overflow_add-result-9 : goal.overflow_add-result-9
unfolding every_below
overflow_add-result-9 c = search rules

pub bounds-a-k-6 : goal.bounds-a-k-6
unfolding every_below
bounds-a-k-6 c = search rules

pub overflow_add-result-10 : goal.overflow_add-result-10
unfolding every_below
overflow_add-result-10 c = search rules

pub bounds-b-k-6 : goal.bounds-b-k-6
unfolding every_below
bounds-b-k-6 c = search rules

pub overflow_add-result-11 : goal.overflow_add-result-11
unfolding every_below
overflow_add-result-11 c = search rules

pub bounds-a-k-7 : goal.bounds-a-k-7
unfolding every_below
bounds-a-k-7 c = search rules

pub overflow_add-result-12 : goal.overflow_add-result-12
unfolding every_below
overflow_add-result-12 c = search rules

pub bounds-b-k-7 : goal.bounds-b-k-7
unfolding every_below
bounds-b-k-7 c = search rules

pub overflow_add-result-13 : goal.overflow_add-result-13
unfolding every_below
overflow_add-result-13 c = search rules

pub bounds-a-k-8 : goal.bounds-a-k-8
unfolding every_below
bounds-a-k-8 c = search rules

pub overflow_add-result-14 : goal.overflow_add-result-14
unfolding every_below
overflow_add-result-14 c = search rules

pub bounds-b-k-8 : goal.bounds-b-k-8
unfolding every_below
bounds-b-k-8 c = search rules

pub returns : goal.returns
unfolding every_below
returns c = rw (add-zero _)
