use Rattle.std.proofs.Common.{◌+◌, ◌≡◌, ◌∙◌, arith, rules}
use Rattle.memory.specs.Writing.{written_of}
use Rattle.memory.proofs.writing.write_cell.Goals as goal

pub returns : goal.returns
unfolding written_of
returns c =
    let k = c.args.at in
    let two : k + 1 + 1 ≡ k + 2 = omega arith in
    let three : k + 2 + 1 ≡ k + 3 = omega arith in
    c.put-4.ensures ∙ rw (c.put-3.ensures, c.put-2.ensures, c.put.ensures, two, three) (search rules)
