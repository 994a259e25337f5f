use Rattle.tokens.specs.Laws.Name.{name_unpacked}
use Rattle.lines.specs.Laws.Wrote.{wrote_then}
use Rattle.lines.proofs.pieces.name.Goals as goal

pub returns : goal.returns
returns c =
    let args = c.args in
    rw (← name_unpacked args.number, ← c.name_front.ensures, ← c.name_rest.ensures)
    (wrote_then c.letters-at.ensures c.letters.ensures)
