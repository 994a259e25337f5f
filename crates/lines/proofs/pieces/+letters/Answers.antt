use Rattle.std.proofs.Common.{◌≡◌, rules}
use Rattle.tokens.specs.Laws.Name.{unpacked_none, unpacked_more}
use Rattle.lines.specs.Laws.Wrote.{wrote_none, wrote_then}
use Rattle.lines.proofs.pieces.+letters.Goals as goal

pub returns-then-packed-eq0 : goal.returns-then-packed-eq0
returns-then-packed-eq0 t c =
    let e : c.args.packed ≡ 0 = search rules in
    rw (e, unpacked_none 8) wrote_none

pub returns : goal.returns
returns t c = rw (unpacked_more c.args.packed (search rules) (search rules)) (wrote_then c.letters-at.ensures c.letter.ensures)
