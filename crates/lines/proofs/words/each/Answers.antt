use Rattle.std.proofs.Common.{◌+◌, get_or, drop, rules}
use Rattle.lines.specs.Fields.{each_as}
use Rattle.lines.specs.Laws.Fields.{each_more, each_none}
use Rattle.lines.specs.Laws.Wrote.{ahead_all, ahead_on, ahead_none}
use Rattle.lines.proofs.words.each.Goals as goal

pub loop-byte-init : goal.loop-byte-init
loop-byte-init g c = ahead_all

pub loop-byte-preserved : goal.loop-byte-preserved
loop-byte-preserved g c =
    let bytes = c.args.bytes.now in
    let k = c.loop-byte.byte-index in
    ahead_on (g.words (get_or bytes k 0)) (each_as g.words (drop (k + 1) bytes))
    (rw (each_more g.words bytes k (search rules)) at c.loop-byte.invariant)
    (c.requires.1.1 _ _ _ _ _ c.write-end.ensures)

pub returns : goal.returns
returns g c = ahead_none (rw (each_none g.words c.args.bytes.now c.loop-byte.byte-index (search rules)) at c.loop-byte.invariant)
