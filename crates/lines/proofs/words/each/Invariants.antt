use Rattle.std.proofs.Common.{drop}
use Rattle.lines.specs.Fields.{each_as}
use Rattle.lines.specs.Laws.Wrote.{Ahead}
use Rattle.lines.proofs.words.each.Given as goal

abbrev pub invariant-loop-byte : goal.invariant-loop-byte
invariant-loop-byte g l = Ahead l.initial.text l.at (each_as g.words l.bytes) l.text l.end (each_as g.words (drop l.byte-index l.bytes))
