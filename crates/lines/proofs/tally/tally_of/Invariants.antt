use Rattle.std.proofs.Common.{◌-◌, ◌≤◌, ◌≡◌}
use Rattle.tokens.specs.Reader.{end_of}
use Rattle.tokens.specs.Laws.Reader.{walk_at}
use Rattle.lines.specs.Tally.{tally_from, tally_of}
use Rattle.lines.proofs.tally.tally_of.Given as goal

-- no more pieces than bytes, and the rest of the walk comes to what the whole comes to
abbrev pub invariant-loop-place : goal.invariant-loop-place
invariant-loop-place l = (l.so.pieces ≤ l.place) × (l.so.raws ≤ l.place)
    × (tally_from l.so (walk_at l.fcode l.wide l.place) ≡ tally_of l.fcode)

abbrev pub decreases-loop-place : goal.decreases-loop-place
decreases-loop-place l = end_of l.fcode - l.place
