use Rattle.lines.proofs.pieces.+letters.Given as goal

-- the number itself: without its last letter it is less
abbrev pub decreases-letters : goal.decreases-letters
decreases-letters l = l.packed
