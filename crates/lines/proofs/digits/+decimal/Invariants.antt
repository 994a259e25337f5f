use Rattle.lines.proofs.digits.+decimal.Given as goal

-- the number itself: a tenth of it is less
abbrev pub decreases-decimal : goal.decreases-decimal
decreases-decimal l = l.n
