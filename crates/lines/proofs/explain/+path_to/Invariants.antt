use Rattle.lines.proofs.explain.+path_to.Given as goal

-- how deep the node may lie: its parent may lie one less
abbrev pub decreases-path_to : goal.decreases-path_to
decreases-path_to l = l.deep
