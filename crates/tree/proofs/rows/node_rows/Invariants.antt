use Rattle.std.proofs.Common.{◌≡◌, length, take}
use Rattle.tree.specs.Rows.{rows_from}
use Rattle.rom.specs.Sizes.{nodes_most}
use Rattle.tree.proofs.rows.node_rows.Given as goal

-- the rows that are written are the table's first
abbrev pub invariant-loop-k : goal.invariant-loop-k
invariant-loop-k l = (length l.rows ≡ nodes_most) × (take l.k l.rows ≡ rows_from l.tree l.k 0)
