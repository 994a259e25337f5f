use Rattle.std.proofs.Common.{◌≡◌, length, take}
use Rattle.tree.specs.Rows.{column_from}
use Rattle.rom.specs.Sizes.{nodes_most}
use Rattle.tree.proofs.rows.node_table.Given as goal

-- the rows that are written are the columns' first
abbrev pub invariant-loop-k : goal.invariant-loop-k
invariant-loop-k l =
    (length l.parents ≡ nodes_most) × (length l.counts ≡ nodes_most)
    × (take l.k l.parents ≡ column_from (λ r. r.parent) l.tree l.k 0)
    × (take l.k l.counts ≡ column_from (λ r. r.count) l.tree l.k 0)
