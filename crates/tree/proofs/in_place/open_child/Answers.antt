use Rattle.std.proofs.Common.{le-leb}
use borrow.Author.Tests.{lt-leb}
use Rattle.rom.specs.Sizes.{nodes_most}
use Rattle.tree.proofs.in_place.open_child.Goals as goal

pub returns-then-nodes-ge-NODES_MOST : goal.returns-then-nodes-ge-NODES_MOST
returns-then-nodes-ge-NODES_MOST c = λ t. rw (le-leb nodes_most c.args.nodes c.if-nodes-ge-NODES_MOST.true)

pub returns : goal.returns
returns c = λ t. rw (lt-leb nodes_most c.args.nodes c.if-nodes-ge-NODES_MOST.false)
