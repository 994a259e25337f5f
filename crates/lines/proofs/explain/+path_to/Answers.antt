use Rattle.rom.specs.Words.{letters_of}
use Rattle.lines.specs.Laws.Explain.{path_none, path_root, path_more}
use Rattle.lines.specs.Laws.Wrote.{wrote_none, wrote_then}
use Rattle.lines.proofs.explain.+path_to.Goals as goal

pub returns-then-deep-eq0 : goal.returns-then-deep-eq0
unfolding letters_of
returns-then-deep-eq0 t c =
    let a = c.args in
    rw (path_none a.tree a.store.now a.deep a.node c.if-deep-eq0.true) wrote_none

pub returns-then-node-eq0 : goal.returns-then-node-eq0
unfolding letters_of
returns-then-node-eq0 t c =
    let a = c.args in
    rw (path_root a.tree a.store.now a.deep a.node c.if-node-eq0.true) wrote_none

pub returns : goal.returns
unfolding letters_of
returns t c =
    let a = c.args in
    rw (path_more a.tree a.store.now a.deep a.node c.if-deep-eq0.false c.if-node-eq0.false, ← c.parent_of.ensures)
    (wrote_then c.path_to-at.ensures (wrote_then c.letter-at.ensures c.title.ensures))
