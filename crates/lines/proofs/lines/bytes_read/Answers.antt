use Rattle.rom.specs.Words.{letters_of}
use Rattle.lines.specs.Laws.Texts.{read_none, read_some}
use Rattle.lines.specs.Laws.Wrote.{wrote_none, wrote_then}
use Rattle.lines.proofs.lines.bytes_read.Goals as goal

pub returns-then-value-eq0 : goal.returns-then-value-eq0
unfolding letters_of
returns-then-value-eq0 c =
    let args = c.args in
    rw (read_none args.value.now c.if-value-eq0.true) wrote_none

pub returns : goal.returns
unfolding letters_of
returns c =
    let args = c.args in
    rw (read_some args.value.now c.if-value-eq0.false) (wrote_then c.say-at.ensures c.shown.ensures)
