use Rattle.std.proofs.Common.{lt-ltb, le-ltb}
use Rattle.lines.specs.Explain.{header_lines}
use Rattle.rom.specs.Words.{letters_of}
use Rattle.lines.specs.Laws.Wrote.{wrote_none, wrote_then}
use Rattle.lines.proofs.explain.header_lines.Goals as goal

pub returns-then-size-gt-ROM_MOST : goal.returns-then-size-gt-ROM_MOST
unfolding header_lines letters_of
returns-then-size-gt-ROM_MOST c = rw (lt-ltb _ _ c.if-size-gt-ROM_MOST.true) (wrote_then c.say-at.ensures c.letter.ensures)

pub returns-then-fcode-lt-ROM_LEAST : goal.returns-then-fcode-lt-ROM_LEAST
unfolding header_lines letters_of
returns-then-fcode-lt-ROM_LEAST c = rw (le-ltb _ _ c.if-size-gt-ROM_MOST.false, lt-ltb _ _ c.if-fcode-lt-ROM_LEAST.true)
    (wrote_then c.size_line-at.ensures wrote_none)

pub returns : goal.returns
unfolding header_lines letters_of
returns c = rw (le-ltb _ _ c.if-size-gt-ROM_MOST.false, le-ltb _ _ c.if-fcode-lt-ROM_LEAST.false)
    (wrote_then c.size_line-at.ensures c.field_lines.ensures)
