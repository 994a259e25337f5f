use borrow.Author.Tests.{lt-leb}
use Rattle.std.proofs.Common.{le-leb}
use Rattle.lines.specs.Explain.{end_line}
use Rattle.rom.specs.Words.{letters_of}
use Rattle.lines.specs.Laws.Wrote.{wrote_none, wrote_then}
use Rattle.lines.proofs.explain.end_line.Goals as goal

pub returns-then-place-program_end : goal.returns-then-place-program_end
unfolding end_line letters_of
returns-then-place-program_end c = rw (← c.program_end.ensures, lt-leb _ _ c.if-place-program_end.true) wrote_none

pub returns : goal.returns
unfolding end_line letters_of
returns c = rw (← c.program_end.ensures, le-leb _ _ c.if-place-program_end.false)
    (wrote_then c.place_digits-at.ensures (wrote_then c.say-at.ensures c.letter.ensures))
