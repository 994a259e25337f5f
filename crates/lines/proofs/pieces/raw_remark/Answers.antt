use Rattle.std.proofs.Common.{◌<◌, ◌≤◌, lt-ltb, le-ltb}
use Rattle.rom.specs.Words.{letters_of}
use Rattle.tokens.specs.Reader.{end_of}
use Rattle.lines.specs.Laws.Wrote.{wrote_none}
use Rattle.lines.proofs.pieces.raw_remark.Goals as goal

pub returns-then-next-program_end : goal.returns-then-next-program_end
unfolding letters_of
returns-then-next-program_end c =
    let args = c.args in
    let before : args.next < end_of args.fcode.now = rw (← c.program_end.ensures) c.if-next-program_end.true in
    rw (lt-ltb _ _ before) c.say.ensures

pub returns : goal.returns
unfolding letters_of
returns c =
    let args = c.args in
    let past : end_of args.fcode.now ≤ args.next = rw (← c.program_end.ensures) c.if-next-program_end.false in
    rw (le-ltb _ _ past) wrote_none
