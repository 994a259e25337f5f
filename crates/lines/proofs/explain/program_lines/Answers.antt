use Rattle.std.proofs.Common.{arith, lt-ltb, le-ltb}
use Rattle.lines.specs.Explain.{program_lines}
use Rattle.lines.specs.Laws.Tally.{tally_lies}
use Rattle.lines.specs.Laws.Tokens.{end_inside}
use Rattle.lines.specs.Laws.Wrote.{wrote_none}
use Rattle.lines.proofs.explain.program_lines.Goals as goal

pub returns-then-fcode-gt-ROM_MOST : goal.returns-then-fcode-gt-ROM_MOST
unfolding program_lines
returns-then-fcode-gt-ROM_MOST c = rw (lt-ltb _ _ c.if-fcode-gt-ROM_MOST.true) wrote_none

pub tally_lines-requires : goal.tally_lines-requires
unfolding program_lines
tally_lines-requires c =
    let args = c.args in
    let l = tally_lies args.fcode.now in
    let e = end_inside args.fcode.now in
    rw c.tally_of.ensures (l.0, omega (arith, l.1))

pub returns : goal.returns
unfolding program_lines
returns c = rw (le-ltb _ _ c.if-fcode-gt-ROM_MOST.false, ← c.tally_of.ensures) c.tally_lines.ensures
