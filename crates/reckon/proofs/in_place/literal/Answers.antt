use Rattle.reckon.proofs.Arms.{literal_high, literal_fine}
use Rattle.reckon.proofs.Made.{literal_cut}
use Rattle.std.proofs.Common.{rules}
use Rattle.reckon.proofs.in_place.literal.Goals as goal

pub returns-then-length-place : goal.returns-then-length-place
returns-then-length-place c =
    let a = c.args in
    rw c.refuse.ensures (literal_cut a.rom.now a.length a.h a.b a.place a.stack.now c.requires.0 c.requires.1
    (search rules))

pub returns-then-h-ge-DATA_MOST : goal.returns-then-h-ge-DATA_MOST
returns-then-h-ge-DATA_MOST c =
    let a = c.args in
    rw c.refuse-then-h-ge-DATA_MOST.ensures (literal_high a.rom.now a.length a.h a.b a.place a.stack.now c.requires.0 c.requires.1
    (search rules) (search rules))

pub returns : goal.returns
returns c =
    let a = c.args in
    rw (c.on.ensures, c.word_at.ensures)
    (literal_fine a.rom.now a.length a.h a.b a.place a.stack.now c.requires.0 c.requires.1 (search rules)
    (search rules))
