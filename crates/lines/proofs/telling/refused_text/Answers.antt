use Rattle.std.proofs.Common.{refl, arith, eq-eqb, ne_eqb}
use Rattle.lines.specs.Told.{refused_told}
use Rattle.lines.specs.Laws.Fits.{refused_fits}
use Rattle.lines.specs.Laws.Texts.{told_whole}
use Rattle.lines.specs.Laws.Wrote.{wrote_whole, length_wrote}
use Rattle.lines.proofs.telling.refused_text.Goals as goal

pub returns-then-text-ne-TEXT_SIZE : goal.returns-then-text-ne-TEXT_SIZE
unfolding refused_told
returns-then-text-ne-TEXT_SIZE c = rw (ne_eqb _ _ c.if-text-ne-TEXT_SIZE.true)

pub bounds-text-end : goal.bounds-text-end
unfolding refused_told
bounds-text-end c =
    let args = c.args in
    let w = c.refused_line-end.ensures in
    let s = c.if-text-ne-TEXT_SIZE.false in
    let f = refused_fits args.number in
    let e = wrote_whole (omega arith) w in
    let l = length_wrote w in
    omega arith

pub returns : goal.returns
unfolding refused_told
returns c =
    let args = c.args in
    let s = c.if-text-ne-TEXT_SIZE.false in
    let f = refused_fits args.number in
    rw (eq-eqb _ _ s) (told_whole (omega arith) c.refused_line-end.ensures refl)
