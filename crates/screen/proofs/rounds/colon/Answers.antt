use Rattle.screen.specs.Laws.Code.Keep.{bounded_more}
use Rattle.screen.specs.Laws.Code.Round.{turn_colon}
use Rattle.std.proofs.Common.{arith}
use Rattle.screen.proofs.rounds.colon.Goals as goal

pub places-requires : goal.places-requires
places-requires c =
    let t = c.requires.1 in
    let i = c.in_ok-end.ensures.inside in
    omega arith

pub shift-requires : goal.shift-requires
shift-requires c =
    let p = c.requires in
    let t = p.1 in
    let n = p.3 in
    let v = c.in_ok-end.ensures in
    let i = v.inside in
    let f = v.fits in
    let q = c.places.ensures in
    let l = c.survey_body.auto.seen in
    (omega arith, omega arith, bounded_more 0x1000_0000 0x4000_0000 _ (omega arith) (v.bounded 0x1000_0000 (omega arith) p.7))

pub enter-requires : goal.enter-requires
enter-requires c =
    let f = c.in_ok-end.ensures.fits in
    (c.requires.4, rw c.sum_of.ensures (omega arith))

pub overflow_add-end : goal.overflow_add-end
overflow_add-end c =
    let t = c.requires.1 in
    let i = c.in_ok-end.ensures.inside in
    omega arith

pub returns : goal.returns
returns c st =
    let a = c.args in
    let p = c.requires in
    let t = p.1 in
    turn_colon a.rom.now a.length a.seen.now a.kinds.now a.sums.now a.stand a.number a.entry
    c.in_ok-end.field-0 _ _ _ _ _ _ st c.in_ok-end.ensures
    (rw c.places.ensures at c.shift.ensures) c.enter.ensures.0 c.enter.ensures.1 c.sum_of.ensures
    c.counted.ensures p.6 (omega arith)
