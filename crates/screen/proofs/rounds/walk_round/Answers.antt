use Rattle.screen.specs.Laws.Code.Round.{round_far, round_lost, round_overlaps, round_walked}
use Rattle.std.proofs.Common.{arith}
use Rattle.screen.proofs.rounds.walk_round.Goals as goal

pub walk_from-requires : goal.walk_from-requires
walk_from-requires c =
    let p = c.requires in
    (p.0, rw c.outside-text.ensures (record { tables = p.1; some = p.2.some; unlike = p.2.real }))

pub returns-in_err-walk : goal.returns-in_err-walk
returns-in_err-walk c =
    let a = c.args in
    rw c.from_residual.ensures
    (round_lost a.rom.now a.length a.seen.now a.kinds.now a.sums.now a.stand _ c.outside-text.ensures c.in_err-walk.ensures)

pub apart-requires : goal.apart-requires
apart-requires c =
    let a = c.args in
    let p = c.requires in
    let t = p.1 in
    let f = round_far a.rom.now a.length a.seen.now a.kinds.now a.sums.now a.stand _ c.outside-text.ensures _ _
    c.in_ok-walk.ensures (omega arith) p.2.start 0x1000_0000 (omega arith) p.3 p.4 in
    (p.0, omega arith)

pub returns-then-not-apart : goal.returns-then-not-apart
returns-then-not-apart c =
    let a = c.args in
    let p = c.requires in
    let t = p.1 in
    round_overlaps a.rom.now a.length a.seen.now a.kinds.now a.sums.now a.stand _ c.outside-text.ensures _ _
    c.in_ok-walk.ensures (omega arith) p.2.start _ c.apart.ensures c.if-not-apart.true

pub returns : goal.returns
returns c =
    let a = c.args in
    let p = c.requires in
    let t = p.1 in
    round_walked a.rom.now a.length a.seen.now a.kinds.now a.sums.now a.stand _ c.outside-text.ensures _ _
    c.in_ok-walk.ensures (omega arith) p.2.start _ c.apart.ensures c.if-not-apart.false
