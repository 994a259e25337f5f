use Rattle.std.proofs.Common.{◌∙◌, arith}
use Rattle.cells.specs.Laws.Facts.{not_on, not_off}
use Rattle.screen.specs.Laws.Found.Model.{board}
use Rattle.screen.specs.Laws.Code.Round.{new_few, new_so, define_old, define_colon, turn_value}
use Rattle.screen.proofs.rounds.define.Goals as goal

pub returns-then-not-is_new : goal.returns-then-not-is_new
returns-then-not-is_new c st e =
    let a = c.args in
    let b = board a.seen.now a.kinds.now a.sums.now st in
    let g = not_off c.is_new.result c.if-not-is_new.true-raw in
    define_old a.rom.now a.length b a.stand a.token _ _ c.new_number-number.ensures c.kind_in-kind.ensures _ _ e
    c.is_new.ensures g

pub colon-requires : goal.colon-requires
colon-requires c =
    let a = c.args in
    let p = c.requires in
    let g = not_on c.is_new.result c.if-not-is_new.false-raw in (
      p.0,
      p.1,
      p.2.ahead,
      p.2.next,
      rw c.new_number-number.ensures p.2.number,
      new_few _ a.kinds.now c.new_number-number.result a.stand.count c.is_new.ensures g,
      p.3,
      p.4,
    )

pub returns-then-kind-eq183 : goal.returns-then-kind-eq183
returns-then-kind-eq183 c st e =
    let a = c.args in
    let b = board a.seen.now a.kinds.now a.sums.now st in
    let n = c.new_number-number.ensures in
    let k = c.kind_in-kind.ensures in
    let g = not_on c.is_new.result c.if-not-is_new.false-raw in
    let h = new_so a.rom.now a.length b a.stand a.token _ _ n k _ _ e c.is_new.ensures ∙ g in
    rw (define_colon a.rom.now a.length b a.stand a.token _ _ n k h c.if-kind-eq183.true) (c.colon.ensures st)

pub overflow_cast-kind : goal.overflow_cast-kind
overflow_cast-kind c =
    let p = c.requires.2.kind in
    let e = c.kind_in-kind.ensures in
    omega arith

pub enter-requires : goal.enter-requires
enter-requires c = (rw c.new_number-number.ensures c.requires.2.number, rw c.value_sum.ensures (omega arith))

pub counted-requires : goal.counted-requires
counted-requires c =
    let a = c.args in
    let g = not_on c.is_new.result c.if-not-is_new.false-raw in
    new_few _ a.kinds.now c.new_number-number.result a.stand.count c.is_new.ensures g

pub returns : goal.returns
returns c st e =
    let a = c.args in
    let p = c.requires in
    let t = p.1 in
    let b = board a.seen.now a.kinds.now a.sums.now st in
    let n = c.new_number-number.ensures in
    let k = c.kind_in-kind.ensures in
    let g = not_on c.is_new.result c.if-not-is_new.false-raw in
    let h = new_so a.rom.now a.length b a.stand a.token _ _ n k _ _ e c.is_new.ensures ∙ g in
    let v = rw c.value_sum.ensures at c.enter.ensures.1 in
    turn_value a.rom.now a.length a.seen.now a.kinds.now a.sums.now st a.stand a.token
    c.new_number-number.result c.kind_in-kind.result _ _ _
    n k h c.if-kind-eq183.false c.enter.ensures.0 v c.counted.ensures p.3 p.2 (omega arith)
