use Rattle.std.proofs.Common.{◌≡◌, ◌≤◌, min, length, ap, ◌∙◌, arith, rules}
use Rattle.rom.specs.Spread.{view_of}
use Rattle.rom.specs.Laws.Spread.{view_fewer}
use Rattle.rom.proofs.Totals.{sum_none, sum_some}
use Rattle.rom.proofs.Spreads.{sum_apart, sum_ready}
use Rattle.rom.specs.declared.spread.Spread.TheVariants.{Two, Four}
use Rattle.rom.proofs.sum.body_sum.Goals as goal

pub returns-then-end-start : goal.returns-then-end-start
returns-then-end-start c =
    let a = c.args in
    sum_none (view_of a.spread a.rom.now) a.length c.min-end.result
    (c.min-end.ensures ∙ ap (λ n. min a.length n) c.fcode_count.ensures) (search rules)

pub slice_bounds-byte_sum-end : goal.slice_bounds-byte_sum-end
slice_bounds-byte_sum-end c =
    let a = c.args in
    let v = view_fewer a.spread a.rom.now in
    let h : c.min-end.result ≤ length a.rom.now = omega
    (arith, c.min-end.ensures, c.fcode_count.ensures) in
    search rules

pub apart_sum-requires : goal.apart_sum-requires
apart_sum-requires c =
    let a = c.args in
    sum_ready a.spread a.rom.now Two a.length _ _ c.in-Two.is
    c.fcode_count.ensures c.min-end.ensures
    (search rules)

pub apart_sum-requires-in-Four : goal.apart_sum-requires-in-Four
apart_sum-requires-in-Four c =
    let a = c.args in
    sum_ready a.spread a.rom.now Four a.length _ _ c.in-Four.is
    c.fcode_count.ensures c.min-end.ensures
    (search rules)

pub returns-in-One : goal.returns-in-One
returns-in-One c =
    let a = c.args in
    let e : c.min-end.result ≡ min a.length (length a.rom.now) =
    rw c.in-One.is at (c.min-end.ensures
    ∙ ap (λ n. min a.length n) c.fcode_count.ensures) in
    rw c.in-One.is (c.byte_sum.ensures
    ∙ sum_some a.rom.now a.length c.min-end.result e)

pub returns-in-Two : goal.returns-in-Two
returns-in-Two c =
    let a = c.args in
    c.apart_sum.ensures
    ∙ sum_apart a.spread a.rom.now Two a.length _ _ c.in-Two.is
    c.fcode_count.ensures
    c.min-end.ensures (search rules)

pub returns-in-Four : goal.returns-in-Four
returns-in-Four c =
    let a = c.args in
    c.apart_sum-in-Four.ensures
    ∙ sum_apart a.spread a.rom.now Four a.length _ _ c.in-Four.is
    c.fcode_count.ensures
    c.min-end.ensures (search rules)
