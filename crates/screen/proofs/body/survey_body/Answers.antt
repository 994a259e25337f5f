use Rattle.std.proofs.Common.{arith, sym, ◌∙◌}
use Rattle.screen.specs.Laws.Found.Model.{body_text}
use Rattle.screen.specs.Laws.Code.Body.{survey_unmarked, survey_lost, survey_judged, survey_unfit}
use Rattle.screen.specs.Laws.Code.Keep.{marked_bounded, walked_kept, walked_low}
use Rattle.screen.specs.Laws.Found.Cell.{entry_cell_lem}
use Rattle.screen.proofs.body.survey_body.Goals as goal

pub returns-in_err-end : goal.returns-in_err-end
returns-in_err-end c =
    let a = c.args in
    rw c.from_residual.ensures
    (survey_unmarked a.rom.now a.length a.seen.now a.kinds.now a.sums.now a.stand a.entry c.mark_starts.new.seen c.in_err-end.ensures)

pub walk_from-requires : goal.walk_from-requires
walk_from-requires c =
    let p = c.requires in
    let t = p.1 in
    let l = c.mark_starts.auto.seen in (
      p.0,
      rw c.body-text.ensures (record
          { tables = record { room = omega arith; few = omega arith; wide = omega arith }; some = p.2; unlike = λ z. omega arith }),
    )

pub returns-in_err-walk : goal.returns-in_err-walk
returns-in_err-walk c =
    let a = c.args in
    let l = rw entry_cell_lem at (rw c.body-text.ensures at c.in_err-walk.ensures) in
    rw c.from_residual-in_err-walk.ensures
    (survey_lost a.rom.now a.length a.seen.now a.kinds.now a.sums.now a.stand a.entry c.walk_from.new.seen _ _ c.in_ok-end.ensures.same l)

pub passes-requires : goal.passes-requires
passes-requires c =
    let a = c.args in
    let t = c.requires.1 in
    let p = c.requires.3 in
    let x = body_text a.length a.stand.wide a.entry in
    let k = rw c.body-text.ensures at c.in_ok-walk.ensures in
    walked_low a.rom.now a.kinds.now x a.sums.now _ a.entry _ _ _ (omega arith) (omega arith) (omega arith) k

pub returns-then-not-passes : goal.returns-then-not-passes
returns-then-not-passes c =
    let a = c.args in
    let k = rw entry_cell_lem at (rw c.body-text.ensures at c.in_ok-walk.ensures) in
    survey_unfit a.rom.now a.length a.seen.now a.kinds.now a.sums.now a.stand a.entry _ _ _ c.in_ok-end.ensures.same _ k
    (sym c.passes.ensures ∙ c.if-not-passes.true)

pub returns : goal.returns
returns c =
    let a = c.args in
    let t = c.requires.1 in
    let p = c.requires.3 in
    let x = body_text a.length a.stand.wide a.entry in
    let s = c.in_ok-end.ensures in
    let w = rw c.body-text.ensures at c.in_ok-walk.ensures in
    let k = rw entry_cell_lem at w in
    let low = walked_low a.rom.now a.kinds.now x a.sums.now _ a.entry _ _ _ (omega arith) (omega arith) (omega arith) w in
    survey_judged a.rom.now a.length a.seen.now a.kinds.now a.sums.now a.stand a.entry _ _ _ s.same _ k low s.inside
    (λ b h e.
    let m = marked_bounded b h a.rom.now a.kinds.now a.length a.stand.wide a.entry a.seen.now _ _ _ s.same e in
    (walked_kept b h a.rom.now a.kinds.now x a.sums.now _ a.entry _ _ _ (omega arith) (omega arith) (omega arith) w m).seen)
    (sym c.passes.ensures ∙ c.if-not-passes.false)
