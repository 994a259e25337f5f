use Rattle.std.proofs.Common.{sym, ap, ◌∙◌, refl, false}
use Rattle.cells.specs.Laws.Facts.{not_off}
use Rattle.rom.specs.Refusal.{numbered}
use Rattle.screen.specs.Laws.Code.Round.{defining, behind_refused, behind_ends}
use Rattle.screen.proofs.rounds.next_round.Goals as goal

pub returns-then-not-fixes : goal.returns-then-not-fixes
returns-then-not-fixes c =
    let a = c.args in
    let r = sym c.read_at.ensures ∙ ap numbered c.in-Ok.is in
    let f = sym c.fixes.ensures ∙ not_off c.fixes.result c.if-not-fixes.true-raw in
    (λ go. behind_ends a.rom.now a.length a.seen.now a.kinds.now a.sums.now a.stand a.far _ r f go, refl)

pub advance-requires : goal.advance-requires
advance-requires c =
    let a = c.args in
    let p = c.requires in
    let r = sym c.read_at.ensures ∙ ap numbered c.in-Ok.is in
    (p.0, p.1, defining a.rom.now a.length a.stand.wide false a.far _ r, p.2, p.3)

pub returns-in-Err : goal.returns-in-Err
returns-in-Err c =
    let a = c.args in
    λ go. behind_refused a.rom.now a.length a.seen.now a.kinds.now a.sums.now a.stand a.far _
    (sym c.read_at.ensures ∙ ap numbered c.in-Err.is) go
