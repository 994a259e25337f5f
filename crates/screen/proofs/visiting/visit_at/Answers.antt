use Rattle.std.proofs.Common.{refl, sym, ap, ◌∙◌}
use Rattle.screen.specs.Laws.Found.Model.{Visit}
use Rattle.screen.specs.Laws.Code.Visit.{tally_in, quick_seen}
use Rattle.screen.proofs.visiting.visit_at.Goals as goal

pub returns-then-quick-ne0 : goal.returns-then-quick-ne0
returns-then-quick-ne0 c =
    let a = c.args in
    let s =
    quick_seen a.rom.now a.text a.kinds.now a.sums.now a.place a.cell (tally_in a.tally) c.quick_at-quick.result
    (c.quick_at-quick.ensures.2 c.if-quick-ne0.true) in
    let t = c.takes_of-takes.ensures in
    let v = rw t at c.plain.ensures in
    let y = rw t at c.raised_in.ensures in
    record { visit = v ∙ s.visit; tally = λ g. y ∙ s.tally (ap (λ (w : Visit). w.good) (sym v) ∙ g) }

pub returns : goal.returns
returns c =
    let a = c.args in
    let g = sym c.glance_from-glance.ensures in
    let v = c.visit_seen.ensures a.rom.now a.place g in
    record {
      visit = v;
      tally = λ i.
          let good = ap (λ (w : Visit). w.good) (sym v) ∙ i in
          c.told.ensures a.rom.now a.text a.kinds.now a.place refl g good;
    }
