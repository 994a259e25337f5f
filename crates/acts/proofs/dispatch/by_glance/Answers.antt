use Rattle.acts.proofs.Acting.{unread_turn, misplaced_turn}
use Rattle.acts.specs.Joints.Acts.{every_on}
use Rattle.state.specs.Joints.Apart.{joined}
use Rattle.std.proofs.Common.{sym, ◌∙◌}
use Rattle.tokens.specs.Laws.Glance.{glance_refused}
use Rattle.acts.proofs.dispatch.by_glance.Goals as goal

pub why_at-requires : goal.why_at-requires
why_at-requires c =
    let x = c.args in
    glance_refused x.rom.now x.core.length x.core.wide _ x.core.place c.glance_at-seen.result (sym c.glance_at-seen.ensures)
    c.if-seen-eq0.true

pub returns-then-seen-eq0 : goal.returns-then-seen-eq0
returns-then-seen-eq0 c =
    let pre = c.requires in
    let x = c.args in
    rw (c.refuse.ensures, c.why_at.ensures) (
      λ a w. unread_turn x.rom.now x.work.now x.store.now
          (joined (every_on x.cells.now x.places.now x.wides.now x.bases.now x.names.now x.kinds.now
          x.values.now x.ways.now x.parents.now x.owners.now x.titles.now x.sizes.now a) x.core)
          c.glance_at-seen.result (sym c.glance_at-seen.ensures)
          c.if-seen-eq0.true,
      pre.4,
    )

pub returns-then-out_of_place : goal.returns-then-out_of_place
returns-then-out_of_place c =
    let pre = c.requires in
    let x = c.args in
    rw c.refuse-then-out_of_place.ensures (
      λ a w. misplaced_turn x.rom.now x.work.now x.store.now
          (joined (every_on x.cells.now x.places.now x.wides.now x.bases.now x.names.now x.kinds.now
          x.values.now x.ways.now x.parents.now x.owners.now x.titles.now x.sizes.now a) x.core)
          c.glance_at-seen.result
          (sym c.glance_at-seen.ensures)
          (sym c.out_of_place.ensures ∙ c.if-out_of_place.true),
      pre.4,
    )

pub act-requires : goal.act-requires
act-requires c =
    let p = c.requires in (
      p.0,
      (
        sym c.glance_at-seen.ensures,
        c.if-seen-eq0.false,
        sym
            c.out_of_place.ensures ∙ c.if-out_of_place.false,
      ),
      p.1,
      p.2,
      p.3,
      p.4,
    )
