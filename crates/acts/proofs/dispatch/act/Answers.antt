use Rattle.std.proofs.Common.{ℕ, true, [], sym, refl, ◌∙◌, subst, rules}
use Rattle.acts.proofs.Acting.{plain_turn, text_turn, text_form, assign_turn, define_turn, define_fits, frames_open, none_other}
use Rattle.acts.proofs.Acting.{records_still}
use Rattle.acts.proofs.Backs.{no_arrays}
use Rattle.acts.proofs.Coming.{quiet_comes, plain_comes}
use Rattle.acts.specs.Joints.Acts.{every_on, Tables, cold_families}
use Rattle.cells.specs.Laws.Tests.{Rest}
use Rattle.rom.specs.Bytes.{byte_of}
use Rattle.state.specs.Joints.Apart.{joined}
use Rattle.tokens.specs.Laws.Glance.{glance_ahead, text_fits}
use Rattle.tokens.specs.declared.decoding.Operand.TheVariants.{Nothing}
use Rattle.tree.specs.Joints.Apart.{Tallied}
use Rattle.acts.proofs.dispatch.act.Goals as goal

pub overflow_sub-next : goal.overflow_sub-next
overflow_sub-next c =
    let p = c.requires in
    let x = c.args in
    let f = sym c.family_of-work_of.ensures ∙ c.in-5.is in
    let a = no_arrays in
    let b = text_fits x.rom.now x.core.length x.core.wide _ x.core.place x.seen p.1.0 p.1.1 p.1.2
    (text_form x.rom.now x.work.now x.store.now (joined
    (every_on x.cells.now x.places.now x.wides.now x.bases.now x.names.now x.kinds.now x.values.now
    x.ways.now x.parents.now x.owners.now x.titles.now x.sizes.now a) x.core) x.seen p.1.0
    p.1.1 p.1.2 f) in
    search rules

pub leave_body-requires : goal.leave_body-requires
leave_body-requires c =
    let p = c.requires in
    let x = c.args in
    let f = sym c.family_of-work_of.ensures ∙ c.in-11.is in
    let a = no_arrays in (
      p.0.0,
      frames_open x.rom.now x.work.now x.store.now
          (joined (every_on x.cells.now x.places.now x.wides.now x.bases.now x.names.now x.kinds.now
          x.values.now x.ways.now x.parents.now x.owners.now x.titles.now x.sizes.now a) x.core) x.seen
          p.1.0 p.1.1 p.1.2 f,
    )

pub define_number-requires : goal.define_number-requires
define_number-requires c =
    let p = c.requires in
    let y = c.args in
    let x = y in
    let f = sym c.family_of-work_of.ensures
    ∙ c.in-14.is in
    let a = no_arrays in
    let d = define_fits x.rom.now x.work.now x.store.now
    (joined (every_on x.cells.now x.places.now x.wides.now x.bases.now x.names.now x.kinds.now
    x.values.now x.ways.now x.parents.now x.owners.now x.titles.now x.sizes.now a) x.core) x.seen
    p.1.0 p.1.1 p.1.2 f in (
      p.0.0,
      p.0.1,
      (p.5.0, p.3, p.4),
      p.0.2,
      (glance_ahead x.rom.now x.core.length x.core.wide true
          x.core.place x.seen p.1.0 p.1.1).1,
      d.0,
      d.1,
    )

pub assign_value-requires : goal.assign_value-requires
assign_value-requires c =
    let p = c.requires in
    (p.0.0, p.0.1, (p.5.0 [] []).0)

pub enter-requires : goal.enter-requires
enter-requires c =
    let p = c.requires in
    (p.0.0, p.0.1, (p.5.0 [] []).0)

pub returns-in-2 : goal.returns-in-2
returns-in-2 c =
    let p = c.requires in
    let x = c.args in
    let f = sym c.family_of-work_of.ensures ∙ c.in-2.is in
    rw c.with_tail.ensures (plain_comes x.rom.now x.core x.seen p.1 2 f
    (λ a. every_on x.cells.now x.places.now x.wides.now x.bases.now x.names.now x.kinds.now
    x.values.now x.ways.now x.parents.now x.owners.now x.titles.now x.sizes.now a) _ x.work.now _
    c.end_program.result (tt, tt, tt, tt, refl) (λ a m. c.end_program.ensures
    (every_on x.cells.now x.places.now x.wides.now x.bases.now x.names.now x.kinds.now x.values.now
    x.ways.now x.parents.now x.owners.now x.titles.now x.sizes.now a) Nothing x.seen.number _ _ m)
    x.slots.now x.known.now x.names.now x.kinds.now x.store.now x.titles.now x.sizes.now x.tail
    p.5)

pub returns-in-5 : goal.returns-in-5
returns-in-5 c =
    let p = c.requires in
    let x = c.args in
    let s = p.1 in
    let f = sym c.family_of-work_of.ensures ∙ c.in-5.is in
    rw c.with_tail-in-5.ensures (quiet_comes x.rom.now x.core x.seen s 5 f
    (λ a. every_on x.cells.now x.places.now x.wides.now x.bases.now x.names.now x.kinds.now
    x.values.now x.ways.now x.parents.now x.owners.now x.titles.now x.sizes.now a) _ x.work.now _
    c.quote.result tt tt tt (λ a m. text_turn x.rom.now x.work.now m
    (joined (every_on x.cells.now x.places.now x.wides.now x.bases.now x.names.now x.kinds.now
    x.values.now x.ways.now x.parents.now x.owners.now x.titles.now x.sizes.now a) x.core) x.seen
    s.0 s.1 s.2 f _ (c.quote.ensures (every_on x.cells.now x.places.now x.wides.now x.bases.now
    x.names.now x.kinds.now x.values.now x.ways.now x.parents.now x.owners.now x.titles.now
    x.sizes.now a) x.seen.number _ _ m)) x.slots.now x.known.now x.names.now x.kinds.now
    x.store.now x.titles.now x.sizes.now x.tail p.5)

pub returns-in-6 : goal.returns-in-6
returns-in-6 c =
    let p = c.requires in
    let x = c.args in
    let f = sym c.family_of-work_of.ensures ∙ c.in-6.is in
    rw c.with_tail-in-6.ensures (plain_comes x.rom.now x.core x.seen p.1 6 f
    (λ a. every_on x.cells.now x.places.now x.wides.now x.bases.now x.names.now x.kinds.now
    x.values.now x.ways.now x.parents.now x.owners.now x.titles.now x.sizes.now a) _ x.work.now _
    c.widen_offsets.result (tt, tt, tt, tt, refl) (λ a m. c.widen_offsets.ensures
    (every_on x.cells.now x.places.now x.wides.now x.bases.now x.names.now x.kinds.now x.values.now
    x.ways.now x.parents.now x.owners.now x.titles.now x.sizes.now a) Nothing x.seen.number _ _ m)
    x.slots.now x.known.now x.names.now x.kinds.now x.store.now x.titles.now x.sizes.now x.tail
    p.5)

pub returns-in-11 : goal.returns-in-11
returns-in-11 c =
    let p = c.requires in
    let x = c.args in
    let f = sym c.family_of-work_of.ensures
    ∙ c.in-11.is in
    rw c.with_tail-in-11.ensures (plain_comes x.rom.now x.core x.seen p.1 11 f
    (λ a. every_on x.cells.now x.places.now x.wides.now x.bases.now x.names.now x.kinds.now
    x.values.now x.ways.now x.parents.now x.owners.now x.titles.now x.sizes.now a) _ x.work.now _
    c.leave_body.result (tt, tt, tt, tt, refl) (λ a m. c.leave_body.ensures
    (every_on x.cells.now x.places.now x.wides.now x.bases.now x.names.now x.kinds.now x.values.now
    x.ways.now x.parents.now x.owners.now x.titles.now x.sizes.now a) Nothing x.seen.number _ _ m)
    x.slots.now x.known.now x.names.now x.kinds.now x.store.now x.titles.now x.sizes.now x.tail
    p.5)

pub returns-in-12 : goal.returns-in-12
returns-in-12 c =
    let p = c.requires in
    let x = c.args in
    let f = sym c.family_of-work_of.ensures ∙ c.in-12.is in
    rw c.with_tail-in-12.ensures (plain_comes x.rom.now x.core x.seen p.1 12 f
    (λ a. every_on x.cells.now x.places.now x.wides.now x.bases.now x.names.now x.kinds.now
    x.values.now x.ways.now x.parents.now x.owners.now x.titles.now x.sizes.now a) _ x.work.now _
    c.fetch_from.result (tt, tt, tt, tt, refl) (λ a m. c.fetch_from.ensures
    (every_on x.cells.now x.places.now x.wides.now x.bases.now x.names.now x.kinds.now x.values.now
    x.ways.now x.parents.now x.owners.now x.titles.now x.sizes.now a) Nothing m) x.slots.now
    x.known.now x.names.now x.kinds.now x.store.now x.titles.now x.sizes.now x.tail p.5)

pub returns-in-13 : goal.returns-in-13
returns-in-13 c =
    let p = c.requires in
    let y = c.args in
    let x = y in
    let f = sym c.family_of-work_of.ensures
    ∙ c.in-13.is in
    rw c.with_tail-in-13.ensures (plain_comes x.rom.now x.core x.seen p.1 13 f
    (λ a. every_on x.cells.now x.places.now x.wides.now x.bases.now x.names.now x.kinds.now
    x.values.now x.ways.now x.parents.now x.owners.now x.titles.now x.sizes.now a) _ x.work.now _
    c.store_to.result (tt, tt, tt, tt, refl)
    (λ a m. c.store_to.ensures (every_on x.cells.now x.places.now x.wides.now
    x.bases.now x.names.now x.kinds.now x.values.now x.ways.now x.parents.now x.owners.now
    x.titles.now x.sizes.now a) Nothing _ m) x.slots.now x.known.now x.names.now x.kinds.now
    x.store.now x.titles.now x.sizes.now x.tail p.5)

pub returns-in-14 : goal.returns-in-14
returns-in-14 c =
    let p = c.requires in
    let y = c.args in
    let x = y in
    let f = sym c.family_of-work_of.ensures ∙ c.in-14.is in
    rw c.with_tail-in-14.ensures (
      λ a w. define_turn x.rom.now x.work.now x.store.now
          (joined (every_on x.cells.now x.places.now x.wides.now x.bases.now x.names.now x.kinds.now
          x.values.now x.ways.now x.parents.now x.owners.now x.titles.now x.sizes.now a) x.core) x.seen
          p.1.0 p.1.1 p.1.2 f _ (c.define_number.ensures.0
          (every_on x.cells.now x.places.now x.wides.now x.bases.now x.names.now x.kinds.now x.values.now
          x.ways.now x.parents.now x.owners.now x.titles.now x.sizes.now a)
          (byte_of x.rom.now x.core.place) _),
      let a = no_arrays in let g = records_still x.rom.now x.work.now
          x.store.now (joined (every_on x.cells.now x.places.now x.wides.now x.bases.now x.names.now
          x.kinds.now x.values.now x.ways.now x.parents.now x.owners.now x.titles.now x.sizes.now a)
          x.core) x.seen p.1.0 p.1.1 p.1.2 14 f tt tt _ (define_turn x.rom.now x.work.now x.store.now
          (joined (every_on x.cells.now x.places.now x.wides.now x.bases.now x.names.now x.kinds.now
          x.values.now x.ways.now x.parents.now x.owners.now x.titles.now x.sizes.now a) x.core) x.seen
          p.1.0 p.1.1 p.1.2 f _ (c.define_number.ensures.0
          (every_on x.cells.now x.places.now x.wides.now x.bases.now x.names.now x.kinds.now x.values.now
          x.ways.now x.parents.now x.owners.now x.titles.now x.sizes.now a)
          (byte_of x.rom.now x.core.place) _)) in (
            c.define_number.ensures.1,
            subst
                (λ (n : ℕ). Tallied x.store.now x.titles.now x.sizes.now n x.tail) (sym g) p.5.1,
          ),
    )

pub returns-in-16 : goal.returns-in-16
returns-in-16 c =
    let p = c.requires in
    let y = c.args in
    let x = y in
    let s = p.1 in
    let f = sym c.family_of-work_of.ensures
    ∙ c.in-16.is in
    rw c.with_tail-in-16.ensures (quiet_comes x.rom.now x.core x.seen s 16 f
    (λ a. every_on x.cells.now x.places.now x.wides.now x.bases.now x.names.now x.kinds.now
    x.values.now x.ways.now x.parents.now x.owners.now x.titles.now x.sizes.now a) _ x.work.now _
    c.assign_value.result tt tt tt (λ a m. assign_turn x.rom.now x.work.now m
    (joined (every_on x.cells.now x.places.now x.wides.now x.bases.now x.names.now x.kinds.now
    x.values.now x.ways.now x.parents.now x.owners.now x.titles.now x.sizes.now a) x.core) x.seen
    s.0 s.1 s.2 f _ (c.assign_value.ensures x.ways.now
    (every_on x.cells.now x.places.now x.wides.now x.bases.now x.names.now x.kinds.now x.values.now
    x.ways.now x.parents.now x.owners.now x.titles.now x.sizes.now a)
    (byte_of x.rom.now x.core.place) _ _ m)) x.slots.now x.known.now x.names.now x.kinds.now
    x.store.now x.titles.now x.sizes.now x.tail p.5)

pub returns-in-17 : goal.returns-in-17
returns-in-17 c =
    let p = c.requires in
    let y = c.args in
    let x = y in
    let f = sym c.family_of-work_of.ensures
    ∙ c.in-17.is in
    rw c.with_tail-in-17.ensures (plain_comes x.rom.now x.core x.seen p.1 17 f
    (λ a. every_on x.cells.now x.places.now x.wides.now x.bases.now x.names.now x.kinds.now
    x.values.now x.ways.now x.parents.now x.owners.now x.titles.now x.sizes.now a) _ x.work.now _
    c.enter.result (tt, tt, tt, tt, refl) (λ a m. c.enter.ensures
    (every_on x.cells.now x.places.now x.wides.now x.bases.now x.names.now x.kinds.now x.values.now
    x.ways.now x.parents.now x.owners.now x.titles.now x.sizes.now a) Nothing _ _ m) x.slots.now
    x.known.now x.names.now x.kinds.now x.store.now x.titles.now x.sizes.now x.tail p.5)

pub returns-in-18 : goal.returns-in-18
returns-in-18 c =
    let p = c.requires in
    let y = c.args in
    let x = y in
    let f = sym c.family_of-work_of.ensures
    ∙ c.in-18.is in
    rw c.with_tail-in-18.ensures (plain_comes x.rom.now x.core x.seen p.1 18 f
    (λ a. every_on x.cells.now x.places.now x.wides.now x.bases.now x.names.now x.kinds.now
    x.values.now x.ways.now x.parents.now x.owners.now x.titles.now x.sizes.now a) _ x.work.now _
    c.encode_int.result (tt, tt, tt, tt, refl)
    (λ a m. c.encode_int.ensures (every_on x.cells.now x.places.now x.wides.now
    x.bases.now x.names.now x.kinds.now x.values.now x.ways.now x.parents.now x.owners.now
    x.titles.now x.sizes.now a) x.seen.number Nothing _ m) x.slots.now x.known.now x.names.now
    x.kinds.now x.store.now x.titles.now x.sizes.now x.tail p.5)

pub returns-in-19 : goal.returns-in-19
returns-in-19 c =
    let p = c.requires in
    let y = c.args in
    let x = y in
    let f = sym c.family_of-work_of.ensures
    ∙ c.in-19.is in
    rw c.with_tail-in-19.ensures (plain_comes x.rom.now x.core x.seen p.1 19 f
    (λ a. every_on x.cells.now x.places.now x.wides.now x.bases.now x.names.now x.kinds.now
    x.values.now x.ways.now x.parents.now x.owners.now x.titles.now x.sizes.now a) _ x.work.now _
    c.encode_string.result (tt, tt, tt, tt, refl)
    (λ a m. c.encode_string.ensures (every_on x.cells.now x.places.now x.wides.now
    x.bases.now x.names.now x.kinds.now x.values.now x.ways.now x.parents.now x.owners.now
    x.titles.now x.sizes.now a) x.seen.number Nothing m) x.slots.now x.known.now x.names.now
    x.kinds.now x.store.now x.titles.now x.sizes.now x.tail p.5)

pub returns-in-20 : goal.returns-in-20
returns-in-20 c =
    let p = c.requires in
    let x = c.args in
    let f = sym c.family_of-work_of.ensures ∙ c.in-20.is in
    rw c.with_tail-in-20.ensures (plain_comes x.rom.now x.core x.seen p.1 20 f
    (λ a. every_on x.cells.now x.places.now x.wides.now x.bases.now x.names.now x.kinds.now
    x.values.now x.ways.now x.parents.now x.owners.now x.titles.now x.sizes.now a) _ x.work.now _
    c.join_arrays.result (tt, tt, tt, tt, refl) (λ a m. c.join_arrays.ensures
    (every_on x.cells.now x.places.now x.wides.now x.bases.now x.names.now x.kinds.now x.values.now
    x.ways.now x.parents.now x.owners.now x.titles.now x.sizes.now a) Nothing x.seen.number _ _ m)
    x.slots.now x.known.now x.names.now x.kinds.now x.store.now x.titles.now x.sizes.now x.tail
    p.5)

pub returns-in-21 : goal.returns-in-21
returns-in-21 c =
    let p = c.requires in
    let y = c.args in
    let x = y in
    let f = sym c.family_of-work_of.ensures
    ∙ c.in-21.is in (
      λ a w. plain_turn x.rom.now x.work.now x.store.now (joined
          (every_on x.cells.now x.places.now x.wides.now x.bases.now x.names.now x.kinds.now x.values.now
          x.ways.now x.parents.now x.owners.now x.titles.now x.sizes.now a) x.core) x.seen p.1.0
          p.1.1 p.1.2 21 f tt tt refl _ (c.put_named.ensures.0
          (every_on x.cells.now x.places.now x.wides.now x.bases.now x.names.now x.kinds.now x.values.now
          x.ways.now x.parents.now x.owners.now x.titles.now x.sizes.now a) w x.seen.number Nothing),
      let h =
          c.put_named.ensures.2 in (
            subst (λ (n : ℕ). Tables x.slots.now x.known.now x.names.now
                x.kinds.now n) (sym h) p.5.0,
            c.put_named.ensures.1,
          ),
    )

pub returns-in-22 : goal.returns-in-22
returns-in-22 c =
    let p = c.requires in
    let y = c.args in
    let x = y in
    let f = sym c.family_of-work_of.ensures
    ∙ c.in-22.is in (
      λ a w. plain_turn x.rom.now x.work.now x.store.now (joined
          (every_on x.cells.now x.places.now x.wides.now x.bases.now x.names.now x.kinds.now x.values.now
          x.ways.now x.parents.now x.owners.now x.titles.now x.sizes.now a) x.core) x.seen p.1.0
          p.1.1 p.1.2 22 f tt tt refl _ (c.put_titled.ensures.0
          (every_on x.cells.now x.places.now x.wides.now x.bases.now x.names.now x.kinds.now x.values.now
          x.ways.now x.parents.now x.owners.now x.titles.now x.sizes.now a) w Nothing),
      let h = c.put_titled.ensures.2 in (
        subst (λ (n : ℕ). Tables x.slots.now x.known.now x.names.now x.kinds.now n)
            (sym h) p.5.0,
        c.put_titled.ensures.1,
      ),
    )

pub returns-in-23 : goal.returns-in-23
returns-in-23 c =
    let p = c.requires in
    let x = c.args in
    let f = sym c.family_of-work_of.ensures ∙ c.in-23.is in
    rw c.with_tail-in-23.ensures (plain_comes x.rom.now x.core x.seen p.1 23 f
    (λ a. every_on x.cells.now x.places.now x.wides.now x.bases.now x.names.now x.kinds.now
    x.values.now x.ways.now x.parents.now x.owners.now x.titles.now x.sizes.now a) _ x.work.now _
    c.open_node.result (tt, tt, tt, tt, refl) (λ a m. c.open_node.ensures
    (every_on x.cells.now x.places.now x.wides.now x.bases.now x.names.now x.kinds.now x.values.now
    x.ways.now x.parents.now x.owners.now x.titles.now x.sizes.now a) Nothing x.seen.number _ _ m)
    x.slots.now x.known.now x.names.now x.kinds.now x.store.now x.titles.now x.sizes.now x.tail
    p.5)

pub returns-in-24 : goal.returns-in-24
returns-in-24 c =
    let p = c.requires in
    let x = c.args in
    let f = sym c.family_of-work_of.ensures ∙ c.in-24.is in
    rw c.with_tail-in-24.ensures (plain_comes x.rom.now x.core x.seen p.1 24 f
    (λ a. every_on x.cells.now x.places.now x.wides.now x.bases.now x.names.now x.kinds.now
    x.values.now x.ways.now x.parents.now x.owners.now x.titles.now x.sizes.now a) _ x.work.now _
    c.close_node.result (tt, tt, tt, tt, refl) (λ a m. c.close_node.ensures
    (every_on x.cells.now x.places.now x.wides.now x.bases.now x.names.now x.kinds.now x.values.now
    x.ways.now x.parents.now x.owners.now x.titles.now x.sizes.now a) Nothing x.seen.number _ _ m)
    x.slots.now x.known.now x.names.now x.kinds.now x.store.now x.titles.now x.sizes.now x.tail
    p.5)

pub returns-in_default : goal.returns-in_default
returns-in_default c =
    let p = c.requires in
    let x = c.args in
    absurd (let a = no_arrays in none_other x.rom.now x.work.now x.store.now
    (joined (every_on x.cells.now x.places.now x.wides.now x.bases.now x.names.now x.kinds.now
    x.values.now x.ways.now x.parents.now x.owners.now x.titles.now x.sizes.now a) x.core) x.seen
    p.1.0 p.1.1 p.1.2 p.2 (subst (λ (x : ℕ). Rest (Unit {0}) cold_families x) c.family_of-work_of.ensures
    c.in_default.in_default-own.rest))
