use Rattle.std.proofs.Common.{◌+◌, ◌*◌, ◌<◌, [], sym, refl, ◌∙◌, arith, lt-ltb}
use Rattle.acts.proofs.Acting.{unread_turn, misplaced_turn}
use Rattle.acts.proofs.Coming.{plain_comes, glance_early, seen_early, seen_call, cut_early}
use Rattle.acts.specs.Joints.Acts.{code_for, every_on}
use Rattle.rom.specs.Bytes.{byte_of}
use Rattle.state.specs.Joints.Apart.{joined}
use Rattle.tokens.specs.Code.{code_of}
use Rattle.tokens.specs.Family.{fetch, store, leave, call}
use Rattle.tokens.specs.Joints.Glance.{seen_as, nothing_seen}
use Rattle.tokens.specs.Laws.Glance.{glance_refused}
use Rattle.tokens.specs.Laws.GlanceForms.{past_end}
use Rattle.tokens.specs.Place.{misplaced_of}
use Rattle.tokens.specs.Table.{ends, lows, highs, doubles, table, row_of}
use Rattle.tokens.specs.declared.decoding.Operand.TheVariants.{Nothing}
use Rattle.acts.proofs.dispatch.cold_token.Goals as goal

pub why_at-requires : goal.why_at-requires
why_at-requires c =
    let x = c.args in
    glance_refused x.rom.now x.core.length x.core.wide _ x.core.place nothing_seen
    (sym (past_end x.rom.now x.core.length x.core.wide x.core.place c.if-core-place.true)) refl

pub why_at-requires-then-core-place-2 : goal.why_at-requires-then-core-place-2
why_at-requires-then-core-place-2 c =
    let x = c.args in
    let h = c.in-8-to-15.if-first-lt8-own.false in
    let i = c.in-8-to-15.if-first-lt16-own.true in
    glance_refused x.rom.now x.core.length x.core.wide _ x.core.place nothing_seen
    (cut_early x.rom.now x.core c.byte-first.result c.byte-first.ensures h (omega arith) c.if-core-place-2.true) refl

pub returns-then-core-place : goal.returns-then-core-place
returns-then-core-place c =
    let pre = c.requires in
    let x = c.args in
    rw (c.refuse.ensures, c.why_at.ensures) (
      λ a w. unread_turn x.rom.now x.work.now x.store.now
          (joined (every_on x.cells.now x.places.now x.wides.now x.bases.now x.names.now x.kinds.now
          x.values.now x.ways.now x.parents.now x.owners.now x.titles.now x.sizes.now a) x.core)
          nothing_seen (sym (past_end x.rom.now x.core.length x.core.wide x.core.place c.if-core-place.true))
          refl,
      pre.4,
    )

pub returns-then-core-eq0 : goal.returns-then-core-eq0
unfolding code_of misplaced_of row_of table ends lows highs doubles
returns-then-core-eq0 c =
    let pre = c.requires in
    let x = c.args in
    let e = sym (sym c.byte-first.ensures ∙ c.in-194.is) in
    rw c.refuse-then-core-eq0.ensures (
      λ a w. misplaced_turn x.rom.now x.work.now x.store.now
          (joined (every_on x.cells.now x.places.now x.wides.now x.bases.now x.names.now x.kinds.now
          x.values.now x.ways.now x.parents.now x.owners.now x.titles.now x.sizes.now a) x.core)
          (seen_as (code_for leave) 0xC2 (x.core.place + 1) 0 0) (glance_early x.rom.now x.core 0xC2 e leave
          c.if-core-place.false refl refl (λ z. omega arith) refl)
          (rw c.if-core-eq0.true),
      pre.4,
    )

pub returns-then-core-place-2 : goal.returns-then-core-place-2
returns-then-core-place-2 c =
    let p = c.requires in
    let y = c.args in
    let x = y in
    let h = c.in-8-to-15.if-first-lt8-own.false in
    let i = c.in-8-to-15.if-first-lt16-own.true in
    rw (c.refuse-then-core-place-2.ensures, c.why_at-then-core-place-2.ensures) (
      λ a w. unread_turn x.rom.now x.work.now x.store.now
          (joined (every_on x.cells.now x.places.now x.wides.now x.bases.now x.names.now x.kinds.now
          x.values.now x.ways.now x.parents.now x.owners.now x.titles.now x.sizes.now a) x.core)
          nothing_seen (cut_early x.rom.now x.core c.byte-first.result
          c.byte-first.ensures h (omega arith) c.if-core-place-2.true) refl,
      p.4,
    )

pub enter-requires : goal.enter-requires
enter-requires c =
    let p = c.requires in
    (p.0.0, p.0.1, (p.4.0 [] []).0)

pub returns-in-109 : goal.returns-in-109
unfolding code_of misplaced_of row_of table ends lows highs doubles
returns-in-109 c =
    let p = c.requires in
    let y = c.args in
    let x = y in
    let e = sym (sym c.byte-first.ensures ∙ c.in-109.is) in
    rw c.with_tail.ensures (plain_comes x.rom.now x.core (seen_as (code_for fetch) 0x6D (x.core.place + 1) 0 0)
    (seen_early x.rom.now x.core 0x6D e fetch c.if-core-place.false refl refl
    (λ z. omega arith) refl refl) fetch refl (λ a. every_on x.cells.now x.places.now x.wides.now x.bases.now
    x.names.now x.kinds.now x.values.now x.ways.now x.parents.now x.owners.now x.titles.now
    x.sizes.now a) _ x.work.now x.work.now c.fetch_from.result (tt, tt, tt, tt, refl)
    (λ a m. c.fetch_from.ensures (every_on x.cells.now x.places.now x.wides.now x.bases.now
    x.names.now x.kinds.now x.values.now x.ways.now x.parents.now x.owners.now x.titles.now
    x.sizes.now a) Nothing m) x.slots.now x.known.now x.names.now x.kinds.now x.store.now
    x.titles.now x.sizes.now x.tail p.4)

pub returns-in-113 : goal.returns-in-113
unfolding code_of misplaced_of row_of table ends lows highs doubles
returns-in-113 c =
    let p = c.requires in
    let y = c.args in
    let x = y in
    let e = sym (sym c.byte-first.ensures ∙ c.in-113.is) in
    rw c.with_tail-in-113.ensures (plain_comes x.rom.now x.core (seen_as (code_for fetch) 0x71 (x.core.place + 1) 0 0)
    (seen_early x.rom.now x.core 0x71 e fetch c.if-core-place.false refl refl
    (λ z. omega arith) refl refl) fetch refl (λ a. every_on x.cells.now x.places.now x.wides.now x.bases.now
    x.names.now x.kinds.now x.values.now x.ways.now x.parents.now x.owners.now x.titles.now
    x.sizes.now a) _ x.work.now x.work.now c.fetch_from-in-113.result (tt, tt, tt, tt, refl)
    (λ a m. c.fetch_from-in-113.ensures (every_on x.cells.now x.places.now x.wides.now x.bases.now
    x.names.now x.kinds.now x.values.now x.ways.now x.parents.now x.owners.now x.titles.now
    x.sizes.now a) Nothing m) x.slots.now x.known.now x.names.now x.kinds.now x.store.now
    x.titles.now x.sizes.now x.tail p.4)

pub returns-in-114 : goal.returns-in-114
unfolding code_of misplaced_of row_of table ends lows highs doubles
returns-in-114 c =
    let p = c.requires in
    let y = c.args in
    let x = y in
    let e = sym (sym c.byte-first.ensures
    ∙ c.in-114.is) in
    rw c.with_tail-in-114.ensures (plain_comes x.rom.now x.core (seen_as (code_for store) 0x72 (x.core.place + 1) 0 0)
    (seen_early x.rom.now x.core 0x72 e store c.if-core-place.false
    refl refl (λ z. omega arith) refl refl) store refl (λ a. every_on x.cells.now x.places.now x.wides.now
    x.bases.now x.names.now x.kinds.now x.values.now x.ways.now x.parents.now x.owners.now
    x.titles.now x.sizes.now a) (λ a. every_on x.cells.now x.places.now x.wides.now x.bases.now
    x.names.now x.kinds.now x.values.now x.ways.now x.parents.now x.owners.now x.titles.now
    x.sizes.now a) x.work.now _ c.store_to.result (tt, tt, tt, tt, refl)
    (λ a m. c.store_to.ensures (every_on x.cells.now x.places.now x.wides.now
    x.bases.now x.names.now x.kinds.now x.values.now x.ways.now x.parents.now x.owners.now
    x.titles.now x.sizes.now a) Nothing x.rom.now m) x.slots.now x.known.now x.names.now
    x.kinds.now x.store.now x.titles.now x.sizes.now x.tail p.4)

pub returns-in-117 : goal.returns-in-117
unfolding code_of misplaced_of row_of table ends lows highs doubles
returns-in-117 c =
    let p = c.requires in
    let y = c.args in
    let x = y in
    let e = sym (sym c.byte-first.ensures
    ∙ c.in-117.is) in
    rw c.with_tail-in-117.ensures (plain_comes x.rom.now x.core (seen_as (code_for store) 0x75 (x.core.place + 1) 0 0)
    (seen_early x.rom.now x.core 0x75 e store c.if-core-place.false
    refl refl (λ z. omega arith) refl refl) store refl (λ a. every_on x.cells.now x.places.now x.wides.now
    x.bases.now x.names.now x.kinds.now x.values.now x.ways.now x.parents.now x.owners.now
    x.titles.now x.sizes.now a) (λ a. every_on x.cells.now x.places.now x.wides.now x.bases.now
    x.names.now x.kinds.now x.values.now x.ways.now x.parents.now x.owners.now x.titles.now
    x.sizes.now a) x.work.now _ c.store_to-in-117.result (tt, tt, tt, tt, refl)
    (λ a m. c.store_to-in-117.ensures (every_on x.cells.now x.places.now x.wides.now
    x.bases.now x.names.now x.kinds.now x.values.now x.ways.now x.parents.now x.owners.now
    x.titles.now x.sizes.now a) Nothing x.rom.now m) x.slots.now x.known.now x.names.now
    x.kinds.now x.store.now x.titles.now x.sizes.now x.tail p.4)

pub returns-else-core-eq0 : goal.returns-else-core-eq0
unfolding code_of misplaced_of row_of table ends lows highs doubles
returns-else-core-eq0 c =
    let p = c.requires in
    let y = c.args in
    let x = y in
    let e = sym (sym c.byte-first.ensures
    ∙ c.in-194.is) in
    let n = c.if-core-eq0.false in
    rw c.with_tail-in-194.ensures (plain_comes x.rom.now x.core (seen_as (code_for leave) 0xC2 (x.core.place + 1) 0 0)
    (seen_early x.rom.now x.core 0xC2 e leave c.if-core-place.false refl refl (λ z. omega arith) refl
    (rw (lt-ltb 0 x.core.frames (omega arith)))) leave refl
    (λ a. every_on x.cells.now x.places.now x.wides.now x.bases.now x.names.now x.kinds.now
    x.values.now x.ways.now x.parents.now x.owners.now x.titles.now x.sizes.now a)
    (λ a. every_on x.cells.now x.places.now x.wides.now x.bases.now x.names.now x.kinds.now
    x.values.now x.ways.now x.parents.now x.owners.now x.titles.now x.sizes.now a) x.work.now
    x.work.now c.leave_body.result (tt, tt, tt, tt, refl)
    (λ a m. c.leave_body.ensures (every_on x.cells.now x.places.now x.wides.now x.bases.now
    x.names.now x.kinds.now x.values.now x.ways.now x.parents.now x.owners.now x.titles.now
    x.sizes.now a) Nothing 0xC2 x.rom.now x.work.now m) x.slots.now x.known.now x.names.now
    x.kinds.now x.store.now x.titles.now x.sizes.now x.tail p.4)

pub returns-else-core-place-2 : goal.returns-else-core-place-2
returns-else-core-place-2 c =
    let p = c.requires in
    let y = c.args in
    let x = y in
    let h = c.in-8-to-15.if-first-lt8-own.false in
    let i = c.in-8-to-15.if-first-lt16-own.true
    in
    let l = c.if-core-place-2.false in
    let s : byte_of x.rom.now (x.core.place + 1) < 256 = rw (← c.byte.ensures) c.byte.type_inv in
    rw c.with_tail-in-8-to-15.ensures (plain_comes x.rom.now x.core (seen_as (code_for call)
    (c.from.result * 256 + c.from-in-8-to-15.result) (x.core.place + 2) 0 0) (seen_call x.rom.now x.core
    c.byte-first.result c.byte-first.ensures (c.from.result * 256 + c.from-in-8-to-15.result) h (omega arith) s
    (rw (c.from.ensures, c.from-in-8-to-15.ensures, c.byte.ensures)) l) call refl
    (λ a. every_on x.cells.now x.places.now x.wides.now x.bases.now
    x.names.now x.kinds.now x.values.now x.ways.now x.parents.now x.owners.now x.titles.now
    x.sizes.now a) _ x.work.now x.work.now c.enter.result (tt, tt, tt, tt, refl)
    (λ a m. c.enter.ensures (every_on x.cells.now x.places.now x.wides.now x.bases.now x.names.now
    x.kinds.now x.values.now x.ways.now x.parents.now x.owners.now x.titles.now x.sizes.now a)
    Nothing x.rom.now x.work.now m) x.slots.now x.known.now x.names.now x.kinds.now x.store.now
    x.titles.now x.sizes.now x.tail p.4)
