use Rattle.std.proofs.Common.{◌≡◌, rules, refl, ap, ◌∙◌, arith}
use Rattle.machine.proofs.Turns.{fit, hot_fit, hot_goes, hot_left, hot_refused, turned_to, tree_whole, begun, came, ends_spent, turn_ends}
use Rattle.machine.proofs.Turns.{turn_rooted, turn_goes}
use Rattle.state.specs.Joints.Apart.{arrays, joined, answer_of}
use Rattle.state.specs.Laws.Keeps.Whole.{ready_facts}
use Rattle.state.specs.Scene.{scene}
use Rattle.state.specs.Answer.{Finished, Refused}
use Rattle.tree.specs.Laws.InPlace.{tallied_first}
use Rattle.reckon.specs.Joints.Turned.{fared_in, turned_in}
use Rattle.machine.proofs.running.cruise.Goals as goal

pub fill_tables-requires : goal.fill_tables-requires
fill_tables-requires c =
    let pre = c.requires in
    let x = c.args in (
      (fit (scene x.rom.now x.work.now x.store.now
          (joined (arrays x.cells.now x.back.now x.places.now x.wides.now x.bases.now x.names.now
          x.kinds.now x.values.now x.ways.now x.parents.now x.owners.now x.titles.now x.sizes.now)
          x.start)) pre.0).1,
      refl,
      refl,
    )

pub tail_of-tail-requires : goal.tail_of-tail-requires
tail_of-tail-requires c =
    let pre = c.requires in
    let x = c.args in
    (tallied_first
    (scene x.rom.now x.work.now x.store.now
    (joined (arrays x.cells.now x.back.now x.places.now x.wides.now x.bases.now x.names.now
    x.kinds.now x.values.now x.ways.now x.parents.now x.owners.now x.titles.now x.sizes.now)
    x.start)).state.tree x.store.now pre.1.tree
    (tree_whole (scene x.rom.now x.work.now x.store.now
    (joined (arrays x.cells.now x.back.now x.places.now x.wides.now x.bases.now x.names.now
    x.kinds.now x.values.now x.ways.now x.parents.now x.owners.now x.titles.now x.sizes.now)
    x.start)) pre.0)
    (ready_facts (scene x.rom.now x.work.now x.store.now
    (joined (arrays x.cells.now x.back.now x.places.now x.wides.now x.bases.now x.names.now
    x.kinds.now x.values.now x.ways.now x.parents.now x.owners.now x.titles.now x.sizes.now)
    x.start)) pre.0).0.store).3

pub loop-n-init : goal.loop-n-init
loop-n-init c =
    let pre = c.requires in
    let x = c.args in (
      (search rules, refl, refl),
      begun x.budget
          (scene x.rom.now x.work.now x.store.now
          (joined (arrays x.cells.now x.back.now x.places.now x.wides.now x.bases.now x.names.now
          x.kinds.now x.values.now x.ways.now x.parents.now x.owners.now x.titles.now x.sizes.now)
          x.start)) pre.0 pre.1,
      (
        c.fill_tables.ensures,
        rw c.tail_of-tail.ensures
            (tallied_first
            (scene x.rom.now x.work.now x.store.now
            (joined (arrays x.cells.now x.back.now x.places.now x.wides.now x.bases.now x.names.now
            x.kinds.now x.values.now x.ways.now x.parents.now x.owners.now x.titles.now x.sizes.now)
            x.start)).state.tree x.store.now pre.1.tree
            (tree_whole (scene x.rom.now x.work.now x.store.now
            (joined (arrays x.cells.now x.back.now x.places.now x.wides.now x.bases.now x.names.now
            x.kinds.now x.values.now x.ways.now x.parents.now x.owners.now x.titles.now x.sizes.now)
            x.start)) pre.0)
            (ready_facts (scene x.rom.now x.work.now x.store.now
            (joined (arrays x.cells.now x.back.now x.places.now x.wides.now x.bases.now x.names.now
            x.kinds.now x.values.now x.ways.now x.parents.now x.owners.now x.titles.now x.sizes.now)
            x.start)) pre.0).0.store),
      ),
    )

pub fast-t-requires : goal.fast-t-requires
fast-t-requires c =
    let x = c.args in
    hot_fit (scene x.rom.now c.loop-n.work c.loop-n.store
    (joined (arrays c.loop-n.cells c.loop-n.back c.loop-n.places c.loop-n.wides c.loop-n.bases c.loop-n.names c.loop-n.kinds c.loop-n.values
    c.loop-n.ways c.loop-n.parents
    c.loop-n.owners c.loop-n.titles c.loop-n.sizes) c.loop-n.core)) c.loop-n.invariant.1.0

pub overflow_add-n : goal.overflow_add-n
overflow_add-n c =
    let fits = c.ranges in
    let lt = c.loop-n-test.true in let most = fits.budget in omega arith

pub loop-n-preserved-in-On : goal.loop-n-preserved-in-On
unfolding turned_in
loop-n-preserved-in-On c =
    let lt = c.loop-n-test.true in (
      (omega arith, c.loop-n.invariant.0.1, c.loop-n.invariant.0.2),
      (let x = c.args in
          hot_goes x.budget c.loop-n.n _ (scene x.rom.now c.loop-n.work c.loop-n.store
          (joined (arrays c.loop-n.cells c.loop-n.back c.loop-n.places c.loop-n.wides c.loop-n.bases c.loop-n.names c.loop-n.kinds
          c.loop-n.values c.loop-n.ways c.loop-n.parents
          c.loop-n.owners c.loop-n.titles c.loop-n.sizes) c.loop-n.core)) c.loop-n.invariant.1 c.loop-n-test.true
          (turned_in c.fast-t.result) _ _
          c.fast-t.ensures
          (ap fared_in c.in-On.is)),
      c.loop-n.invariant.2,
    )

pub shape_of-work-in-Not : goal.shape_of-work-in-Not
shape_of-work-in-Not c = c.loop-n.invariant.0.1

pub shape_of-store-in-Not : goal.shape_of-store-in-Not
shape_of-store-in-Not c = c.loop-n.invariant.0.2

pub returns-in-Not : goal.returns-in-Not
unfolding turned_in
returns-in-Not c =
    let x = c.args in
    rw c.halted.ensures (hot_refused x.budget c.loop-n.n _
    (scene x.rom.now c.loop-n.work c.loop-n.store
    (joined (arrays c.loop-n.cells c.loop-n.back c.loop-n.places c.loop-n.wides c.loop-n.bases c.loop-n.names c.loop-n.kinds c.loop-n.values
    c.loop-n.ways c.loop-n.parents
    c.loop-n.owners c.loop-n.titles c.loop-n.sizes) c.loop-n.core)) c.loop-n.invariant.1 c.loop-n-test.true (turned_in c.fast-t.result) _ _
    c.fast-t.ensures _ (ap fared_in c.in-Not.is))

pub cold_token-r-requires : goal.cold_token-r-requires
unfolding turned_in
cold_token-r-requires c =
    let x = c.args in
    let h = hot_left x.budget c.loop-n.n _ (scene x.rom.now c.loop-n.work c.loop-n.store
    (joined (arrays c.loop-n.cells c.loop-n.back c.loop-n.places c.loop-n.wides c.loop-n.bases c.loop-n.names c.loop-n.kinds c.loop-n.values
    c.loop-n.ways c.loop-n.parents
    c.loop-n.owners c.loop-n.titles c.loop-n.sizes) c.loop-n.core)) c.loop-n.invariant.1
    c.loop-n-test.true (turned_in c.fast-t.result) _ _ c.fast-t.ensures
    (ap fared_in c.in-Cold.is) in
    let i = h.0 in
    (fit _ i.0, h.1, i.1.numbers.programs, i.1.numbers.kinds, c.loop-n.invariant.2)

pub shape_of-work-then-core-eq0 : goal.shape_of-work-then-core-eq0
shape_of-work-then-core-eq0 c = c.cold_token-r.auto.work ∙ c.loop-n.invariant.0.1

pub shape_of-store-then-core-eq0 : goal.shape_of-store-then-core-eq0
shape_of-store-then-core-eq0 c = c.cold_token-r.auto.store ∙ c.loop-n.invariant.0.2

pub returns-then-core-eq0 : goal.returns-then-core-eq0
unfolding turned_in
returns-then-core-eq0 c =
    let x = c.args in
    let h = hot_left x.budget c.loop-n.n _ (scene x.rom.now c.loop-n.work c.loop-n.store
    (joined (arrays c.loop-n.cells c.loop-n.back c.loop-n.places c.loop-n.wides c.loop-n.bases c.loop-n.names c.loop-n.kinds c.loop-n.values
    c.loop-n.ways c.loop-n.parents
    c.loop-n.owners c.loop-n.titles c.loop-n.sizes) c.loop-n.core)) c.loop-n.invariant.1 c.loop-n-test.true (turned_in c.fast-t.result) _ _
    c.fast-t.ensures (ap fared_in c.in-Cold.is)
    in let i = h.0 in
    rw c.halted-then-core-eq0.ensures (turn_rooted _ _ _ _ i c.loop-n-test.true _
    (came _ (turned_to c.loop-n.core (turned_in c.fast-t.result)) _ _ _ _ _ _ _ _ _ _ _ _ _ _ _ _
    i.0 c.cold_token-r.ensures.0 refl refl refl refl refl
    refl refl
    refl refl refl refl refl refl) (ap answer_of c.in-On-told.is) c.if-core-eq0.true)

pub loop-n-preserved : goal.loop-n-preserved
unfolding turned_in
loop-n-preserved c =
    let lt = c.loop-n-test.true in (
      (omega arith, c.cold_token-r.auto.work ∙ c.loop-n.invariant.0.1, c.cold_token-r.auto.store ∙ c.loop-n.invariant.0.2),
      (let x = c.args in
          let h = hot_left x.budget c.loop-n.n _ (scene x.rom.now c.loop-n.work c.loop-n.store
          (joined (arrays c.loop-n.cells c.loop-n.back c.loop-n.places c.loop-n.wides c.loop-n.bases c.loop-n.names c.loop-n.kinds
          c.loop-n.values c.loop-n.ways c.loop-n.parents
          c.loop-n.owners c.loop-n.titles c.loop-n.sizes) c.loop-n.core)) c.loop-n.invariant.1 c.loop-n-test.true
          (turned_in c.fast-t.result) _ _
          c.fast-t.ensures
          (ap fared_in c.in-Cold.is) in let i = h.0 in
          turn_goes _ _ _ _ i c.loop-n-test.true _
          (came _ (turned_to c.loop-n.core (turned_in c.fast-t.result)) _ _ _ _ _ _ _ _ _ _ _ _ _ _ _ _
          i.0 c.cold_token-r.ensures.0 refl refl refl refl
          refl refl
          refl refl refl refl refl refl refl) (ap answer_of c.in-On-told.is) c.if-core-eq0.false),
      c.cold_token-r.ensures.1,
    )

pub overflow_add-n-in-Over : goal.overflow_add-n-in-Over
overflow_add-n-in-Over c =
    let fits = c.ranges in
    let lt = c.loop-n-test.true in let most = fits.budget in omega arith

pub shape_of-work-in-Over : goal.shape_of-work-in-Over
shape_of-work-in-Over c = c.cold_token-r.auto.work ∙ c.loop-n.invariant.0.1

pub shape_of-store-in-Over : goal.shape_of-store-in-Over
shape_of-store-in-Over c = c.cold_token-r.auto.store ∙ c.loop-n.invariant.0.2

pub returns-in-Over : goal.returns-in-Over
unfolding turned_in
returns-in-Over c =
    let x = c.args in
    let h = hot_left x.budget c.loop-n.n _ (scene x.rom.now c.loop-n.work c.loop-n.store
    (joined (arrays c.loop-n.cells c.loop-n.back c.loop-n.places c.loop-n.wides c.loop-n.bases c.loop-n.names c.loop-n.kinds c.loop-n.values
    c.loop-n.ways c.loop-n.parents
    c.loop-n.owners c.loop-n.titles c.loop-n.sizes) c.loop-n.core)) c.loop-n.invariant.1 c.loop-n-test.true (turned_in c.fast-t.result) _ _
    c.fast-t.ensures (ap fared_in c.in-Cold.is)
    in let i = h.0 in
    rw c.halted-in-Over.ensures (turn_ends _ _ _ _ i c.loop-n-test.true _
    (came _ (turned_to c.loop-n.core (turned_in c.fast-t.result)) _ _ _ _ _ _ _ _ _ _ _ _ _ _ _ _
    i.0 c.cold_token-r.ensures.0 refl refl refl refl refl
    refl refl
    refl refl refl refl refl refl) Finished (ap answer_of c.in-Over.is))

pub shape_of-work-in-Not-told : goal.shape_of-work-in-Not-told
shape_of-work-in-Not-told c = c.cold_token-r.auto.work ∙ c.loop-n.invariant.0.1

pub shape_of-store-in-Not-told : goal.shape_of-store-in-Not-told
shape_of-store-in-Not-told c = c.cold_token-r.auto.store ∙ c.loop-n.invariant.0.2

pub returns-in-Not-told : goal.returns-in-Not-told
unfolding turned_in
returns-in-Not-told c =
    let x = c.args in
    let h = hot_left x.budget c.loop-n.n _ (scene x.rom.now c.loop-n.work c.loop-n.store
    (joined (arrays c.loop-n.cells c.loop-n.back c.loop-n.places c.loop-n.wides c.loop-n.bases c.loop-n.names c.loop-n.kinds c.loop-n.values
    c.loop-n.ways c.loop-n.parents
    c.loop-n.owners c.loop-n.titles c.loop-n.sizes) c.loop-n.core)) c.loop-n.invariant.1 c.loop-n-test.true (turned_in c.fast-t.result) _ _
    c.fast-t.ensures (ap fared_in c.in-Cold.is)
    in let i = h.0 in
    rw c.halted-in-Not-told.ensures (turn_ends _ _ _ _ i c.loop-n-test.true _
    (came _ (turned_to c.loop-n.core (turned_in c.fast-t.result)) _ _ _ _ _ _ _ _ _ _ _ _ _ _ _ _
    i.0 c.cold_token-r.ensures.0 refl refl refl refl refl
    refl refl
    refl refl refl refl refl refl) (Refused _) (ap answer_of c.in-Not-told.is))

pub shape_of-work : goal.shape_of-work
shape_of-work c = c.loop-n.invariant.0.1

pub shape_of-store : goal.shape_of-store
shape_of-store c = c.loop-n.invariant.0.2

pub returns : goal.returns
returns c =
    let end : c.loop-n.n ≡ c.args.budget = let most = c.loop-n.invariant.0.0 in let least = c.loop-n-test.false in omega arith in
    rw c.halted-2.ensures (rw end at (ends_spent _ _ _ _ c.loop-n.invariant.1 c.loop-n-test.false))
