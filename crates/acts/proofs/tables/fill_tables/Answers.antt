use Rattle.std.proofs.Common.{◌≡◌, ℕ, ◌+◌, refl, ◌∙◌, subst, arith}
use Rattle.state.specs.Numbers.{numbers_on, kind_at}
use Rattle.state.specs.Laws.Seeking.{table_none, table_down, kinds_all}
use Rattle.acts.proofs.tables.fill_tables.Invariants.{Past}
use Rattle.acts.proofs.tables.fill_tables.Goals as goal

pub loop-i-init : goal.loop-i-init
loop-i-init c =
    λ v w. (
      c.requires.1 ∙ table_none (λ j. j + 1)
          (numbers_on c.args.names.now c.args.kinds.now v w c.args.held),
      c.requires.2
          ∙ table_none (kind_at (numbers_on c.args.names.now c.args.kinds.now v w c.args.held))
          (numbers_on c.args.names.now c.args.kinds.now v w c.args.held),
    )

pub loop-i-preserved : goal.loop-i-preserved
loop-i-preserved c =
    let args = c.args in
    let l = c.loop-i-test.true in
    λ v w. (
      table_down (λ j. j + 1) (numbers_on args.names.now args.kinds.now v w args.held) c.loop-i.i _ _ c.loop-i.slots _ l c.loop-i.auto.i
          (c.loop-i.invariant v w).0 refl refl c.note.ensures.0,
      table_down (kind_at (numbers_on args.names.now args.kinds.now v w args.held))
          (numbers_on args.names.now args.kinds.now v w args.held) c.loop-i.i _ _ c.loop-i.known _ l c.loop-i.auto.i
          (c.loop-i.invariant v w).1 refl refl c.note.ensures.1,
    )

pub returns : goal.returns
returns c =
    let args = c.args in
    λ v w. let z : c.loop-i.i ≡ 0 = omega arith in
    let p = subst (λ (k : ℕ). Past c.loop-i.slots c.loop-i.known
    (numbers_on args.names.now args.kinds.now v w args.held) k) z (c.loop-i.invariant v w) in
    (p.0, p.1 ∙ kinds_all (numbers_on args.names.now args.kinds.now v w args.held))
