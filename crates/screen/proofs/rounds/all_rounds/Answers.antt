use Rattle.std.proofs.Common.{◌+◌, ◌-◌, ◌<◌, ◌≡◌, refl, ◌∙◌, arith}
use Rattle.rom.specs.Sizes.{rom_most}
use Rattle.screen.specs.Laws.Code.Round.{going_cell, going_seen, round_bounded, going_turn, rounds_spent, rounds_lost, rounds_fails}
use Rattle.screen.specs.Laws.Code.Round.{rounds_end, rounds_goes, rounds_turn, passed_so, passed_fails}
use Rattle.screen.proofs.rounds.all_rounds.Goals as goal

pub loop-init : goal.loop-init
loop-init c =
    let p = c.requires in
    ((refl, refl, refl), refl, record { standing = p.2; few = omega arith; cell = omega arith; low = p.4 })

pub walk_round-requires : goal.walk_round-requires
walk_round-requires c =
    let p = c.requires in
    let t = p.1 in
    let g = c.loop.invariant.2 in
    let s = c.loop.invariant.0.0 in
    let w = c.loop.invariant.0.1 in
    (p.0, record { room = omega arith; few = omega arith; wide = omega arith }, g.standing, going_cell _ _ _ g, going_seen _ _ _ g)

pub shape_of-seen-in_default : goal.shape_of-seen-in_default
shape_of-seen-in_default c = c.walk_round.auto.seen ∙ c.loop.invariant.0.0

pub shape_of-work-in_default : goal.shape_of-work-in_default
shape_of-work-in_default c = c.walk_round.auto.work ∙ c.loop.invariant.0.1

pub shape_of-sums-in_default : goal.shape_of-sums-in_default
shape_of-sums-in_default c = c.loop.invariant.0.2

pub returns-in_default : goal.returns-in_default
returns-in_default c =
    let t = c.loop-test.true in
    passed_fails _ _ _ c.loop.invariant.1 (rounds_lost _ _ _ _ _ _ _ (omega arith) c.in_default.ensures)

pub next_round-requires : goal.next_round-requires
next_round-requires c =
    let p = c.requires in
    let t = p.1 in
    let g = c.loop.invariant.2 in
    let s = c.walk_round.auto.seen ∙ c.loop.invariant.0.0 in
    let w = c.walk_round.auto.work ∙ c.loop.invariant.0.1 in (
      p.0,
      record { room = omega arith; few = omega arith; wide = omega arith },
      g.standing,
      round_bounded _ _ _ _ _ _ _ _ _ g c.in-Some.ensures,
    )

pub shape_of-seen-in-Fails : goal.shape_of-seen-in-Fails
shape_of-seen-in-Fails c = c.next_round.auto.seen ∙ c.walk_round.auto.seen ∙ c.loop.invariant.0.0

pub shape_of-work-in-Fails : goal.shape_of-work-in-Fails
shape_of-work-in-Fails c = c.next_round.auto.work ∙ c.walk_round.auto.work ∙ c.loop.invariant.0.1

pub shape_of-sums-in-Fails : goal.shape_of-sums-in-Fails
shape_of-sums-in-Fails c = c.next_round.auto.sums ∙ c.loop.invariant.0.2

pub returns-in-Fails : goal.returns-in-Fails
returns-in-Fails c =
    let t = c.loop-test.true in
    let y = c.next_round.ensures in
    passed_fails _ _ _ c.loop.invariant.1
    (rounds_fails _ _ _ _ _ _ _ (omega arith) _ _ c.in-Some.ensures _ _ _ _ y c.in-Fails.is)

pub shape_of-seen-in-Ends : goal.shape_of-seen-in-Ends
shape_of-seen-in-Ends c = c.next_round.auto.seen ∙ c.walk_round.auto.seen ∙ c.loop.invariant.0.0

pub shape_of-work-in-Ends : goal.shape_of-work-in-Ends
shape_of-work-in-Ends c = c.next_round.auto.work ∙ c.walk_round.auto.work ∙ c.loop.invariant.0.1

pub shape_of-sums-in-Ends : goal.shape_of-sums-in-Ends
shape_of-sums-in-Ends c = c.next_round.auto.sums ∙ c.loop.invariant.0.2

pub returns-in-Ends : goal.returns-in-Ends
returns-in-Ends c =
    let t = c.loop-test.true in
    let y = c.next_round.ensures in
    passed_so _ _ _ _ c.loop.invariant.1
    (rounds_end _ _ _ _ _ _ _ (omega arith) _ _ c.in-Some.ensures _ _ _ _ y c.in-Ends.is)

pub loop-preserved : goal.loop-preserved
loop-preserved c =
    let t : 0 < rom_most - c.loop.counter = let u = c.loop-test.true in omega arith in
    let z : rom_most - (c.loop.counter + 1) ≡ rom_most - c.loop.counter - 1 = omega arith in
    let v = c.loop.invariant in
    let i = c.in-Some.ensures in
    let y = c.next_round.ensures in (
      (
        c.next_round.auto.seen ∙ c.walk_round.auto.seen ∙ v.0.0,
        c.next_round.auto.work ∙
            c.walk_round.auto.work ∙ v.0.1,
        c.next_round.auto.sums ∙ v.0.2,
      ),
      rw z (rounds_turn _ _ _ _ _ _ _ t _ _ i _ _ _ _ y _ c.in-Goes.is ∙ v.1),
      rw z (going_turn _ _ _ _ _ _ _ _ _ v.2 i _ _ _ _ t (rounds_goes _ _ _ _ _ _ _ t _ _ i _ _ _ _ y _ c.in-Goes.is)),
    )

pub shape_of-seen : goal.shape_of-seen
shape_of-seen c = c.loop.invariant.0.0

pub shape_of-work : goal.shape_of-work
shape_of-work c = c.loop.invariant.0.1

pub shape_of-sums : goal.shape_of-sums
shape_of-sums c = c.loop.invariant.0.2

pub returns : goal.returns
returns c = passed_fails _ _ _ c.loop.invariant.1 (rounds_spent _ _ _ _ (omega arith))
