use Rattle.std.proofs.Common.{sym, ◌∙◌, refl, arith}
use Rattle.screen.specs.Laws.Code.Round.{moved_standing, advance_define, advance_new, advance_wide, advance_close}
use Rattle.screen.proofs.rounds.advance.Goals as goal

pub define-requires : goal.define-requires
define-requires c =
    let a = c.args in
    let p = c.requires in
    let t = p.1 in (
      p.0,
      t,
      p.2,
      rw c.moved-s.ensures (moved_standing a.stand a.token a.cell a.length p.2 (omega arith) p.3),
      p.4,
    )

pub returns-then-is_a : goal.returns-then-is_a
returns-then-is_a c =
    let a = c.args in
    let m = c.moved-s.ensures in
    advance_define a.rom.now a.length a.seen.now a.kinds.now a.sums.now a.stand a.cell a.token _ m _ _ _ _
    (sym c.is_a.ensures ∙ c.if-is_a.true) (c.define.ensures a.stand (rw m refl))

pub new_node-requires : goal.new_node-requires
new_node-requires c =
    let a = c.args in
    let p = c.requires in
    let t = p.1 in
    rw c.moved-s.ensures
    (moved_standing a.stand a.token a.cell a.length p.2 (omega arith) p.3)

pub returns-then-is_a-2 : goal.returns-then-is_a-2
returns-then-is_a-2 c =
    let a = c.args in
    advance_new a.rom.now a.length a.seen.now a.kinds.now a.sums.now a.stand a.cell a.token _
    c.moved-s.ensures _
    (sym c.is_a.ensures ∙ c.if-is_a.false) (sym c.is_a-2.ensures ∙ c.if-is_a-2.true) c.new_node.ensures

pub returns-then-is_a-3 : goal.returns-then-is_a-3
returns-then-is_a-3 c =
    let a = c.args in
    let p = c.requires in
    let t = p.1 in
    advance_wide a.rom.now a.length a.seen.now a.kinds.now a.sums.now a.stand a.cell a.token _
    c.moved-s.ensures
    (rw c.moved-s.ensures (moved_standing a.stand a.token a.cell a.length p.2 (omega arith) p.3))
    (sym c.is_a.ensures ∙ c.if-is_a.false) (sym c.is_a-2.ensures ∙ c.if-is_a-2.false) (sym c.is_a-3.ensures ∙ c.if-is_a-3.true)

pub close_node-requires : goal.close_node-requires
close_node-requires c =
    let a = c.args in
    let p = c.requires in
    let t = p.1 in
    rw c.moved-s.ensures (moved_standing a.stand a.token a.cell a.length p.2 (omega arith) p.3)

pub returns : goal.returns
returns c =
    let a = c.args in
    advance_close a.rom.now a.length a.seen.now a.kinds.now a.sums.now a.stand a.cell a.token _
    c.moved-s.ensures _
    (sym c.is_a.ensures ∙ c.if-is_a.false) (sym c.is_a-2.ensures ∙ c.if-is_a-2.false) (sym c.is_a-3.ensures ∙ c.if-is_a-3.false)
    c.close_node.ensures
