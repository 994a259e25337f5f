use Rattle.std.proofs.Common.{◌+◌, ◌∙◌, arith, rules}
use Rattle.tokens.specs.Laws.GlanceForms.{has_second, has_none, of_one, not_listed, of_none, in_time}
use Rattle.tokens.proofs.glance.glance_from.Goals as goal

pub returns-then-code-eq0-2 : goal.returns-then-code-eq0-2
returns-then-code-eq0-2 c =
    let a = c.args in
    let e = c.requires in
    let z = c.if-code-eq0-2.true in
    let h = has_none a.first a.code e.2 (λ t. omega arith) in
    c.nothing.ensures ∙ not_listed a.rom.now a.length a.wide _ _ _ z
    ∙ of_one a.rom.now a.length a.wide a.place a.first a.code e.1 h.0 h.1

pub returns-then-code-eq0 : goal.returns-then-code-eq0
returns-then-code-eq0 c =
    let a = c.args in
    let e = c.requires in
    let f = c.if-code-eq0.true in
    let h = has_none a.first a.code e.2 (λ t. omega arith) in
    rw c.nothing-then-code-eq0.ensures
    (in_time a.length _ _ _ (search rules)
    ∙ of_none a.rom.now a.length a.wide a.code a.first (a.place + 1) c.if-code-eq0-2.false f
    ∙ of_one a.rom.now a.length a.wide a.place a.first a.code e.1 h.0 h.1)

pub doubled-requires : goal.doubled-requires
doubled-requires c =
    let pre = c.requires in
    let args = c.args in
    (pre.1, has_second args.first args.code pre.2 c.if-code-eq-TWO_BYTES.true)

pub returns-then-code-eq-TWO_BYTES : goal.returns-then-code-eq-TWO_BYTES
returns-then-code-eq-TWO_BYTES c =
    let args = c.args in
    c.doubled.ensures args.wide

pub returns : goal.returns
returns c =
    let a = c.args in
    let e = c.requires in
    let h = has_none a.first a.code e.2 c.if-code-eq-TWO_BYTES.false in
    c.with_operand.ensures ∙ of_one a.rom.now a.length a.wide a.place a.first a.code e.1 h.0 h.1
