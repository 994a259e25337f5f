use Rattle.tokens.specs.Joints.Quick.{Codes}
use Rattle.tokens.proofs.Quicks.{quick_one, quick_literal}
use Rattle.std.proofs.Common.{refl, rules}
use Rattle.tokens.proofs.quick.quick_at.Goals as goal

pub returns-then-code-eq65536 : goal.returns-then-code-eq65536
unfolding Codes
returns-then-code-eq65536 c =
    let a = c.args in
    let e = c.requires in
    let n = e.0 c.byte-first.result (search rules) in (
      c.byte-first.ensures,
      n,
      λ z. quick_one a.rom.now a.length a.place c.byte-first.result _ c.byte-first.ensures n e.1
          c.if-code-eq65536.true,
    )

pub returns-then-length-place-ge5 : goal.returns-then-length-place-ge5
unfolding Codes
returns-then-length-place-ge5 c =
    let a = c.args in
    let e = c.requires in
    let n = e.0 c.byte-first.result (search rules) in (
      c.byte-first.ensures,
      n,
      λ z. quick_literal a.rom.now a.length a.place c.byte-first.result _ c.byte-first.ensures n c.if-code-eq-LITERAL.true
          (search rules),
    )

pub returns : goal.returns
unfolding Codes
returns c =
    let e = c.requires in
    (c.byte-first.ensures, e.0 _ (search rules), λ z. absurd (z refl))
