use Rattle.std.proofs.Common.{sym, ◌∙◌}
use Rattle.tokens.proofs.Bodies.{ends_here, refused_here}
use Rattle.tokens.proofs.body.stopped.Goals as goal

pub returns-then-ends_at : goal.returns-then-ends_at
returns-then-ends_at c =
    let a = c.args in
    ends_here a.rom.now a.length a.wide a.place (sym c.ends_at.ensures ∙ c.if-ends_at.true)

pub returns-in-Ok : goal.returns-in-Ok
returns-in-Ok c =
    let a = c.args in
    let h = refused_here a.rom.now a.length a.wide a.place (sym c.ends_at.ensures ∙ c.if-ends_at.false) in
    rw (← c.read_at.ensures, c.in-Ok.is) (sym (rw (← c.read_at.ensures, c.in-Ok.is) at h))
