use Rattle.std.proofs.Common.{ap, ◌-◌, get_or, sym, ◌∙◌, rules}
use Rattle.cells.specs.Arithmetic.{divided_in}
use Rattle.reckon.proofs.Deep.{divide_low, divide_zero, divide_fine, by_zero, parted}
use Rattle.reckon.proofs.Made.{divide_made}
use Rattle.reckon.proofs.reckon.divide.Goals as goal

pub returns-then-h-lt2 : goal.returns-then-h-lt2
returns-then-h-lt2 c =
    let a = c.args in
    rw c.refuse.ensures (divide_made a.h a.b a.place a.stack.now c.requires.0 c.requires.1 14 a.h _
    (divide_low a.h a.b a.stack.now c.requires.0 (search rules)))

pub returns-in-None : goal.returns-in-None
returns-in-None c =
    let a = c.args in let x = get_or a.stack.now (a.h - 2) 0 in
    let y = get_or a.stack.now (a.h - 1) 0 in
    rw c.refuse-in-None.ensures (divide_made a.h a.b a.place a.stack.now c.requires.0 c.requires.1 21 a.h _
    (divide_zero a.h a.b a.stack.now c.requires.0 (search rules)
    (by_zero x y (sym (ap divided_in c.in-None.is) ∙ c.u_mod.ensures))))

pub returns-in-Some : goal.returns-in-Some
returns-in-Some c =
    let a = c.args in
    let x = get_or a.stack.now (a.h - 2) 0 in let y = get_or a.stack.now (a.h - 1) 0 in
    let p = parted x y _ _ (sym (ap divided_in c.in-Some.is) ∙ c.u_mod.ensures) in
    rw c.on.ensures (divide_made a.h a.b a.place a.stack.now c.requires.0 c.requires.1 0 a.h _
    (divide_fine a.h a.b a.stack.now c.requires.0 (search rules) _ _ p.0 p.1 p.2))
