use Rattle.std.proofs.Common.{◌≡◌, ◌-◌, ◌&&◌, List, [], ◌∷◌, ◌++◌, ℕ, eqb, length, arith, ne_eqb, eq-eqb, length-append}
use Rattle.std.proofs.Math.Seq.{get_or-append_seam, take-append_seam}
use Rattle.lines.specs.Printed.{all_printed, is_text}
use Rattle.lines.proofs.printed.is_text.Goals as goal

ends_with : (text : List ℕ) (last : ℕ) → is_text (text ++ (last ∷ [])) ≡ (eqb last 0 && all_printed text)
unfolding is_text
ends_with text last =
    let n = length-append text (last ∷ []) in
    let e : length (text ++ (last ∷ [])) - 1 ≡ length text = omega arith in
    rw (ne_eqb (length (text ++ (last ∷ []))) 0 (λ z. omega arith), e, get_or-append_seam text last [] 0, take-append_seam text (last ∷ []))

pub returns-then-last-eq0 : goal.returns-then-last-eq0
returns-then-last-eq0 c =
    let e = eq-eqb c.in-Some.last.now 0 c.if-last-eq0.true in
    rw (c.in-Some.ensures.cases.0, ends_with c.in-Some.text.now c.in-Some.last.now, e) c.all_printed.ensures

pub returns-else-last-eq0 : goal.returns-else-last-eq0
returns-else-last-eq0 c =
    let n = ne_eqb c.in-Some.last.now 0 c.if-last-eq0.false in
    rw (c.in-Some.ensures.cases.0, ends_with c.in-Some.text.now c.in-Some.last.now, n)

pub returns-in-None : goal.returns-in-None
unfolding is_text
returns-in-None c = rw (eq-eqb _ 0 c.in-None.ensures.cases)
