use Rattle.std.proofs.Common.{arith, refl}
use Rattle.screen.specs.Laws.Code.Walk.{kept_none, kept_place}
use Rattle.screen.proofs.walking.kept.Goals as goal

pub returns-then-place-eq0 : goal.returns-then-place-eq0
returns-then-place-eq0 c n = kept_none n _ _ _ c.if-place-eq0.true

pub returns : goal.returns
returns c n = let p = c.requires in kept_place n _ _ _ _ _ c.if-place-eq0.false p.0 (omega arith) refl
