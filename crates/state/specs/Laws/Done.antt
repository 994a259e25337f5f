-- A token that may stand where it stands: refused with the first number whose condition holds, else carried out. Assumes nothing.
use Rattle.std.specs.Prelude.{ℕ, ◌≡◌, false, eqb}
use Rattle.std.proofs.Common.{◌∙◌, ap, eq-eqb}
use Rattle.cells.specs.Laws.Facts.{when_true, when_false}
use Rattle.tokens.specs.Decode.{token_of}
use Rattle.tokens.specs.declared.decoding.Token.{Token}
use Rattle.state.specs.Scene.{Scene, refuse}
use Rattle.state.specs.Refusals.{refusal_of}
use Rattle.state.specs.Effects.{act_of}
use Rattle.state.specs.Step.{done_of}

pub carried : (s : Scene) (t : Token) → refusal_of s t ≡ 0 → done_of s t ≡ act_of s t
unfolding done_of
carried s t e = when_true (act_of s t) (refuse (refusal_of s t) s) (eqb (refusal_of s t) 0) (eq-eqb _ _ e)

pub stopped : (s : Scene) (t : Token) (why : ℕ) → eqb why 0 ≡ false → refusal_of s t ≡ why → done_of s t ≡ refuse why s
unfolding done_of
stopped s t why n e =
    when_false (act_of s t) (refuse (refusal_of s t) s) (eqb (refusal_of s t) 0) (ap (λ (k : ℕ). eqb k 0) e ∙ n)
    ∙ ap (λ (k : ℕ). refuse k s) e

-- a token whose code is known
pub coded : (t : Token) (code : ℕ) → t.code ≡ code → t ≡ token_of t.number code t.operand t.next
coded t code e = ap (λ (k : ℕ). token_of t.number k t.operand t.next) e
