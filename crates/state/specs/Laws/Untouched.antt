-- What a token leaves alone, by its family: how many program numbers there are, and how many records. Assumes nothing.
use Rattle.std.specs.Prelude.{◌≡◌, Bool, [], ◌∷◌, eqb}
use Rattle.std.proofs.Math.Path.{refl}
use Rattle.std.proofs.Math.Bool.{true, false}
use Rattle.cells.specs.Choice.{find}
use Rattle.cells.specs.Laws.Tests.{when_is}
use Rattle.tokens.specs.Family.{define, property, titled}
use Rattle.tokens.specs.Code.{family_in}
use Rattle.tokens.specs.Laws.Tokens.{find_is}
use Rattle.tokens.specs.Definition.{colon, kind_in, value, variable}
use Rattle.tokens.specs.declared.decoding.Token.{Token}
use Rattle.state.specs.Numbers.{seek_of, is_body}
use Rattle.state.specs.Scene.{Scene, Turn, refuse}
use Rattle.state.specs.Refusals.{refusal_of}
use Rattle.state.specs.Effects.{Effect, calls, colons, values, variables, effects, nothing, act_of}
use Rattle.state.specs.Step.{done_of}
use Rattle.state.specs.Laws.Keeps.Tests.{find_at, ◌▸◌}

module _ (s : Scene) (t : Token) where
  -- refused or carried out
  done_is : (Q : Turn → Type 0) → Q (act_of s t) → Q (refuse (refusal_of s t) s) → Q (done_of s t)
  unfolding done_of
  done_is Q a r = when_is Q (eqb (refusal_of s t) 0) (act_of s t) (refuse (refusal_of s t) s) (λ c. a) (λ c. r)

  abbrev SameCount : Turn → Type 0
  SameCount r = r.state.numbers.count ≡ s.state.numbers.count

  abbrev SameRecords : Turn → Type 0
  SameRecords r = r.state.tree.held ≡ s.state.tree.held

  body : Bool
  body = is_body s.state.numbers (seek_of s.state.numbers t.number)

  called_is : (Q : Turn → Type 0) → ((b : Bool) → body ≡ b → Q (calls s t)) → Q (calls s t)
  called_is Q f = f body refl

  count_called : (b : Bool) → body ≡ b → SameCount (calls s t)
  unfolding body
  count_called true e = rw e
  count_called false e = rw e

  records_called : (b : Bool) → body ≡ b → SameRecords (calls s t)
  unfolding body
  records_called true e = rw e
  records_called false e = rw e

  records_defined : SameRecords (find ((colon, colons) ∷ (value, values) ∷ (variable, variables) ∷ []) values (kind_in t.operand) s t)
  records_defined =
      find_is (λ (f : Effect). SameRecords (f s t)) ((colon, colons) ∷ (value, values) ∷ (variable, variables) ∷ []) values
      (kind_in t.operand)
      (refl, (refl, (refl, tt))) refl

  pub count_kept : (family_in t.code ≡ define → ⊥) → (done_of s t).state.numbers.count ≡ s.state.numbers.count
  unfolding act_of effects
  count_kept n =
      done_is SameCount
      (find_at (λ (e : Effect). SameCount (e s t)) effects nothing (family_in t.code) (
      (λ k. refl) ▸
      (λ k. refl) ▸
      (λ k. refl) ▸
      (λ k. refl) ▸
      (λ k. refl) ▸
      (λ k. refl) ▸
      (λ k. refl) ▸
      (λ k. refl) ▸
      (λ k. refl) ▸
      (λ k. refl) ▸
      (λ k. refl) ▸
      (λ k. refl) ▸
      (λ k. refl) ▸
      (λ k. absurd (n k)) ▸
      (λ k. refl) ▸
      (λ k. called_is SameCount count_called) ▸
      (λ k. refl) ▸
      (λ k. refl) ▸
      (λ k. refl) ▸
      (λ k. refl) ▸
      (λ k. refl) ▸
      (λ k. refl) ▸
      (λ k. refl) ▸
      tt
      ) refl) refl

  pub records_kept : (family_in t.code ≡ property → ⊥) → (family_in t.code ≡ titled → ⊥)
      → (done_of s t).state.tree.held ≡ s.state.tree.held
  unfolding act_of effects
  records_kept p n =
      done_is SameRecords
      (find_at (λ (e : Effect). SameRecords (e s t)) effects nothing (family_in t.code) (
      (λ k. refl) ▸
      (λ k. refl) ▸
      (λ k. refl) ▸
      (λ k. refl) ▸
      (λ k. refl) ▸
      (λ k. refl) ▸
      (λ k. refl) ▸
      (λ k. refl) ▸
      (λ k. refl) ▸
      (λ k. refl) ▸
      (λ k. refl) ▸
      (λ k. refl) ▸
      (λ k. refl) ▸
      (λ k. records_defined) ▸
      (λ k. refl) ▸
      (λ k. called_is SameRecords records_called) ▸
      (λ k. refl) ▸
      (λ k. refl) ▸
      (λ k. refl) ▸
      (λ k. absurd (p k)) ▸
      (λ k. absurd (n k)) ▸
      (λ k. refl) ▸
      (λ k. refl) ▸
      tt
      ) refl) refl
