-- The heights and sums of the assignment where the model's rounds pass: those that the rounds leave; and what holds of every reachable
-- token. Assumes nothing.
use Rattle.std.specs.Prelude.{ℕ, ◌+◌, ◌-◌, ◌≤◌, ◌≡◌, not, List, T, get_or}
use Rattle.rom.specs.Sizes.{data_most, return_most, frames_most}
use Rattle.tokens.specs.declared.decoding.Token.{Token}
use Rattle.screen.specs.Effect.{allowed, astray, effect_of}
use Rattle.screen.specs.Reach.{Setting, Claim, Holds}
use Rattle.screen.specs.Rules.{own_frame}
use Rattle.screen.specs.Laws.Found.Model.{Board, sum_at}
use Rattle.screen.specs.declared.effect.Sum.{Sum}
use Rattle.screen.specs.Laws.Found.Cell.{height_in, back_in}

abbrev pub height_left : Board → ℕ → ℕ → ℕ
height_left last x p = height_in (get_or last.seen p 0)

abbrev pub back_left : Board → ℕ → ℕ → ℕ
back_left last x p = back_in (get_or last.seen p 0)

abbrev pub sum_left : Board → ℕ → Sum
sum_left last n = sum_at last.sums n

-- what holds of every reachable token
pub record Spot (rom : List ℕ) (last : Board) (x : ℕ) (s : Setting) (p : ℕ) (t : Token) : Type 0 where
  pub allowed : T (allowed t)
  pub aimed : T (not (astray t))
  pub known : Holds rom (Claim.known p t)
  pub takes : (effect_of (sum_left last) t).takes ≤ height_left last x p
  pub return_takes : (effect_of (sum_left last) t).return_takes ≤ back_left last x p
  pub low : height_left last x p ≤ data_most
  pub rise : height_left last x p - (effect_of (sum_left last) t).takes + (effect_of (sum_left last) t).rise ≤ data_most
  pub return_rise : back_left last x p + (effect_of (sum_left last) t).return_rise ≤ return_most
  pub frames : own_frame x + (effect_of (sum_left last) t).frames ≤ frames_most
  pub flow : (q : ℕ) → Holds rom (Claim.leads s.wide p t q)
      → (height_left last x q ≡ height_left last x p - (effect_of (sum_left last) t).takes + (effect_of (sum_left last) t).gives)
      × (back_left last x q ≡ back_left last x p - (effect_of (sum_left last) t).return_takes + (effect_of (sum_left last) t).return_gives)
