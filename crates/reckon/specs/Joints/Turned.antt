-- How a token in place ended, with the heights of the two stacks and the place behind it: it was carried out; or it is none of those that
-- are done in place; or it is refused with a number, for which the code has a name (crate rom, Refusal.antt). Assumes nothing.
use Rattle.std.specs.Prelude.{ℕ}
use Rattle.rom.specs.Refusal.{refusal_number}
use Rattle.reckon.specs.declared.turned.Fared.{Fared as FaredSaid}
use Rattle.reckon.specs.declared.turned.Fared.TheVariants.{On as OnSaid, Cold as ColdSaid, Not as NotSaid}
use Rattle.reckon.specs.declared.turned.Turned.{Turned as TurnedSaid}

pub data Fared : Type 0 where
  On : Fared
  Cold : Fared
  Not : (why : ℕ) → Fared

pub record Turned : Type 0 where
  pub fared : Fared
  pub height : ℕ
  pub returns : ℕ
  pub place : ℕ

-- what the code hands back
abbrev pub fared_in : FaredSaid → Fared
fared_in OnSaid = On
fared_in ColdSaid = Cold
fared_in (NotSaid why) = Not (refusal_number why)

unfoldable pub turned_in : TurnedSaid → Turned
turned_in r = record { fared = fared_in r.fared; height = r.height; returns = r.returns; place = r.place }
