-- A quick read: a table of what each first byte says, and what is known of a token that was read by it. Assumes nothing.
use Rattle.std.specs.Prelude.{ℕ, ◌<◌, ◌≡◌, Bool, List, get_or, Ok}
use Rattle.tokens.specs.Family.{plain}
use Rattle.tokens.specs.Code.{family_in, return_takes_in, return_gives_in}
use Rattle.tokens.specs.Place.{read_of}
use Rattle.tokens.specs.Joints.Glance.{first_says}
use Rattle.tokens.specs.declared.decoding.Token.{Token}
use Rattle.tokens.specs.declared.quick.Quick.{Quick}

-- a table with what every first byte says
unfoldable pub Codes : List ℕ → Type 0
Codes l = (b : ℕ) → b < 256 → get_or l b 0 ≡ first_says b

-- a token that may stand anywhere, moves cells of the data stack alone, and goes on behind itself; it is not b(;), which ends a body
pub record QuickRead (rom : List ℕ) (length p : ℕ) (q : Quick) : Type 0 where
  pub read : (wide within : Bool) → (t : Token)
      × (read_of rom length wide within p ≡ Ok t) × (t.code ≡ q.code) × (t.next ≡ q.next) × (t.number ≡ 0xC2 → ⊥)
  pub plainly : family_in q.code ≡ plain
  pub alone : (return_takes_in q.code ≡ 0) × (return_gives_in q.code ≡ 0)

-- where a place behind the token is given
abbrev pub Quickly : List ℕ → ℕ → ℕ → Quick → Type 0
Quickly rom length p q = (q.next ≡ 0 → ⊥) → QuickRead rom length p q
