-- What a token does to heights, and where it leads: all that the screen asks of a token beside what the list of crate tokens says.
-- Assumes nothing.
use Rattle.std.specs.Prelude.{ℕ, Bool, true, false, not, ◌&&◌, ◌||◌, List, [], ◌∷◌, eqb, None, Option, Some}
use Rattle.cells.specs.Choice.{pick, find}
use Rattle.tokens.specs.Family.{finish, always, choice, widen, pick_up, roll_up, maybe, leave, define, assign, call, new_device}
use Rattle.tokens.specs.Family.{finish_device}
use Rattle.tokens.specs.Code.{family_in, gives_in, return_takes_in, return_gives_in}
use Rattle.tokens.specs.Definition.{colon, of_kind, takes_here}
use Rattle.tokens.specs.declared.decoding.Operand.{Operand}
use Rattle.tokens.specs.declared.decoding.Operand.TheVariants.{Nothing, Literal, Text, Branch, Number, Definition}
use Rattle.tokens.specs.declared.decoding.Token.{Token}
use Rattle.screen.specs.declared.effect.Sum.{Sum}
use Rattle.screen.specs.declared.effect.Effect.{Effect}

-- ---- families
abbrev pub is_a : ℕ → Token → Bool
is_a family t = eqb (family_in t.code) family

-- "4E, 4F and 50 are not allowed"
abbrev pub allowed : Token → Bool
allowed t = not (is_a pick_up t || is_a roll_up t || is_a maybe t)

-- "defining token, CC, 11F or 127": what must be met exactly once, so that a branch may not lead around it or back over it
abbrev pub fixes : Token → Bool
fixes t = is_a define t || is_a widen t || is_a new_device t || is_a finish_device t

abbrev pub is_colon : Token → Bool
is_colon t = of_kind colon t

-- ---- branches
-- the place that a branch leads to, and none where that is outside 8..length-1
abbrev pub landings : Option ℕ → List ℕ
landings (Some to) = to ∷ []
landings None = []

abbrev pub aims : Operand → List ℕ
aims Nothing = []
aims (Literal n) = []
aims (Text start count) = []
aims (Branch bits aim) = landings aim
aims (Number n) = []
aims (Definition n k) = []

abbrev pub no_places : List ℕ → Bool
no_places [] = true
no_places (x ∷ xs) = false

abbrev pub is_branch : Token → Bool
is_branch t = is_a always t || is_a choice t

-- 19: a branch, taken or not, that leads to outside 8..length-1
abbrev pub astray : Token → Bool
astray t = is_branch t && no_places (aims t.operand)

-- "by falling through, by bbranch's destination and by both ways of b?branch; finishing, leaving a body .. have no successor". A b(:) leads
-- past its C2, which its own bytes do not tell.
abbrev pub both_ways : ℕ → List ℕ → List ℕ
both_ways next [] = []
both_ways next (x ∷ xs) = next ∷ x ∷ []

abbrev pub ways : Token → List (ℕ × List ℕ)
ways t =
    (finish, []) ∷
    (leave, []) ∷
    (always, aims t.operand) ∷
    (choice, both_ways t.next (aims t.operand)) ∷
    []

unfoldable pub leads_of : Token → List ℕ
leads_of t = pick (is_colon t) [] (find (ways t) (t.next ∷ []) (family_in t.code))

-- ---- what a program number does to heights, and what a token does (src/effect.rt says what the fields are)
-- a value, a variable or a constant gives one cell
abbrev pub value_sum : Sum
value_sum = record { need = 0; out = 1; peak = 1; return_peak = 0; frames = 0 }

-- a call does what its number does; any other token rises no higher than it stands, or than its successor
abbrev pub called : Sum → Effect
called s =
    record {
      takes = s.need;
      gives = s.out;
      rise = s.peak;
      return_takes = 0;
      return_gives = 0;
      return_rise = s.return_peak;
      frames = s.frames;
    }

abbrev pub own_effect : Token → Effect
own_effect t =
    record {
      takes = takes_here t;
      gives = gives_in t.code;
      rise = takes_here t;
      return_takes = return_takes_in t.code;
      return_gives = return_gives_in t.code;
      return_rise = 0;
      frames = 0;
    }

unfoldable pub effect_of : (ℕ → Sum) → Token → Effect
effect_of sum t = elim (is_a call t) [ true ↦ called (sum t.number) | false ↦ own_effect t ]

-- ---- numbers that a token names: a call its own, b(to) the one behind it, which must be a value's
abbrev pub names : Token → Bool
names t = is_a call t || is_a assign t
