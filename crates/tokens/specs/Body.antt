-- Reading a body: "After its head's own tests b(:) reads on to the first C2 that starts a token, refusing at the first token that gives 10,
-- 18, 11 or 12 (heights and branches wait for the run)". Refusal 12: "program number undefined, or not a value after b(to)", by the numbers
-- defined so far. Assumes nothing.
use Rattle.std.specs.Prelude.{ℕ, zero, suc, ◌-◌, Bool, true, false, not, List, get_or, eqb, Err, Ok, Result}
use Rattle.cells.specs.Choice.{pick}
use Rattle.tokens.specs.Family.{call, assign}
use Rattle.tokens.specs.Table.{is_program, first_program}
use Rattle.tokens.specs.Code.{family_in}
use Rattle.tokens.specs.Place.{read_of}
use Rattle.tokens.specs.declared.decoding.Operand.{Operand}
use Rattle.tokens.specs.declared.decoding.Operand.TheVariants.{Nothing, Literal, Text, Branch, Number, Definition}
use Rattle.tokens.specs.declared.decoding.Token.{Token}
use Rattle.tokens.specs.declared.body.Stop.{Stop}
use Rattle.rom.specs.Refusal.{refusal_number}

-- the kind byte of a program number, by a list that has one for each number from the first up: 0 where the number is not defined, as any
-- other number is not
abbrev pub kind_of : List ℕ → ℕ → ℕ
kind_of kinds n = pick (is_program n) (get_or kinds (n - first_program) 0) 0

-- the number that stands behind b(to)
abbrev pub number_in : Operand → ℕ
number_in Nothing = 0
number_in (Literal n) = 0
number_in (Text start count) = 0
number_in (Branch bits aim) = 0
number_in (Number n) = n
number_in (Definition n k) = 0

-- refusal 12, by a token's code, its number, and the number that stands behind it
abbrev pub unknown_by : List ℕ → ℕ → ℕ → ℕ → Bool
unknown_by kinds code n m =
    pick (eqb (family_in code) call) (eqb (kind_of kinds n) 0) (pick (eqb (family_in code) assign) (not (eqb (kind_of kinds m) 0xB8)) false)

unfoldable pub unknown_of : List ℕ → Token → Bool
unknown_of kinds t = unknown_by kinds t.code t.number (number_in t.operand)

-- a body as it is read: the place of its b(;), or the place of the first token that is refused, and why
pub data BodyRead : Type 0 where
  Ends : (at : ℕ) → BodyRead
  Stops : (at why : ℕ) → BodyRead

-- what is handed back of one
abbrev pub body_in : Result ℕ Stop → BodyRead
body_in (Ok at) = Ends at
body_in (Err s) = Stops s.at (refusal_number s.why)

-- what follows a whole token of a body at p: the body ends there, it is refused there, or reading goes on at q
abbrev pub body_onward : Bool → Bool → ℕ → (ℕ → BodyRead) → ℕ → BodyRead
body_onward true unknown p go q = Ends p
body_onward false true p go q = Stops p 12
body_onward false false p go q = go q

abbrev pub after_of : List ℕ → ℕ → Result Token ℕ → (ℕ → BodyRead) → BodyRead
after_of kinds p (Err why) go = Stops p why
after_of kinds p (Ok t) go = body_onward (eqb t.number 0xC2) (unknown_of kinds t) p go t.next

-- reading on from p, of so many tokens at most: none is left where none can start before the length
unfoldable pub body_from : List ℕ → ℕ → Bool → List ℕ → ℕ → ℕ → BodyRead
body_from rom length wide kinds zero p = Stops p 10
body_from rom length wide kinds (suc k) p = after_of kinds p (read_of rom length wide true p) (λ q. body_from rom length wide kinds k q)

abbrev pub body_of : List ℕ → ℕ → Bool → List ℕ → ℕ → BodyRead
body_of rom length wide kinds p = body_from rom length wide kinds (length - p) p
