-- What a defining token says: the number that it defines, and the kind byte behind that; and what a token takes, where a definition takes
-- what its kind takes. Assumes nothing.
use Rattle.std.specs.Prelude.{ℕ, ◌+◌, Bool, true, false, ◌&&◌, eqb}
use Rattle.tokens.specs.Family.{define}
use Rattle.tokens.specs.Code.{code_of, family_in, takes_in}
use Rattle.tokens.specs.declared.decoding.Operand.{Operand}
use Rattle.tokens.specs.declared.decoding.Operand.TheVariants.{Nothing, Literal, Text, Branch, Number, Definition}
use Rattle.tokens.specs.declared.decoding.Token.{Token}

-- the kind bytes
abbrev pub colon : ℕ
colon = 0xB7

abbrev pub value : ℕ
value = 0xB8

abbrev pub variable : ℕ
variable = 0xB9

abbrev pub constant : ℕ
constant = 0xBA

abbrev pub new_number : Operand → ℕ
new_number Nothing = 0
new_number (Literal n) = 0
new_number (Text start count) = 0
new_number (Branch bits aim) = 0
new_number (Number n) = 0
new_number (Definition n k) = n

abbrev pub kind_in : Operand → ℕ
kind_in Nothing = 0
kind_in (Literal n) = 0
kind_in (Text start count) = 0
kind_in (Branch bits aim) = 0
kind_in (Number n) = 0
kind_in (Definition n k) = k

-- a defining token of a kind
abbrev pub of_kind : ℕ → Token → Bool
of_kind k t = eqb (family_in t.code) define && eqb (kind_in t.operand) k

abbrev pub takes_here : Token → ℕ
takes_here t = takes_in t.code + elim (eqb (family_in t.code) define) [ true ↦ takes_in (code_of (kind_in t.operand)) | false ↦ 0 ]
