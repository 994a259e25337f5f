-- A row of the token list: everything that document 01 says of a token but what it does to memory, the tree and the state. Assumes nothing.
use Rattle.std.specs.Prelude.{ℕ, List, [], length}
use Prim.Native.String.{String}
use Rattle.tokens.specs.Family.{plain}

-- ---- what stands behind a token's number
-- nothing
abbrev pub none : ℕ
none = 0

-- four bytes
abbrev pub literal : ℕ
literal = 1

-- an FCode string: a length byte and that many bytes
abbrev pub string : ℕ
string = 2

-- a branch offset, of one byte or two by the width in force
abbrev pub offset : ℕ
offset = 3

-- a number
abbrev pub number : ℕ
number = 4

-- a number, and a kind
abbrev pub head : ℕ
head = 5

-- a string (the name, read and dropped), a number, and a kind
abbrev pub named_head : ℕ
named_head = 6

-- ---- where a token is out of place (refusal 18)
abbrev pub nowhere : ℕ
nowhere = 0

-- "While a body is read or a call is open"
abbrev pub inside : ℕ
inside = 1

-- "with neither"
abbrev pub outside : ℕ
outside = 2

-- "a kind without its head always is"
abbrev pub everywhere : ℕ
everywhere = 3

-- ---- what a token sees: its operand, the data stack's cells counted from the top (0 is the top) with their height, and the return stack's
pub record Seen : Type 0 where
  pub operand : ℕ
  pub cell : ℕ → ℕ
  pub height : ℕ
  pub back : ℕ → ℕ

abbrev pub Result : Type 0
Result = Seen → ℕ

-- the k-th cell from the top, a cell of the return stack, a number, the operand
abbrev pub top : ℕ → Result
top k s = s.cell k

abbrev pub returned : Result
returned s = s.back 0

abbrev pub says : ℕ → Result
says n s = n

abbrev pub operand : Result
operand s = s.operand

-- a function of the highest cells, the lowest of them first
abbrev pub one : (ℕ → ℕ) → Result
one f s = f (s.cell 0)

abbrev pub two : (ℕ → ℕ → ℕ) → Result
two f s = f (s.cell 1) (s.cell 0)

abbrev pub three : (ℕ → ℕ → ℕ → ℕ) → Result
three f s = f (s.cell 2) (s.cell 1) (s.cell 0)

-- ---- a row
pub record Row : Type 0 where
  pub name : String
  pub family : ℕ
  pub out_of_place : ℕ
  pub form : ℕ
  -- cells taken from and given to the data stack, and the return stack
  pub takes : ℕ
  pub gives : ℕ
  pub return_takes : ℕ
  pub return_gives : ℕ
  -- what is given, the lowest first, where that is reckoned from what the token sees alone
  pub results : List Result
  pub return_results : List Result

-- a token that only reckons: it gives as many cells as it has results
abbrev pub reckons : String → ℕ → ℕ → List Result → ℕ → List Result → Row
reckons name form takes results return_takes return_results =
    record {
      name = name;
      family = plain;
      out_of_place = nowhere;
      form = form;
      takes = takes;
      gives = length results;
      return_takes = return_takes;
      return_gives = length return_results;
      results = results;
      return_results = return_results;
    }

abbrev pub pure : String → ℕ → List Result → Row
pure name takes results = reckons name none takes results 0 []

-- any other token: its family does the work
abbrev pub works : String → ℕ → ℕ → ℕ → ℕ → ℕ → List Result → Row
works name family out form takes gives results =
    record {
      name = name;
      family = family;
      out_of_place = out;
      form = form;
      takes = takes;
      gives = gives;
      return_takes = 0;
      return_gives = 0;
      results = results;
      return_results = [];
    }
