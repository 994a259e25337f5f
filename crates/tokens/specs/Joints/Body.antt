-- Reading a body, by the code's own steps. Assumes nothing.
use Rattle.std.specs.Prelude.{ℕ, Bool, true, not, ◌&&◌, List, ltb, leb, eqb, Err, Ok, Result}
use Rattle.cells.specs.Choice.{pick}
use Rattle.rom.specs.Bytes.{byte_of}
use Rattle.tokens.specs.Code.{code_of, form_in}
use Rattle.tokens.specs.Decode.{number_of, behind_number, behind_of}
use Rattle.tokens.specs.Place.{misplaced_of}
use Rattle.tokens.specs.Body.{BodyRead, Ends, Stops, unknown_by}
use Rattle.tokens.specs.declared.decoding.Token.{Token}

-- further than any program reaches
abbrev pub beyond : ℕ
beyond = 0x1_0000_0000

-- whether a body goes on behind a token of the number n, with m the number that stands behind that: it is one of the list, in place there,
-- not b(;), and known
abbrev pub passes : List ℕ → ℕ → ℕ → Bool
passes kinds n m =
    not (eqb (code_of n) 0) && not (misplaced_of (code_of n) true) && not (eqb n 0xC2) && not (unknown_by kinds (code_of n) n m)

-- the place behind such a token at p
unfoldable pub passed_of : List ℕ → Bool → List ℕ → ℕ → ℕ
passed_of rom wide kinds p =
    pick (passes kinds (number_of rom p) (number_of rom (behind_number rom p)))
    (behind_of rom wide (behind_number rom p) (form_in (code_of (number_of rom p)))) beyond

-- from u/mod to 2*, and from -1 to 3
abbrev pub frequent : ℕ → Bool
frequent b = pick (leb b 0x59) (leb 0x2B b) (leb b 0xA8 && leb 0xA4 b)

abbrev pub ends_at : List ℕ → ℕ → ℕ → Bool
ends_at rom length p = ltb p length && eqb (byte_of rom p) 0xC2

-- how a body ends where it does not go on, by what was read there
abbrev pub stopped_of : ℕ → Result Token ℕ → BodyRead
stopped_of p (Err why) = Stops p why
stopped_of p (Ok t) = pick (eqb t.number 0xC2) (Ends p) (Stops p 12)
