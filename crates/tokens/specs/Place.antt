-- Refusal 18, "token out of place": "While a body is read or a call is open, defining tokens, 00, FF, CC, 11F and 127 are out of place;
-- with neither, 33 and C2 are; a kind without its head always is." The table says which token is out of place where. Assumes nothing.
use Rattle.std.specs.Prelude.{ℕ, Bool, true, false, not, List, [], ◌∷◌, Err, Ok, Result}
use Rattle.cells.specs.Choice.{pick, find}
use Rattle.tokens.specs.Row.{inside, outside, everywhere}
use Rattle.tokens.specs.Code.{out_of_place_in}
use Rattle.tokens.specs.Decode.{decode_of}
use Rattle.tokens.specs.declared.decoding.Decoded.{Decoded}
use Rattle.tokens.specs.declared.decoding.Decoded.TheVariants.{Cut, Unlisted, Whole}
use Rattle.tokens.specs.declared.decoding.Token.{Token}

-- `within` says whether a body is read or a call is open
abbrev pub misplacements : Bool → List (ℕ × Bool)
misplacements within = (inside, within) ∷ (outside, not within) ∷ (everywhere, true) ∷ []

unfoldable pub misplaced_of : ℕ → Bool → Bool
misplaced_of code within = find (misplacements within) false (out_of_place_in code)

-- the refusals of a token by its bytes and its place, in the order 10, 18, 11
abbrev pub judged : Bool → Decoded → Result Token ℕ
judged within Cut = Err 10
judged within (Unlisted code) = Err (pick (misplaced_of code within) 18 11)
judged within (Whole t) = pick (misplaced_of t.code within) (Err 18) (Ok t)

unfoldable pub read_of : List ℕ → ℕ → Bool → Bool → ℕ → Result Token ℕ
read_of rom length wide within p = judged within (decode_of rom length wide p)
