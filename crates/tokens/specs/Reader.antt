-- Walking a program from place to place: "The listing tool walks tokens with a reader that carries the ROM and its place." What stands at a
-- place, and what a walk from place 8 on comes past. Assumes nothing.
use Rattle.std.specs.Prelude.{ℕ, zero, suc, ◌-◌, ◌<◌, ◌≡◌, Bool, true, List, [], ◌∷◌, length, ltb, leb, eqb}
use Rattle.cells.specs.Choice.{pick}
use Rattle.rom.specs.Header.{length_of, wide_of}
use Rattle.rom.specs.Sizes.{first_place}
use Rattle.tokens.specs.Family.{widen}
use Rattle.tokens.specs.Code.{family_in}
use Rattle.tokens.specs.Decode.{behind_number, decode_of}
use Rattle.tokens.specs.declared.decoding.Decoded.{Decoded}
use Rattle.tokens.specs.declared.decoding.Decoded.TheVariants.{Cut, Unlisted, Whole}
use Rattle.tokens.specs.declared.reader.Piece.{Piece}
use Rattle.tokens.specs.declared.reader.Piece.TheVariants.{End, Raw, Listed}

-- ---- what stands at a place
-- where a program ends: at its length, or where the bytes lent do if that is nearer. With a good header it is the length
abbrev pub end_of : List ℕ → ℕ
end_of rom = pick (ltb (length rom) (length_of rom)) (length rom) (length_of rom)

-- the offset width in force behind a token with a code: "CC offset16"
abbrev pub width_behind : Bool → ℕ → Bool
width_behind wide code = pick (eqb (family_in code) widen) true wide

-- a token of the list; the bytes of a number that is not in it; or, where the end cuts a token off, all bytes that are left, which are that
-- token's
abbrev pub piece_in : List ℕ → ℕ → Bool → ℕ → Decoded → Piece
piece_in rom end wide p Cut = Raw end
piece_in rom end wide p (Unlisted code) = Raw (behind_number rom p)
piece_in rom end wide p (Whole t) = Listed t (behind_number rom p) (width_behind wide t.code)

unfoldable pub piece_of : List ℕ → Bool → ℕ → Piece
piece_of rom wide p = pick (leb (end_of rom) p) End (piece_in rom (end_of rom) wide p (decode_of rom (end_of rom) wide p))

-- ---- the walk
-- a piece, where it starts and where the next one does
pub record Stretch : Type 0 where
  pub place : ℕ
  pub piece : Piece
  pub next : ℕ

-- a piece, and then what comes behind it in the width in force there
abbrev pub then_on : Bool → ℕ → Piece → (Bool → ℕ → List Stretch) → List Stretch
then_on wide p End go = []
then_on wide p (Raw next) go = record { place = p; piece = Raw next; next = next } ∷ go wide next
then_on wide p (Listed t s w) go = record { place = p; piece = Listed t s w; next = t.next } ∷ go w t.next

-- so many pieces at most, from a place on
unfoldable pub walk_from : ℕ → List ℕ → Bool → ℕ → List Stretch
walk_from zero rom wide p = []
walk_from (suc k) rom wide p = then_on wide p (piece_of rom wide p) (λ w q. walk_from k rom w q)

-- a program has no more pieces than bytes
abbrev pub walk_of : List ℕ → List Stretch
walk_of rom = walk_from (end_of rom - first_place) rom (wide_of rom) first_place

-- ---- what is promised of a walk: its stretches are none of them empty and lie one behind the other, from the first place to the last
abbrev pub Partition : ℕ → ℕ → List Stretch → Type 0
Partition from to [] = from ≡ to
Partition from to (s ∷ ss) = (s.place ≡ from) × (from < s.next) × Partition s.next to ss
