-- How many pieces a program has, how many of them are no token of the list, and where the first of these stands. Document 01 leaves such a
-- count open. Assumes nothing.
use Rattle.std.specs.Prelude.{ℕ, ◌+◌, List, [], ◌∷◌, eqb}
use Rattle.cells.specs.Choice.{pick}
use Rattle.tokens.specs.Reader.{Stretch, walk_of}
use Rattle.tokens.specs.declared.reader.Piece.{Piece}
use Rattle.tokens.specs.declared.reader.Piece.TheVariants.{End, Raw, Listed}
use Rattle.lines.specs.declared.tally.Tally.{Tally}

-- so many pieces, so many of them raw, and the first of those from a place up to another
abbrev pub tally : ℕ → ℕ → ℕ → ℕ → Tally
tally pieces raws place next = record { pieces = pieces; raws = raws; place = place; next = next }

-- a raw piece more: it is the first where there was none
abbrev pub raw_more : Tally → ℕ → ℕ → Tally
raw_more so p q = tally (so.pieces + 1) (so.raws + 1) (pick (eqb so.raws 0) p so.place) (pick (eqb so.raws 0) q so.next)

-- a token more
abbrev pub token_more : Tally → Tally
token_more so = tally (so.pieces + 1) so.raws so.place so.next

abbrev pub piece_more : Tally → ℕ → Piece → Tally
piece_more so p End = so
piece_more so p (Raw next) = raw_more so p next
piece_more so p (Listed t s w) = token_more so

unfoldable pub tally_from : Tally → List Stretch → Tally
tally_from so [] = so
tally_from so (s ∷ ss) = tally_from (piece_more so s.place s.piece) ss

-- of a whole program
abbrev pub tally_of : List ℕ → Tally
tally_of fcode = tally_from (tally 0 0 0 0) (walk_of fcode)
