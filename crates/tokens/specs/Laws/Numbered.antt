-- What the enums of this crate say is what the definitions compute. Assumes nothing.
use Rattle.std.specs.Prelude.{ℕ, Bool, true, false, List, ◌≡◌, refl, Err, Ok}
use Rattle.cells.specs.Choice.{pick}
use Rattle.tokens.specs.Decode.{decode_of}
use Rattle.tokens.specs.Place.{misplaced_of, judged, read_of}
use Rattle.cells.specs.Laws.Numbered.{pick_says}
use Rattle.tokens.specs.declared.decoding.Decoded.{Decoded}
use Rattle.tokens.specs.declared.decoding.Decoded.TheVariants.{Cut, Unlisted, Whole}
use Rattle.tokens.specs.Numbered.{decoded_says, read_says}

abbrev pub is_cut : Decoded → Bool
is_cut Cut = true
is_cut (Unlisted code) = false
is_cut (Whole t) = false

abbrev pub code_in : Decoded → ℕ
code_in Cut = 0
code_in (Unlisted code) = code
code_in (Whole t) = t.code

-- a token that is read says 10, then 18, then 11, or 0
judged_says : (within : Bool) (d : Decoded)
    → (read_says (judged within d)).number ≡ pick (is_cut d) 10 (pick (misplaced_of (code_in d) within) 18 (decoded_says d).number)
judged_says within Cut = refl
judged_says within (Unlisted code) = refl
judged_says within (Whole t) = pick_says (λ r. (read_says r).number) (misplaced_of t.code within) (Err 18) (Ok t)

pub read_says_lem : (rom : List ℕ) (length : ℕ) (wide within : Bool) (p : ℕ)
    → (read_says (read_of rom length wide within p)).number
    ≡ pick (is_cut (decode_of rom length wide p)) 10
    (pick (misplaced_of (code_in (decode_of rom length wide p)) within) 18 (decoded_says (decode_of rom length wide p)).number)
unfolding read_of
read_says_lem rom length wide within p = judged_says within (decode_of rom length wide p)
