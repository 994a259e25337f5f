-- A step: "In a step: 6, 1 (the ROM again), 7, 4 (the state's length against it), then 10, 18, 11, 12, 13, 14, 19, 16, 15, 17, 20, and 21
-- to 27 by number. A refused step leaves state, work memory and store as before it. After the first four tests a finished state says
-- finished again and takes no step." The ROM is its FCode bytes, whose first one tells the spread: 1 asks for both its parts, and 4 for the
-- bytes that the length needs, as the header test does. Assumes nothing.
use Rattle.std.specs.Prelude.{ℕ, Bool, true, false, not, ◌||◌, List, length, eqb, Err, Ok, Result}
use Rattle.cells.specs.Choice.{pick}
use Rattle.rom.specs.Sizes.{work_size, store_size}
use Rattle.rom.specs.Header.{wrong_rom, wrong_length}
use Rattle.tokens.specs.Place.{read_of}
use Rattle.tokens.specs.declared.decoding.Token.{Token}
use Rattle.state.specs.State.{is_open}
use Rattle.state.specs.Whole.{damaged_of}
use Rattle.state.specs.Scene.{Scene, Turn, turn, refuse}
use Rattle.state.specs.Refusals.{refusal_of}
use Rattle.state.specs.Effects.{act_of}
use Rattle.state.specs.Answer.{Answer, Going, Finished, Refused, Spent}

-- 6: "a lent buffer has the wrong size"
abbrev pub wrong_sizes : List ℕ → List ℕ → Bool
wrong_sizes work store = not (eqb (length work) work_size) || not (eqb (length store) store_size)

-- what is known before a token is looked at: refused, finished before, or going on to the token
unfoldable pub ready_of : Scene → Answer
ready_of s =
    pick (wrong_sizes s.work s.store) (Refused 6)
    (pick (wrong_rom s.rom) (Refused 1)
    (pick (damaged_of s.state) (Refused 7)
    (pick (wrong_length s.rom s.state.length) (Refused 4)
    (pick s.state.finished Finished Going))))

-- a token that may stand where it stands: refused, or carried out
unfoldable pub done_of : Scene → Token → Turn
done_of s t = elim (eqb (refusal_of s t) 0) [ true ↦ act_of s t | false ↦ refuse (refusal_of s t) s ]

abbrev pub read_turn : Scene → Result Token ℕ → Turn
read_turn s (Err why) = refuse why s
read_turn s (Ok t) = done_of s t

-- the token at the state's place, of a state that is ready
unfoldable pub token_turn : Scene → Turn
token_turn s = read_turn s (read_of s.rom s.state.length s.state.wide (is_open s.state.calls) s.state.place)

-- what is known beforehand, and nothing changed; or the token
abbrev pub known_turn : Answer → Scene → Turn
known_turn a s = turn a s.state s.work s.store

unfoldable pub step_of : Scene → Turn
step_of s =
    elim (ready_of s) [
      | Going ↦ token_turn s
      | Finished ↦ known_turn Finished s
      | Refused why ↦ known_turn (Refused why) s
      | Spent n ↦ known_turn (Spent n) s
    ]
