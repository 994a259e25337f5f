-- A spread ROM is judged and run as the same FCode bytes behind start1 are, but for a string in the ROM.
--
-- In plain words. A ROM has the start F2 or F3 and a ROM's size. Beside it lies another that is not spread: its FCode bytes one behind
-- the other, with F1 for their first. Opening says the same of both and hands back the same state (`OpensSo`). Whatever `screen`
-- answers for the one, with the marks that it leaves, is what it answers and leaves for the other (`ScreensSo`). A step, and a run with
-- any budget, of any state that the ROM is long enough for and with any work memory and store, hand back the same and leave the same, as
-- long as no token on the way resolves a string that lies in the ROM's window, or fetches the header's first byte, in which the two
-- differ (`StepsSo`, `RunsSo`). A token of a spread ROM that resolves such a string meets 22, if nothing that is tested before it: a house
-- rule of request (vii) of document 02 (`RefusesSo`).
--
-- It is said of what the contracts of `screen`, `open`, `step` and `run` promise, which speak of `fcode_of` of the ROM that is lent;
-- that of the other is its bytes as they are. Assumes nothing.
use Rattle.std.specs.Prelude.{ℕ, zero, suc, ◌≤◌, ◌≡◌, Bool, true, false, ◌||◌, List, length, eqb, Ok, Result}
use Rattle.rom.specs.Spread.{is_spread, fcode_of, unspread_of}
use Rattle.rom.specs.Header.{header_of, wrong_rom}
use Rattle.tokens.specs.Family.{fetch, encode_string, property, titled}
use Rattle.tokens.specs.Place.{read_of}
use Rattle.tokens.specs.declared.decoding.Token.{Token}
use Rattle.memory.specs.Window.{rom_base, range_of}
use Rattle.memory.specs.declared.window.Window.{Window}
use Rattle.memory.specs.declared.window.Window.TheVariants.{Rom, Work, Nowhere}
use Rattle.state.specs.State.{is_open}
use Rattle.state.specs.Scene.{Scene, scene, cell_of}
use Rattle.state.specs.Refusals.{asked, no_window}
use Rattle.state.specs.Step.{token_turn, step_of}
use Rattle.state.specs.Run.{then, run_of}
use Rattle.state.specs.Open.{open_of}
use Rattle.state.specs.declared.state.State.{State}
use Rattle.state.specs.Answer.{Going}
use Rattle.screen.specs.Promise.{Promised}

-- ---- what a token may not do
-- a range that lies in the ROM's window, an empty one too
abbrev pub lies_in_rom : Window → Bool
lies_in_rom (Rom k) = true
lies_in_rom (Work k) = false
lies_in_rom Nowhere = false

abbrev pub rom_text : Scene → ℕ → ℕ → Bool
rom_text s address count = lies_in_rom (range_of s.rom s.work s.state.length address count)

-- it resolves a string in the ROM: 114, 110 with two, and 201, 119 and 11A
abbrev pub resolves_rom : Scene → Token → Bool
resolves_rom s t =
    asked encode_string t (λ s t. rom_text s (cell_of s 1) (cell_of s 0)) s
    || asked property t (λ s t. rom_text s (cell_of s 1) (cell_of s 0) || rom_text s (cell_of s 3) (cell_of s 2)) s
    || asked titled t (λ s t. rom_text s (cell_of s 1) (cell_of s 0)) s

-- it fetches the first byte, alone or in a cell
abbrev pub fetches_start : Scene → Token → Bool
fetches_start s t = asked fetch t (λ s t. eqb (cell_of s 0) rom_base) s

abbrev pub touches : Scene → Token → Bool
touches s t = fetches_start s t || resolves_rom s t

-- the token at the state's place does neither
abbrev pub Untouched : Scene → Type 0
Untouched s = (t : Token) → read_of s.rom s.state.length s.state.wide (is_open s.state.calls) s.state.place ≡ Ok t
    → touches s t ≡ false

-- nor do so many from there on, or fewer where the run ends before
abbrev pub UntouchedFor : ℕ → Scene → Type 0
UntouchedFor zero s = Unit {0}
UntouchedFor (suc k) s = Untouched s × ((token_turn s).answer ≡ Going → UntouchedFor k (then s (token_turn s)))

-- ---- the theorem
-- a ROM as it is lent: it is spread, and 1 is not given for it
pub record SpreadRom (rom : List ℕ) : Type 0 where
  pub spread : is_spread rom ≡ true
  pub sized : wrong_rom (fcode_of rom) ≡ false

-- the other ROM, as it is lent
abbrev pub other_of : List ℕ → List ℕ
other_of rom = unspread_of (fcode_of rom)

abbrev pub OpensSo : Type 0
OpensSo = (rom : List ℕ) → SpreadRom rom → (header_of (fcode_of rom) ≡ header_of (fcode_of (other_of rom)))
    × ((work store : List ℕ) → open_of (fcode_of rom) work store ≡ open_of (fcode_of (other_of rom)) work store)

abbrev pub ScreensSo : Type 0
ScreensSo = (rom before after after' : List ℕ) (v v' : Result (Unit {0}) ℕ) → SpreadRom rom → Promised (fcode_of rom) before v after
    → Promised (fcode_of (other_of rom)) before v' after' → (v ≡ v') × (after ≡ after')

abbrev pub StepsSo : Type 0
StepsSo = (rom work store : List ℕ) (st : State) → SpreadRom rom → st.length ≤ length (fcode_of rom)
    → Untouched (scene (fcode_of rom) work store st)
    → step_of (scene (fcode_of rom) work store st) ≡ step_of (scene (fcode_of (other_of rom)) work store st)

abbrev pub RunsSo : Type 0
RunsSo = (rom work store : List ℕ) (st : State) → SpreadRom rom → st.length ≤ length (fcode_of rom)
    → (budget : ℕ) → UntouchedFor budget (scene (fcode_of rom) work store st)
    → run_of budget (scene (fcode_of rom) work store st) ≡ run_of budget (scene (fcode_of (other_of rom)) work store st)

-- a token of a spread ROM that resolves a string there meets 22, or what is tested before it
abbrev pub RefusesSo : Type 0
RefusesSo = (s : Scene) (t : Token) → is_spread s.rom ≡ true → resolves_rom s t ≡ true → no_window s t ≡ true

abbrev pub AsUnspread : Type 0
AsUnspread = OpensSo × ScreensSo × StepsSo × RunsSo × RefusesSo
