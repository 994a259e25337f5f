-- The bench ROMs of document 01 that are "proved of the definitions, as a single table under a single claim", and the one that
-- document 02 adds: each is screened, opened and run, and the screen and the run end as they are said to. Assumes nothing.
use Rattle.std.specs.Prelude.{ℕ, ◌≡◌, refl, Bool, true, false, ◌&&◌, List, [], ◌∷◌, length, replicate, take, eqb, Err, Ok, Result}
use Rattle.std.proofs.Common.{◌∙◌}
use Rattle.std.proofs.lemmas.List.{length-replicate}
use Rattle.cells.specs.Arithmetic.{ashift_of}
use Rattle.rom.specs.Sizes.{work_size, store_size, marks_size}
use Rattle.rom.specs.Sum.{sum_of}
use Rattle.rom.specs.Header.{header_of}
use Rattle.rom.specs.Branch.{aim_of}
use Rattle.tokens.specs.Table.{ends, lows, highs, doubles, table, row_of}
use Rattle.tokens.specs.Code.{code_of}
use Rattle.tokens.specs.Decode.{behind_of, operand_of, token_if_whole, decode_of}
use Rattle.tokens.specs.Place.{misplaced_of, read_of}
use Rattle.tree.specs.Held.{same_bytes}
use Rattle.state.specs.Stacks.{left_of, plain_of}
use Rattle.state.specs.Scene.{Turn, scene}
use Rattle.state.specs.Refusals.{refusal_of}
use Rattle.state.specs.Effects.{effects, act_of}
use Rattle.state.specs.Step.{done_of, token_turn}
use Rattle.state.specs.Run.{RunResult, run_of}
use Rattle.state.specs.Open.{open_of}
use Rattle.state.specs.Laws.Keeps.Open.{opened, open_good}
use Rattle.state.specs.Laws.Steps.{run_opened, tokens_from}
use Rattle.tokens.specs.Body.{unknown_of}
use Rattle.screen.specs.Effect.{effect_of}
use Rattle.screen.specs.Laws.Found.Model.{screen_of, last_of, rounds_of, round_of, apart_of, advance_of, define_of, colon_of, starts_of}
use Rattle.screen.specs.Laws.Found.Model.{body_walked}
use Rattle.screen.specs.Laws.Found.Model.{body_shifted}
use Rattle.screen.specs.Laws.Found.Model.{tallied, passes_of, shift_of, walk_all, walk_steps, walk_step, visited_on, puts_of, put_visit}
use Rattle.screen.specs.Laws.Found.Model.{visit_of}
use Rattle.screen.specs.Laws.Found.Model.{token_visit, sound_of, fits_of, sum_at}
use Rattle.screen.specs.Laws.Found.Screen.{verdict_on, judged_of, screened_of}
use Rattle.screen.specs.Laws.Code.Screen.{screen_judged}
use Rattle.screen.specs.Laws.Found.Cell.{cell_with, heights_in, mark_in, moved_cell}
use Rattle.screen.specs.Laws.Found.Sums.{packed_sum, unpacked_sum}
use Rattle.state.specs.Answer.{Answer, Going, Finished, Refused, Spent}

-- a ROM, what the screen says of it, a budget, and what the run says: its answer, how many tokens it carried out, and the cells that it
-- leaves, the lowest first
pub record Case : Type 0 where
  pub rom : List ℕ
  pub verdict : Result (Unit {0}) ℕ
  pub budget : ℕ
  pub answer : Answer
  pub steps : ℕ
  pub leaves : List ℕ

abbrev pub case : List ℕ → Result (Unit {0}) ℕ → ℕ → Answer → ℕ → List ℕ → Case
case rom verdict budget answer steps leaves =
    record { rom = rom; verdict = verdict; budget = budget; answer = answer; steps = steps; leaves = leaves }

abbrev pub cases : List Case
cases =
    case (0xFD ∷ 0x08 ∷ 0x00 ∷ 0x00 ∷ 0x00 ∷ 0x00 ∷ 0x00 ∷ 0x09 ∷ 0x00 ∷ []) (Ok tt) 1000 Finished 1 [] ∷
    case (0xFD ∷ 0x08 ∷ 0x00 ∷ 0x46 ∷ 0x00 ∷ 0x00 ∷ 0x00 ∷ 0x0A ∷ 0x46 ∷ 0x00 ∷ []) (Err 31) 1000 (Refused 14) 0 [] ∷
    case (0xFD ∷ 0x08 ∷ 0x01 ∷ 0x76 ∷ 0x00 ∷ 0x00 ∷ 0x00 ∷ 0x0C ∷ 0xA6 ∷ 0xA5 ∷ 0x2B ∷ 0x00 ∷ []) (Ok tt) 1000 (Refused 21) 2 (1 ∷ 0 ∷ []) ∷
    case (0xFD ∷ 0x08 ∷ 0x01 ∷ 0x12 ∷ 0x00 ∷ 0x00 ∷ 0x00 ∷ 0x0B ∷ 0x13 ∷ 0xFF ∷ 0x00 ∷ []) (Ok tt) 1000 (Spent 1000) 1000 [] ∷
    case (0xFD ∷ 0x08 ∷ 0x00 ∷ 0x13 ∷ 0x00 ∷ 0x00 ∷ 0x00 ∷ 0x0A ∷ 0x13 ∷ 0x00 ∷ []) (Err 31) 1000 Finished 2 [] ∷
    case (0xFD ∷ 0x08 ∷ 0x00 ∷ 0xF6 ∷ 0x00 ∷ 0x00 ∷ 0x00 ∷ 0x0B ∷ 0xA6 ∷ 0x50 ∷ 0x00 ∷ []) (Err 31) 1000 Finished 3 (1 ∷ 1 ∷ []) ∷
    -- no token stands behind the last: 10
    case (0xFD ∷ 0x08 ∷ 0x01 ∷ 0x73 ∷ 0x00 ∷ 0x00 ∷ 0x00 ∷ 0x0B ∷ 0xA4 ∷ 0xA6 ∷ 0x29 ∷ []) (Err 31) 1000 (Refused 10) 3
    (0xFFFF_FFFF ∷ []) ∷
    case (
    0xFD ∷ 0x08 ∷ 0x00 ∷ 0x84 ∷ 0x00 ∷ 0x00 ∷ 0x00 ∷ 0x18 ∷ 0x10 ∷ 0x00 ∷ 0x00 ∷ 0x00 ∷ 0x05 ∷ 0x10 ∷ 0x00 ∷ 0x00 ∷ 0x00 ∷ 0x05 ∷ 0x10 ∷
    0x00 ∷
    0x00 ∷ 0x00 ∷ 0x05 ∷ 0x45 ∷ []
    ) (Err 31) 1000 (Refused 10) 4 (0 ∷ []) ∷
    -- document 02, (iv): n=5, min=3, max=-3 is within
    case (
    0xFD ∷ 0x08 ∷ 0x04 ∷ 0x77 ∷ 0x00 ∷ 0x00 ∷ 0x00 ∷ 0x19 ∷ 0x10 ∷ 0x00 ∷ 0x00 ∷ 0x00 ∷ 0x05 ∷ 0x10 ∷ 0x00 ∷ 0x00 ∷ 0x00 ∷ 0x03 ∷
    0x10 ∷ 0xFF ∷ 0xFF ∷ 0xFF ∷ 0xFD ∷ 0x45 ∷ 0x00 ∷ []
    ) (Ok tt) 1000 Finished 5 (0xFFFF_FFFF ∷ []) ∷
    []

unfoldable pub same_answer : Answer → Answer → Bool
same_answer Going b = elim b [ Going ↦ true | Finished ↦ false | Refused n ↦ false | Spent n ↦ false ]
same_answer Finished b = elim b [ Going ↦ false | Finished ↦ true | Refused n ↦ false | Spent n ↦ false ]
same_answer (Refused m) b = elim b [ Going ↦ false | Finished ↦ false | Refused n ↦ eqb m n | Spent n ↦ false ]
same_answer (Spent m) b = elim b [ Going ↦ false | Finished ↦ false | Refused n ↦ false | Spent n ↦ eqb m n ]

unfoldable pub same_verdict : Result (Unit {0}) ℕ → Result (Unit {0}) ℕ → Bool
same_verdict (Ok tt) w = elim w [ (Ok tt) ↦ true | Err n ↦ false ]
same_verdict (Err m) w = elim w [ (Ok tt) ↦ false | Err n ↦ eqb m n ]

abbrev pub ends_so : Case → RunResult → Bool
ends_so c o =
    same_answer o.answer c.answer
    && (eqb o.count c.steps && same_bytes (take o.state.stack.height o.state.stack.cells) c.leaves)

-- marks, work memory and store as they are lent
abbrev pub lent : ℕ → List ℕ
lent size = replicate size 0xAA

abbrev pub lent_marks : List ℕ
lent_marks = lent marks_size

abbrev pub lent_work : List ℕ
lent_work = lent work_size

abbrev pub lent_store : List ℕ
lent_store = lent store_size

-- the screen says of the ROM what the case says
abbrev pub screens : Case → Bool
screens c = same_verdict (screened_of c.rom lent_marks).verdict c.verdict

-- the ROM is opened, and its run from there ends as the case says
abbrev pub runs : Case → Bool
runs c = same_answer o.answer Going && ends_so c (run_of c.budget (scene c.rom o.work o.store o.state))
  where
    o : Turn
    o = open_of c.rom lent_work lent_store

abbrev pub agrees : Case → Bool
agrees c = screens c && runs c

abbrev pub every : (Case → Bool) → List Case → Bool
every f [] = true
every f (c ∷ cs) = f c && every f cs
