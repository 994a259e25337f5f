-- The claim of specs/Laws/Table.antt, proved. Assumes nothing.
use Rattle.std.specs.Prelude.{ℕ, ◌≡◌, refl, Bool, true, false, ◌&&◌, List, [], ◌∷◌, length, replicate, take, eqb}
use Rattle.std.proofs.Common.{◌∙◌}
use Rattle.std.proofs.lemmas.List.{length-replicate}
use Rattle.cells.specs.Arithmetic.{ashift_of}
use Rattle.rom.specs.Sizes.{work_size, store_size, marks_size}
use Rattle.rom.specs.Sum.{sum_of}
use Rattle.rom.specs.Header.{header_of}
use Rattle.rom.specs.Branch.{aim_of}
use Rattle.tokens.specs.Table.{ends, lows, highs, doubles, table, row_of}
use Rattle.tokens.specs.Code.{code_of}
use Rattle.tokens.specs.Decode.{behind_of, operand_of, token_if_whole, decode_of}
use Rattle.tokens.specs.Place.{misplaced_of, read_of}
use Rattle.tree.specs.Held.{same_bytes}
use Rattle.state.specs.Stacks.{left_of, plain_of}
use Rattle.state.specs.Scene.{Turn, scene}
use Rattle.state.specs.Refusals.{refusal_of}
use Rattle.state.specs.Effects.{effects, act_of}
use Rattle.state.specs.Step.{done_of, token_turn}
use Rattle.state.specs.Run.{RunResult, run_of}
use Rattle.state.specs.Open.{open_of}
use Rattle.state.specs.Laws.Keeps.Open.{opened, open_good}
use Rattle.state.specs.Laws.Steps.{run_opened, tokens_from}
use Rattle.tokens.specs.Body.{unknown_of}
use Rattle.screen.specs.Effect.{effect_of}
use Rattle.screen.specs.Laws.Found.Model.{screen_of, last_of, rounds_of, round_of, apart_of, advance_of, define_of, colon_of, starts_of}
use Rattle.screen.specs.Laws.Found.Model.{body_walked}
use Rattle.screen.specs.Laws.Found.Model.{body_shifted}
use Rattle.screen.specs.Laws.Found.Model.{tallied, passes_of, shift_of, walk_all, walk_steps, walk_step, visited_on, puts_of, put_visit}
use Rattle.screen.specs.Laws.Found.Model.{visit_of}
use Rattle.screen.specs.Laws.Found.Model.{token_visit, sound_of, fits_of, sum_at}
use Rattle.screen.specs.Laws.Found.Screen.{verdict_on, judged_of, screened_of}
use Rattle.screen.specs.Laws.Code.Screen.{screen_judged}
use Rattle.screen.specs.Laws.Found.Cell.{cell_with, heights_in, mark_in, moved_cell}
use Rattle.screen.specs.Laws.Found.Sums.{packed_sum, unpacked_sum}
use Rattle.state.specs.Answer.{Answer, Going, Finished, Refused, Spent}
use Rattle.promise.specs.Laws.Table.{Case, cases, same_answer, same_verdict, ends_so, lent_marks, lent_work, lent_store, screens, runs}
use Rattle.promise.specs.Laws.Table.{agrees, every, lent}

pub work_size_lem : length lent_work ≡ work_size
work_size_lem = length-replicate {A = ℕ} work_size 0xAA

pub store_size_lem : length lent_store ≡ store_size
store_size_lem = length-replicate {A = ℕ} store_size 0xAA

-- tokens alone are far quicker to compute than a run, which asks everything of its state again before each token
abbrev tokens_agree : Case → Bool
tokens_agree c = same_verdict (verdict_on lent_marks (screen_of c.rom)).verdict c.verdict && ends_so c
    (tokens_from c.budget 0 (opened c.rom))

abbrev OpensAs : List Case → Type 0
OpensAs [] = Unit {0}
OpensAs (c ∷ cs) = (header_of c.rom ≡ 0) × OpensAs cs

same_agree : (c : Case) → header_of c.rom ≡ 0 → agrees c ≡ tokens_agree c
unfolding same_answer judged_of
same_agree c e =
    rw (
      ← screen_judged c.rom lent_marks (length-replicate {A = ℕ} marks_size 0xAA) e,
      open_good c.rom lent_work lent_store work_size_lem store_size_lem e,
      run_opened c.budget c.rom e,
    )

same_every : (cs : List Case) → OpensAs cs → every agrees cs ≡ every tokens_agree cs
same_every [] o = refl
same_every (c ∷ cs) o = rw (same_agree c o.0, same_every cs o.1)

all_open : OpensAs cases
unfolding header_of sum_of
all_open = (refl, (refl, (refl, (refl, (refl, (refl, (refl, (refl, (refl, tt)))))))))

all_tokens : every tokens_agree cases ≡ true
unfolding ashift_of sum_of aim_of ends lows highs doubles table row_of code_of behind_of operand_of token_if_whole decode_of misplaced_of
    read_of
    same_bytes left_of plain_of refusal_of effects act_of done_of token_turn tokens_from same_answer same_verdict unknown_of effect_of
    screen_of last_of
    rounds_of round_of apart_of advance_of define_of colon_of starts_of body_walked body_shifted tallied passes_of shift_of walk_all
    walk_steps walk_step
    visited_on puts_of put_visit visit_of token_visit sound_of fits_of sum_at packed_sum unpacked_sum cell_with heights_in mark_in
    moved_cell
all_tokens = refl

pub claim : every agrees cases ≡ true
claim = same_every cases all_open ∙ all_tokens
