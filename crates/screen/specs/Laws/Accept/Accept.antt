-- Where the model's rounds pass there is an assignment: the heights are those that the rounds leave. Assumes nothing.
use Rattle.std.specs.Prelude.{ℕ, ◌≤◌, refl, List}
use Rattle.std.proofs.Common.{arith, ap, ◌∙◌}
use Rattle.rom.specs.Header.{length_of, wide_of}
use Rattle.rom.specs.Sizes.{rom_most}
use Rattle.screen.specs.Reach.{setting}
use Rattle.screen.specs.Rules.{Assignment}
use Rattle.screen.specs.Laws.Found.Model.{Board}
use Rattle.screen.specs.Laws.Walk.Walking.{At}
use Rattle.screen.specs.Laws.Walk.Rounds.{Chain}
use Rattle.screen.specs.Laws.Walk.Chains.{here, first_ready}
use Rattle.screen.specs.Laws.Accept.Cover.{start}
use Rattle.screen.specs.Laws.Accept.Spots.{chain_ran, Out, out_cell}
use Rattle.screen.specs.Laws.Accept.Bodies.{spot}
use Rattle.screen.specs.Laws.Accept.Maxima.{all_need, all_peak, all_back, all_frames, at_end, got_need, got_peak, got_back}
use Rattle.screen.specs.Laws.Accept.Maxima.{got_frames, has_end, at_first}
use Rattle.screen.specs.Laws.Accept.There.{a_token}
use Rattle.screen.specs.Laws.Accept.Order.{stays_in, aimed_in_lem}
use Rattle.screen.specs.Laws.Accept.Once.{value_sum_lem, one_definition}
use Rattle.screen.specs.Laws.Accept.Counts.{few_numbers, few_nodes, some_children, no_children}
use Rattle.screen.specs.Laws.Accept.Spans.{no_overlap, clear_span, body_read}
use Rattle.screen.specs.Laws.Accept.Heights.{height_left, back_left, sum_left}
use Rattle.screen.specs.Laws.Found.Cell.{height_in, back_in, first_cell, height_in_lem, back_in_lem}

module _ (rom : List ℕ) (fits : length_of rom ≤ rom_most) {last : Board} (passed : Chain rom (start rom fits) last) where
  abbrev start_out : Out rom fits passed (setting (wide_of rom)) 8
  start_out =
      record {
        board = start rom fits;
        follows = here;
        ran = chain_ran rom fits (first_ready rom fits) passed;
        chain = passed;
        cell = first_cell;
        at = At.begins;
        setting = refl;
      }

  pub accept : Assignment rom
  accept =
      record {
        height = height_left last;
        back = back_left last;
        sum = sum_left last;
        start = let c = out_cell rom fits passed start_out in
            (ap height_in c ∙ height_in_lem 0 0 (omega arith), ap back_in c ∙ back_in_lem 0 0 (omega arith));
        enter = at_first rom fits passed;
        there = λ m. ((spot rom fits passed m).takes, (spot rom fits passed m).return_takes);
        flow = λ {q = q} m l. (spot rom fits passed m).flow q l;
        plain = λ m. (spot rom fits passed m).allowed;
        ended = has_end rom fits passed;
        ends = λ b m l. at_end rom fits passed b m l;
        stays = stays_in rom fits passed;
        need = λ b. record { all = λ m. all_need rom fits passed b m; got = got_need rom fits passed b };
        peak = λ b. record { all = λ m. all_peak rom fits passed b m; got = got_peak rom fits passed b };
        return_peak = λ b. record { all = λ m. all_back rom fits passed b m; got = got_back rom fits passed b };
        frames = λ b. record { all = λ m. all_frames rom fits passed b m; got = got_frames rom fits passed b };
        valued = value_sum_lem rom fits passed;
        data_limit = λ m. ((spot rom fits passed m).low, (spot rom fits passed m).rise);
        return_limit = λ m. (spot rom fits passed m).return_rise;
        frame_limit = λ m. (spot rom fits passed m).frames;
        apart = no_overlap rom fits passed;
        clear = λ m w i k f lo hi. clear_span rom fits passed m w i k f (omega (arith, lo)) hi;
        known = λ m. (spot rom fits passed m).known;
        once = one_definition rom fits passed;
        few = few_numbers rom fits passed;
        opened = some_children rom fits passed;
        closed = no_children rom fits passed;
        limited = few_nodes rom fits passed;
        whole = a_token rom fits passed;
        read = body_read rom fits passed;
        aimed = λ m. (spot rom fits passed m).aimed;
        aimed_in = aimed_in_lem rom fits passed;
      }
