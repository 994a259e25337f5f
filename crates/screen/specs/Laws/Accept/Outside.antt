-- What holds of every reachable token outside bodies, where the model's rounds pass. Assumes nothing.
use Rattle.std.specs.Prelude.{ℕ, ◌+◌, ◌-◌, ◌≤◌, ◌≡◌, refl, Bool, true, false, not, ◌||◌, List, T, eqb, get_or, Ok}
use Rattle.std.proofs.Common.{arith, sym, ap, ◌∙◌, subst}
use Rattle.cells.specs.Laws.Facts.{holds, fails, or_second}
use Rattle.rom.specs.Header.{length_of}
use Rattle.rom.specs.Sizes.{rom_most, data_most}
use Rattle.tokens.specs.Family.{call, always, choice, leave, finish}
use Rattle.tokens.specs.Definition.{takes_here}
use Rattle.tokens.specs.declared.decoding.Token.{Token}
use Rattle.screen.specs.Effect.{is_a, fixes, leads_of, effect_of}
use Rattle.screen.specs.Reach.{In, Setting, token_at, Claim, Holds, Met}
use Rattle.screen.specs.Laws.Rules.Tokens.{fixes_is, stops_quiet}
use Rattle.screen.specs.Laws.Rules.Ways.{effect_own}
use Rattle.screen.specs.Laws.Walk.Visits.{Meets, Fits, visit_fits, visited}
use Rattle.screen.specs.Laws.Found.Model.{Board, visit_of, sum_at, outside_text, heights_after}
use Rattle.screen.specs.Laws.Walk.Walking.{At}
use Rattle.screen.specs.Laws.Walk.Advancing.{setting_of}
use Rattle.screen.specs.Laws.Walk.Rounds.{ran, far_of, Next, Chain}
use Rattle.screen.specs.Laws.Walk.Boards.{Advanced, advanced}
use Rattle.screen.specs.Laws.Walk.Chains.{then, one_token}
use Rattle.screen.specs.Laws.Accept.Roots.{known_real, start_only}
use Rattle.screen.specs.Laws.Accept.Cover.{start, ready, rooted, round_end_lem, leads_itself, leads_way}
use Rattle.screen.specs.Laws.Accept.Spots.{at_bound, chain_ran, behind, Out, outside, out_cell, effect_kept}
use Rattle.screen.specs.Laws.Accept.Heights.{height_left, back_left, sum_left, Spot}
use Rattle.screen.specs.Laws.Found.Cell.{height_in_lem, back_in_lem, cell_with, height_in, back_in, heights, height_low, Bound}

module _ (rom : List ℕ) (fits : length_of rom ≤ rom_most) {last : Board} (passed : Chain rom (start rom fits) last) where
  module _ {s : Setting} {p : ℕ} {t : Token} (m : Met rom 0 s p t) where
    pub out_of : Out rom fits passed s p
    out_of = outside rom fits passed m.reach

    pub out_is : token_at rom 0 out_of.board.stand.wide p ≡ Ok t
    out_is = subst (λ v. token_at rom 0 v.wide p ≡ Ok t) out_of.setting m.is

    out_fits : Fits rom (outside_text (length_of rom) out_of.board.stand) out_of.board.kinds out_of.board.sums p out_of.cell
    out_fits = visit_fits rom (outside_text (length_of rom) out_of.board.stand) out_of.board.kinds out_of.board.sums p
        out_of.cell (out_of.ran.walked.fine out_of.at)

    pub out_meets : Meets rom (outside_text (length_of rom) out_of.board.stand) out_of.board.kinds out_of.board.sums p
        out_of.cell t
    out_meets =
        subst (λ v. Meets rom (outside_text (length_of rom) out_of.board.stand) out_of.board.kinds out_of.board.sums p
        out_of.cell v)
        (let f = out_fits.meets.is in let g = out_is in cc (f, g)) out_fits.meets

    out_effect : effect_of (sum_at out_of.board.sums) t ≡ effect_of (sum_left last) t
    out_effect = effect_kept rom fits passed out_of.follows out_of.chain t out_meets.named

    out_bound : Bound data_most out_of.cell
    out_bound = at_bound {x = outside_text (length_of rom) out_of.board.stand} (ready rom fits out_of.follows).fair out_of.at

    height_out : height_left last 0 p ≡ out_bound.height
    height_out = ap height_in (out_cell rom fits passed out_of ∙ out_bound.is)
        ∙ height_in_lem out_bound.height out_bound.back (let l = out_bound.low in omega arith)

    cell_out : get_or last.seen p 0 ≡ out_of.cell
    cell_out = out_cell rom fits passed out_of

    -- a token that ends no round
    same_round : T (not (fixes t)) → (q : ℕ) → In q (leads_of t)
        → get_or last.seen q 0 ≡ cell_with (heights_after (effect_of (sum_at out_of.board.sums) t) out_of.cell)
    same_round n q i = out_cell rom fits passed next_out ∙ ap (λ v. v.cell) (visited out_meets)
      where
        same : out_fits.token ≡ t
        same = let f = out_fits.meets.is in let g = out_is in cc (f, g)

        next_out : Out rom fits passed s q
        next_out =
            record {
              board = out_of.board;
              follows = out_of.follows;
              ran = out_of.ran;
              chain = out_of.chain;
              cell = (visit_of rom (outside_text (length_of rom) out_of.board.stand) out_of.board.kinds out_of.board.sums p
                  out_of.cell).cell;
              at = At.on out_of.at (out_of.ran.walked.fine out_of.at)
                  (leads_way out_fits (subst (λ v. T (not (fixes v))) (sym same) n) (subst (λ v. In q (leads_of v)) (sym same) i));
              setting = out_of.setting;
            }

    -- one that does
    pub at_far : T (fixes t) → (p ≡ far_of rom out_of.board) × (t ≡ out_of.ran.token)
    at_far f = round_end_lem rom fits out_of.ran out_of.at out_is f

    pub record Passing : Type 0 where
      pub after : Board
      pub next : Next rom out_of.board after
      pub rest : Chain rom after last
      pub does : Advanced rom out_of.board t after
      pub place : p ≡ far_of rom out_of.board

    pub passing : T (fixes t) → Passing
    passing f =
        let u = at_far f in
        let e = behind rom fits out_of.ran (subst (λ v. T (fixes v)) u.1 f) out_of.chain in
        let z = advanced rom fits (ready rom fits out_of.follows) e.next in
        record {
          after = e.board;
          next = e.next;
          rest = e.chain;
          does = subst (λ v. Advanced rom out_of.board v e.board) (sym (u.1 ∙ one_token rom fits out_of.ran z.0)) z.1;
          place = u.0;
        }

    -- it reaches up to the next round's start, and leads there alone
    pub only_start : (f : T (fixes t)) (q : ℕ) → Holds rom (Claim.leads s.wide p t q) → q ≡ (passing f).after.stand.start
    only_start f q l = start_only rom fits out_of.ran (subst (λ v. T (fixes v)) u.1 f) (rooted rom fits out_of.follows)
        (subst (λ v. Advanced rom out_of.board v (passing f).after) u.1 (passing f).does) l'
      where
        u : (p ≡ far_of rom out_of.board) × (t ≡ out_of.ran.token)
        u = at_far f

        l' : Holds rom (Claim.leads out_of.board.stand.wide (far_of rom out_of.board) out_of.ran.token q)
        l' =
            subst (λ v. Holds rom (Claim.leads out_of.board.stand.wide v out_of.ran.token q)) u.0
            (subst (λ v. Holds rom (Claim.leads out_of.board.stand.wide p v q)) u.1
            (subst (λ v. Holds rom (Claim.leads v.wide p t q)) out_of.setting l))

    next_cell : (f : T (fixes t)) → get_or last.seen (passing f).after.stand.start 0 ≡ cell_with
        (heights (height_in out_of.cell - takes_here t) (back_in out_of.cell))
    next_cell f =
        out_cell rom fits passed first_out ∙ (passing f).does.cell
        ∙ ap (λ c. cell_with (heights (height_in c - takes_here t) (back_in c))) here_cell
      where
        first_out : Out rom fits passed (setting_of (passing f).after.stand) (passing f).after.stand.start
        first_out =
            record {
              board = (passing f).after;
              follows = then rom fits out_of.follows (passing f).next;
              ran = chain_ran rom fits (passing f).does.ready (passing f).rest;
              chain = (passing f).rest;
              cell = (passing f).after.stand.cell;
              at = At.begins;
              setting = refl;
            }

        here_cell : get_or (ran rom out_of.board).seen (far_of rom out_of.board) 0 ≡ out_of.cell
        here_cell = subst (λ k. get_or (ran rom out_of.board).seen k 0 ≡ out_of.cell) (passing f).place
            (out_of.ran.walked.marked out_of.at)

    out_flow : (q : ℕ) → Holds rom (Claim.leads s.wide p t q)
        → (height_left last 0 q ≡ height_left last 0 p - (effect_of (sum_left last) t).takes + (effect_of (sum_left last) t).gives)
        × (back_left last 0 q ≡ back_left last 0 p - (effect_of (sum_left last) t).return_takes +
        (effect_of (sum_left last) t).return_gives)
    out_flow q l = by (fixes t) refl
      where
        not_call : T (fixes t) → T (not (is_a call t))
        not_call f = fixes_is (λ k. T (not (eqb k call))) t tt tt tt tt f

        by : (k : Bool) → fixes t ≡ k
            → (height_left last 0 q ≡ height_left last 0 p - (effect_of (sum_left last) t).takes + (effect_of (sum_left last) t).gives)
            × (back_left last 0 q ≡ back_left last 0 p - (effect_of (sum_left last) t).return_takes + (effect_of
            (sum_left last) t).return_gives)
        by false e =
            let n = fails (fixes t) e in
            let c = same_round n q (leads_itself n l) in
            rw (c, cell_out, ← out_effect) (
              height_in_lem _ _ (let h = out_meets.high in omega arith),
              back_in_lem _ _ (let h = out_meets.high in
                  omega arith),
            )
        by true e =
            let f = holds (fixes t) e in
            let c : get_or last.seen q 0 ≡ cell_with (heights (height_in out_of.cell - takes_here t) (back_in out_of.cell)) =
            ap (λ k. get_or last.seen k 0) (only_start f q l) ∙ next_cell f in
            let g = stops_quiet rom (length_of rom) s.wide false p t m.is
            (or_second (is_a finish t || is_a leave t || is_a always t || is_a choice t) (fixes t) f) in
            rw (c, cell_out, effect_own (sum_left last) t (not_call f)) (
              height_in_lem _ _ (omega (arith, height_low out_of.cell)) ∙ omega (arith, g.0),
              back_in_lem _ _ (omega (arith, height_low out_of.cell)) ∙ omega (arith, g.1, g.2),
            )

    pub out_spot : Spot rom last 0 s p t
    out_spot =
        record {
          allowed = out_meets.allowed;
          aimed = out_meets.aimed;
          known = known_real rom fits (rooted rom fits out_of.follows) p t (out_of.ran.walked.inside out_of.at).0
              out_meets.named;
          takes = rw (cell_out, ← out_effect) out_meets.takes;
          return_takes = rw (cell_out, ← out_effect) out_meets.return_takes;
          low = let h = height_out in let l = out_bound.low in omega arith;
          rise = rw (cell_out, ← out_effect) out_meets.rise;
          return_rise = rw (cell_out, ← out_effect) out_meets.return_rise;
          frames = rw (← out_effect) out_meets.frames;
          flow = out_flow;
        }
