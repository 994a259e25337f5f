-- What holds of every reachable token of a body, where the model's rounds pass, and so of every one. Assumes nothing.
use Rattle.std.specs.Prelude.{ℕ, zero, suc, ◌+◌, ◌-◌, ◌≤◌, ◌≡◌, false, not, List, T, get_or, Ok}
use Rattle.std.proofs.Common.{arith, sym, ap, ◌∙◌, subst}
use Rattle.rom.specs.Header.{length_of}
use Rattle.rom.specs.Sizes.{return_most, rom_most}
use Rattle.tokens.specs.Laws.Tokens.{next_ahead}
use Rattle.tokens.specs.declared.decoding.Token.{Token}
use Rattle.screen.specs.Effect.{allowed, fixes, astray, effect_of}
use Rattle.screen.specs.Reach.{Setting, token_at, Claim, Holds, Met}
use Rattle.screen.specs.Laws.Walk.Visits.{Meets}
use Rattle.screen.specs.Laws.Found.Model.{Board, body_text, heights_after}
use Rattle.screen.specs.Laws.Walk.Rounds.{far_of, left, Chain}
use Rattle.screen.specs.Laws.Walk.Boards.{BodyRan}
use Rattle.screen.specs.Laws.Walk.Chains.{climbs}
use Rattle.screen.specs.Laws.Accept.Roots.{known_real}
use Rattle.screen.specs.Laws.Accept.Cover.{start, rooted, leads_itself}
use Rattle.screen.specs.Laws.Accept.Spots.{effect_kept, Inside, body_of, body_fits, body_token, body_free, body_on, inside}
use Rattle.screen.specs.Laws.Accept.Cells.{Cells, body_cells, effect_in}
use Rattle.screen.specs.Laws.Accept.Outside.{out_spot}
use Rattle.screen.specs.Laws.Accept.Heights.{height_left, back_left, sum_left, Spot}
use Rattle.screen.specs.Laws.Found.Cell.{height_in_lem, back_in_lem, cell_with, height_in, back_in, heights, entered, body_most}

module _ (rom : List ℕ) (fits : length_of rom ≤ rom_most) {last : Board} (passed : Chain rom (start rom fits) last) where
  module _ {d p : ℕ} {s : Setting} {t : Token} (i : Inside rom fits passed d s p) (e : token_at rom (suc d) s.wide p ≡ Ok t) where
    abbrev y : BodyRan rom (left rom i.board) i.ran.token i.board.stand.wide i.then
    y = body_of rom fits passed i

    pub in_cells : Cells rom fits passed i
    in_cells = body_cells rom fits passed i

    pub same_token : (body_fits rom fits passed i).token ≡ t
    same_token = body_token rom fits passed i e

    pub in_meets : Meets rom (body_text (length_of rom) i.board.stand.wide i.ran.token.next) i.board.kinds i.board.sums p
        i.cell (body_fits rom fits passed i).token
    in_meets = (body_fits rom fits passed i).meets

    pub in_effect : effect_in rom fits passed i ≡ effect_of (sum_left last) t
    in_effect =
        effect_kept rom fits passed i.follows i.chain (body_fits rom fits passed i).token in_meets.named
        ∙ ap (effect_of (sum_left last)) same_token

    pub height_inside : height_left last (suc d) p ≡ in_cells.height + (body_of rom fits passed i).tally.need - entered
    height_inside = ap height_in in_cells.final ∙ height_in_lem _ _ (let l = in_cells.low in omega arith)

    pub back_inside : back_left last (suc d) p ≡ in_cells.back
    back_inside = ap back_in in_cells.final ∙ back_in_lem _ _ (let l = in_cells.low in omega arith)

    pub cell_back : back_in i.cell ≡ in_cells.back
    cell_back = ap back_in in_cells.is ∙ back_in_lem _ _ (let l = in_cells.high in omega arith)

    pub cell_height : height_in i.cell ≡ in_cells.height
    cell_height = ap height_in in_cells.is ∙ height_in_lem _ _ (let l = in_cells.high in omega arith)

    in_free : T (not (fixes t))
    in_free = body_free rom fits passed i e

    in_flow : (q : ℕ) → Holds rom (Claim.leads s.wide p t q)
        → (height_left last (suc d) q ≡ height_left last (suc d) p -
        (effect_of (sum_left last) t).takes + (effect_of (sum_left last) t).gives)
        × (back_left last (suc d) q ≡ back_left last (suc d) p - (effect_of (sum_left last) t).return_takes + (effect_of
        (sum_left last) t).return_gives)
    in_flow q l =
        rw (height_inside, back_inside, ← in_effect) (
          ap height_in final ∙ height_in_lem _ _ (omega (arith, low))
              ∙ (let h = highs in let n = in_cells.enough in let k = in_cells.takes in omega arith),
          ap back_in final ∙ back_in_lem _ _ (omega (arith, low)) ∙ backs,
        )
      where
        c : Cells rom fits passed (body_on rom fits passed i e (leads_itself in_free l))
        c = body_cells rom fits passed (body_on rom fits passed i e (leads_itself in_free l))

        final : get_or last.seen q 0 ≡ cell_with (heights (c.height + y.tally.need - entered) c.back)
        final = c.final

        low : c.height + y.tally.need ≤ body_most
        low = c.low

        cell_is : cell_with (heights c.height c.back) ≡ cell_with (heights_after (effect_in rom fits passed i) i.cell)
        cell_is = sym c.is ∙ (body_fits rom fits passed i).cell

        highs : c.height ≡ in_cells.height - (effect_in rom fits passed i).takes + (effect_in rom fits passed i).gives
        highs =
            sym (height_in_lem c.height c.back (let z = c.high in omega arith)) ∙ ap height_in cell_is
            ∙ height_in_lem _ _ (let z = in_meets.high in omega arith)
            ∙ ap (λ k. k - (effect_in rom fits passed i).takes + (effect_in rom fits passed i).gives) cell_height

        backs : c.back ≡ in_cells.back - (effect_in rom fits passed i).return_takes + (effect_in rom fits passed i).return_gives
        backs =
            sym (back_in_lem c.height c.back (let z = c.high in omega arith)) ∙ ap back_in cell_is
            ∙ back_in_lem _ _ (let z = in_meets.high in omega arith)
            ∙ ap (λ k. k - (effect_in rom fits passed i).return_takes + (effect_in rom fits passed i).return_gives) cell_back

    in_spot : Spot rom last (suc d) s p t
    in_spot =
        record {
          allowed = subst (λ v. T (allowed v)) same_token in_meets.allowed;
          aimed = subst (λ v. T (not (astray v))) same_token in_meets.aimed;
          known = subst (λ v. Holds rom (Claim.known p v)) same_token
              (known_real rom fits (rooted rom fits i.follows) p (body_fits rom fits passed i).token above in_meets.named);
          takes = rw (height_inside, ← in_effect) (let n = in_cells.enough in omega arith);
          return_takes = rw (back_inside, ← in_effect)
              (subst (λ k. (effect_in rom fits passed i).return_takes ≤ k) cell_back in_meets.return_takes);
          low = rw height_inside (let n = in_cells.low in omega arith);
          rise = rw (height_inside, ← in_effect) (let n = in_cells.enough in let k = in_cells.takes in let r = in_cells.rise in
              omega arith);
          return_rise = rw (back_inside, ← in_effect)
              (subst (λ k. k + (effect_in rom fits passed i).return_rise ≤ return_most) cell_back in_meets.return_rise);
          frames = rw (← in_effect) in_meets.frames;
          flow = in_flow;
        }
      where
        above : i.board.stand.start ≤ p
        above =
            let l = (y.walked.inside i.at).0 in
            let n = next_ahead rom (length_of rom) i.board.stand.wide false (far_of rom i.board) i.ran.token i.ran.is in
            let c = climbs rom fits i.ran in
            omega arith

  pub spot : {x p : ℕ} {s : Setting} {t : Token} → Met rom x s p t → Spot rom last x s p t
  spot {x = zero} m = out_spot rom fits passed m
  spot {x = suc d} m = in_spot (inside rom fits passed m.reach) m.is
