-- Where the model's rounds pass: the heights that a token of a body has at the end. Assumes nothing.
use Rattle.std.specs.Prelude.{ℕ, suc, ◌+◌, ◌-◌, ◌≤◌, ◌<◌, max, ◌≡◌, refl, true, false, ◌&&◌, List, ◌≢◌, leb, eqb, get_or}
use Rattle.std.proofs.Common.{arith, sym, ap, ◌∙◌, subst, leb→le}
use Rattle.std.proofs.Math.Bool.{not}
use Rattle.cells.specs.Laws.Tests.{neqb→ne}
use Rattle.cells.specs.Laws.Facts.{holds, is_true, both_hold, when_true}
use Rattle.rom.specs.Header.{length_of}
use Rattle.rom.specs.Sizes.{rom_most, return_most}
use Rattle.tokens.specs.Laws.Tokens.{next_ahead}
use Rattle.tokens.specs.declared.decoding.Token.{Token}
use Rattle.screen.specs.declared.effect.Effect.{Effect}
use Rattle.screen.specs.Effect.{effect_of}
use Rattle.screen.specs.Reach.{Setting, Reach, Starts}
use Rattle.screen.specs.Laws.Walk.Visits.{Meets}
use Rattle.screen.specs.Laws.Found.Model.{Board, sum_at, shifted_cell, body_text, passes_of}
use Rattle.screen.specs.Laws.Walk.Walking.{At}
use Rattle.screen.specs.Laws.Walk.Marking.{walked_met, Cell}
use Rattle.screen.specs.Laws.Walk.Tallying.{Among}
use Rattle.screen.specs.Laws.Walk.Rounds.{ran_above, ran, far_of, left, Chain}
use Rattle.screen.specs.Laws.Walk.Boards.{BodyRan}
use Rattle.screen.specs.Laws.Walk.Chains.{chain_kept}
use Rattle.screen.specs.Laws.Accept.Cover.{start, ready, rooted}
use Rattle.screen.specs.Laws.Accept.Roots.{body_reach}
use Rattle.screen.specs.Laws.Accept.Spots.{inside_at, at_bound, Inside, body_of, body_fits}
use Rattle.screen.specs.Laws.Found.Cell.{height_in_lem, is_met_lem, cell_with, height_in, is_met, unmet, heights, entry_cell, Bound}
use Rattle.screen.specs.Laws.Found.Cell.{body_most}
use Rattle.screen.specs.Laws.Found.Cell.{moved_cell, entered, moved_cell_lem}

module _ (rom : List ℕ) (fits : length_of rom ≤ rom_most) {last : Board} (passed : Chain rom (start rom fits) last) where
  module _ {d p : ℕ} {s : Setting} (i : Inside rom fits passed d s p) where
    abbrev b : Board
    b = i.board

    abbrev y : BodyRan rom (left rom i.board) i.ran.token i.board.stand.wide i.then
    y = body_of rom fits passed i

    abbrev t : Token
    t = (body_fits rom fits passed i).token

    abbrev pub effect_in : Effect
    effect_in = effect_of (sum_at i.board.sums) (body_fits rom fits passed i).token

    meets : Meets rom (body_text (length_of rom) b.stand.wide i.ran.token.next) b.kinds b.sums p i.cell t
    meets = (body_fits rom fits passed i).meets

    bound : Bound body_most i.cell
    bound = at_bound (record { height = entered; back = 0; is = refl; low = omega arith; few = omega arith }) i.at

    ends : (far_of rom b < i.ran.token.next) × (i.ran.token.next ≤ length_of rom)
    ends = next_ahead rom (length_of rom) b.stand.wide false (far_of rom b) i.ran.token i.ran.is

    -- it is a token start of the body
    pub body_start : Starts rom i.board.stand.wide i.ran.token.next p
    body_start = by (y.marked.each p)
      where
        at_blank : get_or y.marks.seen p 0 ≡ unmet
        at_blank = (y.walked.inside i.at).3

        above : get_or (ran rom b).seen p 0 ≡ 0
        above =
            let l = (y.walked.inside i.at).0 in
            let n = ends in
            ran_above rom (ready rom fits i.follows) i.ran p (omega arith)

        by : Cell rom b.stand.wide i.ran.token.next (ran rom b).seen y.marks.seen p
            → Starts rom b.stand.wide i.ran.token.next p
        by (Cell.start s e) = s
        by (Cell.other n e) = absurd (omega (arith, above, e, at_blank))

    pub among : Among rom (length_of rom) i.board.stand.wide (body_of rom fits passed i).path.seen i.ran.token.next
        (suc (body_of rom fits passed i).marks.end) p (body_fits rom fits passed i).token
    among =
        let z = y.marked.starts body_start in
        let l = z.1 in
        record {
          low = z.0;
          high = omega arith;
          visited = record {
            met = ap is_met (y.walked.marked i.at ∙ bound.is)
                ∙ is_met_lem (heights bound.height bound.back) bound.low bound.few;
            is = meets.is;
          };
        }

    height_is : height_in i.cell ≡ bound.height
    height_is = ap height_in bound.is ∙ height_in_lem bound.height bound.back (let l = bound.low in omega arith)

    marked_is : get_or y.path.seen p 0 ≡ i.cell
    marked_is = y.walked.marked i.at

    -- the tally's tests
    pub body_limits : ((body_of rom fits passed i).tally.peak + (body_of rom fits passed i).tally.need ≤ body_most)
        × ((body_of rom fits passed i).tally.good ≡ true) × ((body_of rom fits passed i).tally.out ≢ 0)
    unfolding passes_of
    body_limits =
        let h = both_hold (y.tally.good && not (eqb y.tally.out 0)) (leb (y.tally.peak + y.tally.need) body_most)
        (holds (passes_of y.tally) y.passes) in
        let g = both_hold y.tally.good (not (eqb y.tally.out 0)) h.0 in
        (leb→le (y.tally.peak + y.tally.need) body_most h.1, is_true y.tally.good g.0, neqb→ne y.tally.out 0 g.1)

    -- what is there at the end, with the body entered at its need
    pub record Cells : Type 0 where
      pub height : ℕ
      pub back : ℕ
      pub is : i.cell ≡ cell_with (heights height back)
      pub high : height ≤ body_most
      pub few : back ≤ return_most
      pub enough : entered + effect_in.takes ≤ height + (body_of rom fits passed i).tally.need
      pub takes : effect_in.takes ≤ height
      pub low : height + (body_of rom fits passed i).tally.need ≤ body_most
      pub rise : height - effect_in.takes + effect_in.rise + (body_of rom fits passed i).tally.need ≤ body_most
      pub final : get_or last.seen p 0 ≡ cell_with (heights (height + (body_of rom fits passed i).tally.need - entered) back)

    pub body_cells : Cells
    body_cells =
        record {
          height = bound.height;
          back = bound.back;
          is = bound.is;
          high = bound.low;
          few = bound.few;
          enough = enough;
          takes = subst (λ k. effect_in.takes ≤ k) height_is meets.takes;
          low = let l = peaks in let m = body_limits.0 in omega arith;
          rise = let l = peaks in let m = body_limits.0 in omega arith;
          final = at_end;
        }
      where
        here : height_in (get_or y.path.seen p 0) ≡ bound.height
        here = ap height_in marked_is ∙ height_is

        needs : entered + effect_in.takes - bound.height ≤ y.tally.need
        needs = subst (λ k. entered + effect_in.takes - k ≤ y.tally.need) here (y.told.need.all among)

        enough : entered + effect_in.takes ≤ bound.height + y.tally.need
        enough = let n = needs in omega arith

        peaks : max bound.height (bound.height - effect_in.takes + effect_in.rise) ≤ y.tally.peak
        peaks = subst (λ k. max k (k - effect_in.takes + effect_in.rise) ≤ y.tally.peak) here (y.told.peak.all among)

        moved : shifted_cell y.tally.need (get_or y.path.seen p 0) ≡ cell_with
            (heights (bound.height + y.tally.need - entered) bound.back)
        moved =
            ap (shifted_cell y.tally.need) (marked_is ∙ bound.is)
            ∙ when_true (moved_cell y.tally.need entered (cell_with (heights bound.height bound.back))) 0
            (is_met (cell_with (heights bound.height bound.back)))
            (is_met_lem (heights bound.height bound.back) bound.low bound.few)
            ∙ moved_cell_lem y.tally.need entered (heights bound.height bound.back) (let n = enough in omega arith)

        at_end : get_or last.seen p 0 ≡ cell_with (heights (bound.height + y.tally.need - entered) bound.back)
        at_end =
            let z = y.marked.starts body_start in
            let l = z.1 in
            let e = y.start in
            (chain_kept rom fits i.does.ready i.rest).seen p (omega arith) ∙ y.shifted.moved p z.0 z.1 ∙ moved

  -- ---- other places of the same body
  module _ {d p : ℕ} {s : Setting} (i : Inside rom fits passed d s p) where
    -- the body's first place
    abbrev pub at_entry : Inside rom fits passed d s i.ran.token.next
    at_entry = inside_at rom fits passed i i.ran.token.next entry_cell At.begins

    -- a place that is met was walked to
    pub met_at : {q : ℕ} {u : Token}
        → Among rom (length_of rom) i.board.stand.wide (body_of rom fits passed i).path.seen i.ran.token.next
        (suc (body_of rom fits passed i).marks.end) q u
        → At rom (body_text (length_of rom) i.board.stand.wide i.ran.token.next) i.board.kinds i.board.sums
        i.ran.token.next entry_cell q (get_or (body_of rom fits passed i).path.seen q 0)
    met_at {q} {u} a =
        let l = a.low in
        let n = next_ahead rom (length_of rom) i.board.stand.wide false (far_of rom i.board) i.ran.token i.ran.is in
        walked_met (body_of rom fits passed i).marked (body_of rom fits passed i).walked q
        (ran_above rom (ready rom fits i.follows) i.ran q (omega arith)) a.visited.met

    abbrev pub at_met : {q : ℕ} {u : Token}
        → Among rom (length_of rom) i.board.stand.wide (body_of rom fits passed i).path.seen i.ran.token.next
        (suc (body_of rom fits passed i).marks.end) q u
        → Inside rom fits passed d s q
    at_met {q} a = inside_at rom fits passed i q (get_or (body_of rom fits passed i).path.seen q 0) (met_at a)

    -- what is inside is reachable
    pub inside_reach : Reach rom (suc d) s p
    inside_reach =
        let n = next_ahead rom (length_of rom) i.board.stand.wide false (far_of rom i.board) i.ran.token i.ran.is in
        subst (λ v. Reach rom (suc v) s p) (sym i.place) (subst (λ v. Reach rom (suc (far_of rom i.board)) v p) (sym i.setting)
        (body_reach rom fits i.ran (rooted rom fits i.follows) (body_of rom fits passed i) i.colon n.1 n.0 i.at))
