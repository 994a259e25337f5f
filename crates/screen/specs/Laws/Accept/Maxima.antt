-- Rule 2, where the model's rounds pass: a body's sum has the maxima over its tokens, its entry and its ends. Assumes nothing.
use Rattle.std.specs.Prelude.{ℕ, suc, ◌+◌, ◌-◌, ◌≤◌, max, ◌≡◌, List, ◌≢◌, T, get_or}
use Rattle.std.proofs.Common.{arith, sym, ap, ◌∙◌, subst}
use Rattle.rom.specs.Header.{length_of}
use Rattle.rom.specs.Sizes.{rom_most}
use Rattle.tokens.specs.Family.{leave}
use Rattle.tokens.specs.declared.decoding.Token.{Token}
use Rattle.screen.specs.Effect.{is_a, effect_of}
use Rattle.screen.specs.Reach.{Setting, Holds, Met, Body}
use Rattle.screen.specs.Laws.Found.Model.{Board, sum_told}
use Rattle.screen.specs.Laws.Walk.Tallying.{need_at, peak_at, back_at as return_at, frames_at}
use Rattle.screen.specs.Laws.Walk.Rounds.{left, Chain}
use Rattle.screen.specs.Laws.Walk.Boards.{BodyRan}
use Rattle.screen.specs.Laws.Accept.Cover.{start}
use Rattle.screen.specs.Laws.Accept.Spots.{Inside, body_of, body_fits, inside}
use Rattle.screen.specs.Laws.Accept.Cells.{Cells, body_cells, among, body_limits, at_entry, at_met}
use Rattle.screen.specs.Laws.Accept.Bodies.{same_token, in_meets, height_inside, back_inside, cell_back}
use Rattle.screen.specs.Laws.Accept.Told.{sum_is, same_colon, body_number, rises, cell_there, need_worth, peak_worth, back_worth}
use Rattle.screen.specs.Laws.Accept.Told.{frames_worth, token_there, met_there, same_there}
use Rattle.screen.specs.Laws.Accept.Heights.{height_left, back_left, sum_left}
use Rattle.screen.specs.Laws.Found.Cell.{height_in_lem, back_in_lem, cell_with, heights, entry_cell, TokenHeights, same_heights, entered}
use Rattle.screen.specs.Laws.Found.Cell.{body_most}

module _ (rom : List ℕ) (fits : length_of rom ≤ rom_most) {last : Board} (passed : Chain rom (start rom fits) last) where
  module _ {s : Setting} {d n c : ℕ} {t : Token} (b : Body rom s d t n c) where
    j : Inside rom fits passed d s t.next
    j = inside rom fits passed (Holds.body b.met.reach b.met.is b.colon b.reads)

    abbrev jy : BodyRan rom (left rom j.board) j.ran.token j.board.stand.wide j.then
    jy = body_of rom fits passed j

    sum_of : sum_left last n ≡ sum_told jy.tally
    sum_of = ap (sum_left last) (body_number rom fits passed j b) ∙ sum_is rom fits passed j

    -- of any token of the body
    module _ {r : Setting} {p : ℕ} {u : Token} (m : Met rom (suc d) r p u) where
      k : Inside rom fits passed d r p
      k = inside rom fits passed m.reach

      sum_there : sum_left last n ≡ sum_told (body_of rom fits passed k).tally
      sum_there = ap (sum_left last) (body_number rom fits passed k b) ∙ sum_is rom fits passed k

      pub all_need : (sum_left last n).need + (effect_of (sum_left last) u).takes - height_left last (suc d) p ≤ (sum_left last n).need
      all_need = rw (sum_there, need_worth rom fits passed k m.is) ((body_of rom fits passed k).told.need.all (among rom fits passed k))

      pub all_peak : max (height_left last (suc d) p)
          (height_left last (suc d) p - (effect_of (sum_left last) u).takes + (effect_of (sum_left last) u).rise) ≤ (sum_left last n).peak
      all_peak = rw (sum_there, peak_worth rom fits passed k m.is)
          (let q = (body_of rom fits passed k).told.peak.all (among rom fits passed k) in omega arith)

      pub all_back : back_left last (suc d) p + (effect_of (sum_left last) u).return_rise ≤ (sum_left last n).return_peak
      all_back = rw (sum_there, back_worth rom fits passed k m.is) ((body_of rom fits passed k).told.back.all (among rom fits passed k))

      pub all_frames : 1 + (effect_of (sum_left last) u).frames ≤ (sum_left last n).frames
      all_frames = rw (sum_there, frames_worth rom fits passed k m.is)
          ((body_of rom fits passed k).told.frames.all (among rom fits passed k))

      -- an end
      pub at_end : T (is_a leave u) → (height_left last (suc d) p ≡ (sum_left last n).out) × (back_left last (suc d) p ≡ 0)
      at_end l =
          rw (sum_there, height_inside rom fits passed k m.is, back_inside rom fits passed k m.is) (
            let h = (body_of rom fits passed k).told.ends.same (body_limits rom fits passed k).1 (among rom fits passed k) leaves in
                let c = cell_there rom fits passed k m.is in
                omega (arith, h, c),
            sym (cell_back rom fits passed k m.is) ∙ (in_meets rom fits passed k m.is).based leaves,
          )
        where
          leaves : T (is_a leave (body_fits rom fits passed k).token)
          leaves = subst (λ v. T (is_a leave v)) (sym (same_token rom fits passed k m.is)) l

    pub got_need : (sum_left last n).need ≢ 0 → (r : Setting) × (p : ℕ) × (u : Token) × Met rom (suc d) r p u
        × ((sum_left last n).need + (effect_of (sum_left last) u).takes - height_left last (suc d) p ≡ (sum_left last n).need)
    got_need z =
        let g = jy.told.need.got (λ h. z (e ∙ h)) in
        let a = g.among in (
          s,
          g.place,
          g.token,
          met_there rom fits passed j a,
          ap (λ v. v + (effect_of (sum_left last) g.token).takes - height_left last (suc d) g.place) e
              ∙ need_worth rom fits passed (at_met rom fits passed j a) (token_there rom fits passed j a)
              ∙ ap (λ v. need_at j.board.sums v (get_or jy.path.seen g.place 0)) (same_there rom fits passed j a) ∙ g.is
              ∙ sym e,
        )
      where
        e : (sum_left last n).need ≡ jy.tally.need
        e = ap (λ v. v.need) sum_of

    pub got_peak : (sum_left last n).peak ≢ 0
        → (r : Setting) × (p : ℕ) × (u : Token) × Met rom (suc d) r p u
        × (max (height_left last (suc d) p) (height_left last (suc d) p - (effect_of (sum_left last) u).takes + (effect_of
        (sum_left last) u).rise) ≡ (sum_left last n).peak)
    got_peak z =
        let g = jy.told.peak.got (λ e. let l = rises rom fits passed j in absurd (omega arith)) in
        let a = g.among in (
          s,
          g.place,
          g.token,
          met_there rom fits passed j a,
          rw sum_of (peak_worth rom fits passed (at_met rom fits passed j a) (token_there rom fits passed j a)
              ∙ ap (λ v. peak_at j.board.sums v (get_or jy.path.seen g.place 0) + jy.tally.need - entered)
              (same_there rom fits passed j a) ∙ ap (λ v. v + jy.tally.need - entered) g.is),
        )

    pub got_back : (sum_left last n).return_peak ≢ 0
        → (r : Setting) × (p : ℕ) × (u : Token) × Met rom (suc d) r p u
        × (back_left last (suc d) p + (effect_of (sum_left last) u).return_rise ≡ (sum_left last n).return_peak)
    got_back z =
        let g = jy.told.back.got (λ h. z (e ∙ h)) in
        let a = g.among in (
          s,
          g.place,
          g.token,
          met_there rom fits passed j a,
          back_worth rom fits passed (at_met rom fits passed j a) (token_there rom fits passed j a)
              ∙ ap (λ v. return_at j.board.sums v (get_or jy.path.seen g.place 0)) (same_there rom fits passed j a) ∙ g.is ∙ sym e,
        )
      where
        e : (sum_left last n).return_peak ≡ jy.tally.return_peak
        e = ap (λ v. v.return_peak) sum_of

    pub got_frames : (sum_left last n).frames ≢ 0 → (r : Setting) × (p : ℕ) × (u : Token) × Met rom (suc d) r p u
        × (1 + (effect_of (sum_left last) u).frames ≡ (sum_left last n).frames)
    got_frames z =
        let g = jy.told.frames.got (λ h. z (e ∙ h)) in
        let a = g.among in (
          s,
          g.place,
          g.token,
          met_there rom fits passed j a,
          frames_worth rom fits passed (at_met rom fits passed j a) (token_there rom fits passed j a)
              ∙ ap (λ v. frames_at j.board.sums v (get_or jy.path.seen g.place 0)) (same_there rom fits passed j a) ∙ g.is ∙ sym e,
        )
      where
        e : (sum_left last n).frames ≡ jy.tally.frames
        e = ap (λ v. v.frames) sum_of

    -- an end is there
    pub has_end : (r : Setting) × (p : ℕ) × (u : Token) × Met rom (suc d) r p u × T (is_a leave u)
    has_end =
        let g = jy.told.ends.got (body_limits rom fits passed j).2 in
        (s, g.place, g.token, met_there rom fits passed j g.among, g.leaves)

    -- where it is entered
    pub at_first : (height_left last (suc d) t.next ≡ (sum_left last n).need) × (back_left last (suc d) t.next ≡ 0)
    at_first = rw (ap (λ (v : Token). v.next) (same_colon rom fits passed j b.met b.colon), entry_cell_lem, sum_of)
        (height_in_lem jy.tally.need 0 (omega (arith, low)), back_in_lem jy.tally.need 0 (omega (arith, low)))
      where
        ec : Cells rom fits passed (at_entry rom fits passed j)
        ec = body_cells rom fits passed (at_entry rom fits passed j)

        first : entry_cell ≡ cell_with (heights ec.height ec.back)
        first = ec.is

        cap : ec.height ≤ body_most
        cap = ec.high

        low : ec.height + jy.tally.need ≤ body_most
        low = ec.low

        final : get_or last.seen j.ran.token.next 0 ≡ cell_with (heights (ec.height + jy.tally.need - entered) ec.back)
        final = ec.final

        entry_cell_lem : get_or last.seen j.ran.token.next 0 ≡ cell_with (heights jy.tally.need 0)
        entry_cell_lem =
            let e = same_heights _ _ (omega arith) (omega (arith, cap)) first in
            let h = ap (λ (v : TokenHeights). v.height) e in
            let k = ap (λ (v : TokenHeights). v.back) e in
            let i : ec.height + jy.tally.need - entered ≡ jy.tally.need = omega (arith, h) in
            final ∙ rw (i, ← k)
