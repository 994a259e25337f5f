-- What a body's sum is where the model's rounds pass: what its tally took is what the rules ask for. Assumes nothing.
use Rattle.std.specs.Prelude.{ℕ, suc, ◌+◌, ◌-◌, ◌≤◌, max, ◌≡◌, false, List, ◌≢◌, T, eqb, get_or, Ok}
use Rattle.std.proofs.Common.{arith, sym, ap, ◌∙◌, subst, eqb→eq}
use Rattle.cells.specs.Laws.Facts.{both_hold}
use Rattle.rom.specs.Header.{length_of}
use Rattle.rom.specs.Sizes.{rom_most}
use Rattle.tokens.specs.Family.{define}
use Rattle.tokens.specs.Place.{read_of}
use Rattle.tokens.specs.Body.{kind_of}
use Rattle.tokens.specs.Definition.{new_number, kind_in}
use Rattle.tokens.specs.declared.decoding.Token.{Token}
use Rattle.screen.specs.Effect.{is_a, is_colon, effect_of}
use Rattle.screen.specs.Reach.{Setting, token_at, Met, Body}
use Rattle.screen.specs.Laws.Rules.Tokens.{fixed_wide}
use Rattle.screen.specs.Laws.Rules.Ways.{colon_defines, colon_fixes}
use Rattle.screen.specs.Laws.Found.Model.{Board, sum_told}
use Rattle.screen.specs.Laws.Walk.Walking.{At}
use Rattle.screen.specs.Laws.Walk.Tallying.{Among, need_at, peak_at, back_at as return_at, frames_at}
use Rattle.screen.specs.Laws.Walk.Rounds.{Chain}
use Rattle.screen.specs.Laws.Walk.Chains.{chain_kept}
use Rattle.screen.specs.Laws.Accept.Cover.{start}
use Rattle.screen.specs.Laws.Accept.Spots.{Inside, body_of, body_fits, body_token}
use Rattle.screen.specs.Laws.Accept.Cells.{among, at_entry, at_met, inside_reach}
use Rattle.screen.specs.Laws.Accept.Bodies.{in_cells, in_effect, height_inside, back_inside, cell_back, cell_height}
use Rattle.screen.specs.Laws.Accept.Heights.{height_left, back_left, sum_left}
use Rattle.screen.specs.Laws.Found.Cell.{height_in, back_in, entry_cell, height_in_lem, entered}

module _ (rom : List ℕ) (fits : length_of rom ≤ rom_most) {last : Board} (passed : Chain rom (start rom fits) last) where
  module _ {d p : ℕ} {s : Setting} (i : Inside rom fits passed d s p) where
    pub sum_is : sum_left last (new_number i.ran.token.operand) ≡ sum_told (body_of rom fits passed i).tally
    sum_is = (chain_kept rom fits i.does.ready i.rest).sums (new_number i.ran.token.operand) held ∙ (body_of rom fits passed i).sum
      where
        defines : T (is_a define i.ran.token)
        defines = colon_defines i.ran.token i.colon

        kind : kind_in i.ran.token.operand ≡ 0xB7
        kind = eqb→eq (kind_in i.ran.token.operand) 0xB7
            (both_hold (is_a define i.ran.token) (eqb (kind_in i.ran.token.operand) 0xB7) i.colon).1

        held : kind_of i.then.kinds (new_number i.ran.token.operand) ≢ 0
        held z = let k = (i.does.new defines).1 in omega (arith, k, kind, z)

    -- the b(:) is the token that it is read as in any width
    pub same_colon : {t : Token} {r : Setting} → Met rom 0 r d t → T (is_colon t) → t ≡ i.ran.token
    same_colon {t} {r} m c =
        let g = fixed_wide rom (length_of rom) r.wide false d t m.is (colon_fixes t c) i.board.stand.wide in
        let h = subst (λ k. read_of rom (length_of rom) i.board.stand.wide false k ≡ Ok t) i.place g in
        let f = i.ran.is in
        cc (f, h)

    pub body_number : {t : Token} {r : Setting} {n c : ℕ} → Body rom r d t n c → n ≡ new_number i.ran.token.operand
    body_number b = sym b.number ∙ ap (λ (v : Token). new_number v.operand) (same_colon b.met b.colon)

    -- it rises to its entry at least
    pub rises : entered ≤ (body_of rom fits passed i).tally.peak
    rises =
        let a = among rom fits passed (at_entry rom fits passed i) in
        let m : get_or (body_of rom fits passed i).path.seen i.ran.token.next 0 ≡ entry_cell =
        (body_of rom fits passed i).walked.marked At.begins in
        let q = (body_of rom fits passed i).told.peak.all a in
        omega (arith, q, ap height_in m ∙ height_in_lem entered 0 (omega arith))

    module _ {t : Token} (e : token_at rom (suc d) s.wide p ≡ Ok t) where
      pub cell_there : height_in (get_or (body_of rom fits passed i).path.seen p 0) ≡ (in_cells rom fits passed i e).height
      cell_there = ap height_in ((body_of rom fits passed i).walked.marked i.at) ∙ cell_height rom fits passed i e

      back_there : back_in (get_or (body_of rom fits passed i).path.seen p 0) ≡ (in_cells rom fits passed i e).back
      back_there = ap back_in ((body_of rom fits passed i).walked.marked i.at) ∙ cell_back rom fits passed i e

      -- what the rules ask for is what the tally took
      pub need_worth : (sum_told (body_of rom fits passed i).tally).need + (effect_of (sum_left last) t).takes - height_left last (suc d) p
          ≡ need_at i.board.sums (body_fits rom fits passed i).token (get_or (body_of rom fits passed i).path.seen p 0)
      need_worth = rw (height_inside rom fits passed i e, ← in_effect rom fits passed i e, cell_there)
          (let n = (in_cells rom fits passed i e).enough in omega arith)

      pub peak_worth : max (height_left last (suc d) p)
          (height_left last (suc d) p - (effect_of (sum_left last) t).takes + (effect_of (sum_left last) t).rise)
          ≡ peak_at i.board.sums (body_fits rom fits passed i).token (get_or (body_of rom fits passed i).path.seen p 0) + (body_of rom fits
          passed i).tally.need - entered
      peak_worth = rw (height_inside rom fits passed i e, ← in_effect rom fits passed i e, cell_there)
          (let n = (in_cells rom fits passed i e).enough in let k = (in_cells rom fits passed i e).takes in omega arith)

      pub back_worth : back_left last (suc d) p + (effect_of (sum_left last) t).return_rise
          ≡ return_at i.board.sums (body_fits rom fits passed i).token (get_or (body_of rom fits passed i).path.seen p 0)
      back_worth = rw (back_inside rom fits passed i e, ← in_effect rom fits passed i e, back_there)

      pub frames_worth : 1 + (effect_of (sum_left last) t).frames ≡ frames_at i.board.sums (body_fits rom fits passed i).token
          (get_or (body_of rom fits passed i).path.seen p 0)
      frames_worth = rw (← in_effect rom fits passed i e)

  -- a place of a body that was met, with its token, is reachable
  module _ {d p q : ℕ} {s : Setting} {u : Token} (i : Inside rom fits passed d s p)
      (a : Among rom (length_of rom) i.board.stand.wide (body_of rom fits passed i).path.seen i.ran.token.next
      (suc (body_of rom fits passed i).marks.end) q u) where
    pub token_there : token_at rom (suc d) s.wide q ≡ Ok u
    token_there = subst (λ v. token_at rom (suc d) v.wide q ≡ Ok u) (sym i.setting) a.visited.is

    pub met_there : Met rom (suc d) s q u
    met_there = record { reach = inside_reach rom fits passed (at_met rom fits passed i a); is = token_there }

    pub same_there : (body_fits rom fits passed (at_met rom fits passed i a)).token ≡ u
    same_there = body_token rom fits passed (at_met rom fits passed i a) token_there
