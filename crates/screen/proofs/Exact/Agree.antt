-- Two assignments agree on every reachable token, and the marks of the model are what they say. Assumes nothing.
use Rattle.std.specs.Prelude.{ℕ, zero, suc, ◌+◌, ◌-◌, ◌≤◌, ◌<◌, ◌≡◌, refl, Bool, true, false, List, ◌⊎◌, ◌≢◌, T, get_or}
use Rattle.std.proofs.Common.{arith, sym, ap, ◌∙◌, subst, inl, inr}
use Rattle.std.proofs.Math.Decide.{dec_lt}
use Rattle.cells.specs.Laws.Facts.{holds, fails, when_false}
use Rattle.rom.specs.Header.{length_of}
use Rattle.rom.specs.Sizes.{rom_most, data_most}
use Rattle.tokens.specs.Definition.{new_number}
use Rattle.tokens.specs.Laws.Tokens.{next_ahead}
use Rattle.screen.specs.Effect.{fixes, is_colon}
use Rattle.screen.specs.Reach.{Setting, Reach}
use Rattle.screen.specs.Rules.{Assignment}
use Rattle.screen.specs.Laws.Found.Model.{Board}
use Rattle.screen.specs.Laws.Walk.Walking.{walked_below}
use Rattle.screen.specs.Laws.Rules.Ways.{colon_fixes}
use Rattle.screen.specs.Laws.Walk.Marking.{walked_met, marks_kept}
use Rattle.screen.specs.Laws.Walk.Advancing.{setting_of}
use Rattle.screen.specs.Laws.Walk.Rounds.{ran_above, ran, far_of, left, OutAt, Ran, Chain, ends, goes}
use Rattle.screen.specs.Laws.Walk.Boards.{BodyRan, Advanced, advanced}
use Rattle.screen.specs.Laws.Walk.Chains.{chain_kept, chain_seen, then}
use Rattle.screen.specs.Laws.Accept.Roots.{at_reach, body_reach}
use Rattle.screen.specs.Laws.Accept.Cover.{start, Follows, ready, rooted}
use Rattle.screen.specs.Laws.Accept.Spots.{outside, out_cell, Inside, inside, body_of}
use Rattle.screen.specs.Laws.Accept.Cells.{Cells, body_cells, at_entry}
use Rattle.screen.proofs.Exact.Exact.{at_heights, body_heights, body_sum}
use Rattle.screen.specs.Laws.Found.Cell.{cell_with, is_met, heights, entry_cell, TokenHeights, same_heights, moved_cell, entered}
use Rattle.screen.specs.Laws.Found.Cell.{body_most}

module _ (rom : List ℕ) (fits : length_of rom ≤ rom_most) {last : Board} (passed : Chain rom (start rom fits) last) where
  -- what the rounds leave at a reachable token is what any assignment says
  pub last_is : (a : Assignment rom) {x p : ℕ} {s : Setting} → Reach rom x s p
      → get_or last.seen p 0 ≡ cell_with (heights (a.height x p) (a.back x p))
  last_is a {x = zero} {p} r =
      let o = outside rom fits passed r in out_cell rom fits passed o ∙ at_heights rom fits a o.follows o.at
  last_is a {x = suc d} {p} {s} r = subst (λ k. get_or last.seen p 0 ≡ cell_with (heights (a.height (suc k) p) (a.back (suc k) p)))
      (sym i.place) (c.final ∙ by)
    where
      i : Inside rom fits passed d s p
      i = inside rom fits passed r

      c : Cells rom fits passed i
      c = body_cells rom fits passed i

      by : cell_with (heights (c.height + (body_of rom fits passed i).tally.need - entered) c.back) ≡ cell_with
          (heights (a.height (suc (far_of rom i.board)) p) (a.back (suc (far_of rom i.board)) p))
      by =
          let e = same_heights _ _ (omega (arith, c.high)) (omega (arith, tall, lowest, sums)) cells in
          let h = ap (λ (v : TokenHeights). v.height) e in
          let k = ap (λ (v : TokenHeights). v.back) e in
          let same : c.height + (body_of rom fits passed i).tally.need - entered ≡ a.height (suc (far_of rom i.board)) p =
          omega (arith, h, tall, lowest, sums) in
          rw (same, k)
        where
          cells : cell_with (heights c.height c.back) ≡ cell_with
              (heights (a.height (suc (far_of rom i.board)) p + entered - (a.sum (new_number i.ran.token.operand)).need)
              (a.back (suc (far_of rom i.board)) p))
          cells = sym c.is ∙ body_heights rom fits a i.follows i.ran (colon_fixes i.ran.token i.colon) i.colon
              (body_of rom fits passed i) i.at

          sums : (body_of rom fits passed i).tally.need ≡ (a.sum (new_number i.ran.token.operand)).need
          sums = ap (λ v. v.need) (body_sum rom fits a i.follows i.ran (colon_fixes i.ran.token i.colon) i.colon
              (body_of rom fits passed i))

          tall : a.height (suc (far_of rom i.board)) p ≤ data_most
          tall =
              let q : Reach rom (suc (far_of rom i.board)) s p = subst (λ k. Reach rom (suc k) s p) i.place r in
              let t = a.whole q in
              (a.data_limit (record { reach = q; is = t.1 })).0

          lowest : (body_of rom fits passed i).tally.need ≤ data_most
          lowest =
              let e = body_cells rom fits passed (at_entry rom fits passed i) in
              let f : entry_cell ≡ cell_with (heights e.height e.back) = e.is in
              let g : e.height ≤ body_most = e.high in
              let l : e.height + (body_of rom fits passed i).tally.need ≤ body_most = e.low in
              let h = ap (λ (v : TokenHeights). v.height) (same_heights _ _ (omega arith) (omega arith) f) in
              omega arith

-- ---- nothing else is marked
-- a place that is come to in some text
pub record Reached (rom : List ℕ) (p : ℕ) : Type 0 where
  pub text : ℕ
  pub setting : Setting
  pub reach : Reach rom text setting p

module _ (rom : List ℕ) (fits : length_of rom ≤ rom_most) where
  -- a cell of a round
  ran_reached : {b : Board} → Follows rom fits b → Ran rom b → (p : ℕ) → b.stand.start ≤ p → get_or (ran rom b).seen p 0 ≢ 0
      → Reached rom p
  ran_reached {b} h r p l z = by (r.walked.kept p)
    where
      by : (get_or (ran rom b).seen p 0 ≡ get_or b.seen p 0) ⊎ OutAt rom b p (get_or (ran rom b).seen p 0) → Reached rom p
      by (inl e) = absurd (z (e ∙ (ready rom fits h).fresh p l))
      by (inr a) = record { text = 0; setting = _; reach = at_reach rom fits r (rooted rom fits h) a }

  -- a cell of a body
  body_reached : {b c : Board} → Follows rom fits b → (r : Ran rom b) → T (is_colon r.token)
      → BodyRan rom (left rom b) r.token b.stand.wide c
      → (p : ℕ) → far_of rom b < p → p < c.stand.start → get_or c.seen p 0 ≢ 0 → Reached rom p
  body_reached {b} {c} h r k y p l u z = elim (dec_lt p r.token.next) [ yes q ↦ early q | no q ↦ in_body (omega arith) ]
    where
      n : (far_of rom b < r.token.next) × (r.token.next ≤ length_of rom)
      n = next_ahead rom (length_of rom) b.stand.wide false (far_of rom b) r.token r.is

      above : get_or (ran rom b).seen p 0 ≡ 0
      above = ran_above rom (ready rom fits h) r p l

      -- before its first token
      early : p < r.token.next → Reached rom p
      early q =
          absurd (z (y.shifted.other p (λ i j. omega arith) ∙ walked_below rom _ _ _ _ _ y.walked p q
          ∙ marks_kept y.marked p (λ i j. omega arith) ∙ above))

      in_body : r.token.next ≤ p → Reached rom p
      in_body q = by (is_met (get_or y.path.seen p 0)) refl
        where
          by : (m : Bool) → is_met (get_or y.path.seen p 0) ≡ m → Reached rom p
          by true e =
              record {
                text = suc (far_of rom b);
                setting = setting_of b.stand;
                reach = body_reach rom fits r (rooted rom fits h) y k n.1 n.0 (walked_met y.marked y.walked p above e);
              }
          by false e =
              absurd (z (y.shifted.moved p q (let s = y.start in omega arith)
              ∙ when_false (moved_cell y.tally.need entered (get_or y.path.seen p 0)) 0 (is_met (get_or y.path.seen p 0)) e))

  pub only_reached : {b f : Board} → Follows rom fits b → Chain rom b f → (p : ℕ) → b.stand.start ≤ p → get_or f.seen p 0 ≢ 0
      → Reached rom p
  only_reached h (ends r n) p l z = ran_reached h r p l z
  only_reached {b} {f} h (goes {b' = c} n k) p l z =
      elim (dec_lt (far_of rom b) p) [
        | yes u ↦ elim (dec_lt p c.stand.start) [
          | yes v ↦ between u v (is_colon y.0.token) refl
          | no v
              ↦ only_reached (then rom fits h n) k p (omega arith) z
        ]
        | no u ↦ ran_reached h y.0 p l (λ w. z (chain_seen rom fits (ready rom fits h) (goes n k) p (omega arith) ∙ w))
      ]
    where
      y : (r : Ran rom b) × Advanced rom b r.token c × T (fixes r.token)
      y = advanced rom fits (ready rom fits h) n

      -- between the rounds
      between : far_of rom b < p → p < c.stand.start → (q : Bool) → is_colon y.0.token ≡ q → Reached rom p
      between u v true e =
          let i = holds (is_colon y.0.token) e in
          body_reached h y.0 i (y.1.body i) p u v (λ w. z ((chain_kept rom fits y.1.ready k).seen p v ∙ w))
      between u v false e = absurd (z ((chain_kept rom fits y.1.ready k).seen p v ∙ y.1.quiet (fails (is_colon y.0.token) e) p u))
