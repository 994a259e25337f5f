-- Rule 4, where the model's rounds pass: no two tokens overlap, and no branch leads around one that ends a round. Assumes nothing.
use Rattle.std.specs.Prelude.{ℕ, zero, suc, ◌≤◌, ◌<◌, min, max, ◌≡◌, refl, Bool, true, false, not, List, ◌≢◌, T, get_or, Ok}
use Rattle.std.proofs.Common.{arith, sym, ap, ◌∙◌, subst, T_not}
use Rattle.std.proofs.Math.Decide.{ℕ_discrete}
use Rattle.cells.specs.Laws.Facts.{holds, fails, never_true}
use Rattle.rom.specs.Header.{length_of}
use Rattle.rom.specs.Sizes.{rom_most}
use Rattle.tokens.specs.Laws.Tokens.{next_ahead}
use Rattle.tokens.specs.declared.decoding.Token.{Token}
use Rattle.screen.specs.Effect.{fixes, is_colon, is_branch, aims}
use Rattle.screen.specs.Reach.{In, Setting, token_at, Claim, Holds, Met}
use Rattle.screen.specs.Laws.Rules.Reach.{ExtendsBy, extends_by}
use Rattle.screen.specs.Laws.Rules.Tokens.{fixes_no_branch}
use Rattle.screen.specs.Laws.Rules.Ways.{colon_fixes}
use Rattle.screen.specs.Laws.Found.Model.{Board, end_in}
use Rattle.screen.specs.Laws.Walk.Rounds.{ran, far_of, OutAt, Ran, Next, Chain}
use Rattle.screen.specs.Laws.Walk.Boards.{advanced}
use Rattle.screen.specs.Laws.Walk.Chains.{Steps, climbs, one_token, next_one, steps_kept, Order, order}
use Rattle.screen.specs.Laws.Accept.Roots.{body_reads}
use Rattle.screen.specs.Laws.Accept.Cover.{start, ready, rooted, round_on}
use Rattle.screen.specs.Laws.Accept.Spots.{Inside, body_of, body_on, inside}
use Rattle.screen.specs.Laws.Accept.Cells.{body_start}
use Rattle.screen.specs.Laws.Accept.Outside.{out_of, out_is, at_far, passing, only_start}
use Rattle.screen.specs.Laws.Accept.Order.{below, aim_leads}
use Rattle.screen.specs.Laws.Found.Cell.{unmet}

module _ (rom : List ℕ) (fits : length_of rom ≤ rom_most) {last : Board} (passed : Chain rom (start rom fits) last) where
  -- how far a token reaches that ends a round
  reaches : {p e : ℕ} {s : Setting} {t : Token} (m : Met rom 0 s p t) (f : T (fixes t)) → Holds rom (Claim.extends s.wide t e)
      → e ≡ (passing rom fits passed m f).after.stand.start
  reaches {p} {e} {s} {t} m f h = by (extends_by h)
    where
      by : {e : ℕ} → ExtendsBy rom s.wide t e → e ≡ (passing rom fits passed m f).after.stand.start
      by (ExtendsBy.short n) = sym ((passing rom fits passed m f).does.start n)
      by (ExtendsBy.long {c = c} k r) = only_start rom fits passed m f (suc c) (Holds.past_body k (Holds.through_body k r))

  -- of one that does not
  plain_reach : {e : ℕ} {w : Bool} {t : Token} → T (not (fixes t)) → Holds rom (Claim.extends w t e) → e ≡ t.next
  plain_reach {e} {w} {t} n h = by (extends_by h)
    where
      by : {e : ℕ} → ExtendsBy rom w t e → e ≡ t.next
      by (ExtendsBy.short c) = refl
      by (ExtendsBy.long k r) = absurd (T_not (fixes t) n (colon_fixes t k))

  -- a round's place has a cell
  round_cell : {b : Board} (r : Ran rom b) {p c : ℕ} → OutAt rom b p c → get_or (ran rom b).seen p 0 ≢ 0
  round_cell r a z = r.some a (sym (r.walked.marked a) ∙ z)

  pub no_overlap : {p q e : ℕ} {s r : Setting} {t u : Token} → Met rom 0 s p t → Holds rom (Claim.extends s.wide t e) → Met rom 0 r q u
      → p < q → e ≤ q
  no_overlap {p} {q} {e} {s} {t = t} m h k l = by (order rom fits (out_of rom fits passed m).follows (out_of rom fits passed k).follows)
    where
      mi : ((out_of rom fits passed m).board.stand.start ≤ p) × (p < length_of rom) × (p ≤ far_of rom (out_of rom fits passed m).board)
          × (get_or (out_of rom fits passed m).board.seen p 0 ≡ 0)
      mi = (out_of rom fits passed m).ran.walked.inside (out_of rom fits passed m).at

      ki : ((out_of rom fits passed k).board.stand.start ≤ q) × (q < length_of rom) × (q ≤ far_of rom (out_of rom fits passed k).board)
          × (get_or (out_of rom fits passed k).board.seen q 0 ≡ 0)
      ki = (out_of rom fits passed k).ran.walked.inside (out_of rom fits passed k).at

      -- two places of one round
      within : T (not (fixes t)) → {q c : ℕ} → OutAt rom (out_of rom fits passed m).board q c → p < q → t.next ≤ q
      within n {q} a l =
          let i = (out_of rom fits passed m).ran.walked.inside a in
          subst (λ v. end_in p v ≤ q) (out_is rom fits passed m)
          ((out_of rom fits passed m).ran.apart.over p q mi.0 l i.2
          (round_cell (out_of rom fits passed m).ran (out_of rom fits passed m).at) (round_cell (out_of rom fits passed m).ran a))

      same_board : (out_of rom fits passed m).board ≡ (out_of rom fits passed k).board → (f : Bool) → fixes t ≡ f → e ≤ q
      same_board x true f =
          let g = (at_far rom fits passed m (holds (fixes t) f)).0 in
          let z = ap (far_of rom) x in
          let w = ki.2 in
          absurd (omega arith)
      same_board x false f =
          let n = fails (fixes t) f in
          subst (λ v. v ≤ q) (sym (plain_reach n h))
          (within n (subst (λ v. OutAt rom v q (out_of rom fits passed k).cell) (sym x) (out_of rom fits passed k).at) l)

      before : {d : Board} → Next rom (out_of rom fits passed m).board d → Steps rom fits d (out_of rom fits passed k).board → (f : Bool)
          → fixes t ≡ f → e ≤ q
      before {d} x y true f =
          let g = holds (fixes t) f in
          let z = advanced rom fits (ready rom fits (out_of rom fits passed m).follows) x in
          let w = (steps_kept rom fits z.1.ready y).0 in
          let j = reaches m g h ∙ ap (λ (v : Board). v.stand.start) (next_one rom fits (passing rom fits passed m g).next x) in
          let i = ki.0 in
          omega arith
      before {d} x y false f =
          let n = fails (fixes t) f in
          let b = below rom fits passed (out_of rom fits passed m).follows x y in
          let j = plain_reach n h in
          let i = ki.0 in
          let w = within n (out_of rom fits passed m).ran.walked.highest.1 not_last in
          omega arith
        where
          not_last : p < far_of rom (out_of rom fits passed m).board
          not_last = elim (ℕ_discrete p (far_of rom (out_of rom fits passed m).board)) [
            | yes g ↦ absurd (T_not (fixes t) (fails (fixes t) f)
                (subst (λ v. T (fixes v)) (sym (far_token g))
                (advanced rom fits (ready rom fits (out_of rom fits passed m).follows) x).2))
            | no g ↦ let i = mi.2 in omega arith
          ]
            where
              far_token : p ≡ far_of rom (out_of rom fits passed m).board
                  → t ≡ (advanced rom fits (ready rom fits (out_of rom fits passed m).follows) x).0.token
              far_token g =
                  let a = subst (λ v. token_at rom 0 (out_of rom fits passed m).board.stand.wide v ≡ Ok t) g
                  (out_is rom fits passed m) in
                  let b = (advanced rom fits (ready rom fits (out_of rom fits passed m).follows) x).0.is in
                  cc (a, b)

      by : Order rom fits (out_of rom fits passed m).board (out_of rom fits passed k).board → e ≤ q
      by (Order.same x) = same_board x (fixes t) refl
      by (Order.less x y) = before x y (fixes t) refl
      by (Order.more x y) = let b = below rom fits passed (out_of rom fits passed k).follows x y in let i = mi.0 in let j = ki.2 in
          absurd (omega arith)

  -- no token that ends a round stands in a branch's span
  module _ {r : Setting} {c : ℕ} {u : Token} (k : Met rom 0 r c u) (f : T (fixes u)) where
    there_it_ends : c ≡ far_of rom (out_of rom fits passed k).board
    there_it_ends = (at_far rom fits passed k f).0

    clear_out : {s : Setting} {p q : ℕ} {t : Token} → Met rom 0 s p t → T (is_branch t) → In q (aims t.operand) → min p q ≤ c
        → c < max p q → ⊥
    clear_out {p = p} {q} {t} m w i lo hi = by (order rom fits (out_of rom fits passed m).follows (out_of rom fits passed k).follows)
      where
        n : T (not (fixes t))
        n = fails (fixes t) (never_true (fixes t) (λ f. T_not (is_branch t) (fixes_no_branch t f) w))

        there_at : (z : ℕ) × OutAt rom (out_of rom fits passed m).board q z
        there_at = round_on rom fits (out_of rom fits passed m).ran (out_of rom fits passed m).at (out_is rom fits passed m) n
            (aim_leads t q w i)

        mi : ((out_of rom fits passed m).board.stand.start ≤ p) × (p < length_of rom) × (p ≤ far_of rom (out_of rom fits passed m).board)
            × (get_or (out_of rom fits passed m).board.seen p 0 ≡ 0)
        mi = (out_of rom fits passed m).ran.walked.inside (out_of rom fits passed m).at

        qi : ((out_of rom fits passed m).board.stand.start ≤ q) × (q < length_of rom) × (q ≤ far_of rom (out_of rom fits passed m).board)
            × (get_or (out_of rom fits passed m).board.seen q 0 ≡ 0)
        qi = (out_of rom fits passed m).ran.walked.inside there_at.1

        by : Order rom fits (out_of rom fits passed m).board (out_of rom fits passed k).board → ⊥
        by (Order.same x) = let e = there_it_ends in let z = ap (far_of rom) x in let a = mi.2 in let b = qi.2 in omega arith
        by (Order.less x y) =
            let e = there_it_ends in let z = below rom fits passed (out_of rom fits passed m).follows x y in
            let v = climbs rom fits (out_of rom fits passed k).ran in let a = mi.2 in let b = qi.2 in omega arith
        by (Order.more x y) = let e = there_it_ends in let z = below rom fits passed (out_of rom fits passed k).follows x y in
            let a = mi.0 in let b = qi.0 in omega arith

    clear_in : {s : Setting} {d p q : ℕ} {t : Token} → Met rom (suc d) s p t → T (is_branch t) → In q (aims t.operand) → min p q ≤ c
        → c < max p q → ⊥
    clear_in {s = s} {d} {p} {q} {t} m w i lo hi = by (order rom fits l.follows (out_of rom fits passed k).follows)
      where
        l : Inside rom fits passed d s p
        l = inside rom fits passed m.reach

        pi : (l.ran.token.next ≤ p) × (p ≤ (body_of rom fits passed l).marks.end)
            × (get_or (body_of rom fits passed l).marks.seen p 0 ≡ unmet)
        pi = (body_of rom fits passed l).marked.starts (body_start rom fits passed l)

        qi : (l.ran.token.next ≤ q) × (q ≤ (body_of rom fits passed l).marks.end)
            × (get_or (body_of rom fits passed l).marks.seen q 0 ≡ unmet)
        qi = (body_of rom fits passed l).marked.starts (body_start rom fits passed (body_on rom fits passed l m.is (aim_leads t q w i)))

        up : far_of rom l.board < l.ran.token.next
        up = (next_ahead rom (length_of rom) l.board.stand.wide false (far_of rom l.board) l.ran.token l.ran.is).0

        by : Order rom fits l.board (out_of rom fits passed k).board → ⊥
        by (Order.same x) = let e = there_it_ends in let z = ap (far_of rom) x in let u = up in let a = pi.0 in let b = qi.0 in omega arith
        by (Order.less x y) =
            let e = there_it_ends in
            let z = (steps_kept rom fits (advanced rom fits (ready rom fits l.follows) x).1.ready y).0 in
            let g = ap (λ (v : Board). v.stand.start) (next_one rom fits x l.next) ∙ (body_of rom fits passed l).start in
            let v = climbs rom fits (out_of rom fits passed k).ran in
            let a = pi.1 in
            let b = qi.1 in
            omega arith
        by (Order.more x y) =
            let e = there_it_ends in let z = below rom fits passed (out_of rom fits passed k).follows x y in
            let v = climbs rom fits l.ran in let u = up in let a = pi.0 in let b = qi.0 in omega arith

  pub clear_span : {x p q c : ℕ} {s r : Setting} {t u : Token} → Met rom x s p t → T (is_branch t) → In q (aims t.operand)
      → Met rom 0 r c u → T (fixes u)
      → min p q ≤ c → c < max p q → ⊥
  clear_span {x = zero} m w i k f lo hi = clear_out k f m w i lo hi
  clear_span {x = suc d} m w i k f lo hi = clear_in k f m w i lo hi

  pub body_read : {d : ℕ} {s : Setting} {t : Token} → Met rom 0 s d t → T (is_colon t) → (c : ℕ)
      × Holds rom (Claim.reads s.wide t.next c)
  body_read {d} {s} {t} m c =
      let f = colon_fixes t c in
      let q = passing rom fits passed m f in
      let z = advanced rom fits (ready rom fits (out_of rom fits passed m).follows) q.next in
      let e = (at_far rom fits passed m f).1 ∙ one_token rom fits (out_of rom fits passed m).ran z.0 in
      let n = next_ahead rom (length_of rom) (out_of rom fits passed m).board.stand.wide false
      (far_of rom (out_of rom fits passed m).board) z.0.token z.0.is in
      let y = z.1.body (subst (λ v. T (is_colon v)) e c) in (
        y.marks.end,
        subst (λ v. Holds rom (Claim.reads v.wide t.next y.marks.end)) (sym (out_of rom fits passed m).setting)
            (subst (λ (v : Token). Holds rom (Claim.reads (out_of rom fits passed m).board.stand.wide v.next y.marks.end)) (sym e)
            (body_reads rom fits z.0 (rooted rom fits (out_of rom fits passed m).follows) y (subst (λ v. T (is_colon v)) e c) n.1
            n.0)),
      )
