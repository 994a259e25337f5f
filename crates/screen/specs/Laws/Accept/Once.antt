-- Rule 5, where the model's rounds pass: a number is defined once, and a value's sum is a value's. Assumes nothing.
use Rattle.std.specs.Prelude.{ℕ, ◌≤◌, ◌≡◌, false, not, List, ◌≢◌, T, leb}
use Rattle.std.proofs.Common.{arith, sym, ap, ◌∙◌, subst, leb→le}
use Rattle.cells.specs.Laws.Facts.{both_hold}
use Rattle.rom.specs.Header.{length_of}
use Rattle.rom.specs.Sizes.{rom_most}
use Rattle.tokens.specs.Family.{define}
use Rattle.tokens.specs.Body.{kind_of}
use Rattle.tokens.specs.Definition.{new_number, kind_in}
use Rattle.tokens.specs.declared.decoding.Token.{Token}
use Rattle.screen.specs.Effect.{is_a, is_colon, value_sum}
use Rattle.screen.specs.Reach.{Setting, Met}
use Rattle.screen.specs.Laws.Rules.Tokens.{heads}
use Rattle.screen.specs.Laws.Rules.Ways.{define_fixes}
use Rattle.screen.specs.Laws.Found.Model.{Board}
use Rattle.screen.specs.Laws.Walk.Rounds.{far_of, Next, Chain}
use Rattle.screen.specs.Laws.Walk.Boards.{Advanced, advanced}
use Rattle.screen.specs.Laws.Walk.Chains.{Steps, chain_kept, one_token, steps_kept, Order, order}
use Rattle.screen.specs.Laws.Accept.Cover.{start, ready}
use Rattle.screen.specs.Laws.Accept.Outside.{out_of, at_far, passing}
use Rattle.screen.specs.Laws.Accept.Heights.{sum_left}

module _ (rom : List ℕ) (fits : length_of rom ≤ rom_most) {last : Board} (passed : Chain rom (start rom fits) last) where
  kind_some : {s : Setting} {p : ℕ} {t : Token} → Met rom 0 s p t → T (is_a define t) → kind_in t.operand ≢ 0
  kind_some {s} {p} {t} m d z =
      let h = (heads rom (length_of rom) s.wide false p t m.is d).1 in
      let k = leb→le 0xB7 (kind_in t.operand) (both_hold (leb 0xB7 (kind_in t.operand)) (leb (kind_in t.operand) 0xBA) h).0 in
      absurd (omega arith)

  -- a number that a token defines is held from then on
  held_after : {s : Setting} {p : ℕ} {t : Token} (m : Met rom 0 s p t) (d : T (is_a define t))
      → kind_of (passing rom fits passed m (define_fixes t d)).after.kinds (new_number t.operand) ≢ 0
  held_after {t = t} m d z = kind_some m d (sym ((passing rom fits passed m (define_fixes t d)).does.new d).1 ∙ z)

  pub value_sum_lem : {s : Setting} {d : ℕ} {t : Token} → Met rom 0 s d t → T (is_a define t) → T (not (is_colon t))
      → sum_left last (new_number t.operand) ≡ value_sum
  value_sum_lem {t = t} m d c =
      let q = passing rom fits passed m (define_fixes t d) in
      (chain_kept rom fits q.does.ready q.rest).sums (new_number t.operand) (held_after m d) ∙ q.does.valued d c

  -- a round's token that ends it is known by the board behind it too
  next_holds : {s : Setting} {p : ℕ} {t : Token} (m : Met rom 0 s p t) (d : T (is_a define t)) {c : Board}
      → Next rom (out_of rom fits passed m).board c
      → kind_of c.kinds (new_number t.operand) ≢ 0
  next_holds {t = t} m d {c} n z =
      let y = advanced rom fits (ready rom fits (out_of rom fits passed m).follows) n in
      let e = (at_far rom fits passed m (define_fixes t d)).1 ∙ one_token rom fits (out_of rom fits passed m).ran y.0 in
      let a = subst (λ v. Advanced rom (out_of rom fits passed m).board v c) (sym e) y.1 in
      kind_some m d (sym (a.new d).1 ∙ z)

  pub one_definition : {d e : ℕ} {s r : Setting} {t u : Token} → Met rom 0 s d t → Met rom 0 r e u → T (is_a define t) → T (is_a define u)
      → new_number t.operand ≡ new_number u.operand → d ≡ e
  one_definition {d} {e} {t = t} {u} m k f g n = by (order rom fits (out_of rom fits passed m).follows (out_of rom fits passed k).follows)
    where
      -- the later one is refused
      later : {s r : Setting} {d e : ℕ} {t u : Token} (m : Met rom 0 s d t) (k : Met rom 0 r e u) (f : T (is_a define t))
          (g : T (is_a define u))
          → new_number t.operand ≡ new_number u.operand → {c : Board} → Next rom (out_of rom fits passed m).board c
          → Steps rom fits c (out_of rom fits passed k).board → ⊥
      later {t = t} {u} m k f g n {c} x y =
          let z = advanced rom fits (ready rom fits (out_of rom fits passed m).follows) x in
          let h = next_holds m f x in
          let w = (steps_kept rom fits z.1.ready y).1.kinds (new_number t.operand) h in
          h (sym w ∙ ap (kind_of (out_of rom fits passed k).board.kinds) n ∙ ((passing rom fits passed k (define_fixes u g)).does.new g).0)

      by : Order rom fits (out_of rom fits passed m).board (out_of rom fits passed k).board → d ≡ e
      by (Order.same x) = (at_far rom fits passed m (define_fixes t f)).0 ∙ ap (far_of rom) x
          ∙ sym (at_far rom fits passed k (define_fixes u g)).0
      by (Order.less x y) = absurd (later m k f g n x y)
      by (Order.more x y) = absurd (later k m g f (sym n) x y)
