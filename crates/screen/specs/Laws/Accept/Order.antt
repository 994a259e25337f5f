-- The order of rounds, where the model's rounds pass: the setting of a body, and where its branches lead. Assumes nothing.
use Rattle.std.specs.Prelude.{ℕ, suc, ◌≤◌, ◌<◌, ◌≡◌, not, ◌||◌, List, T, None, Ok, Some}
use Rattle.std.proofs.Common.{arith, sym, ap, ◌∙◌, subst, T_not}
use Rattle.cells.specs.Laws.Facts.{fails, either}
use Rattle.rom.specs.Header.{length_of}
use Rattle.tokens.specs.Family.{always, choice, leave, finish}
use Rattle.rom.specs.Sizes.{rom_most}
use Rattle.tokens.specs.declared.decoding.Operand.{Operand}
use Rattle.tokens.specs.declared.decoding.Operand.TheVariants.{Nothing, Literal, Text, Branch, Number, Definition}
use Rattle.tokens.specs.declared.decoding.Token.{Token}
use Rattle.screen.specs.Effect.{is_a, is_colon, is_branch, astray, aims, both_ways, leads_of}
use Rattle.screen.specs.Reach.{In, there, Setting, token_at, Holds, Met, Body, Starts}
use Rattle.screen.specs.Laws.Rules.Tokens.{none_in, fixes_no_branch, one_family}
use Rattle.screen.specs.Laws.Rules.Ways.{Ways, ways_of, colon_fixes}
use Rattle.screen.specs.Laws.Found.Model.{Board}
use Rattle.screen.specs.Laws.Walk.Advancing.{setting_of}
use Rattle.screen.specs.Laws.Walk.Rounds.{far_of, Ran, Next, Chain}
use Rattle.screen.specs.Laws.Walk.Boards.{advanced}
use Rattle.screen.specs.Laws.Walk.Chains.{Steps, climbs, steps_kept, Order, order}
use Rattle.screen.specs.Laws.Accept.Cover.{start, Follows, ready}
use Rattle.screen.specs.Laws.Accept.Spots.{Inside, body_of, body_on, inside}
use Rattle.screen.specs.Laws.Accept.Cells.{body_start}
use Rattle.screen.specs.Laws.Accept.Outside.{out_of, at_far}
use Rattle.screen.specs.Laws.Accept.Told.{same_colon}

-- a branch leads where it aims
pub aim_leads : (t : Token) (q : ℕ) → T (is_branch t) → In q (aims t.operand) → In q (leads_of t)
aim_leads t q b i = by (ways_of t)
  where
    choice_leads : (o : Operand) (n : ℕ) → In q (aims o) → In q (both_ways n (aims o))
    choice_leads (Branch bits (Some to)) n i = there i
    choice_leads (Branch bits None) n i = none_in i
    choice_leads Nothing n i = none_in i
    choice_leads (Literal k) n i = none_in i
    choice_leads (Text k l) n i = none_in i
    choice_leads (Number k) n i = none_in i
    choice_leads (Definition k l) n i = none_in i

    no_branch : T (is_a finish t || is_a leave t) → T (not (is_branch t))
    no_branch e =
        either (is_a finish t) (is_a leave t) (T (not (is_branch t))) e
        (λ f. rw (one_family finish always t f tt, one_family finish choice t f tt) tt)
        (λ f. rw (one_family leave always t f tt, one_family leave choice t f tt) tt)

    by : Ways t → In q (leads_of t)
    by (Ways.ending e l) = absurd (T_not (is_branch t) (no_branch e) b)
    by (Ways.jumping e l) = subst (λ v. In q v) (sym l) i
    by (Ways.choosing e l) = subst (λ v. In q v) (sym l) (choice_leads t.operand t.next i)
    by (Ways.skipping c l) = absurd (T_not (is_branch t) (fixes_no_branch t (colon_fixes t c)) b)
    by (Ways.fixing f c l) = absurd (T_not (is_branch t) (fixes_no_branch t f) b)
    by (Ways.falling e f l) = absurd (T_not (is_branch t) f b)

module _ (rom : List ℕ) (fits : length_of rom ≤ rom_most) {last : Board} (passed : Chain rom (start rom fits) last) where
  pub below : {b c d : Board} → Follows rom fits b → Next rom b d → Steps rom fits d c → far_of rom b < c.stand.start
  below h n s =
      let z = advanced rom fits (ready rom fits h) n in
      let a = z.1.ahead in
      let k = (steps_kept rom fits z.1.ready s).0 in
      omega arith

  same_far : {b c : Board} → Follows rom fits b → Ran rom b → Follows rom fits c → Ran rom c → far_of rom b ≡ far_of rom c → b ≡ c
  same_far {b} {c} h r k q e = by (order rom fits h k)
    where
      by : Order rom fits b c → b ≡ c
      by (Order.same f) = f
      by (Order.less n s) = let l = below h n s in let u = climbs rom fits q in absurd (omega arith)
      by (Order.more n s) = let l = below k n s in let u = climbs rom fits r in absurd (omega arith)

  -- a body's tokens are met in the setting of its b(:)
  one_setting : {d p : ℕ} {s r : Setting} {t : Token} → Met rom 0 s d t → T (is_colon t) → (k : Inside rom fits passed d r p)
      → s ≡ setting_of k.board.stand
  one_setting {d} {s = s} {t = t} m c k =
      (out_of rom fits passed m).setting ∙ ap (λ (v : Board). setting_of v.stand)
      (same_far (out_of rom fits passed m).follows (out_of rom fits passed m).ran k.follows k.ran
      (sym (at_far rom fits passed m (colon_fixes t c)).0 ∙ k.place))

  pub stays_in : {s r : Setting} {d n c p q : ℕ} {t u : Token} → Body rom s d t n c → Met rom (suc d) r p u → T (is_branch u)
      → In q (aims u.operand)
      → Starts rom s.wide t.next q
  stays_in {s} {r} {d} {q = q} {t} {u} b m w i =
      let k = inside rom fits passed m.reach in
      let l = body_on rom fits passed k m.is (aim_leads u q w i) in
      subst (λ v. Starts rom v.wide t.next q) (sym (one_setting b.met b.colon k))
      (subst (λ (v : Token). Starts rom k.board.stand.wide v.next q) (sym (same_colon rom fits passed k b.met b.colon))
      (body_start rom fits passed l))

  pub aimed_in_lem : {s : Setting} {d n c p : ℕ} {t u : Token} → Body rom s d t n c → Starts rom s.wide t.next p
      → token_at rom 1 s.wide p ≡ Ok u
      → T (not (astray u))
  aimed_in_lem {s} {d} {p = p} {t} {u} b h e =
      let k = inside rom fits passed (Holds.body b.met.reach b.met.is b.colon b.reads) in
      let g = one_setting b.met b.colon k in
      let f = same_colon rom fits passed k b.met b.colon in
      let h' = subst (λ v. Starts rom v.wide t.next p) g h in
      let h'' = subst (λ (v : Token). Starts rom k.board.stand.wide v.next p) f h' in
      fails (astray u) ((body_of rom fits passed k).marked.fine h'' (subst (λ v. token_at rom 1 v.wide p ≡ Ok u) g e)).0
