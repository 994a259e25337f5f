-- Where there is an assignment of heights, a round that starts with them finds them, and is good. Assumes nothing.
use Rattle.std.specs.Prelude.{ℕ, zero, suc, ◌+◌, ◌-◌, ◌≤◌, ◌<◌, ◌≡◌, Bool, not, List, ◌⊎◌, ◌≢◌, T, get_or, Err, Ok, Result}
use Rattle.std.proofs.Common.{arith, sym, ap, ◌∙◌, subst, inl, inr, T_not}
use Rattle.std.proofs.Math.Decide.{ℕ_discrete, dec_lt}
use Rattle.std.proofs.Math.Path.{refl}
use Rattle.std.proofs.Math.Bool.{true, false}
use Rattle.cells.specs.Laws.Facts.{holds, fails, is_false}
use Rattle.rom.specs.Header.{length_of}
use Rattle.rom.specs.Sizes.{rom_most, data_most, return_most, frames_most}
use Rattle.tokens.specs.Family.{define, call}
use Rattle.tokens.specs.Decode.{is_kind}
use Rattle.tokens.specs.Body.{kind_of, unknown_of}
use Rattle.tokens.specs.Laws.Tokens.{none_starts}
use Rattle.tokens.specs.Definition.{new_number, kind_in}
use Rattle.tokens.specs.declared.decoding.Token.{Token}
use Rattle.screen.specs.Effect.{is_a, fixes, is_colon, names, effect_of, called}
use Rattle.screen.specs.Reach.{Setting, token_at, Named, Claim, Holds, Reach, Met}
use Rattle.screen.specs.Laws.Rules.Reach.{extends_ahead}
use Rattle.screen.specs.Rules.{Assignment, own_frame}
use Rattle.screen.proofs.Rules.InForce.{fixed_read, fixing, reach_first, next_met, step_of, step_passes}
use Rattle.screen.specs.Laws.Rules.Tokens.{after_same, leave_inside, heads}
use Rattle.screen.specs.Laws.Rules.Ways.{effect_call, effect_own, unknown_call, call_known, assign_known, unnamed_known, GivesOn}
use Rattle.screen.specs.Laws.Rules.Ways.{gives_leads, define_fixes, colon_fixes}
use Rattle.screen.specs.Laws.Walk.Visits.{Meets, Fits, visit_fits, fits_visit}
use Rattle.screen.specs.Laws.Walk.Walking.{At, Fails, Given, Walked, walk_good, walk_bad}
use Rattle.screen.specs.Laws.Walk.Apart.{Overlap, apart_bad}
use Rattle.screen.specs.Laws.Walk.Advancing.{setting_of}
use Rattle.screen.specs.Laws.Found.Model.{Board, sum_at, fixed_in, end_in, outside_text, apart_of, round_of, round_good}
use Rattle.screen.specs.Laws.Found.Model.{heights_after}
use Rattle.screen.specs.Laws.Found.Room.{has_room}
use Rattle.screen.specs.Laws.Walk.Rounds.{ran, far_of, OutAt, Ran, good_ran}
use Rattle.screen.specs.Laws.Walk.Boards.{Advanced, advanced}
use Rattle.screen.specs.Laws.Walk.Chains.{steps_kept}
use Rattle.screen.specs.Laws.Accept.Roots.{LeadsTo, way_leads}
use Rattle.screen.specs.Laws.Accept.Cover.{Follows, ready, rooted, Before, round_end_lem, cover}
use Rattle.screen.specs.declared.effect.Effect.{Effect}
use Rattle.screen.specs.declared.walking.Text.{Text as Scope}
use Rattle.screen.specs.Laws.Found.Cell.{height_in_lem, back_in_lem, cell_with, height_in, back_in, heights, cell_some}

-- ---- what tokens are
-- a kind is not 0
pub kind_some : (k : ℕ) → T (is_kind k) → k ≢ 0
kind_some k h e = let z : T (is_kind 0) = subst (λ n. T (is_kind n)) e h in z

-- how a token is known
pub data KnownBy (rom : List ℕ) (p : ℕ) (t : Token) : Type 0 where
  unnamed : T (not (names t)) → KnownBy rom p t
  named : {s : Setting} {d e : ℕ} {u : Token} → Met rom 0 s d u → Named t u → Holds rom (Claim.extends s.wide u e) → e ≤ p
      → KnownBy rom p t

-- a known token is so by one of the two
pub known_by : {rom : List ℕ} {p : ℕ} {t : Token} → Holds rom (Claim.known p t) → KnownBy rom p t
known_by (Holds.unnamed n) = unnamed n
known_by (Holds.named r i n x l) = named (record { reach = r; is = i }) n x l

-- a place that has a token has no refusal
pub not_good : {r : Result Token ℕ} {t : Token} {why : ℕ} → r ≡ Ok t → r ≡ Err why → ⊥
not_good e f = let z : zero ≡ 1 = cc (e, f) in omega arith

module _ (rom : List ℕ) (fits : length_of rom ≤ rom_most) (a : Assignment rom) where
  -- ---- what the rules say of a reachable token's heights
  pub record Limits (x p : ℕ) (e : Effect) : Type 0 where
    pub height : a.height x p ≤ data_most
    pub back : a.back x p ≤ return_most
    pub takes : e.takes ≤ a.height x p
    pub high : a.height x p - e.takes + e.gives ≤ data_most
    pub rise : a.height x p - e.takes + e.rise ≤ data_most
    pub return_takes : e.return_takes ≤ a.back x p
    pub return_high : a.back x p - e.return_takes + e.return_gives ≤ return_most
    pub return_rise : a.back x p + e.return_rise ≤ return_most
    pub frames : own_frame x + e.frames ≤ frames_most

  -- they are within the limits, and so are those of its successors
  pub limits : {x p : ℕ} {s : Setting} {t : Token} → Met rom x s p t → Limits x p (effect_of a.sum t)
  limits {x} {p} {s} {t} m = by (gives_leads rom (length_of rom) s.wide _ p t m.is a.sum)
    where
      by : GivesOn a.sum t → Limits x p (effect_of a.sum t)
      by (GivesOn.quiet g h) =
          let d = a.data_limit m in
          let r = a.return_limit m in
          let y = a.there m in
          record {
            height = d.0;
            back = omega arith;
            takes = y.0;
            high = omega arith;
            rise = d.1;
            return_takes = y.1;
            return_high = omega arith;
            return_rise = r;
            frames = a.frame_limit m;
          }
      by (GivesOn.goes_on i) =
          let d = a.data_limit m in
          let r = a.return_limit m in
          let y = a.there m in
          let l = Holds.by_itself (a.known m) i in
          let n = (next_met a m l).1 in
          let f = a.flow m l in
          let d' = (a.data_limit n).0 in
          let r' = a.return_limit n in
          record {
            height = d.0;
            back = omega arith;
            takes = y.0;
            high = omega arith;
            rise = d.1;
            return_takes = y.1;
            return_high = omega arith;
            return_rise = r;
            frames = a.frame_limit m;
          }

  -- ---- what no token leads back over
  -- a place that no token above it leads below: place 8, or what comes behind a token that is met exactly once
  pub data Floor (k : ℕ) : Type 0 where
    first : k ≡ 8 → Floor k
    behind : {s : Setting} {m : ℕ} {u : Token} → Met rom 0 s m u → T (fixes u) → Holds rom (Claim.extends s.wide u k) → Floor k

  -- it is so of both
  pub stay_above : {k : ℕ} → Floor k → {s : Setting} {p q : ℕ} {t : Token} → Met rom 0 s p t → k ≤ p
      → Holds rom (Claim.leads s.wide p t q) → k ≤ q
  stay_above (first e) m l h = let y = reach_first (next_met a m h).1.reach in omega arith
  stay_above (behind {m = o} n f x) m l h =
      let y = extends_ahead n x in
      let z = (step_passes a m (step_of a m h)).keeps o (fixing n f) (omega arith) in
      a.apart n x (next_met a m h).1 z

  -- ---- a board that agrees with the assignment
  pub record Agrees (b : Board) : Type 0 where
    pub follows : Follows rom fits b
    pub cell : b.stand.cell ≡ cell_with (heights (a.height 0 b.stand.start) (a.back 0 b.stand.start))
    pub sums : (n : ℕ) → kind_of b.kinds n ≢ 0 → sum_at b.sums n ≡ a.sum n
    pub floor : Floor b.stand.start

  module _ {b : Board} (g : Agrees b) where
    -- the text of the round
    abbrev x : Scope
    x = outside_text (length_of rom) b.stand

    -- a reachable token is in a round before, or at or above the start
    pub below_start : {s : Setting} {q : ℕ} → Reach rom 0 s q → Before rom fits b s q ⊎ (b.stand.start ≤ q)
    below_start r =
        cover rom fits g.follows (λ s q. b.stand.start ≤ q) (omega arith) (λ s p q t m l h. stay_above g.floor m l h) r

    -- the numbers that are defined before the start are held
    pub full : {s : Setting} {d : ℕ} {t : Token} → Met rom 0 s d t → T (is_a define t) → d < b.stand.start
        → kind_of b.kinds (new_number t.operand) ≡ kind_in t.operand
    full {s} {d} {t} m f l = by (below_start m.reach)
      where
        by : Before rom fits b s d ⊎ (b.stand.start ≤ d) → kind_of b.kinds (new_number t.operand) ≡ kind_in t.operand
        by (inr h) = absurd (omega arith)
        by (inl z) = (steps_kept rom fits y.1.ready z.to).1.kinds (new_number t.operand) (λ e. some (sym held ∙ e)) ∙ held
          where
            y : (r : Ran rom z.board) × Advanced rom z.board r.token z.after × T (fixes r.token)
            y = advanced rom fits (ready rom fits z.from) z.next

            is : token_at rom 0 z.board.stand.wide d ≡ Ok t
            is = subst (λ v. token_at rom 0 v.wide d ≡ Ok t) z.setting m.is

            same : t ≡ y.0.token
            same = (round_end_lem rom fits y.0 z.at is (define_fixes t f)).1

            held : kind_of z.after.kinds (new_number t.operand) ≡ kind_in t.operand
            held =
                subst (λ u. kind_of z.after.kinds (new_number u.operand) ≡ kind_in u.operand) (sym same)
                (y.1.new (subst (λ u. T (is_a define u)) same f)).1

            some : kind_in t.operand ≢ 0
            some = kind_some (kind_in t.operand) (heads rom (length_of rom) s.wide false d t m.is f).1

    -- a token is known to the tables where what it names is defined before the start
    pub known_held : {p : ℕ} {t : Token} → Holds rom (Claim.known p t)
        → ((s : Setting) (d e : ℕ) (u : Token) → Met rom 0 s d u → T (is_a define u) → Holds rom (Claim.extends s.wide u e) → e ≤ p
        → d < b.stand.start)
        → unknown_of b.kinds t ≡ false
    known_held {p} {t} k early = by (known_by k)
      where
        by : KnownBy rom p t → unknown_of b.kinds t ≡ false
        by (unnamed n) = unnamed_known b.kinds t (is_false (names t) n)
        by (named {s = s} {d = d} {u = u} m n v l) = from n
          where
            from : Named t u → unknown_of b.kinds t ≡ false
            from (Named.calls c d') =
                let e = full m d'.is (early _ _ _ u m d'.is v l) in
                let f = subst (λ k. kind_of b.kinds k ≡ kind_in u.operand) d'.number e in
                let z = kind_some (kind_in u.operand) (heads rom (length_of rom) s.wide false d u m.is d'.is).1 in
                call_known b.kinds t c (λ o. z (sym f ∙ o))
            from (Named.assigns c d' i) =
                let e = full m d'.is (early _ _ _ u m d'.is v l) in
                assign_known b.kinds t c (subst (λ k. kind_of b.kinds k ≡ kind_in u.operand) d'.number e ∙ i)

    -- what a token does, by the tables and by the assignment
    pub effect_same : (t : Token) → unknown_of b.kinds t ≡ false → effect_of (sum_at b.sums) t ≡ effect_of a.sum t
    effect_same t u = by (is_a call t) refl
      where
        by : (k : Bool) → is_a call t ≡ k → effect_of (sum_at b.sums) t ≡ effect_of a.sum t
        by true e =
            let c = holds (is_a call t) e in
            effect_call (sum_at b.sums) t c ∙ ap called (g.sums t.number (unknown_call b.kinds t c u))
            ∙ sym (effect_call a.sum t c)
        by false e = let c = fails (is_a call t) e in effect_own (sum_at b.sums) t c ∙ sym (effect_own a.sum t c)

    -- ---- what the round comes to
    pub record Here (p c : ℕ) : Type 0 where
      pub reach : Reach rom 0 (setting_of b.stand) p
      pub above : b.stand.start ≤ p
      pub cell : c ≡ cell_with (heights (a.height 0 p) (a.back 0 p))

    -- the cell behind a token, where its own is a height's
    behind_cell : {p c q : ℕ} {t : Token} → Met rom 0 (setting_of b.stand) p t → Holds rom (Claim.leads b.stand.wide p t q)
        → unknown_of b.kinds t ≡ false
        → c ≡ cell_with (heights (a.height 0 p) (a.back 0 p))
        → cell_with (heights_after (effect_of (sum_at b.sums) t) c) ≡ cell_with (heights (a.height 0 q) (a.back 0 q))
    behind_cell {p} {c} {q} {t} m l u e =
        let y = limits m in
        let h : height_in c ≡ a.height 0 p = ap height_in e ∙ height_in_lem (a.height 0 p) (a.back 0 p) (omega (arith, y.height)) in
        let k : back_in c ≡ a.back 0 p = ap back_in e ∙ back_in_lem (a.height 0 p) (a.back 0 p) (omega (arith, y.height)) in
        let f = a.flow m l in
        rw (effect_same t u, h, k, f.0, f.1)

    -- every place that it comes to is reachable, at or above the start, and has the assignment's heights
    pub at_here : {p c : ℕ} → OutAt rom b p c → Here p c
    at_here At.begins = record { reach = (rooted rom fits g.follows).reach; above = omega arith; cell = g.cell }
    at_here (At.on {p} {c} {q} i o w) =
        let y = at_here i in
        let f = visit_fits rom x b.kinds b.sums p c o in
        let l = way_leads f w in
        let m : Met rom 0 (setting_of b.stand) p f.token = record { reach = y.reach; is = f.meets.is } in
        let d : Holds rom (Claim.leads b.stand.wide p f.token q) = Holds.by_itself (a.known m) l.leads in
        record {
          reach = subst (λ s. Reach rom 0 s q) (after_same f.token (setting_of b.stand) l.free)
              (Holds.next y.reach f.meets.is d);
          above = stay_above g.floor m y.above d;
          cell = f.cell ∙ behind_cell m d f.meets.named y.cell;
        }

    -- the token of a place that it comes to
    pub here_met : {p c : ℕ} → OutAt rom b p c → (t : Token) × Met rom 0 (setting_of b.stand) p t
    here_met i = let y = at_here i in let w = a.whole y.reach in (w.0, record { reach = y.reach; is = w.1 })

    -- it comes to no place above a token that is met exactly once
    pub stay_below : {p c : ℕ} → OutAt rom b p c → {s : Setting} {d : ℕ} {u : Token} → Met rom 0 s d u → T (fixes u) → b.stand.start ≤ d
        → p ≤ d
    stay_below At.begins m f l = l
    stay_below (At.on {p} {c} {q} i o w) {s} {d} {u} m f l = by (ℕ_discrete p d) (stay_below i m f l)
      where
        v : Fits rom x b.kinds b.sums p c
        v = visit_fits rom x b.kinds b.sums p c o

        to : LeadsTo v.token q
        to = way_leads v w

        n : Met rom 0 (setting_of b.stand) p v.token
        n = record { reach = (at_here i).reach; is = v.meets.is }

        by : Dec (p ≡ d) → p ≤ d → q ≤ d
        by (yes e) k =
            let y : u ≡ v.token = fixed_read m f (subst (λ o. Met rom 0 (setting_of b.stand) o v.token) e n) in
            absurd (T_not (fixes v.token) to.free (subst (λ o. T (fixes o)) y f))
        by (no e) k = over (dec_lt d q)
          where
            over : Dec (d < q) → q ≤ d
            over (yes y) = let z = (step_passes a n (step_of a n (Holds.by_itself (a.known n) to.leads))).adds d (fixing m f) y in
                absurd (omega arith)
            over (no y) = omega arith

    -- ---- its tokens' rules are met
    pub here_known : {p c : ℕ} {t : Token} → OutAt rom b p c → Met rom 0 (setting_of b.stand) p t → unknown_of b.kinds t ≡ false
    here_known {p} {c} {t} i m = known_held (a.known m) (λ s d e u n f v l. by n f (extends_ahead n v) l (dec_lt d b.stand.start))
      where
        by : {s : Setting} {d e : ℕ} {u : Token} → Met rom 0 s d u → T (is_a define u) → d < e → e ≤ p → Dec (d < b.stand.start)
            → d < b.stand.start
        by n f v l (yes y) = y
        by {u = u} n f v l (no y) = let z = stay_below i n (define_fixes u f) (omega arith) in absurd (omega arith)

    -- they are all that a visit asks
    here_meets : {p c : ℕ} {t : Token} → OutAt rom b p c → Met rom 0 (setting_of b.stand) p t → Meets rom x b.kinds b.sums p c t
    here_meets {p} {c} {t} i m =
        let y = limits m in
        let z = at_here i in
        let u = here_known i m in
        let h : height_in c ≡ a.height 0 p = ap height_in z.cell ∙ height_in_lem (a.height 0 p) (a.back 0 p) (omega (arith, y.height)) in
        let k : back_in c ≡ a.back 0 p = ap back_in z.cell ∙ back_in_lem (a.height 0 p) (a.back 0 p) (omega (arith, y.height)) in
        let e = effect_same t u in
        record {
          is = m.is;
          allowed = a.plain m;
          named = u;
          aimed = a.aimed m;
          childless = λ f. a.closed m f;
          based = λ f. absurd (subst T (leave_inside rom (length_of rom) b.stand.wide p t m.is) f);
          takes = rw (e, h) y.takes;
          high = rw (e, h) y.high;
          rise = rw (e, h) y.rise;
          return_takes = rw (e, k) y.return_takes;
          return_high = rw (e, k) y.return_high;
          return_rise = rw (e, k) y.return_rise;
          frames = rw e y.frames;
        }

    -- there is no reason to refuse its walk
    no_fails : Fails rom x b.kinds b.sums b.stand.start b.stand.cell b.seen → ⊥
    no_fails (Fails.unfit i e) = let m = here_met i in subst T (sym (fits_visit (here_meets i m.1)) ∙ e) tt
    no_fails (Fails.clash i j n) = n ((at_here i).cell ∙ sym (at_here j).cell)
    no_fails (Fails.before i l) = let h = (at_here i).above in omega arith
    no_fails (Fails.behind {p} i l) =
        let m = here_met i in
        not_good m.1.is (none_starts rom (length_of rom) b.stand.wide false p l)
    no_fails (Fails.barred {p} i n) = n ((ready rom fits g.follows).fresh p (at_here i).above)

    -- what the walk asks is given
    given : Given rom x b.kinds b.sums b.stand.start b.stand.cell b.seen
    given =
        let y = ready rom fits g.follows in
        let h = has_room (length_of rom) fits y.seen in
        let c : b.stand.cell ≢ 0 = λ z. cell_some (heights (a.height 0 b.stand.start) (a.back 0 b.stand.start))
        (sym g.cell ∙ z) in
        record {
          room = h.0;
          few = h.1;
          unlike = c;
          some = c;
          fresh = λ p l h n. y.fresh p l;
        }

    -- so that its walk is good
    walk_passes : (ran rom b).walk.good ≡ true
    unfolding round_of
    walk_passes = by (ran rom b).walk.good refl
      where
        by : (k : Bool) → (ran rom b).walk.good ≡ k → k ≡ true
        by true e = refl
        by false e = absurd (no_fails (walk_bad rom x b.kinds b.sums b.stand.start b.stand.cell given e))

    -- and has come to every place that it can come to
    walked : Walked rom x b.kinds b.sums b.stand.start b.stand.cell b.seen (ran rom b)
    unfolding round_of
    walked = walk_good rom x b.kinds b.sums b.stand.start b.stand.cell given walk_passes

    -- a place with a cell was come to
    seen_at : (p : ℕ) → b.stand.start ≤ p → get_or (ran rom b).seen p 0 ≢ 0 → OutAt rom b p (get_or (ran rom b).seen p 0)
    seen_at p l n = by (walked.kept p)
      where
        by : (get_or (ran rom b).seen p 0 ≡ get_or b.seen p 0) ⊎ OutAt rom b p (get_or (ran rom b).seen p 0)
            → OutAt rom b p (get_or (ran rom b).seen p 0)
        by (inl e) = absurd (n (e ∙ (ready rom fits g.follows).fresh p l))
        by (inr i) = i

    -- no two of its tokens overlap, and one that ends it is the highest
    no_overlap : Overlap rom x (ran rom b).seen b.stand.start (far_of rom b) → ⊥
    no_overlap (Overlap.over p q l h k n o v) = by (is_colon t.0) refl
      where
        t : (t : Token) × Met rom 0 (setting_of b.stand) p t
        t = here_met (seen_at p l n)

        j : (t : Token) × Met rom 0 (setting_of b.stand) q t
        j = here_met (seen_at q (omega arith) o)

        end : q < t.0.next
        end = subst (λ r. q < end_in p r) t.1.is v

        by : (c : Bool) → is_colon t.0 ≡ c → ⊥
        by true e =
            let z = stay_below (seen_at q (omega arith) o) t.1 (colon_fixes t.0 (holds (is_colon t.0) e)) l in
            omega arith
        by false e = let z = a.apart t.1 (Holds.to_next (fails (is_colon t.0) e)) j.1 h in let y = end in omega arith
    no_overlap (Overlap.early p l h n e d) =
        let t = here_met (seen_at p l n) in
        let f : fixes t.0 ≡ true = sym (ap fixed_in t.1.is) ∙ e in
        let z = stay_below walked.highest.1 t.1 (holds (fixes t.0) f) l in
        d (omega arith)

    -- what the pass over its places finds
    abbrev test : Bool
    test = apart_of rom x (ran rom b).seen (far_of rom b) (suc (far_of rom b) - b.stand.start) b.stand.start 0

    -- the pass is good
    apart_passes : test ≡ true
    apart_passes = by test refl
      where
        by : (k : Bool) → test ≡ k → k ≡ true
        by true e = refl
        by false e =
            absurd (no_overlap (apart_bad rom x (ran rom b).seen b.stand.start (far_of rom b)
            (walked.inside walked.highest.1).0 e))

    -- so that it is good
    pub round_good_lem : round_good rom (length_of rom) b (ran rom b) ≡ true
    round_good_lem = rw (walk_passes, apart_passes)

    -- and is what a good round is
    pub round_ran : Ran rom b
    round_ran = good_ran rom fits b (ready rom fits g.follows) round_good_lem
