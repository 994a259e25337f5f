-- Where there is an assignment of heights, the body of a b(:) that ends a round which starts with them is read, its walk finds them, moved
-- by 64 less its need, and its tally is the sum of its number. Assumes nothing.
use Rattle.std.specs.Prelude.{ℕ, suc, ◌+◌, ◌-◌, ◌≤◌, ◌<◌, max, ◌≡◌, refl, Bool, true, false, not, List, ◌≢◌, T, leb, get_or, Ok}
use Rattle.std.proofs.Common.{arith, sym, ap, ◌∙◌, subst, T_not, le→leb}
use Rattle.std.proofs.Math.Decide.{ℕ_discrete, dec_lt}
use borrow.Author.Tests.{ne_eqb}
use Rattle.cells.specs.Laws.Facts.{fails, is_true, is_false}
use Rattle.rom.specs.Header.{length_of}
use Rattle.rom.specs.Sizes.{rom_most, data_most}
use Rattle.tokens.specs.Family.{define}
use Rattle.tokens.specs.Body.{unknown_of}
use Rattle.tokens.specs.Laws.Tokens.{next_ahead, none_starts}
use Rattle.tokens.specs.Definition.{new_number}
use Rattle.tokens.specs.declared.decoding.Token.{Token}
use Rattle.screen.specs.Effect.{is_a, fixes, is_colon, astray, leads_of, names, effect_of}
use Rattle.screen.specs.Reach.{In, Setting, token_at, Claim, Holds, Reach, Met, Body, Starts}
use Rattle.screen.specs.Laws.Rules.Reach.{ExtendsBy, extends_by, start_within, one_end, extends_ahead, one_good}
use Rattle.screen.specs.Rules.{Assignment, Most}
use Rattle.screen.specs.Laws.Rules.Tokens.{after_same, fixes_outside}
use Rattle.screen.specs.Laws.Rules.Tokens.{end_is as last_is}
use Rattle.screen.proofs.Rules.InForce.{one_fixed, start_on}
use Rattle.screen.specs.Laws.Rules.Ways.{define_fixes}
use Rattle.screen.specs.Laws.Walk.Visits.{Meets, visit_fits, fits_visit}
use Rattle.screen.specs.Laws.Walk.Walking.{At, Fails, Walked}
use Rattle.screen.specs.Laws.Walk.Marking.{walked_met, MarksBody, FineMarks}
use Rattle.screen.specs.Laws.Walk.Tallying.{Among, Greatest, Leaving, TallyIs, need_at, peak_at, back_at, frames_at}
use Rattle.screen.specs.Laws.Walk.Advancing.{setting_of}
use Rattle.screen.specs.Laws.Found.Model.{Path, Board, Marked, sum_at, body_text, sum_told, passes_of}
use Rattle.screen.specs.Laws.Found.Model.{heights_after}
use Rattle.screen.specs.Laws.Walk.Rounds.{ran_above, ran, far_of, Ran}
use Rattle.screen.specs.Laws.Accept.Roots.{way_leads, far_met}
use Rattle.screen.specs.Laws.Accept.Cover.{leads_way, leads_itself, ready, rooted}
use Rattle.screen.proofs.Exact.Round.{not_good, limits, Agrees, known_held, effect_same, stay_below}
use Rattle.screen.specs.declared.walking.Text.{Text as Scope}
use Rattle.screen.specs.Laws.Found.Model.{Tally}
use Rattle.screen.specs.Laws.Found.Cell.{height_in_lem, back_in_lem, is_met_lem, cell_with, height_in, back_in, is_met, heights, entry_cell}
use Rattle.screen.specs.Laws.Found.Cell.{entered}
use Rattle.screen.specs.Laws.Found.Cell.{body_most}

-- behind a token of a body that is not its last the body is read on
reads_behind : {rom : List ℕ} {w : Bool} {p c : ℕ} {t : Token} → Holds rom (Claim.reads w p c) → token_at rom 1 w p ≡ Ok t
    → (t.number ≡ 0xC2 → ⊥)
    → Holds rom (Claim.reads w t.next c)
reads_behind {t = t} (Holds.last {t = u} j m) i n = absurd (n (subst (λ v. v.number ≡ 0xC2) (one_good j i) m))
reads_behind {rom} {w} {p} {c} {t} (Holds.more {t = u} j m k r) i n = subst (λ v. Holds rom (Claim.reads w v.next c)) (one_good j i) r

-- a body is read from each of its token starts
pub reads_from : {rom : List ℕ} {w : Bool} {e c p : ℕ} → Holds rom (Claim.reads w e c) → Starts rom w e p → Holds rom (Claim.reads w p c)
reads_from h Starts.entry = h
reads_from h (Starts.behind s i n) = reads_behind (reads_from h s) i n

-- the first token of a body that is read is known
first_known : {rom : List ℕ} {w : Bool} {p c : ℕ} {u : Token} → Holds rom (Claim.reads w p c) → token_at rom 1 w p ≡ Ok u
    → Holds rom (Claim.known p u)
first_known {rom} {w} {p} {c} {u} (Holds.last {t = v} j m) i =
    let e = one_good j i in
    let n = (last_is rom (length_of rom) w true p u i (subst (λ o. o.number ≡ 0xC2) e m)).1 in
    Holds.unnamed (fails (names u) n)
first_known {rom} {w} {p} {c} {u} (Holds.more {t = v} j m k r) i = subst (λ o. Holds rom (Claim.known p o)) (one_good j i) k

-- every token of a body that is read is known
pub reads_known : {rom : List ℕ} {w : Bool} {e c p : ℕ} {u : Token} → Holds rom (Claim.reads w e c) → Starts rom w e p
    → token_at rom 1 w p ≡ Ok u
    → Holds rom (Claim.known p u)
reads_known h s i = first_known (reads_from h s) i

module _ (rom : List ℕ) (fits : length_of rom ≤ rom_most) (a : Assignment rom) {b : Board} (g : Agrees rom fits a b) (r : Ran rom b)
    (f : T (fixes r.token)) where
  -- the token that ends the round, its place, the width there, and the setting
  abbrev t : Token
  t = r.token

  abbrev far : ℕ
  far = far_of rom b

  abbrev wide : Bool
  wide = b.stand.wide

  abbrev here : Setting
  here = setting_of b.stand

  -- the token that ends the round
  pub far_token : Met rom 0 here far t
  far_token = far_met rom fits r (rooted rom fits g.follows)

  -- it is met in one setting, that of the board
  pub one_setting : {s : Setting} → Reach rom 0 s far → s ≡ here
  one_setting m = one_fixed a m far_token.reach

  -- ---- its body
  module _ (c : T (is_colon t)) {k : ℕ} (rd : Holds rom (Claim.reads wide t.next k)) where
    -- its number, its need, its heights, its text, and what its walk comes to
    abbrev n : ℕ
    n = new_number t.operand

    abbrev need : ℕ
    need = (a.sum n).need

    abbrev H : ℕ → ℕ
    H p = a.height (suc far) p

    abbrev B : ℕ → ℕ
    B p = a.back (suc far) p

    abbrev x : Scope
    x = body_text (length_of rom) wide t.next

    abbrev BodyAt : ℕ → ℕ → Type 0
    BodyAt p d = At rom x b.kinds b.sums t.next entry_cell p d

    -- it is a body
    pub the_body : Body rom here far t n k
    the_body = record { met = far_token; colon = c; number = refl; reads = rd }

    -- no token of it is refused
    pub body_fine : FineMarks rom wide b.kinds t.next
    body_fine p u s i = (known_held rom fits a g (reads_known rd s i) early, is_false (astray u) (a.aimed_in the_body s i))
      where
        before : p ≤ k
        before = (start_within rd s).high

        early : (s' : Setting) (d e : ℕ) (v : Token) → Met rom 0 s' d v → T (is_a define v) → Holds rom (Claim.extends s'.wide v e)
            → e ≤ p
            → d < b.stand.start
        early s' d e v m o ex l = by (dec_lt d b.stand.start)
          where
            ahead : d < e
            ahead = extends_ahead m ex

            at_far : d ≡ far → ⊥
            at_far q = same (one_setting (subst (λ o. Reach rom 0 s' o) q m.reach))
              where
                last : Holds rom (Claim.extends wide t e) → e ≡ suc k
                last h = by_end (extends_by h)
                  where
                    by_end : {e : ℕ} → ExtendsBy rom wide t e → e ≡ suc k
                    by_end (ExtendsBy.short z) = absurd (T_not (is_colon t) z c)
                    by_end (ExtendsBy.long z y) = ap suc (one_end y rd)

                same : s' ≡ here → ⊥
                same y =
                    let i : token_at rom 0 wide far ≡ Ok v =
                    subst (λ o. token_at rom 0 wide o ≡ Ok v) q (subst (λ o. token_at rom 0 o.wide d ≡ Ok v) y m.is) in
                    let j : v ≡ t = one_good i r.is in
                    let h : Holds rom (Claim.extends wide t e) =
                    subst (λ o. Holds rom (Claim.extends wide o e)) j (subst (λ o. Holds rom (Claim.extends o.wide v e)) y ex) in
                    let z = last h in
                    let w = before in
                    omega arith

            by : Dec (d < b.stand.start) → d < b.stand.start
            by (yes y) = y
            by (no y) = absurd (high (ℕ_discrete d far))
              where
                up : far ≤ d
                up = stay_below rom fits a g r.walked.highest.1 m (define_fixes v o) (omega arith)

                high : Dec (d ≡ far) → ⊥
                high (yes z) = at_far z
                high (no z) =
                    let q = up in
                    let w = a.apart far_token (Holds.through_body c rd) m (omega arith) in
                    let j = ahead in
                    let h = before in
                    omega arith

    -- where it is entered
    pub entry_met : (u : Token) × Met rom (suc far) here t.next u
    entry_met =
        let i = Holds.body far_token.reach far_token.is c rd in
        let w = a.whole i in
        (w.0, record { reach = i; is = w.1 })

    -- its need is a height
    need_low : need ≤ data_most
    need_low = let e = (a.enter the_body).0 in let l = (limits rom fits a entry_met.1).height in omega arith

    -- ---- what its walk comes to
    pub record InsideBody (p d : ℕ) : Type 0 where
      pub reach : Reach rom (suc far) here p
      pub start : Starts rom wide t.next p
      pub cell : d ≡ cell_with (heights (H p + entered - need) (B p))

    -- the cell behind a token
    behind_cell : {p d q : ℕ} {u : Token} → Met rom (suc far) here p u → Holds rom (Claim.leads wide p u q) → unknown_of b.kinds u ≡ false
        → d ≡ cell_with (heights (H p + entered - need) (B p))
        → cell_with (heights_after (effect_of (sum_at b.sums) u) d) ≡ cell_with (heights (H q + entered - need) (B q))
    behind_cell {p} {d} {q} {u} m l v e =
        let y = limits rom fits a m in
        let w = need_low in
        let h : height_in d ≡ H p + entered - need = ap height_in e
        ∙ height_in_lem (H p + entered - need) (B p) (omega (arith, y.height)) in
        let o : back_in d ≡ B p = ap back_in e ∙ back_in_lem (H p + entered - need) (B p) (omega (arith, y.height)) in
        let z = a.flow m l in
        let i : H p + entered - need - (effect_of a.sum u).takes + (effect_of a.sum u).gives ≡ H q + entered - need =
        omega (arith, y.takes, z.0) in
        rw (effect_same rom fits a g u v, h, o, i, z.1)

    -- every place that it comes to is reachable, a token start, and has the assignment's heights, moved
    pub at_inside : {p d : ℕ} → BodyAt p d → InsideBody p d
    at_inside At.begins =
        let e = a.enter the_body in
        let w = need_low in
        let h : entered ≡ H t.next + entered - need = omega (arith, e.0) in
        record { reach = entry_met.1.reach; start = Starts.entry; cell = rw (← h, e.1) }
    at_inside (At.on {p} {c = d} {q} i o w) =
        let y = at_inside i in
        let v = visit_fits rom x b.kinds b.sums p d o in
        let l = way_leads v w in
        let m : Met rom (suc far) here p v.token = record { reach = y.reach; is = v.meets.is } in
        let e : Holds rom (Claim.leads wide p v.token q) = Holds.by_itself (a.known m) l.leads in
        record {
          reach = subst (λ s. Reach rom (suc far) s q) (after_same v.token here l.free) (Holds.next y.reach v.meets.is e);
          start = start_on a the_body m m.is y.start l.leads;
          cell = v.cell ∙ behind_cell m e v.meets.named y.cell;
        }

    -- the token of a place that it comes to
    pub inside_met : {p d : ℕ} → BodyAt p d → (u : Token) × Met rom (suc far) here p u
    inside_met i = let y = at_inside i in let w = a.whole y.reach in (w.0, record { reach = y.reach; is = w.1 })

    -- its tokens' rules are met
    inside_meets : {p d : ℕ} {u : Token} → BodyAt p d → Met rom (suc far) here p u → Meets rom x b.kinds b.sums p d u
    inside_meets {p} {d} {u} i m =
        let y = limits rom fits a m in
        let z = at_inside i in
        let w = need_low in
        let v = (body_fine p u z.start m.is).0 in
        let h : height_in d ≡ H p + entered - need =
        ap height_in z.cell ∙ height_in_lem (H p + entered - need) (B p) (omega (arith, y.height)) in
        let o : back_in d ≡ B p = ap back_in z.cell ∙ back_in_lem (H p + entered - need) (B p) (omega (arith, y.height)) in
        let e = effect_same rom fits a g u v in
        record {
          is = m.is;
          allowed = a.plain m;
          named = v;
          aimed = a.aimed m;
          childless = λ q. absurd (subst T (fixes_outside rom (length_of rom) wide p u m.is).1 q);
          based = λ q. o ∙ (a.ends the_body m q).1;
          takes = rw (e, h) (omega (arith, y.takes));
          high = rw (e, h) (omega (arith, y.takes, y.high));
          rise = rw (e, h) (omega (arith, y.takes, y.rise));
          return_takes = rw (e, o) y.return_takes;
          return_high = rw (e, o) y.return_high;
          return_rise = rw (e, o) y.return_rise;
          frames = rw e y.frames;
        }

    module _ {m : Marked} (mk : MarksBody rom wide b.kinds t.next (ran rom b).seen m) where
      -- there is no reason to refuse its walk
      pub body_no_fails : Fails rom x b.kinds b.sums t.next entry_cell m.seen → ⊥
      body_no_fails (Fails.unfit i e) = let u = inside_met i in subst T (sym (fits_visit (inside_meets i u.1)) ∙ e) tt
      body_no_fails (Fails.clash i j z) = z ((at_inside i).cell ∙ sym (at_inside j).cell)
      body_no_fails (Fails.before i l) = let h = (start_within rd (at_inside i).start).low in omega arith
      body_no_fails (Fails.behind {p} i l) =
          let u = inside_met i in
          not_good u.1.is (none_starts rom (length_of rom) wide true p l)
      body_no_fails (Fails.barred {p} i z) = z (mk.starts (at_inside i).start).2

      module _ {w : Path} (wk : Walked rom x b.kinds b.sums t.next entry_cell m.seen w) where
        -- ---- it comes to every reachable token of the body
        pub record Come (s : Setting) (p : ℕ) : Type 0 where
          pub setting : s ≡ here
          pub cell : ℕ
          pub at : BodyAt p cell

        -- it is so of each of them
        pub every_at : {y : ℕ} {s : Setting} {p : ℕ} → Reach rom y s p → y ≡ suc far → Come s p
        every_at Holds.first e = absurd (omega arith)
        every_at (Holds.body {s = s} {d} {c = o} {t = u} i j q h) e =
            let z : d ≡ far = omega arith in
            let y = one_setting (subst (λ v. Reach rom 0 s v) z i) in
            let v : u ≡ t = one_good (subst (λ v. token_at rom 0 wide v ≡ Ok u) z (subst (λ v. token_at rom 0 v.wide d ≡ Ok u) y j))
            r.is in
            record { setting = y; cell = entry_cell; at = subst (λ v. BodyAt v.next entry_cell) (sym v) At.begins }
        every_at (Holds.next {x = o} {s = s} {p} {q} {t = u} i j l) e =
            let z = every_at i e in
            let y = z.setting in
            let ff = visit_fits rom x b.kinds b.sums p z.cell (wk.fine z.at) in
            let j' : token_at rom (suc far) wide p ≡ Ok u =
            subst (λ v. token_at rom (suc far) v.wide p ≡ Ok u) y (subst (λ v. token_at rom v s.wide p ≡ Ok u) e j) in
            let same : ff.token ≡ u = one_good ff.meets.is j' in
            let no_fix = fails (fixes u) (fixes_outside rom (length_of rom) wide p u j').0 in
            let way = leads_way ff (subst (λ v. T (not (fixes v))) (sym same) no_fix)
            (subst (λ v. In q (leads_of v)) (sym same) (leads_itself no_fix l)) in
            record { setting = after_same u s no_fix ∙ y; cell = _; at = At.on z.at (wk.fine z.at) way }

        -- ---- its tally
        abbrev cell_at : ℕ → ℕ
        cell_at p = get_or w.seen p 0

        abbrev Amid : ℕ → Token → Type 0
        Amid p u = Among rom (length_of rom) wide w.seen t.next (suc m.end) p u

        -- of a reachable token: its place is among those of the tally, with its heights; and what it does
        record Told (p : ℕ) (u : Token) : Type 0 where
          among : Amid p u
          height : height_in (cell_at p) ≡ H p + entered - need
          back : back_in (cell_at p) ≡ B p
          effect : effect_of (sum_at b.sums) u ≡ effect_of a.sum u

        -- it is so of each of them
        met_told : {s : Setting} {p : ℕ} {u : Token} → Met rom (suc far) s p u → Told p u
        met_told {s} {p} {u} q =
            let z = every_at q.reach refl in
            let i = at_inside z.at in
            let j : token_at rom 1 wide p ≡ Ok u = subst (λ v. token_at rom 1 v.wide p ≡ Ok u) z.setting q.is in
            let y = limits rom fits a q in
            let v = need_low in
            let e : cell_at p ≡ cell_with (heights (H p + entered - need) (B p)) = wk.marked z.at ∙ i.cell in
            let lo = mk.starts i.start in
            record {
              among = record {
                low = lo.0;
                high = omega (arith, lo.1);
                visited =
                    record {
                      met = ap is_met e ∙ is_met_lem (heights (H p + entered - need) (B p)) (omega (arith, y.height)) y.back;
                      is = j;
                    };
              };
              height = ap height_in e ∙ height_in_lem (H p + entered - need) (B p) (omega (arith, y.height));
              back = ap back_in e ∙ back_in_lem (H p + entered - need) (B p) (omega (arith, y.height));
              effect = effect_same rom fits a g u (body_fine p u i.start j).0;
            }

        -- a place with heights was come to
        among_at : (p : ℕ) → t.next ≤ p → is_met (cell_at p) ≡ true → BodyAt p (cell_at p)
        among_at p l e =
            let z = next_ahead rom (length_of rom) wide false far t r.is in
            walked_met mk wk p (ran_above rom (ready rom fits g.follows) r p (omega arith)) e

        -- so that a place of the tally is that of a reachable token
        among_met : {p : ℕ} {u : Token} → Amid p u → Met rom (suc far) here p u
        among_met {p} {u} q = record { reach = (at_inside (among_at p q.low q.visited.met)).reach; is = q.visited.is }

        -- the largest of a value by the assignment, and by the tally, where that is k more for each token
        same_most : (worth : ℕ → Token → ℕ) (value : Token → ℕ → ℕ) (k u v : ℕ)
            → ((s : Setting) (p : ℕ) (u : Token) → Met rom (suc far) s p u → value u (cell_at p) ≡ worth p u + k) → Most rom far worth u
            → Greatest rom (length_of rom) wide w.seen t.next (suc m.end) value v → v ≡ u + k
        same_most worth value k u v same h i = let y = up (ℕ_discrete u 0) in let z = down (ℕ_discrete v 0) in omega arith
          where
            up : Dec (u ≡ 0) → u + k ≤ v
            up (yes e) =
                let o = entry_met.1 in
                let y = i.all (met_told o).among in
                let z = same here t.next entry_met.0 o in
                omega arith
            up (no e) =
                let o = h.got e in
                let y = i.all (met_told o.3).among in
                let z = same o.0 o.1 o.2 o.3 in
                omega (arith, o.4)

            down : Dec (v ≡ 0) → v ≤ u + k
            down (yes e) = omega arith
            down (no e) =
                let o = i.got e in
                let q = among_met o.among in
                let y = h.all q in
                let z = same here o.place o.token q in
                omega (arith, o.is)

        module _ {y : Tally} (ty : TallyIs rom (length_of rom) wide b.sums w.seen t.next m.end y) where
          -- the need
          need_is : y.need ≡ need + 0
          need_is =
              same_most (λ p u. need + (effect_of a.sum u).takes - H p) (need_at b.sums) 0 need y.need
              (λ s p u q.
              let z = met_told q in
              let l = limits rom fits a q in
              let v = need_low in
              rw (z.effect, z.height) (omega (arith, l.takes)))
              (a.need the_body) ty.need

          -- the peak, as the body was entered at 64
          peak_is : y.peak ≡ (a.sum n).peak + (entered - need)
          peak_is =
              same_most (λ p u. max (H p) (H p - (effect_of a.sum u).takes + (effect_of a.sum u).rise)) (peak_at b.sums)
              (entered - need) (a.sum n).peak y.peak
              (λ s p u q.
              let z = met_told q in
              let l = limits rom fits a q in
              let v = need_low in
              rw (z.effect, z.height) (omega (arith, l.takes)))
              (a.peak the_body) ty.peak

          -- the peak of return heights
          back_is : y.return_peak ≡ (a.sum n).return_peak + 0
          back_is =
              same_most (λ p u. B p + (effect_of a.sum u).return_rise) (back_at b.sums) 0 (a.sum n).return_peak y.return_peak
              (λ s p u q. let z = met_told q in rw (z.effect, z.back) (omega arith)) (a.return_peak the_body) ty.back

          -- the frames
          frames_is : y.frames ≡ (a.sum n).frames + 0
          frames_is =
              same_most (λ p u. 1 + (effect_of a.sum u).frames) (frames_at b.sums) 0 (a.sum n).frames y.frames
              (λ s p u q. let z = met_told q in rw z.effect (omega arith)) (a.frames the_body) ty.frames

          -- its ends have one height
          end_height : {v : ℕ} → Leaving rom (length_of rom) wide w.seen t.next (suc m.end) v
              → v ≡ suc ((a.sum n).out + entered - need)
          end_height l =
              let q = among_met l.among in
              let z = (met_told q).height in
              let h = (a.ends the_body q l.leaves).0 in
              let e = l.is in
              sym e ∙ ap suc (z ∙ ap (λ o. o + entered - need) h)

          -- there is one
          some_end : y.out ≢ 0
          some_end e =
              let o = a.ended the_body in
              ty.ends.none e (met_told o.3).among o.4

          -- so that the tally has that height
          out_is : y.out ≡ suc ((a.sum n).out + entered - need)
          out_is = end_height (ty.ends.got some_end)

          -- the tally is the number's sum
          pub sum_is : sum_told y ≡ a.sum n
          sum_is =
              let v = need_low in
              same (omega (arith, need_is)) (omega (arith, out_is, need_is)) (omega (arith, peak_is, need_is)) (omega (arith, back_is))
              (omega (arith, frames_is))
            where
              same : {h i j k l : ℕ} → h ≡ (a.sum n).need → i ≡ (a.sum n).out → j ≡ (a.sum n).peak → k ≡ (a.sum n).return_peak
                  → l ≡ (a.sum n).frames
                  → record { need = h; out = i; peak = j; return_peak = k; frames = l } ≡ a.sum n
              same h i j k l = rw (h, i, j, k, l)

          -- and has found no other
          ends_agree : y.good ≡ true
          ends_agree = by y.good refl
            where
              by : (o : Bool) → y.good ≡ o → o ≡ true
              by true e = refl
              by false e = let d = ty.ends.clash e in absurd (d.differ (end_height d.one ∙ sym (end_height d.other)))

          -- the peak is within the limit
          peak_low : (a.sum n).peak ≤ data_most
          peak_low = by (ℕ_discrete (a.sum n).peak 0)
            where
              by : Dec ((a.sum n).peak ≡ 0) → (a.sum n).peak ≤ data_most
              by (yes e) = omega arith
              by (no e) =
                  let o = (a.peak the_body).got e in
                  let l = limits rom fits a o.3 in
                  omega (arith, o.4, l.height, l.rise)

          -- and the tally passes
          pub tally_passes : passes_of y ≡ true
          unfolding passes_of
          tally_passes =
              let l : y.peak + y.need ≤ body_most = (let v = need_low in omega (arith, peak_is, need_is, peak_low)) in
              rw (
                ends_agree,
                ne_eqb y.out 0 some_end,
                is_true (leb (y.peak + y.need) body_most)
                    (le→leb (y.peak + y.need) body_most l),
              )
