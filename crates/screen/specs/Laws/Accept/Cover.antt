-- The rounds come to every reachable token outside bodies, each in its setting. Assumes nothing.
use Rattle.std.specs.Prelude.{ℕ, ◌≤◌, ◌<◌, ◌≡◌, refl, Bool, true, false, not, List, ◌⊎◌, ◌≢◌, T, get_or, Ok}
use Rattle.std.proofs.Common.{sym, ap, ◌∙◌, subst, inl, inr, T_not}
use Rattle.cells.specs.Laws.Tests.{pick_is}
use Rattle.tokens.specs.Table.{is_program, programs_most}
use Rattle.cells.specs.Laws.Facts.{holds, fails, is_true}
use Rattle.rom.specs.Header.{length_of, wide_of}
use Rattle.rom.specs.Sizes.{rom_most}
use Rattle.tokens.specs.Body.{kind_of}
use Rattle.tokens.specs.declared.decoding.Token.{Token}
use Rattle.screen.specs.Effect.{fixes, leads_of}
use Rattle.screen.specs.Reach.{In, Setting, after, token_at, Claim, Holds, Reach, Met}
use Rattle.screen.specs.Laws.Rules.Reach.{LeadsBy, leads_by}
use Rattle.screen.specs.Laws.Rules.Tokens.{after_same}
use Rattle.screen.specs.Laws.Rules.Ways.{colon_fixes}
use Rattle.screen.specs.Laws.Walk.Visits.{WayIn, Fits, visit_fits, in_way}
use Rattle.screen.specs.Laws.Found.Model.{Board, visit_of, fixed_in, outside_text, slot, room_of, first_board}
use Rattle.screen.specs.Laws.Walk.Walking.{Way, At}
use Rattle.screen.specs.Laws.Walk.Advancing.{setting_of}
use Rattle.screen.specs.Laws.Walk.Rounds.{far_of, OutAt, Ready, Ran, Next}
use Rattle.screen.specs.Laws.Walk.Boards.{Advanced, advanced}
use Rattle.screen.specs.Laws.Walk.Chains.{Steps, here, via, then, ready_steps, first_ready}
use Rattle.screen.specs.Laws.Found.Room.{clear, zeros}
use Rattle.screen.specs.Laws.Accept.Roots.{Rooted, rooted_next, start_only}
use Rattle.screen.specs.declared.walking.Text.{Text as Scope}

-- where a token leads that ends no round, a walk goes on to
pub leads_way : {rom : List ℕ} {x : Scope} {kinds sums : List ℕ} {p c q : ℕ} (f : Fits rom x kinds sums p c) → T (not (fixes f.token))
    → In q (leads_of f.token) → Way (visit_of rom x kinds sums p c) q
leads_way {rom} {x} {kinds} {sums} {p} {c} {q} f n i =
    let w = in_way rom x.length x.wide x.within p f.token f.meets.is n q i in by w.0 w.1
  where
    by : WayIn f.token q → q ≢ 0 → Way (visit_of rom x kinds sums p c) q
    by (WayIn.by_next e) z = Way.by_next (f.next ∙ e) z
    by (WayIn.by_aim e) z = Way.by_aim (f.aim ∙ e) z

-- such a token leads by itself
pub leads_itself : {rom : List ℕ} {w : Bool} {p q : ℕ} {t : Token} → T (not (fixes t)) → Holds rom (Claim.leads w p t q) → In q (leads_of t)
leads_itself {rom} {w} {p} {q} {t} n h = by (leads_by h)
  where
    by : LeadsBy rom w p t q → In q (leads_of t)
    by (LeadsBy.itself k i) = i
    by (LeadsBy.behind c e) = absurd (T_not (fixes t) n (colon_fixes t c))

module _ (rom : List ℕ) (fits : length_of rom ≤ rom_most) where
  -- the first round, and all that follow it
  abbrev pub start : Board
  start = first_board (room_of (length_of rom)) (wide_of rom)

  abbrev pub Follows : Board → Type 0
  Follows b = Steps rom fits start b

  rooted_start : Rooted rom fits start
  rooted_start = record { reach = Holds.first; real = λ n h. absurd (h (none n)) }
    where
      none : (n : ℕ) → kind_of start.kinds n ≡ 0
      none n = pick_is (λ k. k ≡ 0) (is_program n) (get_or (clear programs_most) (slot n) 0) 0 (λ t. zeros programs_most (slot n))
          (λ t. refl)

  rooted_steps : {b c : Board} → Ready rom b → Rooted rom fits b → Steps rom fits b c → Rooted rom fits c
  rooted_steps y o here = o
  rooted_steps y o (via n s) =
      let z = advanced rom fits y n in rooted_steps z.1.ready (rooted_next rom fits z.0 z.2 o z.1) s

  pub ready : {b : Board} → Follows b → Ready rom b
  ready s = ready_steps rom fits (first_ready rom fits) s

  pub rooted : {b : Board} → Follows b → Rooted rom fits b
  rooted s = rooted_steps (first_ready rom fits) rooted_start s

  -- a place that a round before b comes to
  pub record Before (b : Board) (s : Setting) (p : ℕ) : Type 0 where
    pub board : Board
    pub after : Board
    pub from : Follows board
    pub next : Next rom board after
    pub to : Steps rom fits after b
    pub cell : ℕ
    pub at : OutAt rom board p cell
    pub setting : s ≡ setting_of board.stand

  -- where a round's token leads that ends no round, the same round comes to
  module _ {b : Board} (r : Ran rom b) {p c : ℕ} {t : Token} (a : OutAt rom b p c) (e : token_at rom 0 b.stand.wide p ≡ Ok t) where
    fitted : Fits rom (outside_text (length_of rom) b.stand) b.kinds b.sums p c
    fitted = visit_fits rom (outside_text (length_of rom) b.stand) b.kinds b.sums p c (r.walked.fine a)

    same_token : fitted.token ≡ t
    same_token = let f = fitted.meets.is in cc (e, f)

    pub round_on : {q : ℕ} → T (not (fixes t)) → In q (leads_of t) → (d : ℕ) × OutAt rom b q d
    round_on {q} n i = (
      _,
      At.on a (r.walked.fine a) (leads_way fitted (subst (λ u. T (not (fixes u))) (sym same_token) n)
          (subst (λ u. In q (leads_of u)) (sym same_token) i)),
    )

    -- one that ends a round stands at its highest place
    pub round_end_lem : T (fixes t) → (p ≡ far_of rom b) × (t ≡ r.token)
    round_end_lem f = (
      last,
      let g = r.is in let h : token_at rom 0 b.stand.wide (far_of rom b) ≡ Ok t =
          subst (λ k. token_at rom 0 b.stand.wide k ≡ Ok t) last e in cc (g, h),
    )
      where
        i : (b.stand.start ≤ p) × (p < length_of rom) × (p ≤ far_of rom b) × (get_or b.seen p 0 ≡ 0)
        i = r.walked.inside a

        last : p ≡ far_of rom b
        last =
            r.apart.last p i.0 i.2 (λ z. r.some a (sym (r.walked.marked a) ∙ z))
            (ap fixed_in e ∙ is_true (fixes t) f)

  -- Every reachable token outside bodies belongs to a round before b, or has P, where b's start has it and where a token leads that has it
  -- has it.
  module _ {b : Board} (h : Follows b) (P : Setting → ℕ → Type 0) (starts : P (setting_of b.stand) b.stand.start)
      (closed : (s : Setting) (p q : ℕ) (t : Token) → Met rom 0 s p t → P s p → Holds rom (Claim.leads s.wide p t q) → P (after t s) q)
    where
      -- behind a round comes the next
      next_round : {c d : Board} → Follows c → (n : Next rom c d) → Steps rom fits d b
          → Before b (setting_of d.stand) d.stand.start ⊎ P (setting_of d.stand) d.stand.start
      next_round s n here = inr starts
      next_round {d = d} s n (via m u) =
          inl (record {
            board = d;
            after = _;
            from = then rom fits s n;
            next = m;
            to = u;
            cell = d.stand.cell;
            at = At.begins;
            setting = refl;
          })

      from_first : {c : Board} → Follows c → Steps rom fits c b
          → Before b (setting_of c.stand) c.stand.start ⊎ P (setting_of c.stand) c.stand.start
      from_first s here = inr starts
      from_first {c} s (via m u) =
          inl (record { board = c; after = _; from = s; next = m; to = u; cell = c.stand.cell; at = At.begins; setting = refl })

      onward : {s : Setting} {p q : ℕ} {t : Token} → Met rom 0 s p t → Holds rom (Claim.leads s.wide p t q) → Before b s p
          → Before b (after t s) q ⊎ P (after t s) q
      onward {s} {p} {q} {t} m l z = subst (λ v. Holds rom (Claim.leads v.wide p t q) → token_at rom 0 v.wide p ≡ Ok t
          → Before b (after t v) q ⊎ P (after t v) q) (sym z.setting) by l m.is
        where
          c : Board
          c = z.board

          by : Holds rom (Claim.leads z.board.stand.wide p t q) → token_at rom 0 z.board.stand.wide p ≡ Ok t
              → Before b (after t (setting_of z.board.stand)) q ⊎ P (after t (setting_of z.board.stand)) q
          by k e = on_kind (fixes t) refl
            where
              y : (r : Ran rom z.board) × Advanced rom z.board r.token z.after × T (fixes r.token)
              y = advanced rom fits (ready z.from) z.next

              on_kind : (f : Bool) → fixes t ≡ f → Before b (after t (setting_of z.board.stand)) q ⊎ P
                  (after t (setting_of z.board.stand)) q
              on_kind false n =
                  let g = fails (fixes t) n in
                  let i = round_on y.0 z.at e g (leads_itself g k) in
                  inl (record {
                    board = z.board;
                    after = z.after;
                    from = z.from;
                    next = z.next;
                    to = z.to;
                    cell = i.0;
                    at = i.1;
                    setting = after_same t (setting_of z.board.stand) g;
                  })
              on_kind true f =
                  let u = round_end_lem y.0 z.at e (holds (fixes t) f) in
                  let k' : Holds rom (Claim.leads z.board.stand.wide (far_of rom z.board) y.0.token q) =
                  subst (λ v. Holds rom (Claim.leads z.board.stand.wide v y.0.token q)) u.0
                  (subst (λ v. Holds rom (Claim.leads z.board.stand.wide p v q)) u.1 k) in
                  let at_start = start_only rom fits y.0 y.2 (rooted z.from) y.1 k' in
                  let same : setting_of z.after.stand ≡ after t (setting_of z.board.stand) =
                  y.1.setting ∙ ap (λ v. after v (setting_of z.board.stand)) (sym u.1) in
                  subst (λ v. Before b v q ⊎ P v q) same (subst
                  (λ v. Before b (setting_of z.after.stand) v ⊎ P (setting_of z.after.stand) v) (sym at_start)
                  (next_round z.from z.next z.to))

      pub cover : {s : Setting} {q : ℕ} → Reach rom 0 s q → Before b s q ⊎ P s q
      cover Holds.first = from_first here h
      cover (Holds.next {s = s} {p} {q} {t} r e l) = by (cover r)
        where
          by : Before b s p ⊎ P s p → Before b (after t s) q ⊎ P (after t s) q
          by (inl z) = onward (record { reach = r; is = e }) l z
          by (inr z) = inr (closed s p q t (record { reach = r; is = e }) z l)
