-- Where the model's rounds pass: the round or the body that each reachable token belongs to, and what its cell is at the end. Assumes
-- nothing.
use Rattle.std.specs.Prelude.{ℕ, suc, ◌≤◌, ◌≡◌, refl, Bool, true, false, not, List, ◌⊎◌, T, get_or, Ok}
use Rattle.std.proofs.Common.{sym, ap, ◌∙◌, subst, inl, inr, T_not}
use Rattle.cells.specs.Laws.Facts.{holds, fails}
use Rattle.rom.specs.Header.{length_of}
use Rattle.rom.specs.Sizes.{rom_most}
use Rattle.tokens.specs.Family.{call}
use Rattle.tokens.specs.Body.{unknown_of}
use Rattle.tokens.specs.declared.decoding.Token.{Token}
use Rattle.screen.specs.Effect.{is_a, fixes, is_colon, leads_of, called, effect_of}
use Rattle.screen.specs.Reach.{In, Setting, after, token_at, Claim, Holds, Reach, Met}
use Rattle.screen.specs.Laws.Rules.Tokens.{after_same, fixes_outside}
use Rattle.screen.specs.Laws.Rules.Ways.{effect_call, effect_own, unknown_call, colon_fixes}
use Rattle.screen.specs.Laws.Walk.Visits.{Fits, visit_fits}
use Rattle.screen.specs.Laws.Found.Model.{Board, cap_of, sum_at, visit_of, body_text}
use Rattle.screen.specs.Laws.Walk.Walking.{At}
use Rattle.screen.specs.Laws.Walk.Advancing.{setting_of}
use Rattle.screen.specs.Laws.Walk.Rounds.{far_of, left, OutAt, Ready, Ran, Next, Chain, ends, goes}
use Rattle.screen.specs.Laws.Walk.Boards.{BodyRan, Advanced, advanced}
use Rattle.screen.specs.Laws.Walk.Chains.{Steps, here, via, chain_kept, chain_seen, chain_steps, one_token}
use Rattle.screen.specs.Laws.Accept.Cover.{start, Follows, ready, Before, round_on, round_end_lem, leads_way, leads_itself, cover}
use Rattle.screen.specs.declared.walking.Text.{Text as Scope}
use Rattle.screen.specs.Laws.Found.Cell.{entry_cell, Bound}

-- every cell of a walk is within the cap that its first cell is within
pub at_bound : {rom : List ℕ} {x : Scope} {kinds sums : List ℕ} {q d : ℕ} → Bound (cap_of x.within) d → {p c : ℕ}
    → At rom x kinds sums q d p c → Bound (cap_of x.within) c
at_bound b At.begins = b
at_bound {rom} {x} {kinds} {sums} b (At.on {p} {c} {q} a g w) =
    let f = visit_fits rom x kinds sums p c g in
    record { height = _; back = _; is = f.cell; low = f.meets.high; few = f.meets.return_high }

module _ (rom : List ℕ) (fits : length_of rom ≤ rom_most) where
  -- the last round of a chain
  pub record Last (b f : Board) : Type 0 where
    pub board : Board
    pub steps : Steps rom fits b board
    pub ran : Ran rom board
    pub free : T (not (fixes ran.token))
    pub chain : Chain rom board f

  pub last_of : {b f : Board} → Chain rom b f → Last b f
  last_of (ends r n) = record { board = _; steps = here; ran = r; free = n; chain = ends r n }
  last_of (goes n c) = let l = last_of c in
      record { board = l.board; steps = via n l.steps; ran = l.ran; free = l.free; chain = l.chain }

  -- what comes behind a token that ends a round
  pub record Behind (b f : Board) : Type 0 where
    pub board : Board
    pub next : Next rom b board
    pub chain : Chain rom board f

  pub behind : {b f : Board} (r : Ran rom b) → T (fixes r.token) → Chain rom b f → Behind b f
  behind r f (ends q n) = absurd (T_not (fixes r.token) (subst (λ t. T (not (fixes t))) (one_token rom fits q r) n) f)
  behind r f (goes n c) = record { board = _; next = n; chain = c }

  -- every round of a chain is good
  pub chain_ran : {b f : Board} → Ready rom b → Chain rom b f → Ran rom b
  chain_ran y (ends r n) = r
  chain_ran y (goes n c) = (advanced rom fits y n).0

module _ (rom : List ℕ) (fits : length_of rom ≤ rom_most) {last : Board} (passed : Chain rom (start rom fits) last) where
  -- ---- outside bodies
  -- a reachable token's round
  pub record Out (s : Setting) (p : ℕ) : Type 0 where
    pub board : Board
    pub follows : Follows rom fits board
    pub ran : Ran rom board
    pub chain : Chain rom board last
    pub cell : ℕ
    pub at : OutAt rom board p cell
    pub setting : s ≡ setting_of board.stand

  final : Last rom fits (start rom fits) last
  final = last_of rom fits passed

  -- the last round leads to no other
  abbrev InLast : Setting → ℕ → Type 0
  InLast s p = (c : ℕ) × OutAt rom final.board p c × (s ≡ setting_of final.board.stand)

  last_closed : (s : Setting) (p q : ℕ) (t : Token) → Met rom 0 s p t → InLast s p → Holds rom (Claim.leads s.wide p t q)
      → InLast (after t s) q
  last_closed s p q t m (c, a, e) l = by (fixes t) refl
    where
      is : token_at rom 0 final.board.stand.wide p ≡ Ok t
      is = subst (λ v. token_at rom 0 v.wide p ≡ Ok t) e m.is

      by : (k : Bool) → fixes t ≡ k → InLast (after t s) q
      by true f =
          let u = round_end_lem rom fits final.ran a is (holds (fixes t) f) in
          absurd (T_not (fixes t) (subst (λ v. T (not (fixes v))) (sym u.1) final.free) (holds (fixes t) f))
      by false f =
          let n = fails (fixes t) f in
          let i = round_on rom fits final.ran a is n (leads_itself n l) in
          (i.0, i.1, after_same t s n ∙ e)

  pub outside : {s : Setting} {p : ℕ} → Reach rom 0 s p → Out s p
  outside {s} {p} r = by (cover rom fits final.steps InLast (final.board.stand.cell, At.begins, refl) last_closed r)
    where
      by : Before rom fits final.board s p ⊎ InLast s p → Out s p
      by (inl z) =
          record {
            board = z.board;
            follows = z.from;
            ran = (advanced rom fits (ready rom fits z.from) z.next).0;
            chain = chain_steps rom fits passed z.from;
            cell = z.cell;
            at = z.at;
            setting = z.setting;
          }
      by (inr (c, a, e)) =
          record { board = final.board; follows = final.steps; ran = final.ran; chain = final.chain; cell = c; at = a; setting = e }

  -- what it is at the end
  pub out_cell : {s : Setting} {p : ℕ} (o : Out s p) → get_or last.seen p 0 ≡ o.cell
  out_cell {s} {p} o =
      chain_seen rom fits (ready rom fits o.follows) o.chain p (o.ran.walked.inside o.at).2 ∙ o.ran.walked.marked o.at

  -- a number that a round holds does the same at the end, and so does a token that names no other
  pub effect_kept : {b : Board} → Follows rom fits b → Chain rom b last → (t : Token) → unknown_of b.kinds t ≡ false
      → effect_of (sum_at b.sums) t ≡ effect_of (sum_at last.sums) t
  effect_kept {b} h c t u = by (is_a call t) refl
    where
      by : (k : Bool) → is_a call t ≡ k → effect_of (sum_at b.sums) t ≡ effect_of (sum_at last.sums) t
      by true e =
          let i = holds (is_a call t) e in
          let k = (chain_kept rom fits (ready rom fits h) c).sums t.number (unknown_call b.kinds t i u) in
          effect_call (sum_at b.sums) t i ∙ ap called (sym k) ∙ sym (effect_call (sum_at last.sums) t i)
      by false e =
          let n = fails (is_a call t) e in effect_own (sum_at b.sums) t n ∙ sym (effect_own (sum_at last.sums) t n)

  -- ---- bodies
  -- a reachable token's body, at its b(:)
  pub record Inside (d : ℕ) (s : Setting) (p : ℕ) : Type 0 where
    pub board : Board
    pub follows : Follows rom fits board
    pub ran : Ran rom board
    pub chain : Chain rom board last
    pub then : Board
    pub next : Next rom board then
    pub does : Advanced rom board ran.token then
    pub rest : Chain rom then last
    pub place : d ≡ far_of rom board
    pub colon : T (is_colon ran.token)
    pub setting : s ≡ setting_of board.stand
    pub cell : ℕ
    pub at : At rom (body_text (length_of rom) board.stand.wide ran.token.next) board.kinds board.sums
        ran.token.next entry_cell p cell

  abbrev pub body_of : {d p : ℕ} {s : Setting} → (i : Inside d s p)
      → BodyRan rom (left rom i.board) i.ran.token i.board.stand.wide i.then
  body_of i = i.does.body i.colon

  -- another place of the same body
  abbrev pub inside_at : {d p : ℕ} {s : Setting} → (i : Inside d s p) → (q cell : ℕ)
      → At rom (body_text (length_of rom) i.board.stand.wide i.ran.token.next) i.board.kinds i.board.sums
      i.ran.token.next entry_cell q cell
      → Inside d s q
  inside_at i q cell at =
      record {
        board = i.board;
        follows = i.follows;
        ran = i.ran;
        chain = i.chain;
        then = i.then;
        next = i.next;
        does = i.does;
        rest = i.rest;
        place = i.place;
        colon = i.colon;
        setting = i.setting;
        cell = cell;
        at = at;
      }

  -- at the b(:) itself
  at_colon : {s : Setting} {d : ℕ} {t : Token} → Met rom 0 s d t → T (is_colon t) → Inside d s t.next
  at_colon {s} {d} {t} m c =
      let o = outside m.reach in
      let is = subst (λ v. token_at rom 0 v.wide d ≡ Ok t) o.setting m.is in
      let u = round_end_lem rom fits o.ran o.at is (colon_fixes t c) in
      let e = behind rom fits o.ran (subst (λ v. T (fixes v)) u.1 (colon_fixes t c)) o.chain in
      let z = advanced rom fits (ready rom fits o.follows) e.next in
      record {
        board = o.board;
        follows = o.follows;
        ran = z.0;
        chain = o.chain;
        then = e.board;
        next = e.next;
        does = z.1;
        rest = e.chain;
        place = u.0;
        colon = subst (λ v. T (is_colon v)) (u.1 ∙ one_token rom fits o.ran z.0) c;
        setting = o.setting;
        cell = entry_cell;
        at = subst (λ q. At rom (body_text (length_of rom) o.board.stand.wide z.0.token.next) o.board.kinds o.board.sums
            z.0.token.next entry_cell q entry_cell) (ap (λ (v : Token). v.next) (sym (u.1 ∙ one_token rom fits o.ran z.0)))
            At.begins;
      }

  -- a token of a body goes on in it
  module _ {d p : ℕ} {s : Setting} (i : Inside d s p) where
    abbrev scope : Scope
    scope = body_text (length_of rom) i.board.stand.wide i.ran.token.next

    pub body_fits : Fits rom scope i.board.kinds i.board.sums p i.cell
    body_fits = visit_fits rom scope i.board.kinds i.board.sums p i.cell ((body_of i).walked.fine i.at)

    pub body_token : {t : Token} → token_at rom (suc d) s.wide p ≡ Ok t → body_fits.token ≡ t
    body_token {t} e =
        let g = subst (λ v. token_at rom (suc d) v.wide p ≡ Ok t) i.setting e in let f = body_fits.meets.is in cc (f, g)

    pub body_free : {t : Token} → token_at rom (suc d) s.wide p ≡ Ok t → T (not (fixes t))
    body_free {t} e = fails (fixes t) (fixes_outside rom (length_of rom) s.wide p t e).0

    abbrev pub body_on : {q : ℕ} {t : Token} → token_at rom (suc d) s.wide p ≡ Ok t → In q (leads_of t) → Inside d s q
    body_on {q} {t} e l =
        inside_at i q (visit_of rom scope i.board.kinds i.board.sums p i.cell).cell
        (At.on i.at ((body_of i).walked.fine i.at)
        (leads_way body_fits (subst (λ v. T (not (fixes v))) (sym (body_token e)) (body_free e))
        (subst (λ v. In q (leads_of v)) (sym (body_token e)) l)))

  pub inside : {d p : ℕ} {s : Setting} → Reach rom (suc d) s p → Inside d s p
  inside (Holds.body r e c l) = at_colon (record { reach = r; is = e }) c
  inside {d = d} (Holds.next {s = s} {p} {q} {t} r e l) =
      let i = inside r in
      let n = body_free i e in
      subst (λ v. Inside d v q) (sym (after_same t s n)) (body_on i e (leads_itself n l))
