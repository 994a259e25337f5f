-- Every place that the model comes to is reachable, and every number that it holds is defined by a reachable token before it. Assumes
-- nothing.
use Rattle.std.specs.Prelude.{ℕ, suc, ◌≤◌, ◌<◌, ◌≡◌, refl, Bool, true, false, not, List, ◌⊎◌, ◌≢◌, T}
use Rattle.std.proofs.Common.{arith, sym, ap, ◌∙◌, subst, inl, inr, T_not}
use Rattle.cells.specs.Laws.Facts.{holds, fails}
use Rattle.rom.specs.Header.{length_of}
use Rattle.rom.specs.Sizes.{rom_most}
use Rattle.tokens.specs.Family.{define, assign, call}
use Rattle.tokens.specs.Body.{kind_of, number_in, unknown_of}
use Rattle.tokens.specs.Laws.Tokens.{next_ahead}
use Rattle.tokens.specs.Definition.{new_number, kind_in}
use Rattle.tokens.specs.declared.decoding.Token.{Token}
use Rattle.screen.specs.Effect.{is_a, fixes, is_colon, leads_of, names}
use Rattle.screen.specs.Reach.{In, here, Setting, Named, Claim, Holds, Reach, Met}
use Rattle.screen.specs.Laws.Rules.Reach.{LeadsBy, leads_by, ExtendsBy, extends_by, one_end}
use Rattle.screen.specs.Laws.Rules.Tokens.{none_in, fixes_no_name, after_same}
use Rattle.screen.specs.Laws.Rules.Ways.{fixes_leads, fixes_on, colon_leads, unknown_call, unknown_assign}
use Rattle.screen.specs.Laws.Walk.Visits.{WayIn, Fits, visit_fits, way_in, fixes_next, fixes_aim}
use Rattle.screen.specs.Laws.Found.Model.{Board, visit_of, outside_text, body_text}
use Rattle.screen.specs.Laws.Walk.Walking.{Way, At}
use Rattle.screen.specs.Laws.Walk.Advancing.{setting_of}
use Rattle.screen.specs.Laws.Walk.Rounds.{far_of, left, OutAt, Ran}
use Rattle.screen.specs.Laws.Walk.Boards.{BodyRan, Advanced}
use Rattle.screen.specs.Laws.Walk.Chains.{climbs}
use Rattle.screen.specs.declared.walking.Text.{Text as Scope}
use Rattle.screen.specs.Laws.Found.Cell.{entry_cell}

-- ---- a successor of a walk is one of its token
-- a token whose successor a walk goes on to ends no round, and leads there
pub record LeadsTo (t : Token) (q : ℕ) : Type 0 where
  pub free : T (not (fixes t))
  pub leads : In q (leads_of t)

pub way_leads : {rom : List ℕ} {x : Scope} {kinds sums : List ℕ} {p c q : ℕ} (f : Fits rom x kinds sums p c)
    → Way (visit_of rom x kinds sums p c) q
    → LeadsTo f.token q
way_leads {rom} {x} {kinds} {sums} {p} {c} {q} f w = by (fixes t) refl w
  where
    t : Token
    t = f.token

    by : (k : Bool) → fixes f.token ≡ k → Way (visit_of rom x kinds sums p c) q → LeadsTo f.token q
    by true e (Way.by_next n z) = absurd (z (sym n ∙ f.next ∙ fixes_next f.token (holds (fixes f.token) e)))
    by true e (Way.by_aim n z) = absurd (z (sym n ∙ f.aim ∙ fixes_aim f.token (holds (fixes f.token) e)))
    by false e (Way.by_next n z) = record {
      free = fails (fixes f.token) e;
      leads = way_in f.token f.meets.aimed q (WayIn.by_next (sym f.next ∙ n)) z;
    }
    by false e (Way.by_aim n z) = record {
      free = fails (fixes f.token) e;
      leads = way_in f.token f.meets.aimed q (WayIn.by_aim (sym f.aim ∙ n)) z;
    }

module _ (rom : List ℕ) (fits : length_of rom ≤ rom_most) where
  -- a number that a board holds, with the reachable token that defined it
  pub record Real (b : Board) (n : ℕ) : Type 0 where
    pub setting : Setting
    pub place : ℕ
    pub token : Token
    pub end : ℕ
    pub met : Met rom 0 setting place token
    pub defines : T (is_a define token)
    pub number : new_number token.operand ≡ n
    pub kind : kind_of b.kinds n ≡ kind_in token.operand
    pub extends : Holds rom (Claim.extends setting.wide token end)
    pub before : end ≤ b.stand.start

  pub record Rooted (b : Board) : Type 0 where
    pub reach : Reach rom 0 (setting_of b.stand) b.stand.start
    pub real : (n : ℕ) → kind_of b.kinds n ≢ 0 → Real b n

  -- a token that names no unknown number is known
  pub known_real : {b : Board} → Rooted b → (p : ℕ) (t : Token) → b.stand.start ≤ p → unknown_of b.kinds t ≡ false
      → Holds rom (Claim.known p t)
  known_real {b} o p t l u = by (is_a call t) refl (is_a assign t) refl
    where
      called : T (is_a call t) → Holds rom (Claim.known p t)
      called i =
          let r = o.real t.number (unknown_call b.kinds t i u) in
          let e = r.before in
          let j : r.end ≤ p = omega arith in
          Holds.named r.met.reach r.met.is (Named.calls i (record { is = r.defines; number = r.number })) r.extends j

      assigned : T (is_a assign t) → Holds rom (Claim.known p t)
      assigned i =
          let k = unknown_assign b.kinds t i u in
          let r = o.real (number_in t.operand) (λ z. absurd (omega arith)) in
          let e = r.before in
          let j : r.end ≤ p = omega arith in
          Holds.named r.met.reach r.met.is (Named.assigns i (record { is = r.defines; number = r.number }) (sym r.kind ∙ k))
          r.extends j

      by : (c : Bool) → is_a call t ≡ c → (a : Bool) → is_a assign t ≡ a → Holds rom (Claim.known p t)
      by true e a f = called (holds (is_a call t) e)
      by false e true f = assigned (holds (is_a assign t) f)
      by false e false f = let n : T (not (names t)) = rw (e, f) tt in Holds.unnamed n

  -- ---- what a walk comes to is reachable
  module _ {b : Board} (r : Ran rom b) (o : Rooted b) where
    pub at_reach : {p c : ℕ} → OutAt rom b p c → Reach rom 0 (setting_of b.stand) p
    at_reach At.begins = o.reach
    at_reach (At.on {p} {c} {q} a g w) =
        let f = visit_fits rom (outside_text (length_of rom) b.stand) b.kinds b.sums p c g in
        let l = way_leads f w in
        subst (λ s. Reach rom 0 s q) (after_same f.token (setting_of b.stand) l.free)
        (Holds.next (at_reach a) f.meets.is (Holds.by_itself (known_real o p f.token (r.walked.inside a).0 f.meets.named)
        l.leads))

    -- the token at the highest place is met
    pub far_met : Met rom 0 (setting_of b.stand) (far_of rom b) r.token
    far_met = record { reach = at_reach r.walked.highest.1; is = r.is }

    -- ---- a body
    module _ {b' : Board} (y : BodyRan rom (left rom b) r.token b.stand.wide b') (c : T (is_colon r.token))
        (a : r.token.next ≤ length_of rom)
        (l : far_of rom b < r.token.next) where
      pub body_reads : Holds rom (Claim.reads b.stand.wide r.token.next y.marks.end)
      body_reads = y.marked.reads (λ p t e u. let h = climbs rom fits r in known_real o p t (omega arith) u)

      pub body_reach : {p d : ℕ} → At rom (body_text (length_of rom) b.stand.wide r.token.next) b.kinds b.sums
          r.token.next entry_cell p d
          → Reach rom (suc (far_of rom b)) (setting_of b.stand) p
      body_reach At.begins = Holds.body far_met.reach far_met.is c body_reads
      body_reach (At.on {p} {c = d} {q} i g w) =
          let f = visit_fits rom (body_text (length_of rom) b.stand.wide r.token.next) b.kinds b.sums p d g in
          let k = way_leads f w in
          let h = climbs rom fits r in
          let u = (y.walked.inside i).0 in
          subst (λ s. Reach rom (suc (far_of rom b)) s q) (after_same f.token (setting_of b.stand) k.free)
          (Holds.next (body_reach i) f.meets.is
          (Holds.by_itself (known_real o p f.token (omega arith) f.meets.named) k.leads))

  -- ---- from one round to the next
  module _ {b b' : Board} (r : Ran rom b) (f : T (fixes r.token)) (o : Rooted b) (a : Advanced rom b r.token b') where
    ends : (far_of rom b < r.token.next) × (r.token.next ≤ length_of rom)
    ends = next_ahead rom (length_of rom) b.stand.wide false (far_of rom b) r.token r.is

    -- the token reaches up to the next round's start
    pub extends_start : Holds rom (Claim.extends b.stand.wide r.token b'.stand.start)
    extends_start = by (is_colon r.token) refl
      where
        by : (k : Bool) → is_colon r.token ≡ k → Holds rom (Claim.extends b.stand.wide r.token b'.stand.start)
        by true e =
            let c = holds (is_colon r.token) e in
            let y = a.body c in
            subst (λ q. Holds rom (Claim.extends b.stand.wide r.token q)) (sym y.start)
            (Holds.through_body c (body_reads r o y c ends.1 ends.0))
        by false e =
            let c = fails (is_colon r.token) e in
            subst (λ q. Holds rom (Claim.extends b.stand.wide r.token q)) (sym (a.start c)) (Holds.to_next c)

    -- it leads there
    pub leads_start : Holds rom (Claim.leads b.stand.wide (far_of rom b) r.token b'.stand.start)
    leads_start = by (is_colon r.token) refl
      where
        by : (k : Bool) → is_colon r.token ≡ k → Holds rom (Claim.leads b.stand.wide (far_of rom b) r.token b'.stand.start)
        by true e = Holds.past_body (holds (is_colon r.token) e) extends_start
        by false e =
            let c = fails (is_colon r.token) e in
            Holds.by_itself (Holds.unnamed (fixes_no_name r.token f))
            (subst (λ q. In q (leads_of r.token)) (sym (a.start c))
            (subst (λ l. In r.token.next l) (sym (fixes_on r.token f c)) here))

    -- and nowhere else
    pub start_only : {q : ℕ} → Holds rom (Claim.leads b.stand.wide (far_of rom b) r.token q) → q ≡ b'.stand.start
    start_only {q} h = by (leads_by h)
      where
        long : {e : ℕ} → T (is_colon r.token) → ExtendsBy rom b.stand.wide r.token e → e ≡ b'.stand.start
        long c (ExtendsBy.short n) = absurd (T_not (is_colon r.token) n c)
        long c (ExtendsBy.long {c = k} d i) =
            let y = a.body c in
            ap suc (one_end i (body_reads r o y c ends.1 ends.0)) ∙ sym y.start

        by : LeadsBy rom b.stand.wide (far_of rom b) r.token q → q ≡ b'.stand.start
        by (LeadsBy.itself k i) =
            elim (is_colon r.token) as (λ c. is_colon r.token ≡ c → q ≡ b'.stand.start) [
              | true ↦ λ e. none_in (subst (λ l. In q l) (colon_leads r.token (holds (is_colon r.token) e)) i)
              | false ↦ λ e. fixes_leads r.token f q i ∙ sym (a.start (fails (is_colon r.token) e))
            ] refl
        by (LeadsBy.behind c e) = long c (extends_by e)

    pub rooted_next : Rooted b'
    rooted_next = record { reach = at_start; real = real }
      where
        at_start : Reach rom 0 (setting_of b'.stand) b'.stand.start
        at_start = subst (λ s. Reach rom 0 s b'.stand.start) (sym a.setting) (Holds.next (far_met r o).reach r.is leads_start)

        real : (n : ℕ) → kind_of b'.kinds n ≢ 0 → Real b' n
        real n h = by (a.older n h)
          where
            by : (kind_of b.kinds n ≢ 0) ⊎ (T (is_a define r.token) × (n ≡ new_number r.token.operand)) → Real b' n
            by (inl k) =
                let z = o.real n k in
                let l = z.before in
                let c = climbs rom fits r in
                let u = a.ahead in
                record {
                  setting = z.setting;
                  place = z.place;
                  token = z.token;
                  end = z.end;
                  met = z.met;
                  defines = z.defines;
                  number = z.number;
                  kind = a.kinds n k ∙ z.kind;
                  extends = z.extends;
                  before = omega arith;
                }
            by (inr k) =
                record {
                  setting = setting_of b.stand;
                  place = far_of rom b;
                  token = r.token;
                  end = b'.stand.start;
                  met = far_met r o;
                  defines = k.0;
                  number = sym k.1;
                  kind = ap (kind_of b'.kinds) k.1 ∙ (a.new k.0).1;
                  extends = extends_start;
                  before = omega arith;
                }
