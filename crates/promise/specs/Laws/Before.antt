-- Which reachable definitions lie wholly before a place: one step outside bodies changes that by no more than the one that it carries out
-- (`leads_moves`), for no way leads around, or twice through, what is met exactly once (InForce.antt). A definition at a place is one token
-- and ends at one place, and what is reachable in a body stands in its b(:). All of it is by the rules alone. Assumes nothing.
use Rattle.std.specs.Prelude.{ℕ, suc, ◌≤◌, ◌<◌, ◌≡◌, refl, Bool, List, ◌≢◌, T}
use Rattle.std.proofs.Common.{arith, sym, ap, ◌∙◌, subst, T_not}
use Rattle.std.proofs.Math.Decide.{dec_lt, ℕ_discrete}
use Rattle.tokens.specs.declared.decoding.Token.{Token}
use Rattle.screen.specs.Effect.{is_colon}
use Rattle.screen.specs.Reach.{Setting, leads, Holds, Reach, Met, Starts}
use Rattle.screen.specs.Laws.Rules.Reach.{ExtendsBy, short, long, extends_by, start_within, one_end, extends_ahead}
use Rattle.screen.specs.Rules.{Assignment}
use Rattle.screen.specs.Laws.Rules.Ways.{define_fixes}
use Rattle.promise.specs.Laws.Standing.{Defined}
use Rattle.screen.proofs.Rules.InForce.{Fixed, fixed_of, fixed_read, Fixing, fixing, Passes, next_met, step_of, step_passes, one_fixed}
use Rattle.screen.proofs.Rules.InForce.{InBody, in_body}

-- those that lie wholly before q are those that lie wholly before p, and the one at p itself
pub record MovesHome (rom : List ℕ) (p q : ℕ) : Type 0 where
  pub keeps : (d e : ℕ) → Defined rom d e → e ≤ p → e ≤ q
  pub adds : (d e : ℕ) → Defined rom d e → e ≤ q → d ≢ p → e ≤ p

-- a token reaches up to one place: a body has one end
pub one_extent : {rom : List ℕ} {w : Bool} {t : Token} {e c : ℕ} → ExtendsBy rom w t e → ExtendsBy rom w t c → e ≡ c
one_extent (short n) (short m) = refl
one_extent {t = t} (short n) (long i s) = absurd (T_not (is_colon t) n i)
one_extent {t = t} (long i r) (short m) = absurd (T_not (is_colon t) m i)
one_extent (long i r) (long j s) = ap suc (one_end r s)

-- a start of a b(:)'s body lies in it, up to the place behind its C2
start_in : {rom : List ℕ} {w : Bool} {t : Token} {e p : ℕ} → T (is_colon t) → ExtendsBy rom w t e → Starts rom w t.next p → (t.next ≤ p)
    × (p < e)
start_in {t = t} c (short n) s = absurd (T_not (is_colon t) n c)
start_in c (long i r) s = let z = start_within r s in (z.low, omega (arith, z.high))

module _ {rom : List ℕ} where
  -- a definition is met exactly once
  defined_fixing : {d e : ℕ} → Defined rom d e → Fixing rom d
  defined_fixing f = fixing f.met (define_fixes f.token f.defines)

  -- a definition at a place is one token
  pub defined_token : {d e : ℕ} {s : Setting} {t : Token} (f : Defined rom d e) → Met rom 0 s d t → f.token ≡ t
  defined_token f m = fixed_read f.met (define_fixes f.token f.defines) m

  pub defined_ahead : {d e : ℕ} → Defined rom d e → d < e
  defined_ahead f = extends_ahead f.met f.ends

module _ {rom : List ℕ} (a : Assignment rom) where
  -- it reaches with one width, and so up to one place
  defined_extent : {d e : ℕ} {s : Setting} {t : Token} (f : Defined rom d e) → Met rom 0 s d t → ExtendsBy rom s.wide t e
  defined_extent {d} {e} {s} {t} f m =
      let u : fixed_of f.setting ≡ fixed_of s = one_fixed a f.met.reach m.reach in
      subst (λ (v : Fixed). ExtendsBy rom v.wide t e) u
      (subst (λ v. ExtendsBy rom f.setting.wide v e) (defined_token f m) (extends_by f.ends))

  pub defined_end : {d e c : ℕ} → Defined rom d e → Defined rom d c → e ≡ c
  defined_end f g = one_extent (defined_extent f g.met) (extends_by g.ends)

  -- what is reachable in a body stands in its b(:), with what is in force there
  pub body_within : {d e p : ℕ} {s : Setting} (f : Defined rom d e) → T (is_colon f.token) → Reach rom (suc d) s p
      → (f.token.next ≤ p) × (p < e) × (fixed_of s ≡ fixed_of f.setting)
  body_within {d} {e} {p} {s} f c r = by (in_body a r)
    where
      by : InBody a d s p → (f.token.next ≤ p) × (p < e) × (fixed_of s ≡ fixed_of f.setting)
      by i =
          let u = defined_token f i.body.met in
          let z = start_in i.body.colon (defined_extent f i.body.met) i.start in
          (subst (λ v. v.next ≤ p) (sym u) z.0, z.1, i.same ∙ one_fixed a i.body.met.reach f.met.reach)

  -- a definition that lies wholly before a place in another lies wholly before that one
  pub wholly_before : {d e c b p : ℕ} → Defined rom d e → Defined rom c b → b ≤ p → p < e → b ≤ d
  wholly_before {d} {e} {c} {b} {p} f g l m =
      elim (dec_lt c d) [
        | yes u ↦ a.apart g.met g.ends f.met u
        | no u ↦
            elim (ℕ_discrete c d) [
              | yes i ↦ let j = defined_end (subst (λ v. Defined rom v b) i g) f in absurd (omega arith)
              | no i ↦ let j = a.apart f.met f.ends g.met (omega arith) in let k = defined_ahead g in absurd (omega arith)
            ]
      ]

  -- a step outside bodies carries out every reachable definition that it passes
  pub leads_moves : {p q : ℕ} {s : Setting} {t : Token} → Met rom 0 s p t → Holds rom (leads s.wide p t q) → MovesHome rom p q
  leads_moves {p} {q} {s} {t} m h =
      let n = (next_met a m h).1 in
      let z : Passes rom p q = step_passes a m (step_of a m h) in
      record {
        keeps = λ d e f l. let k = defined_ahead f in a.apart f.met f.ends n (z.keeps d (defined_fixing f) (omega arith));
        adds = λ d e f l i.
            let k = defined_ahead f in
            let j = z.adds d (defined_fixing f) (omega arith) in
            a.apart f.met f.ends m (omega arith);
      }
