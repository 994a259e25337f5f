-- A token without operand that leaves the store, and the counts of numbers and of records: what it leaves is the step's own turn, and
-- tables and records are kept. Those that are known by their first byte are seen there without a glance. Assumes nothing.
use Rattle.std.proofs.Common.{◌≡◌, ℕ, ◌+◌, ◌*◌, ◌<◌, ◌≤◌, true, false, not, T, eqb, ltb, List, sym, refl, ◌∙◌, subst, arith, le-leb}
use Rattle.rom.specs.Bytes.{byte_of}
use Rattle.tokens.specs.Row.{none}
use Rattle.tokens.specs.Family.{define, property, titled, call}
use Rattle.tokens.specs.Table.{is_program}
use Rattle.tokens.specs.Code.{code_of, family_in, form_in}
use Rattle.tokens.specs.Decode.{is_double, token_of}
use Rattle.tokens.specs.Place.{misplaced_of}
use Rattle.tokens.specs.Joints.Glance.{seen_as, nothing_seen, glance_of}
use Rattle.tokens.specs.Laws.GlanceForms.{seen_one, seen_cut, seen_program}
use Rattle.tokens.specs.declared.decoding.Operand.TheVariants.{Nothing}
use Rattle.tokens.specs.declared.glance.Glance.{Glance}
use Rattle.rom.specs.declared.refusal.Refusal.{Refusal}
use Rattle.tree.specs.declared.in_place.Tail.{Tail}
use Rattle.tree.specs.Joints.Apart.{Tallied}
use Rattle.state.specs.Scene.{scene, turn}
use Rattle.state.specs.Step.{done_of}
use Rattle.state.specs.Step.{token_turn as turn_of}
use Rattle.state.specs.Joints.Apart.{Arrays, joined, answer_of}
use Rattle.state.specs.declared.apart.Core.{Core}
use Rattle.state.specs.declared.apart.HandedBy.{HandedBy}
use Rattle.acts.specs.Joints.Acts.{code_for, acted_of, Tables, GlanceSeen, Comes, ActsKept}
use Rattle.acts.proofs.Acting.{cold, plain_turn, count_still, records_still}
use Rattle.acts.proofs.Backs.{no_arrays}

-- ---- the families of such tokens
abbrev pub Lean : ℕ → Type 0
Lean f = T (cold f) × T (not (eqb f define)) × T (not (eqb f property)) × T (not (eqb f titled)) × (form_in (code_for f) ≡ none)

module _ (rom : List ℕ) (k : Core) (g : Glance) (s : GlanceSeen rom k g) (f : ℕ) (i : family_in g.code ≡ f) (on then : Arrays → Arrays)
    (work work' : List ℕ) (r : HandedBy Refusal) where
  -- by the turn that it is, whatever its operand
  pub quiet_comes : T (not (eqb f define)) → T (not (eqb f property)) → T (not (eqb f titled))
      → ((a : Arrays) (store : List ℕ)
      → turn (answer_of r.told) (joined (then a) r.core) work' store ≡ turn_of (scene rom work store (joined (on a) k)))
      → (slots known names kinds store titles sizes : List ℕ) (tail : Tail)
      → ActsKept slots known names kinds store titles sizes k tail
      → Comes rom on work store k (acted_of r tail) then work' store × ActsKept slots known names kinds store titles sizes r.core tail
  quiet_comes d p t h slots known names kinds store titles sizes tail q =
      let x = h no_arrays store in
      let y = joined (on no_arrays) k in
      let c = count_still rom work store y g s.0 s.1 s.2 f i d _ x in
      let l = records_still rom work store y g s.0 s.1 s.2 f i p t _ x in (
        λ a w. h a store,
        (
          subst (λ (n : ℕ). Tables slots known names kinds n) (sym c) q.0,
          subst (λ (n : ℕ). Tallied store titles sizes n tail) (sym l) q.1,
        ),
      )

  -- by what is done, without operand
  pub plain_comes : Lean f
      → ((a : Arrays) (store : List ℕ) → turn (answer_of r.told) (joined (then a) r.core) work' store
      ≡ done_of (scene rom work store (joined (on a) k)) (token_of g.number (code_for f) Nothing g.next))
      → (slots known names kinds store titles sizes : List ℕ) (tail : Tail)
      → ActsKept slots known names kinds store titles sizes k tail
      → Comes rom on work store k (acted_of r tail) then work' store × ActsKept slots known names kinds store titles sizes r.core tail
  plain_comes l h =
      quiet_comes l.1 l.2 l.3
      (λ a store. plain_turn rom work store (joined (on a) k) g s.0 s.1 s.2 f i l.0 l.1 l.4 _ (h a store))

-- ---- a token that is known by its first byte
module _ (rom : List ℕ) (k : Core) (b : ℕ) (e : b ≡ byte_of rom k.place) where
  module _ (f : ℕ) (l : k.place < k.length) (d : is_double b ≡ false) (c : code_of b ≡ code_for f) (z : code_for f ≡ 0 → ⊥)
      (o : form_in (code_for f) ≡ none) where
    pub glance_early : glance_of rom k.length k.wide k.place ≡ seen_as (code_for f) b (k.place + 1) 0 0
    glance_early = seen_one rom k.length k.wide k.place b e l d (λ y. z (sym c ∙ y)) (rw c o) ∙ rw c

    pub seen_early : misplaced_of (code_for f) (ltb 0 k.frames) ≡ false → GlanceSeen rom k (seen_as (code_for f) b (k.place + 1) 0 0)
    seen_early m = (glance_early, z, m)

  pub seen_call : (n : ℕ) → 8 ≤ b → b ≤ 15 → byte_of rom (k.place + 1) < 256 → n ≡ b * 256 + byte_of rom (k.place + 1)
      → k.place + 2 ≤ k.length → GlanceSeen rom k (seen_as (code_for call) n (k.place + 2) 0 0)
  unfolding misplaced_of
  seen_call n x y u q l =
      let d : is_double b ≡ true = rw (le-leb 1 b (omega arith), le-leb b 15 y) in
      let p : is_program n ≡ true = rw (le-leb 0x800 n (omega arith), le-leb n 0xFFF (omega arith)) in
      (seen_program rom k.length k.wide k.place b n e d q p l, λ z. omega arith, refl)

  -- a program number that is cut off
  pub cut_early : 8 ≤ b → b ≤ 15 → k.length < k.place + 2 → glance_of rom k.length k.wide k.place ≡ nothing_seen
  cut_early x y l =
      let d : is_double b ≡ true = rw (le-leb 1 b (omega arith), le-leb b 15 y) in
      sym (seen_cut rom k.length k.wide k.place b e d l)
