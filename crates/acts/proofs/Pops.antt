-- Cells popped one by one, and those pushed then: the stacks that a token leaves, counted from the state as it was. Assumes nothing.
use Rattle.std.proofs.Common.{◌≡◌, ℕ, ◌+◌, ◌-◌, ◌<◌, ◌≤◌, [], ◌∷◌, get_or, ap, ◌∙◌, arith, lt-ltb, ne_eqb}
use Rattle.state.specs.Stacks.{stacks, left_of, top_of}
use Rattle.state.specs.State.{moved, moved_to}
use Rattle.state.specs.Effects.{gave}
use Rattle.state.specs.Joints.Moves.{Popped, stepped, restacked, push_of, pop_of}
use Rattle.acts.specs.Joints.Acts.{pair_on}
use Rattle.rom.specs.Sizes.{data_most}
use Rattle.state.specs.declared.state.State.{State}
use Rattle.state.specs.Answer.{Stepped, Going}

module _ (st : State) where
  -- the state with its k highest cells gone
  abbrev pub popped_by : ℕ → State
  popped_by k = restacked st st.stack.cells (st.stack.height - k)

  abbrev pub cell_at : ℕ → ℕ
  cell_at k = top_of st.stack.cells st.stack.height k

  pub first_pop : (p : Popped) → 1 ≤ st.stack.height → p ≡ pop_of st → (p.cell ≡ cell_at 0) × (p.state ≡ popped_by 1)
  unfolding pop_of
  first_pop p h e =
      let a = rw (ne_eqb st.stack.height 0 (λ z. omega arith)) at e in
      (ap (λ (q : Popped). q.cell) a, ap (λ (q : Popped). q.state) a)

  pub next_pop : (k : ℕ) (s : State) (p : Popped) → k < st.stack.height → s ≡ popped_by k → p ≡ pop_of s
      → (p.cell ≡ cell_at k) × (p.state ≡ popped_by (k + 1))
  unfolding pop_of
  next_pop k s p h g e =
      let i : st.stack.height - k - 1 - 0 ≡ st.stack.height - 1 - k = omega arith in
      let j : st.stack.height - k - 1 ≡ st.stack.height - (k + 1) = omega arith in
      let a = rw g at e in
      let b = rw (ne_eqb (st.stack.height - k) 0 (λ z. omega arith)) at a in (
        ap (λ (q : Popped). q.cell) b ∙ ap (λ (m : ℕ). get_or st.stack.cells m 0) i,
        ap (λ (q : Popped). q.state) b ∙ ap (λ (m : ℕ). restacked st st.stack.cells m) j,
      )

  -- on to the next token, with nothing given, with one cell, with two
  pub popped_on : (k next : ℕ) → moved_to (popped_by k) next ≡ moved st (gave st k []) next
  unfolding left_of
  popped_on k next =
      let e : st.stack.height - k ≡ st.stack.height - k + 0 = omega arith in
      ap (λ (m : ℕ). moved st (stacks st.stack.cells m st.back.cells st.back.height) next) e

  pub still_on : (next : ℕ) → moved_to st next ≡ moved st (gave st 0 []) next
  unfolding left_of
  still_on next =
      let e : st.stack.height ≡ st.stack.height - 0 + 0 = omega arith in
      ap (λ (m : ℕ). moved st (stacks st.stack.cells m st.back.cells st.back.height) next) e

  pub pushed_on : (k next v : ℕ) (s : State) (r : Stepped) → st.stack.height - k < data_most → s ≡ popped_by k
      → r ≡ push_of (moved_to s next) v
      → r ≡ stepped Going (moved st (gave st k (v ∷ [])) next)
  unfolding left_of push_of
  pushed_on k next v s r h g e = e ∙ ap (λ (x : State). push_of (moved_to x next) v) g ∙ rw (lt-ltb (st.stack.height - k) data_most h)

  pub pushed_here : (next v : ℕ) (r : Stepped) → st.stack.height < data_most → r ≡ push_of (moved_to st next) v
      → r ≡ stepped Going (moved st (gave st 0 (v ∷ [])) next)
  unfolding left_of push_of
  pushed_here next v r h e =
      let z : st.stack.height - 0 ≡ st.stack.height = omega arith in
      e ∙ rw (lt-ltb st.stack.height data_most h, z)

  pub paired : (next a b : ℕ) (one : Stepped) (r : Stepped) → st.stack.height + 2 ≤ data_most → one ≡ push_of (moved_to st next) a
      → r ≡ push_of one.state b
      → r ≡ stepped Going (pair_on st next a b)
  unfolding left_of push_of
  paired next a b one r h e f =
      let z : st.stack.height - 0 ≡ st.stack.height = omega arith in
      let y : st.stack.height + 1 + 1 ≡ st.stack.height + 2 = omega arith in
      let g = rw (lt-ltb st.stack.height data_most (omega arith)) at e in
      let d = rw g at f in
      d ∙ rw (lt-ltb (st.stack.height + 1) data_most (omega arith), z, y)

  pub paired_on : (k next a b : ℕ) → pair_on (popped_by k) next a b ≡ moved st (gave st k (a ∷ b ∷ [])) next
  paired_on k next a b =
      let e : st.stack.height - k - 0 ≡ st.stack.height - k = omega arith in
      rw e

  pub two_pops : (p q : Popped) → 2 ≤ st.stack.height → p ≡ pop_of st → q ≡ pop_of p.state
      → (p.cell ≡ cell_at 0) × (q.cell ≡ cell_at 1) × (q.state ≡ popped_by 2)
  two_pops p q h e f =
      let a = first_pop p (omega arith) e in
      let b = next_pop 1 p.state q (omega arith) a.1 f in
      (a.0, b.0, b.1)

  pub four_pops : (p q t u : Popped) → 4 ≤ st.stack.height → p ≡ pop_of st → q ≡ pop_of p.state → t ≡ pop_of q.state
      → u ≡ pop_of t.state
      → (p.cell ≡ cell_at 0) × (q.cell ≡ cell_at 1) × (t.cell ≡ cell_at 2) × (u.cell ≡ cell_at 3) × (u.state ≡ popped_by 4)
  four_pops p q t u h e f g i =
      let a = two_pops p q (omega arith) e f in
      let c = next_pop 2 q.state t (omega arith) a.2 g in
      let d = next_pop 3 t.state u (omega arith) c.1 i in
      (a.0, a.1, c.0, d.0, d.1)

  -- the height then
  pub lowered : (k : ℕ) (s : State) → s ≡ popped_by k → s.stack.height ≡ st.stack.height - k
  lowered k s e = ap (λ (x : State). x.stack.height) e
