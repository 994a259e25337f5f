-- From what a call in place hands back to what is said of the whole state. Assumes nothing.
use Rattle.std.proofs.Common.{◌≡◌, ℕ, ◌≤◌, Bool, true, false, eqb, List, [], sym, refl, ap, ◌∙◌, arith, ne_eqb}
use Rattle.rom.specs.declared.refusal.Refusal.{Refusal}
use Rattle.tokens.specs.Family.{leave}
use Rattle.tokens.specs.Decode.{token_of}
use Rattle.state.specs.State.{base_of, moved, moved_to}
use Rattle.state.specs.Scene.{Turn, turn, scene, handed_back}
use Rattle.state.specs.Effects.{effects, act_of, gave}
use Rattle.state.specs.Joints.Moves.{stepped, leave_of}
use Rattle.state.specs.Joints.Apart.{Arrays, arrays, joined, back_on, taken_on, handed, answer_of, Takes}
use Rattle.state.specs.Laws.Done.{carried, stopped}
use Rattle.state.specs.declared.state.State.{State}
use Rattle.state.specs.declared.apart.Core.{Core}
use Rattle.state.specs.declared.apart.ToldBy.{ToldBy}
use Rattle.state.specs.declared.apart.HandedBy.{HandedBy}
use Rattle.state.specs.declared.apart.Taken.{Taken}
use Rattle.state.specs.Answer.{Stepped, Going}
use Rattle.acts.specs.Joints.Acts.{Quiet}
use Rattle.acts.proofs.Pops.{popped_by, popped_on, first_pop}
use Rattle.acts.proofs.Cold.{leave_unequal, leave_good}
use Rattle.rom.specs.Sizes.{data_most}

-- some arrays, where it is only asked what numbers are like
abbrev pub no_arrays : Arrays
no_arrays = arrays [] [] [] [] [] [] [] [] [] [] [] [] []

-- by what it is that was handed back
pub via : (a b : Stepped) (work store : List ℕ) (t : Turn) → a ≡ b → handed_back b work store ≡ t → handed_back a work store ≡ t
via a b work store t e f = ap (λ (x : Stepped). handed_back x work store) e ∙ f

pub back : (a : Arrays) (r : HandedBy Refusal) (t : ToldBy Refusal) (k : Core) → r ≡ handed t k
    → back_on a r ≡ stepped (answer_of t) (joined a k)
back a r t k e = ap (λ (h : HandedBy Refusal). back_on a h) e

-- so many cells gone, and on to the next token
pub lowered_on : (s x : State) (k next : ℕ) (work store : List ℕ) (t : Turn) → x ≡ popped_by s k
    → turn Going (moved s (gave s k []) next) work store ≡ t
    → turn Going (moved_to x next) work store ≡ t
lowered_on s x k next work store t e f =
    ap (λ (y : State). turn Going (moved_to y next) work store) e ∙ ap (λ (y : State). turn Going y work store) (popped_on s k next) ∙ f

-- a body left
pub leaves : (st : State) (next : ℕ) (b : Bool) → eqb st.back.height (base_of st.calls) ≡ b → st.stack.height ≤ data_most
    → 1 ≤ st.calls.count
    → Quiet leave st next (leave_of st)
unfolding leave_of act_of effects
leaves st next true e h c o n rom work store =
    rw (ne_eqb st.calls.count 0 (λ z. omega arith), e)
    (sym (carried (scene rom work store st) (token_of n 0x0B20_0000 o next) (leave_good (scene rom work store st) n o next h e)))
leaves st next false e h c o n rom work store =
    rw (ne_eqb st.calls.count 0 (λ z. omega arith), e)
    (sym (stopped (scene rom work store st) (token_of n 0x0B20_0000 o next) 16 refl (leave_unequal (scene rom work store st) n o next e)))

-- a cell taken leaves the program numbers alone
pub held_still : (on : Arrays → Arrays) (k : Core) (p : Taken) → 1 ≤ k.height → Takes on k p → p.core.held ≡ k.held
held_still on k p h e = ap (λ (x : State). x.numbers.count)
    (first_pop (joined (on no_arrays) k) (taken_on (on no_arrays) p) h (e no_arrays)).1
