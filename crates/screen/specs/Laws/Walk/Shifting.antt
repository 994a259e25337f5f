-- A body's heights are moved, as they are where it is entered at its need: each cell of the body, and no other. Assumes nothing.
use Rattle.std.specs.Prelude.{ℕ, zero, suc, ◌+◌, ◌≤◌, ◌<◌, ◌≡◌, refl, List, length, get_or, set}
use Rattle.std.proofs.Common.{ap, ◌∙◌, arith, length-set, get_or-set_same, get_or-set_other}
use Rattle.std.proofs.Math.Decide.{ℕ_discrete}
use Rattle.screen.specs.Laws.Found.Model.{shifted_cell, shift_of, places}

-- so many places from p on: the length is kept
pub shift_length : (need k p : ℕ) (seen : List ℕ) → length (shift_of need k p seen) ≡ length seen
unfolding shift_of
shift_length need zero p seen = refl
shift_length need (suc k) p seen = shift_length need k (suc p) _ ∙ length-set seen p _

-- a place outside of them keeps its cell
pub shift_other : (need k p : ℕ) (seen : List ℕ) (q : ℕ) → (p ≤ q → q < p + k → ⊥) → get_or (shift_of need k p seen) q 0 ≡ get_or seen q 0
unfolding shift_of
shift_other need zero p seen q out = refl
shift_other need (suc k) p seen q out =
    shift_other need k (suc p) _ q (λ l h. out (omega arith) (omega arith))
    ∙ get_or-set_other seen p q _ 0 (λ e. out (omega arith) (omega arith))

-- each of them has its cell moved
pub shift_moved : (need k p : ℕ) (seen : List ℕ) (q : ℕ) → p ≤ q → q < p + k → q < length seen
    → get_or (shift_of need k p seen) q 0 ≡ shifted_cell need (get_or seen q 0)
unfolding shift_of
shift_moved need zero p seen q l h i = absurd (omega arith)
shift_moved need (suc k) p seen q l h i =
    by (ℕ_discrete q p) (λ n. shift_moved need k (suc p) then q (omega arith) (omega arith) (rw length-set i))
  where
    then : List ℕ
    then = set seen p (shifted_cell need (get_or seen p 0))

    by : Dec (q ≡ p) → ((q ≡ p → ⊥) → get_or (shift_of need k (suc p) then) q 0 ≡ shifted_cell need (get_or then q 0))
        → get_or (shift_of need k (suc p) then) q 0 ≡ shifted_cell need (get_or seen q 0)
    by (yes e) f =
        shift_other need k (suc p) then q (λ l h. omega arith)
        ∙ rw e (get_or-set_same seen p _ 0 (omega arith))
    by (no n) f = f n ∙ ap (shifted_cell need) (get_or-set_other seen p q _ 0 n)

-- the cells of a body are moved, and the others are as they were
pub record Shifted (need entry end : ℕ) (seen then : List ℕ) : Type 0 where
  pub moved : (q : ℕ) → entry ≤ q → q ≤ end → get_or then q 0 ≡ shifted_cell need (get_or seen q 0)
  pub other : (q : ℕ) → (entry ≤ q → q ≤ end → ⊥) → get_or then q 0 ≡ get_or seen q 0
  pub size : length then ≡ length seen

-- the pass over a body does so
pub shift_is : (need entry end : ℕ) (seen : List ℕ) → end < length seen
    → Shifted need entry end seen (shift_of need (places entry end) entry seen)
shift_is need entry end seen h =
    record {
      moved = λ q l u. shift_moved need (places entry end) entry seen q l (omega arith) (omega arith);
      other = λ q out. shift_other need (places entry end) entry seen q (λ l u. out l (omega arith));
      size = shift_length need (places entry end) entry seen;
    }
