-- fcode_run by what its two callees promise: a refused opening, and a run from a good one.
use Prim.Native.Nat.{ℕ}
use mathlib.Core.Bool.{Bool, true, false}
use mathlib.Core.List.{List}
use mathlib.Core.Path.{◌≡◌, refl, ap, sym, ◌∙◌}
use lib.Dec.{eqb}
use borrow.Author.Tests.{eqb-true, eq-eqb, ne_eqb}
use Rattle.state.specs.Scene.{scene, Turn, handed_back, answer_number}
use Rattle.state.specs.Open.{open_refusal, open_of}
use Rattle.state.specs.Run.{run_of, told_ran}
use Rattle.listing.specs.Listing.{started_of}
use Rattle.host.specs.Host.{host_run, host_ran, host_run_of}
use Rattle.state.specs.Answer.{Stepped, Ran}

module _ (rom work store : List ℕ) (budget : ℕ) (r : Stepped) (w s : List ℕ) (e : handed_back r w s ≡ open_of rom work store) where
  answer_is : answer_number r.answer ≡ answer_number (open_of rom work store).answer
  answer_is = ap (λ (t : Turn). answer_number t.answer) e

  opened_number : answer_number (open_of rom work store).answer ≡ open_refusal rom work store
  unfolding open_of
  opened_number = by (eqb (open_refusal rom work store) 0) refl
    where
      by : (b : Bool) → eqb (open_refusal rom work store) 0 ≡ b
          → answer_number (open_of rom work store).answer ≡ open_refusal rom work store
      by true q = rw (q, open_of) (sym (eqb-true (open_refusal rom work store) 0 q))
      by false q = rw (q, open_of) refl

  refused_is : (open_refusal rom work store ≡ 0 → ⊥) → ((open_of rom work store).work ≡ work) × ((open_of rom work store).store ≡ store)
  unfolding open_of
  refused_is n = by (eqb (open_refusal rom work store) 0) refl
    where
      by : (b : Bool) → eqb (open_refusal rom work store) 0 ≡ b → ((open_of rom work store).work ≡ work)
          × ((open_of rom work store).store ≡ store)
      by true q = absurd (n (eqb-true (open_refusal rom work store) 0 q))
      by false q = rw (q, open_of) (refl, refl)

  pub host_refused : (n : ℕ) → n ≡ answer_number r.answer → (n ≡ 0 → ⊥) → host_run n 0 w s ≡ host_run_of rom work store budget
  unfolding host_run_of
  host_refused n q z =
      let p : n ≡ open_refusal rom work store = q ∙ answer_is ∙ opened_number in
      let k = refused_is (λ y. z (p ∙ y)) in
      let a : w ≡ work = ap (λ (t : Turn). t.work) e ∙ k.0 in
      let b : s ≡ store = ap (λ (t : Turn). t.store) e ∙ k.1 in
      rw (ne_eqb (open_refusal rom work store) 0 (λ y. z (p ∙ y)), p, a, b)

  pub host_ran_lem : answer_number r.answer ≡ 0 → (x : Ran) (v u : List ℕ) → told_ran x v u ≡ run_of budget (scene rom w s r.state)
      → (m : ℕ)
      → m ≡ answer_number x.answer
      → host_run m x.count v u ≡ host_run_of rom work store budget
  unfolding host_run_of
  host_ran_lem z x v u f m q =
      let p : open_refusal rom work store ≡ 0 = sym opened_number ∙ sym answer_is ∙ z in
      rw (eq-eqb (open_refusal rom work store) 0 p, q) (ap host_ran f ∙ ap (λ (t : Turn). host_ran (started_of rom t budget)) e)
