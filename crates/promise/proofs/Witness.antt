-- Demand 3 is not empty: every bench ROM of the table that passes is one of which it speaks, and the one that divides by zero is refused
-- with 21. Assumes nothing.
use Rattle.std.specs.Prelude.{ℕ, ◌≡◌, refl, Bool, true, List, ◌∷◌, T, eqb, Err, Ok, Result}
use Rattle.std.proofs.Common.{sym, ap, eqb→eq}
use Rattle.std.proofs.Math.Path.{subst}
use Rattle.cells.specs.Laws.Facts.{holds, and_first, and_second}
use Rattle.screen.specs.Laws.Found.Screen.{screened_of}
use Rattle.screen.specs.Promise.{Promised}
use Rattle.screen.proofs.Exact.Exactly.{promise_kept}
use Rattle.state.specs.Open.{open_of}
use Rattle.listing.specs.Listing.{started_of}
use Rattle.state.specs.Answer.{Answer, Going, Finished, Refused, Spent}
use Rattle.promise.specs.Laws.Table.{Case, cases, same_answer, same_verdict, ends_so, screens, runs, agrees, every}
use Rattle.promise.specs.Laws.Table.{lent_marks, lent_work, lent_store}
use Rattle.promise.proofs.Table.{claim}
use Rattle.promise.proofs.Table.{work_size_lem, store_size_lem}
use Rattle.promise.specs.Demand3.{SeenRun}
use Rattle.promise.proofs.Shown.{seen, seen_ran}

-- a case of a list
pub data AmongRows (c : Case) : List Case → Type 0 where
  here : {cs : List Case} → AmongRows c (c ∷ cs)
  there : {b : Case} {cs : List Case} → AmongRows c cs → AmongRows c (b ∷ cs)

among_holds : (f : Case → Bool) {c : Case} {cs : List Case} → every f cs ≡ true → AmongRows c cs → f c ≡ true
among_holds f {c} e (here {cs}) = and_first (f c) (every f cs) e
among_holds f e (there {b} {cs} a) = among_holds f (and_second (f b) (every f cs) e) a

same_passes : (v : Result (Unit {0}) ℕ) → same_verdict v (Ok tt) ≡ true → v ≡ (Ok tt)
unfolding same_verdict
same_passes (Ok tt) e = refl
same_passes (Err n) e = absurd (subst T (sym e) tt)

-- a case that passes was seen to
module _ {c : Case} (a : AmongRows c cases) (p : c.verdict ≡ (Ok tt)) where
  agreed : agrees c ≡ true
  agreed = among_holds agrees claim a

  pub passes_so : Promised c.rom lent_marks (Ok tt) (screened_of c.rom lent_marks).marks
  passes_so =
      let e = and_first (screens c) (runs c) agreed in
      let s = screened_of c.rom lent_marks in
      let v = same_passes s.verdict (subst (λ v. same_verdict s.verdict v ≡ true) p e) in
      subst (λ v. Promised c.rom lent_marks v s.marks) v (promise_kept c.rom lent_marks)

  pub seen_case : SeenRun
  seen_case = seen c.rom lent_marks lent_work lent_store c.budget work_size_lem store_size_lem passes_so

  -- and its run answered what the case says
  pub ran_so : same_answer seen_case.ran.answer c.answer ≡ true
  unfolding seen_case
  ran_so =
      let e = and_second (screens c) (runs c) agreed in
      let opened = open_of c.rom lent_work lent_store in
      let o = started_of c.rom opened c.budget in
      let r = and_second (same_answer opened.answer Going) (ends_so c o) e in
      let q = and_first (same_answer o.answer c.answer) _ r in
      subst (λ v. same_answer v.answer c.answer ≡ true)
      (sym (seen_ran c.rom lent_marks lent_work lent_store c.budget work_size_lem store_size_lem passes_so)) q

-- A6 A5 2B 00 divides by zero: it passes, and its run is refused
pub divides : SeenRun
divides = seen_case (there (there here)) refl

same_refused : (w : Answer) (n : ℕ) → same_answer w (Refused n) ≡ true → w ≡ Refused n
unfolding same_answer
same_refused Going n e = absurd (subst T (sym e) tt)
same_refused Finished n e = absurd (subst T (sym e) tt)
same_refused (Refused m) n e = ap (λ k. Refused k) (eqb→eq m n (holds (eqb m n) e))
same_refused (Spent m) n e = absurd (subst T (sym e) tt)

pub divides_refused : divides.ran.answer ≡ Refused 21
unfolding divides
divides_refused = same_refused divides.ran.answer 21 (ran_so (there (there here)) refl)
