-- What the listing comes to, by its tests, and that it always fits its buffer, with the zero behind it. Assumes nothing.
use Rattle.std.specs.Prelude.{ℕ, ◌+◌, ◌≤◌, ◌<◌, true, not, List, ◌∷◌, ◌≡◌, drop, eqb, Err, Ok, Result}
use Rattle.std.proofs.Common.{arith, ap, sym, subst, ◌∙◌, length-append}
use Rattle.std.proofs.Math.ListN.{length}
use borrow.Author.Tests.{eq-eqb, ne_eqb}
use Rattle.cells.specs.Laws.Facts.{neither, not_unequal}
use Rattle.cells.specs.Laws.Tests.{pick_is}
use Rattle.rom.specs.Sizes.{marks_size, work_size, store_size, text_size}
use Rattle.rom.specs.Header.{header_of}
use Rattle.state.specs.Scene.{Turn, handed_back as told_step, answer_number}
use Rattle.state.specs.Step.{wrong_sizes}
use Rattle.state.specs.Open.{open_of}
use Rattle.state.specs.Run.{RunResult, told_ran}
use Rattle.state.specs.Laws.Keeps.Open.{open_good}
use Rattle.state.specs.Laws.Steps.{Left, run_left}
use Rattle.state.specs.Answer.{Ran, Stepped}
use Rattle.screen.specs.Laws.Found.Screen.{screened_of}
use Rattle.screen.specs.Promise.{Promised, passes}
use Rattle.screen.proofs.Exact.Exactly.{promise_kept, one_result}
use Rattle.lines.specs.Lines.{refused_line, run_text}
use Rattle.lines.specs.Told.{Told, told, filled, told_as, wrong_text, refused_told, run_told}
use Rattle.lines.specs.Laws.Fits.{fits, refused_fits}
use Rattle.listing.specs.Listing.{Listed, listed_with, listed_as, wrong_buffer, started_of, run_words, judged_as, list_with, Lists}

-- the part of it that the run leaves, in a text that was as `before` says
abbrev pub ListedRun : RunResult → List ℕ → ℕ → List ℕ → List ℕ → List ℕ → Type 0
ListedRun o before size work store text =
    (size ≡ length (run_words o)) × (work ≡ o.work) × (store ≡ o.store) × (text ≡ filled before (run_words o))

-- the listing by the verdict that the model finds
abbrev pub list_of : List ℕ → List ℕ → List ℕ → List ℕ → ℕ → List ℕ → Listed
list_of rom marks work store budget text =
    list_with (screened_of rom marks).verdict (screened_of rom marks).marks rom marks work store budget text

-- it is one, and every other one is this
module _ (rom marks work store : List ℕ) (budget : ℕ) (text : List ℕ) {l : Listed} where
  pub lists : l ≡ list_of rom marks work store budget text → Lists rom marks work store budget text l
  lists e = ((screened_of rom marks).verdict, (screened_of rom marks).marks, promise_kept rom marks, e)

  pub one_listing : Lists rom marks work store budget text l → l ≡ list_of rom marks work store budget text
  one_listing (v, after, p, e) =
      let k = one_result p (promise_kept rom marks) in
      e ∙ ap (λ (y : Result (Unit {0}) ℕ). list_with y after rom marks work store budget text) k.0
      ∙ ap (λ (y : List ℕ). list_with (screened_of rom marks).verdict y rom marks work store budget text) k.1

-- ---- a text in a buffer of the right size
pub refused_told_lem : (text : List ℕ) (n : ℕ) → length text ≡ text_size → refused_told text n ≡ told_as text (refused_line n)
unfolding refused_told
refused_told_lem text n e = rw (eq-eqb (length text) text_size e)

pub run_told_lem : (text : List ℕ) (o : RunResult) (n : ℕ) → length text ≡ text_size → Left o
    → run_told text o.store o.state.tree o.count n ≡ told_as text (run_text o.state.tree o.store o.count n)
unfolding run_told
run_told_lem text o n e l = rw (eq-eqb (length text) text_size e, eq-eqb (length o.store) store_size l.store, l.tree)

-- ---- a ROM with a good header, opened and run
module _ (rom work store : List ℕ) (budget : ℕ) (h : header_of rom ≡ 0) (a : length work ≡ work_size) (b : length store ≡ store_size) where
  abbrev ran : RunResult
  ran = started_of rom (open_of rom work store) budget

  pub left : Left ran
  left = subst Left (sym (ap (λ (t : Turn). started_of rom t budget) (open_good rom work store a b h))) (run_left budget rom h)

  -- what the calls promise, put together
  pub listed_run : (o : Stepped) (w s : List ℕ) → told_step o w s ≡ open_of rom work store
      → (x : Ran) (v u : List ℕ) → told_ran x v u ≡ started_of rom (told_step o w s) budget
      → (m : ℕ) → m ≡ answer_number x.answer
      → (text then : List ℕ) (n : ℕ) → length text ≡ text_size → told n then ≡ run_told text u x.state.tree x.count m
      → ListedRun ran text n v u then
  listed_run o w s e x v u f m q text then n z g =
      let r : told_ran x v u ≡ ran = f ∙ ap (λ (t : Turn). started_of rom t budget) e in
      let l : Left (told_ran x v u) = subst Left (sym r) left in
      let t : told n then ≡ told_as text (run_words (told_ran x v u)) =
      g ∙ run_told_lem text (told_ran x v u) m z l ∙ ap (λ (j : ℕ). told_as text (run_text x.state.tree u x.count j)) q
      in
      let d : told n then ≡ told_as text (run_words ran) = t ∙ ap (λ (y : RunResult). told_as text (run_words y)) r in
      (ap (λ (y : Told). y.length) d, ap (λ (y : RunResult). y.work) r, ap (λ (y : RunResult). y.store) r, ap (λ (y : Told). y.text) d)

-- ---- the whole
module _ (rom marks work store : List ℕ) (budget : ℕ) (text : List ℕ) where
  pub wrong_text_lem : (length text ≡ text_size → ⊥) → listed_with 0 marks work store text ≡ list_of rom marks work store budget text
  unfolding list_with
  wrong_text_lem n = rw (ne_eqb (length text) text_size n)

  module _ (e : length text ≡ text_size) where
    abbrev whole : Listed
    whole = list_of rom marks work store budget text

    -- the one line of a refusal, the buffers as they are then
    as_refused : (why : ℕ) (m : List ℕ) (then : List ℕ) (n : ℕ) → told n then ≡ refused_told text why
        → listed_with n m work store then ≡ listed_as (refused_line why) m work store text
    as_refused why m then n g =
        let d : told n then ≡ told_as text (refused_line why) = g ∙ refused_told_lem text why e in
        ap (λ (y : Told). listed_with y.length m work store y.text) d

    pub wrong_buffer_lem : wrong_buffer marks work store ≡ true → (then : List ℕ) (n : ℕ) → told n then ≡ refused_told text 6
        → listed_with n marks work store then ≡ whole
    unfolding list_with
    wrong_buffer_lem w then n g = rw (eq-eqb (length text) text_size e, w) (as_refused 6 marks then n g)

    module _ (a : length marks ≡ marks_size) (b : length work ≡ work_size) (c : length store ≡ store_size) where
      judged : whole ≡ judged_as (screened_of rom marks).verdict (screened_of rom marks).marks rom work store budget text
      unfolding list_with
      judged = rw (
        eq-eqb (length text) text_size e,
        eq-eqb (length marks) marks_size a,
        eq-eqb (length work) work_size b,
        eq-eqb (length store) store_size c,
      )

      -- by the screen's promise
      by_verdict : (v : Result (Unit {0}) ℕ) (m : List ℕ) → Promised rom marks v m → whole ≡ judged_as v m rom work store budget text
      by_verdict v m p =
          let k = one_result (promise_kept rom marks) p in
          judged ∙ ap (λ (y : Result (Unit {0}) ℕ). judged_as y (screened_of rom marks).marks rom work store budget text) k.0
          ∙ ap (λ (y : List ℕ). judged_as v y rom work store budget text) k.1

      pub refused : (why : ℕ) (m : List ℕ) → Promised rom marks (Err why) m → (then : List ℕ) (n : ℕ)
          → told n then ≡ refused_told text why
          → listed_with n m work store then ≡ whole
      refused why m p then n g = as_refused why m then n g ∙ sym (by_verdict (Err why) m p)

      pub passed : (m : List ℕ) → Promised rom marks (Ok tt) m → (v u then : List ℕ) (n : ℕ)
          → ListedRun (started_of rom (open_of rom work store) budget) text n v u then → listed_with n m v u then ≡ whole
      passed m p v u then n l = rw (l.0, l.1, l.2, l.3) (sym (by_verdict (Ok tt) m p))

-- ---- which buffer is wrong
module _ (marks work store : List ℕ) where
  pub wrong_marks : (length marks ≡ marks_size → ⊥) → wrong_buffer marks work store ≡ true
  wrong_marks n = rw (ne_eqb (length marks) marks_size n)

  pub wrong_work : length marks ≡ marks_size → (length work ≡ work_size → ⊥) → wrong_buffer marks work store ≡ true
  wrong_work a n = rw (eq-eqb (length marks) marks_size a, ne_eqb (length work) work_size n)

  pub wrong_store : length marks ≡ marks_size → length work ≡ work_size → (length store ≡ store_size → ⊥)
      → wrong_buffer marks work store ≡ true
  wrong_store a b n = rw (eq-eqb (length marks) marks_size a, eq-eqb (length work) work_size b, ne_eqb (length store) store_size n)

-- ---- the promise at a verdict that is known; a ROM that passes has a good header
pub judged_as_lem : (rom marks : List ℕ) {v w : Result (Unit {0}) ℕ} (m : List ℕ) → Promised rom marks v m → v ≡ w → Promised rom marks w m
judged_as_lem rom marks m p e = subst (λ (v : Result (Unit {0}) ℕ). Promised rom marks v m) e p

pub passed_header : {rom marks m : List ℕ} → Promised rom marks (Ok tt) m → header_of rom ≡ 0
passed_header (passes s h a k) = h

-- ---- that it always fits: a whole tree is what the run of a passed ROM leaves
module _ (rom marks work store : List ℕ) (budget : ℕ) (text : List ℕ) where
  judged_fits : length work ≡ work_size → length store ≡ store_size → (v : Result (Unit {0}) ℕ) (m : List ℕ) → Promised rom marks v m
      → (judged_as v m rom work store budget text).size < text_size
  judged_fits b c (Err why) m p = refused_fits why
  judged_fits b c (Ok tt) m p = fits _ _ _ _ (left rom work store budget (passed_header p) b c).tree

  pub listing_fits : (list_of rom marks work store budget text).size < text_size
  unfolding list_with
  listing_fits =
      pick_is Fitting (wrong_text text) _ _ (λ t. omega arith)
      (λ t.
      pick_is Fitting (wrong_buffer marks work store) _ _ (λ w. refused_fits 6)
      (λ w.
      let n = (neither (not (eqb (length marks) marks_size)) (wrong_sizes work store) w).1 in
      let k = neither (not (eqb (length work) work_size)) (not (eqb (length store) store_size)) n in
      judged_fits (not_unequal (length work) work_size k.0) (not_unequal (length store) store_size k.1) (screened_of rom marks).verdict
      (screened_of rom marks).marks
      (promise_kept rom marks)))
    where
      Fitting : Listed → Type 0
      Fitting l = l.size < text_size

  inside : (list_of rom marks work store budget text).size ≤ length (list_of rom marks work store budget text).text
  unfolding list_with
  inside =
      pick_is Inside (wrong_text text) _ _ (λ t. omega arith)
      (λ t.
      pick_is Inside (wrong_buffer marks work store) _ _ (λ w. filled_covers (refused_line 6))
      (λ w. judged (screened_of rom marks).verdict))
    where
      Inside : Listed → Type 0
      Inside l = l.size ≤ length l.text

      filled_covers : (words : List ℕ) → length words ≤ length (filled text words)
      filled_covers words = let l = length-append words (0 ∷ drop (length words + 1) text) in omega arith

      judged : (v : Result (Unit {0}) ℕ) → Inside (judged_as v (screened_of rom marks).marks rom work store budget text)
      judged (Ok tt) = filled_covers (run_words (started_of rom (open_of rom work store) budget))
      judged (Err why) = filled_covers (refused_line why)

  pub and_inside : {m w s t : List ℕ} {n : ℕ} → listed_with n m w s t ≡ list_of rom marks work store budget text
      → Lists rom marks work store budget text (listed_with n m w s t) × (n ≤ length t)
  and_inside e = (lists rom marks work store budget text e, subst (λ (l : Listed). l.size ≤ length l.text) (sym e) inside)
