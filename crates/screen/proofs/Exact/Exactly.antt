-- The model keeps the screen's promise, and nothing else does: it passes a ROM exactly where an assignment exists, with the marks that any
-- assignment fixes. Assumes nothing.
use Rattle.std.specs.Prelude.{ℕ, suc, ◌≤◌, ◌<◌, ◌≡◌, refl, Bool, true, false, List, ◌≢◌, ◌↔◌, eqb, length, get_or, replicate, Err, Result}
use Rattle.std.proofs.Common.{arith, sym, ap, ◌∙◌, eqb→eq, ext_get_or}
use Rattle.std.proofs.Math.Decide.{dec_lt, ℕ_discrete}
use Rattle.std.proofs.Math.Path.{subst}
use Rattle.std.proofs.Math.Dec.{T}
use Rattle.cells.specs.Laws.Tests.{when_is, neqb→ne}
use Rattle.cells.specs.Laws.Facts.{when_true, when_false}
use Rattle.std.proofs.Math.Option.{none, some}
use Rattle.rom.specs.Header.{length_of, header_of}
use Rattle.rom.specs.Sizes.{rom_most, marks_size, data_most}
use Rattle.tokens.specs.Laws.Past.{SamePrograms}
use Rattle.screen.specs.Reach.{Setting, Reach}
use Rattle.screen.specs.Rules.{Assignment}
use Rattle.screen.specs.Laws.Found.Model.{Board, room_of, last_of, laid_of, screen_of}
use Rattle.screen.specs.Laws.Found.Screen.{Screened, screened, verdict_on, judged_of, screened_of}
use Rattle.screen.specs.Laws.Found.Room.{room_most, zeros}
use Rattle.screen.specs.Laws.Found.Laid.{header_length, laid_size, laid_at}
use Rattle.screen.specs.Promise.{Marks, Promised, wrong_size, bad_header, no_heights, passes}
use Rattle.screen.specs.Laws.Rules.Past.{promised_there}
use Rattle.screen.specs.Laws.Walk.Rounds.{Ready, ran_size, Chain, ends, goes}
use Rattle.screen.specs.Laws.Walk.Boards.{advanced}
use Rattle.screen.specs.Laws.Walk.Chains.{here, chain_of, first_ready, chain_kept}
use Rattle.screen.specs.Laws.Accept.Cover.{start}
use Rattle.screen.specs.Laws.Accept.Accept.{accept}
use Rattle.screen.proofs.Exact.Exact.{exact}
use Rattle.screen.proofs.Exact.Agree.{last_is, Reached, only_reached}
use Rattle.screen.specs.Laws.Found.Cell.{cell_with, mark_in, heights, TokenHeights, same_heights, cell_mark, mark_none}

module _ (rom : List ℕ) (fits : length_of rom ≤ rom_most) where
  -- the rounds of a model that passes
  passed : (last_of rom).good ≡ true → Chain rom (start rom fits) (last_of rom).board
  unfolding last_of
  passed g = chain_of rom fits rom_most (start rom fits) (first_ready rom fits) g

  -- ---- pass exactly where an assignment exists
  pub passes_exactly : ((last_of rom).good ≡ true) ↔ Assignment rom
  passes_exactly = (λ g. accept rom fits (passed g), λ a. exact rom fits a)

  -- ---- two assignments agree
  tall : (a : Assignment rom) {x p : ℕ} {s : Setting} → Reach rom x s p → a.height x p ≤ data_most
  tall a r = let t = a.whole r in (a.data_limit (record { reach = r; is = t.1 })).0

  pub agree : (a b : Assignment rom) {x p : ℕ} {s : Setting} → Reach rom x s p → (a.height x p ≡ b.height x p)
      × (a.back x p ≡ b.back x p)
  agree a b {x} {p} r =
      let c = passed (exact rom fits a) in
      let e : cell_with (heights (a.height x p) (a.back x p)) ≡ cell_with (heights (b.height x p) (b.back x p)) =
      sym (last_is rom fits c a r) ∙ last_is rom fits c b r in
      let l = tall a r in
      let m = tall b r in
      let h = same_heights _ _ (omega arith) (omega arith) e in
      (ap (λ (v : TokenHeights). v.height) h, ap (λ (v : TokenHeights). v.back) h)

  -- ---- the marks
  chain_size : {b f : Board} → Ready rom b → Chain rom b f → length f.seen ≡ room_of (length_of rom)
  chain_size y (ends r n) = ran_size rom y r
  chain_size y (goes n c) = chain_size (advanced rom fits y n).1.ready c

  -- what has a cell is reachable
  found : (last_of rom).good ≡ true → (p : ℕ) → get_or (last_of rom).board.seen p 0 ≢ 0 → Reached rom p
  found g p z = elim (dec_lt p 8) [ yes l ↦ absurd (z (header l)) | no l ↦ only_reached rom fits here (passed g) p (omega arith) z ]
    where
      header : p < 8 → get_or (last_of rom).board.seen p 0 ≡ 0
      header l = (chain_kept rom fits (first_ready rom fits) (passed g)).seen p l ∙ zeros (room_of (length_of rom)) p

  pub model_marks : (a : Assignment rom) → Marks rom a (laid_of (last_of rom).board.seen)
  model_marks a =
      record {
        size = laid_size (last_of rom).board.seen few;
        height = λ r. laid_at (last_of rom).board.seen _ ∙ there r;
        elsewhere = nowhere;
      }
    where
      c : Chain rom (start rom fits) (last_of rom).board
      c = passed (exact rom fits a)

      few : length (last_of rom).board.seen ≤ marks_size
      few = subst (λ n. n ≤ marks_size) (sym (chain_size (first_ready rom fits) c)) (room_most (length_of rom))

      there : {x p : ℕ} {s : Setting} → Reach rom x s p → mark_in (get_or (last_of rom).board.seen p 0) ≡ suc (a.height x p)
      there {x} {p} r = let l = tall a r in ap mark_in (last_is rom fits c a r) ∙ cell_mark _ (omega arith)

      nowhere : (p : ℕ) → ((x : ℕ) (s : Setting) → Reach rom x s p → ⊥) → get_or (laid_of (last_of rom).board.seen) p 0 ≡ 0
      nowhere p n =
          elim (ℕ_discrete (get_or (last_of rom).board.seen p 0) 0) [
            | yes e ↦ laid_at (last_of rom).board.seen p ∙ ap mark_in e ∙ mark_none
            | no z ↦ let r = found (exact rom fits a) p z in absurd (n r.text r.setting r.reach)
          ]

  -- marks that an assignment allows are the model's
  pub marks_are : (a : Assignment rom) (marks : List ℕ) → Marks rom a marks → marks ≡ laid_of (last_of rom).board.seen
  marks_are a marks m = ext_get_or 0 marks (laid_of (last_of rom).board.seen) (m.size ∙ sym k.size) (λ p l. same p)
    where
      k : Marks rom a (laid_of (last_of rom).board.seen)
      k = model_marks a

      same : (p : ℕ) → get_or marks p 0 ≡ get_or (laid_of (last_of rom).board.seen) p 0
      same p =
          elim (ℕ_discrete (get_or (laid_of (last_of rom).board.seen) p 0) 0) [
            | yes e ↦ m.elsewhere p (λ x s r. absurd (let h = k.height r in omega arith)) ∙ sym e
            | no z ↦
                let r = found (exact rom fits a) p (λ e. z (laid_at (last_of rom).board.seen p ∙ ap mark_in e ∙ mark_none)) in
                m.height r.reach ∙ sym (k.height r.reach)
          ]

-- ---- the model keeps the promise
abbrev KeepsPromise : List ℕ → List ℕ → Screened → Type 0
KeepsPromise rom before r = Promised rom before r.verdict r.marks

module _ (rom before : List ℕ) (s : length before ≡ marks_size) (h : header_of rom ≡ 0) where
  judged_good : (last_of rom).good ≡ true → KeepsPromise rom before (judged_of rom before)
  unfolding judged_of screen_of
  judged_good g =
      subst (λ o. KeepsPromise rom before (verdict_on before o))
      (sym (when_true (some (laid_of (last_of rom).board.seen)) none (last_of rom).good g))
      (passes s h ((passes_exactly rom (header_length rom h)).0 g)
      (model_marks rom (header_length rom h) ((passes_exactly rom (header_length rom h)).0 g)))

  judged_bad : (last_of rom).good ≡ false → KeepsPromise rom before (judged_of rom before)
  unfolding judged_of screen_of
  judged_bad g =
      subst (λ o. KeepsPromise rom before (verdict_on before o))
      (sym (when_false (some (laid_of (last_of rom).board.seen)) none (last_of rom).good g))
      (subst (λ n. Promised rom before (Err 31) (replicate n 0)) (sym s)
      (no_heights s h (λ a. subst T (sym (exact rom (header_length rom h) a) ∙ g) tt)))

  judged : (g : Bool) → (last_of rom).good ≡ g → KeepsPromise rom before (judged_of rom before)
  judged true g = judged_good g
  judged false g = judged_bad g

pub promise_kept : (rom before : List ℕ) → Promised rom before (screened_of rom before).verdict (screened_of rom before).marks
unfolding screened_of
promise_kept rom before =
    when_is (KeepsPromise rom before) (eqb (length before) marks_size) _ _
    (λ s.
    when_is (KeepsPromise rom before) (eqb (header_of rom) 0) _ _
    (λ h. judged rom before (eqb→eq (length before) marks_size s) (eqb→eq (header_of rom) 0 h) (last_of rom).good refl)
    (λ h. bad_header (eqb→eq (length before) marks_size s) (neqb→ne (header_of rom) 0 h)))
    (λ s. wrong_size (neqb→ne (length before) marks_size s))

pub promise_by : (rom before : List ℕ) (v : Result (Unit {0}) ℕ) (m : List ℕ) → screened v m ≡ screened_of rom before
    → Promised rom before v m
promise_by rom before v m e = subst (KeepsPromise rom before) (sym e) (promise_kept rom before)

-- ---- any two results that the promise allows are equal
pub one_result : {rom before : List ℕ} {v w : Result (Unit {0}) ℕ} {m n : List ℕ} → Promised rom before v m
    → Promised rom before w n → (v ≡ w) × (m ≡ n)
one_result (wrong_size s) (wrong_size r) = (refl, refl)
one_result (wrong_size s) (bad_header r h) = absurd (s r)
one_result (wrong_size s) (no_heights r h z) = absurd (s r)
one_result (wrong_size s) (passes r h a k) = absurd (s r)
one_result (bad_header r h) (wrong_size s) = absurd (s r)
one_result (bad_header r h) (bad_header s k) = (refl, refl)
one_result (bad_header r h) (no_heights s k z) = absurd (h k)
one_result (bad_header r h) (passes s k a y) = absurd (h k)
one_result (no_heights r h z) (wrong_size s) = absurd (s r)
one_result (no_heights r h z) (bad_header s k) = absurd (k h)
one_result (no_heights r h z) (no_heights s k y) = (refl, refl)
one_result (no_heights r h z) (passes s k a y) = absurd (z a)
one_result (passes r h a k) (wrong_size s) = absurd (s r)
one_result (passes r h a k) (bad_header s j) = absurd (j h)
one_result (passes r h a k) (no_heights s j z) = absurd (z a)
one_result {rom} (passes {marks = m} r h a k) (passes {marks = n} s j b l) =
    let f = header_length rom h in (refl, marks_are rom f a m k ∙ sym (marks_are rom f b n l))

-- ---- and two ROMs with the same program are judged alike
pub judged_same : {rom other : List ℕ} (before : List ℕ) → SamePrograms rom other → length before ≡ marks_size → header_of other ≡ 0
    → judged_of rom before ≡ judged_of other before
judged_same {rom} {other} before p s h =
    let here = judged rom before s (p.header ∙ h) (last_of rom).good refl in
    let there = judged other before s h (last_of other).good refl in
    let (v, m) = one_result (promised_there p here) there in
    λ i. screened (v i) (m i)
