-- What C receives and with what a listing starts, proved. Assumes nothing.
use Rattle.std.specs.Prelude.{ℕ, ◌≤◌, ◌≡◌, refl, Bool, true, false, not, List, length, get_or, take, T, eqb, Err}
use Rattle.std.proofs.Common.{arith, sym, ap, subst, ◌∙◌, inl, inr, eq-eqb}
use Rattle.std.proofs.Math.Seq.{take-append_seam}
use Rattle.cells.specs.Choice.{pick}
use Rattle.rom.specs.Sizes.{marks_size, work_size, store_size}
use Rattle.rom.specs.Words.{letters_of}
use Rattle.rom.specs.Sum.{sum_of}
use Rattle.rom.specs.Header.{start_of, format_of, checksum_of, length_of, wrong_rom, wrong_length, header_of}
use Rattle.state.specs.Run.{RunResult}
use Rattle.screen.specs.Promise.{Promised, wrong_size, bad_header, no_heights, passes}
use Rattle.lines.specs.Lines.{refused_line, pass_line, run_text}
use Rattle.listing.specs.Listing.{wrong_buffer, run_words}
use Rattle.promise.specs.Shown.{run_here, Shown, wrong_buffer_lem, refused_rom, screen_pass}
use Rattle.promise.proofs.Shown.{right_buffers, person_sees}
use Rattle.promise.specs.Received.{Zero, ThirtyOne, written, StartsWith, Listable, FirstLineIs, FirstLine, Received}

-- the numbers of the header are none of the screen's own
few : (a b c d e : Bool) → pick a 1 (pick b 2 (pick c 3 (pick d 4 (pick e 5 0)))) ≤ 5
few true b c d e = omega arith
few false true c d e = omega arith
few false false true d e = omega arith
few false false false true e = omega arith
few false false false false true = omega arith
few false false false false false = omega arith

header_most : (rom : List ℕ) → header_of rom ≤ 5
unfolding header_of
header_most rom =
    few (wrong_rom rom) (not (start_of rom)) (not (format_of rom)) (wrong_length rom (length_of rom))
    (not (eqb (sum_of rom (length_of rom)) (checksum_of rom)))

zero_exactly : Zero
zero_exactly rom before after number (v, e, wrong_size n) = (λ z. absurd (omega arith), λ k. absurd (n k.0))
zero_exactly rom before after number (v, e, bad_header m n) = (λ z. absurd (n (sym e ∙ z)), λ k. absurd (n k.1))
zero_exactly rom before after number (v, e, no_heights m h f) = (λ z. absurd (omega arith), λ k. absurd (f k.2))
zero_exactly rom before after number (v, e, passes m h a k) = (λ z. (m, h, a), λ b. e)

none_exactly : ThirtyOne
none_exactly rom before after number (v, e, wrong_size n) = (λ z. absurd (omega arith), λ k. absurd (n k.0))
none_exactly rom before after number (v, e, bad_header m n) = (λ z. absurd (let l = header_most rom in omega arith), λ k. absurd (n k.1))
none_exactly rom before after number (v, e, no_heights m h f) = (λ z. (m, h, f), λ b. e)
none_exactly rom before after number (v, e, passes m h a k) = (λ z. absurd (omega arith), λ b. absurd (b.2 a))

-- `r` is not `s`
never_passes : (n : ℕ) → StartsWith pass_line (refused_line n) → ⊥
unfolding refused_line letters_of
never_passes n (rest, e) = let z : ◌≡◌ {A = ℕ} 0x72 0x73 = ap (λ (x : List ℕ). get_or x 0 0) e in omega arith

-- a run's words do start so
run_passes : (o : RunResult) → StartsWith pass_line (run_words o)
unfolding run_text
run_passes o = (_, refl)

-- by what a person sees
module _ (rom marks work store : List ℕ) where
  refused_judged : (n : ℕ) → (Listable rom marks work store → ⊥) → FirstLineIs rom marks work store (refused_line n)
  refused_judged n f = ((λ s. absurd (never_passes n s), λ k. absurd (f k)), inr (n, refl))

  shown_judged : (budget : ℕ) {words : List ℕ} → Shown rom marks work store budget words → FirstLineIs rom marks work store words
  shown_judged budget (wrong_buffer_lem t) = refused_judged 6 (λ k. subst T (sized k) t)
    where
      sized : Listable rom marks work store → wrong_buffer marks work store ≡ false
      sized k =
          rw (eq-eqb (length marks) marks_size k.0, eq-eqb (length work) work_size k.1, eq-eqb (length store) store_size k.2)
  shown_judged budget (refused_rom {n} b p) = refused_judged n (λ k. not_refused p k)
    where
      not_refused : {after : List ℕ} {n : ℕ} → Promised rom marks (Err n) after → Listable rom marks work store → ⊥
      not_refused (wrong_size f) k = f k.0
      not_refused (bad_header m f) k = f k.3
      not_refused (no_heights m h f) k = f k.4
  shown_judged budget (screen_pass b (passes m h a k) c e) =
      let r = right_buffers marks work store b in
      let s = run_passes (run_here rom work store budget) in
      ((λ t. (r.0, r.1, r.2, h, a), λ t. s), inl s)

first_line : FirstLine
first_line rom marks work store text budget l e k =
    let (words, shown, size, held) = person_sees rom marks work store text budget l e k in
    let w : written l ≡ words = (λ i. take (size i) (held i)) ∙ take-append_seam words _ in
    subst (FirstLineIs rom marks work store) (sym w) (shown_judged rom marks work store budget shown)

pub received : Received
received = (zero_exactly, none_exactly, first_line)
