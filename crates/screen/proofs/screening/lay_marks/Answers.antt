use Rattle.std.proofs.Common.{ℕ, List, ◌-◌, ◌≤◌, ◌≡◌, inl, inr, refl, ◌∙◌, subst, length, get_or, replicate, length-set, arith, rules}
use Rattle.std.proofs.lemmas.Bool.{cases_lt}
use Rattle.std.proofs.lemmas.List.{length-replicate, places}
use Rattle.std.proofs.lemmas.Slice.{overwrites}
use borrow.Rule.Slice.PartMut.{put_mid, same_len_mid}
use Rattle.rom.specs.Sizes.{marks_size}
use Rattle.screen.specs.Laws.Found.Model.{laid_of}
use Rattle.screen.specs.Laws.Found.Cell.{mark_in}
use Rattle.screen.specs.Laws.Code.Screen.{Filled, filled_none, filled_more, filled_laid, mark_behind}
use Rattle.screen.proofs.screening.lay_marks.Goals as goal

-- behind the last cell there are no marks
filled_behind : (seen l : List ℕ) → length seen ≤ length l → Filled (λ k. mark_in (get_or seen k 0)) (length seen) l
    → Filled (λ k. mark_in (get_or seen k 0)) (length l)
    (put_mid (length seen) (length l - length seen) l (replicate (length l - length seen) 0))
filled_behind seen l s f =
    record {
      each = λ k h. elim (cases_lt k (length seen)) [
        | inl b ↦ search (rules, places) ∙ f.each k b
        | inr e ↦ search (rules, places) ∙ mark_behind seen k e
      ];
    }

laid_so : (seen l zs : List ℕ) → length seen ≤ length l → length l ≡ marks_size → Filled (λ k. mark_in (get_or seen k 0)) (length seen) l
    → zs ≡ replicate (length l - length seen) 0 → put_mid (length seen) (length l - length seen) l zs ≡ laid_of seen
laid_so seen l zs s e f z =
    let n = length l - length seen in
    let m : length (put_mid (length seen) n l (replicate n 0)) ≡ length l =
    same_len_mid (length seen) n l (replicate n 0) (length-replicate n 0 ∙ search (rules, overwrites)) in
    rw z (filled_laid seen _ (length l) (omega arith) (m ∙ e) (omega arith) (filled_behind seen l s f))

pub loop-i-init : goal.loop-i-init
loop-i-init c = (refl, filled_none _ _)

pub loop-i-preserved : goal.loop-i-preserved
loop-i-preserved c =
    let pre = c.requires in
    let l = c.loop-i.invariant.0 in
    let p = pre.0 in
    (simp length-set l, filled_more _ _ _ _ (omega arith) c.mark_in.ensures c.loop-i.invariant.1)

pub returns : goal.returns
returns c =
    let p = c.requires in
    let i = c.loop-i.invariant in
    let e : c.loop-i.i ≡ length c.args.seen.now = omega (arith, c.loop-i-test.false, c.loop-i.auto) in
    laid_so _ _ _ (omega arith) (i.0 ∙ p.1) (subst (λ n. Filled (λ k. mark_in (get_or c.args.seen.now k 0)) n c.loop-i.marks) e i.1)
    (c.fill.ensures.after (λ y q. q) ∙ search rules)
