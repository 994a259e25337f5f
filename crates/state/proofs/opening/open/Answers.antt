use Rattle.std.proofs.Common.{ap, ◌≡◌, ℕ, List, replicate, sym, ◌∙◌, eq-eqb, rules}
use Rattle.rom.specs.Refusal.{refusal_in}
use Rattle.rom.specs.Spread.{fcode_of}
use Rattle.rom.specs.Sizes.{work_size, store_size}
use Rattle.rom.specs.Laws.Header.{lent_wide}
use Rattle.cells.specs.Laws.Facts.{when_true}
use Rattle.state.specs.Scene.{turn, handed_back}
use Rattle.state.specs.Open.{fresh_state, zero_state, open_refusal, open_of}
use Rattle.state.specs.Answer.{Going, Refused, Stepped}
use Rattle.state.proofs.opening.open.Goals as goal

opened : (rom work store : List ℕ) → open_refusal rom work store ≡ 0
    → open_of rom work store ≡ turn Going (fresh_state rom) (replicate work_size 0) (replicate store_size 0)
unfolding open_of
opened rom work store e = when_true _ (turn (Refused (open_refusal rom work store)) zero_state work store) _ (eq-eqb _ _ e)

-- what is handed back, by the answer and the state
handed_by : (work store : List ℕ) {x y : Stepped} → x ≡ y → handed_back x work store ≡ handed_back y work store
handed_by work store e = ap (λ (x : Stepped). handed_back x work store) e

pub returns : goal.returns
returns c =
    let a = c.args in
    let good : open_refusal (fcode_of a.rom.now) a.work.now a.store.now ≡ 0 =
    simp (eq-eqb _ _ c.if-work-ne-WORK_SIZE.false, eq-eqb _ _ c.if-store-ne-STORE_SIZE.false)
    (sym c.check_header.ensures ∙ ap refusal_in c.in_default.is) in
    handed_by _ _ c.going.ensures
    ∙ rw (
      c.empty_state.ensures,
      c.fresh_tree.ensures,
      c.wide_start.ensures,
      lent_wide a.rom.now,
      c.program_length-length.ensures,
      c.spread_of.ensures,
      c.fill.ensures.after (λ y e. search rules),
      c.fill-2.ensures.after (λ y e. search rules),
      opened _ _ _ good,
      c.if-work-ne-WORK_SIZE.false,
      c.if-store-ne-STORE_SIZE.false,
    )
