-- The counts of numbers, nodes and open children, where the model's rounds pass. Assumes nothing.
use Rattle.std.specs.Prelude.{ℕ, suc, ◌≤◌, ◌≡◌, ◌||◌, List, T}
use Rattle.std.proofs.Common.{arith, ap, ◌∙◌}
use Rattle.cells.specs.Laws.Tests.{pick_is}
use Rattle.cells.specs.Laws.Facts.{or_first, or_second}
use Rattle.rom.specs.Header.{length_of}
use Rattle.rom.specs.Sizes.{numbers_most, nodes_most, rom_most}
use Rattle.tokens.specs.Family.{define, widen, finish, new_device, finish_device}
use Rattle.tokens.specs.declared.decoding.Token.{Token}
use Rattle.screen.specs.Effect.{is_a, fixes}
use Rattle.screen.specs.Reach.{Setting, nodes_after, numbers_after, Met}
use Rattle.screen.specs.Laws.Rules.Ways.{define_fixes}
use Rattle.screen.specs.Laws.Found.Model.{Board}
use Rattle.screen.specs.Laws.Walk.Rounds.{Ready, Chain}
use Rattle.screen.specs.Laws.Walk.Boards.{advanced}
use Rattle.screen.specs.Laws.Walk.Chains.{Steps, here, via, first_ready}
use Rattle.screen.specs.Laws.Accept.Cover.{start, Follows}
use Rattle.screen.specs.Laws.Accept.Outside.{out_of, out_meets, passing}

module _ (rom : List ℕ) (fits : length_of rom ≤ rom_most) {last : Board} (passed : Chain rom (start rom fits) last) where
  record Counts (b : Board) : Type 0 where
    numbers : b.stand.count ≤ numbers_most
    nodes : b.stand.nodes ≤ nodes_most

  counts_steps : {b c : Board} → Ready rom b → Counts b → Steps rom fits b c → Counts c
  counts_steps y k here = k
  counts_steps {b} y k (via {c = c} n s) =
      let z = advanced rom fits y n in
      let t = z.0.token in
      counts_steps z.1.ready
      (record {
        numbers = rw (ap (λ (v : Setting). v.numbers) z.1.setting)
            (pick_is (λ j. j ≤ numbers_most) (is_a define t) (suc b.stand.count) b.stand.count (λ d. z.1.few d) (λ d. k.numbers));
        nodes = rw (ap (λ (v : Setting). v.nodes) z.1.setting)
            (pick_is (λ j. j ≤ nodes_most) (is_a new_device t) (suc b.stand.nodes) b.stand.nodes (λ d. z.1.planted d)
            (λ d. k.nodes));
      }) s

  counts : {b : Board} → Follows rom fits b → Counts b
  counts h = counts_steps (first_ready rom fits) (record { numbers = omega arith; nodes = omega arith }) h

  pub few_numbers : {p : ℕ} {s : Setting} {t : Token} → Met rom 0 s p t → numbers_after t s.numbers ≤ numbers_most
  few_numbers {s = s} {t} m =
      rw (out_of rom fits passed m).setting (pick_is (λ j. j ≤ numbers_most) (is_a define t)
      (suc (out_of rom fits passed m).board.stand.count) (out_of rom fits passed m).board.stand.count
      (λ d. (passing rom fits passed m (define_fixes t d)).does.few d) (λ d. (counts (out_of rom fits passed m).follows).numbers))

  node_fixes : (t : Token) → T (is_a new_device t) → T (fixes t)
  node_fixes t d = or_first (is_a define t || is_a widen t || is_a new_device t) (is_a finish_device t)
      (or_second (is_a define t || is_a widen t) (is_a new_device t) d)

  end_fixes : (t : Token) → T (is_a finish_device t) → T (fixes t)
  end_fixes t d = or_second (is_a define t || is_a widen t || is_a new_device t) (is_a finish_device t) d

  pub few_nodes : {p : ℕ} {s : Setting} {t : Token} → Met rom 0 s p t → nodes_after t s.nodes ≤ nodes_most
  few_nodes {s = s} {t} m =
      rw (out_of rom fits passed m).setting (pick_is (λ j. j ≤ nodes_most) (is_a new_device t)
      (suc (out_of rom fits passed m).board.stand.nodes) (out_of rom fits passed m).board.stand.nodes
      (λ d. (passing rom fits passed m (node_fixes t d)).does.planted d) (λ d. (counts (out_of rom fits passed m).follows).nodes))

  pub some_children : {p : ℕ} {s : Setting} {t : Token} → Met rom 0 s p t → T (is_a finish_device t) → 1 ≤ s.children
  some_children {s = s} {t} m d = rw (out_of rom fits passed m).setting
      (let n = (passing rom fits passed m (end_fixes t d)).does.finished d in omega arith)

  pub no_children : {p : ℕ} {s : Setting} {t : Token} → Met rom 0 s p t → T (is_a finish t) → s.children ≡ 0
  no_children {s = s} {t} m d = ap (λ (v : Setting). v.children) (out_of rom fits passed m).setting
      ∙ (out_meets rom fits passed m).childless d
