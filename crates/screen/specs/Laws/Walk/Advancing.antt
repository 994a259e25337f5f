-- What the token that ends a round does to the board. Assumes nothing.
use Rattle.std.specs.Prelude.{ℕ, suc, ◌<◌, ◌≡◌, true, false, not, List, ◌≢◌, eqb, ltb}
use Rattle.std.proofs.Common.{sym, subst}
use Rattle.std.proofs.Math.Dec.{T, eqb→eq, ltb→lt}
use Rattle.cells.specs.Laws.Tests.{when_is, neqb→ne}
use Rattle.cells.specs.Laws.Facts.{holds, is_true, is_false, both_hold}
use Rattle.rom.specs.Sizes.{nodes_most, numbers_most, rom_most}
use Rattle.tokens.specs.Family.{widen, define, new_device, finish_device}
use Rattle.tokens.specs.Body.{kind_of}
use Rattle.tokens.specs.Definition.{new_number, kind_in}
use Rattle.tokens.specs.declared.decoding.Token.{Token}
use Rattle.screen.specs.Effect.{is_a, fixes, is_colon, value_sum}
use Rattle.screen.specs.Reach.{Setting}
use Rattle.screen.specs.Laws.Found.Model.{Path, Board, RoundEnd, Marked, board, round_end, stood_on, on_stand, new_node, closed_node}
use Rattle.screen.specs.Laws.Found.Model.{entry_of, is_new, sum_told, places}
use Rattle.screen.specs.Laws.Found.Model.{starts_of, body_walked, passes_of, shift_of, body_shifted, colon_of, define_of, advance_of}
use Rattle.screen.specs.declared.rounds.Stand.{Stand}
use Rattle.screen.specs.Laws.Found.Model.{Tally}

abbrev pub setting_of : Stand → Setting
setting_of s = record { wide = s.wide; children = s.children; nodes = s.nodes; numbers = s.count }

module _ (rom : List ℕ) (len : ℕ) (b : Board) (cell : ℕ) (t : Token) where
  abbrev pub number_in : ℕ
  number_in = new_number t.operand

  abbrev pub stood : Stand
  stood = stood_on b.stand t cell

  -- of a body: its starts, its walk, its tally
  abbrev pub marks_in : Marked
  marks_in = starts_of rom len stood.wide b.kinds rom_most t.next b.seen

  abbrev pub path_in : Path
  path_in = body_walked rom len stood.wide b t.next marks_in

  abbrev pub tally_in : Tally
  tally_in = path_in.walk.tally

  abbrev pub shifted_in : List ℕ
  shifted_in = shift_of tally_in.need (places t.next marks_in.end) t.next path_in.seen

  -- what was done, and the board then
  pub data Did : Board → Type 0 where
    widens : T (is_a widen t) → Did (on_stand b stood)
    plants : T (is_a new_device t) → b.stand.nodes < nodes_most → Did (new_node b stood).board
    finishes : T (is_a finish_device t) → b.stand.children ≢ 0 → Did (closed_node b stood).board
    values : T (is_a define t) → T (not (is_colon t)) → kind_of b.kinds number_in ≡ 0 → b.stand.count < numbers_most
        → Did (entry_of b stood number_in (kind_in t.operand) value_sum t.next)
    bodies : T (is_a define t) → T (is_colon t) → kind_of b.kinds number_in ≡ 0 → b.stand.count < numbers_most → marks_in.good ≡ true
        → path_in.walk.good ≡ true → passes_of tally_in ≡ true
        → Did (entry_of (board shifted_in b.kinds b.sums stood) stood number_in 0xB7 (sum_told tally_in) (suc marks_in.end))

  -- a turn that is good has done one of them
  abbrev DidIn : RoundEnd → Type 0
  DidIn y = y.good ≡ true → Did y.board

  bad_turn : (c : Board) → DidIn (round_end false c)
  bad_turn c e = absurd (subst T (sym e) tt)

  colon_did : T (is_a define t) → T (is_colon t) → kind_of b.kinds number_in ≡ 0 → b.stand.count < numbers_most
      → DidIn (colon_of rom len b stood number_in t.next)
  unfolding colon_of body_shifted
  colon_did d c k n =
      when_is DidIn marks_in.good _ _
      (λ m. when_is DidIn path_in.walk.good _ _ (λ a e. bodies d c k n (is_true marks_in.good m) (is_true path_in.walk.good a) e)
      (λ a. bad_turn _))
      (λ m. bad_turn _)

  define_did : T (is_a define t) → DidIn (define_of rom len b stood t)
  unfolding define_of
  define_did d =
      when_is DidIn (is_new b number_in) _ _
      (λ i.
      let h = both_hold (eqb (kind_of b.kinds number_in) 0) (ltb b.stand.count numbers_most) i in
      let k = eqb→eq _ 0 h.0 in
      let n = ltb→lt _ _ h.1 in
      when_is DidIn (eqb (kind_in t.operand) 0xB7) _ _ (λ c. colon_did d (colon d c) k n) (λ c e. values d (other d c) k n))
      (λ i. bad_turn _)
    where
      colon : T (is_a define t) → T (eqb (kind_in t.operand) 0xB7) → T (is_colon t)
      colon d c = rw (is_true (is_a define t) d) c

      other : T (is_a define t) → T (not (eqb (kind_in t.operand) 0xB7)) → T (not (is_colon t))
      other d c = rw (is_true (is_a define t) d) c

  pub advance_did : T (fixes t) → DidIn (advance_of rom len b cell t)
  unfolding advance_of
  advance_did f =
      when_is DidIn (is_a define t) _ _ define_did (λ nd.
      when_is DidIn (is_a new_device t) _ _ (λ n e. plants n (ltb→lt _ _ (holds _ e))) (λ nn.
      when_is DidIn (is_a widen t) _ _ (λ w e. widens w) (λ nw e. finishes (the_last nd nn nw) (λ z. neqb→ne _ 0 (holds _ e) z))))
    where
      the_last : T (not (is_a define t)) → T (not (is_a new_device t)) → T (not (is_a widen t)) → T (is_a finish_device t)
      the_last nd nn nw = rw (is_false (is_a define t) nd, is_false (is_a new_device t) nn, is_false (is_a widen t) nw) at f
