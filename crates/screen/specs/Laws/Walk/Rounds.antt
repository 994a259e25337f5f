-- The rounds of the model: what each finds, how one leads to the next, and that every reachable token outside bodies belongs to one.
-- Assumes nothing.
use Rattle.std.specs.Prelude.{ℕ, suc, ◌-◌, ◌≤◌, ◌<◌, ◌≡◌, Bool, true, false, not, List, ◌≢◌, T, length, get_or, Ok}
use Rattle.std.proofs.Common.{arith, ◌∙◌, sym}
use Rattle.cells.specs.Laws.Facts.{and_first, and_second}
use Rattle.rom.specs.Header.{length_of}
use Rattle.rom.specs.Sizes.{rom_most, data_most}
use Rattle.tokens.specs.Place.{read_of}
use Rattle.tokens.specs.declared.decoding.Token.{Token}
use Rattle.tokens.specs.Table.{programs_most}
use Rattle.screen.specs.Effect.{fixes}
use Rattle.screen.specs.Laws.Found.Model.{Path, Board, RoundEnd, outside_text, on_seen, round_of, round_good, advance_of, apart_of, room_of}
use Rattle.screen.specs.Laws.Walk.Visits.{Fits, visit_fits}
use Rattle.screen.specs.Laws.Walk.Walking.{At, Given, Walked, at_real, walk_good, walked_above}
use Rattle.screen.specs.Laws.Walk.Apart.{Apart, apart_good}
use Rattle.screen.specs.Laws.Found.Room.{has_room}
use Rattle.screen.specs.declared.walking.Text.{Text as Scope}
use Rattle.screen.specs.Laws.Found.Cell.{heights, cell_some, Bound}

module _ (rom : List ℕ) where
  -- a round's walk, the highest place that it comes to, what it leaves
  abbrev pub ran : Board → Path
  ran b = round_of rom (length_of rom) b

  abbrev pub far_of : Board → ℕ
  far_of b = (ran b).walk.far

  abbrev pub left : Board → Board
  left b = on_seen b (ran b).seen

  abbrev pub OutAt : Board → ℕ → ℕ → Type 0
  OutAt b p c = At rom (outside_text (length_of rom) b.stand) b.kinds b.sums b.stand.start b.stand.cell p c

  abbrev pub turn_of : Board → Token → RoundEnd
  turn_of b t = advance_of rom (length_of rom) (left b) (get_or (ran b).seen (far_of b) 0) t

  -- what every round starts with
  pub record Ready (b : Board) : Type 0 where
    pub seen : length b.seen ≡ room_of (length_of rom)
    pub kinds : length b.kinds ≡ programs_most
    pub sums : length b.sums ≡ programs_most
    pub fresh : (p : ℕ) → b.stand.start ≤ p → get_or b.seen p 0 ≡ 0
    pub fair : Bound data_most b.stand.cell

  -- a round that is good: what it walked, no overlaps, and the token at its highest place
  pub record Ran (b : Board) : Type 0 where
    pub walked : Walked rom (outside_text (length_of rom) b.stand) b.kinds b.sums b.stand.start b.stand.cell b.seen
        (ran b)
    pub some : {p c : ℕ} → OutAt b p c → c ≢ 0
    pub apart : Apart rom (outside_text (length_of rom) b.stand) (ran b).seen b.stand.start (far_of b)
    pub token : Token
    pub is : read_of rom (length_of rom) b.stand.wide false (far_of b) ≡ Ok token

  -- a round leaves as many cells as there were
  pub ran_size : {b : Board} → Ready b → Ran b → length (ran b).seen ≡ room_of (length_of rom)
  ran_size y r = r.walked.size ∙ y.seen

  -- above the highest place of a round nothing is marked
  pub ran_above : {b : Board} → Ready b → Ran b → (p : ℕ) → far_of b < p → get_or (ran b).seen p 0 ≡ 0
  ran_above y r p l = let s = r.walked.inside r.walked.highest.1 in
      walked_above rom _ _ _ _ _ r.walked p l ∙ y.fresh p (omega arith)

  -- one round leads to the next
  pub data Next (b : Board) : Board → Type 0 where
    on : (r : Ran b) → T (fixes r.token) → (turn_of b r.token).good ≡ true → Next b (turn_of b r.token).board

  -- rounds up to the last, and what that leaves
  pub data Chain : Board → Board → Type 0 where
    ends : {b : Board} → (r : Ran b) → T (not (fixes r.token)) → Chain b (left b)
    goes : {b b' f : Board} → Next b b' → Chain b' f → Chain b f

  module _ (fits : length_of rom ≤ rom_most) where
    pub good_ran : (b : Board) → Ready b → round_good rom (length_of rom) b (ran b) ≡ true → Ran b
    unfolding round_of
    good_ran b y e = record {
      walked = w;
      some = λ i. (at_real rom x b.kinds b.sums b.stand.start b.stand.cell given i).0;
      apart = a;
      token = f.token;
      is = f.meets.is;
    }
      where
        x : Scope
        x = outside_text (length_of rom) b.stand

        fair : Bound data_most b.stand.cell
        fair = y.fair

        positive : b.stand.cell ≢ 0
        positive z = cell_some (heights fair.height fair.back) (sym fair.is ∙ z)

        test : Bool
        test = apart_of rom x (ran b).seen (far_of b) (suc (far_of b) - b.stand.start) b.stand.start 0

        given : Given rom x b.kinds b.sums b.stand.start b.stand.cell b.seen
        given =
            let h = has_room (length_of rom) fits y.seen in
            record {
              room = h.0;
              few = h.1;
              unlike = positive;
              some = positive;
              fresh = λ p l h n. y.fresh p l;
            }

        w : Walked rom x b.kinds b.sums b.stand.start b.stand.cell b.seen (ran b)
        w = walk_good rom x b.kinds b.sums b.stand.start b.stand.cell given (and_first (ran b).walk.good test e)

        a : Apart rom x (ran b).seen b.stand.start (far_of b)
        a = apart_good rom x (ran b).seen b.stand.start (far_of b) (w.inside w.highest.1).0
            (and_second (ran b).walk.good test e)

        f : Fits rom x b.kinds b.sums (far_of b) w.highest.0
        f = visit_fits rom x b.kinds b.sums (far_of b) w.highest.0 (w.fine w.highest.1)
