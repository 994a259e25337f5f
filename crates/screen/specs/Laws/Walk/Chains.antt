-- The model's rounds as a chain, what later rounds keep of earlier ones, and that the rounds come to every reachable token outside bodies.
-- Assumes nothing.
use Prim.Native.Nat.{ℕ, zero, suc, ◌≤◌, ◌<◌}
use Rattle.std.proofs.Common.{arith, sym, ap, ◌∙◌, subst, T_not}
use Rattle.std.specs.Prelude.{◌≡◌, refl, true, false, List, ◌≢◌, T, get_or}
use Rattle.std.proofs.lemmas.List.{length-replicate}
use Rattle.cells.specs.Laws.Tests.{when_is}
use Rattle.cells.specs.Laws.Facts.{is_true, is_false}
use Rattle.rom.specs.Header.{length_of, wide_of}
use Rattle.rom.specs.Sizes.{rom_most}
use Rattle.tokens.specs.Place.{read_of}
use Rattle.tokens.specs.Body.{kind_of}
use Rattle.tokens.specs.Table.{programs_most}
use Rattle.screen.specs.Effect.{fixes}
use Rattle.screen.specs.Laws.Found.Model.{Board, RoundEnd, sum_at, round_end, round_rest, go_on, round_good, rounds_of, room_of}
use Rattle.screen.specs.Laws.Found.Model.{first_board}
use Rattle.screen.specs.Laws.Found.Room.{zeros}
use Rattle.screen.specs.Laws.Walk.Rounds.{ran, far_of, left, turn_of, Ready, Ran, Next, on, Chain, ends, goes, good_ran}
use Rattle.screen.specs.Laws.Walk.Boards.{advanced}
use Rattle.screen.specs.Laws.Walk.Walking.{walked_below}

module _ (rom : List ℕ) (fits : length_of rom ≤ rom_most) where
  -- ---- a run of the model that is good is a chain of rounds
  abbrev Chained : Board → RoundEnd → Type 0
  Chained b y = y.good ≡ true → Chain rom b y.board

  refused : {b : Board} (c : Board) → Chained b (round_end false c)
  refused c e = absurd (subst T (sym e) tt)

  module _ (b : Board) (y : Ready rom b) (r : Ran rom b) (go : Board → RoundEnd) (later : (c : Board) → Ready rom c → Chained c (go c))
    where
      on_chain : T (fixes r.token) → Chained b (go_on go (turn_of rom b r.token))
      on_chain f =
          when_is (Chained b) (turn_of rom b r.token).good _ _
          (λ g h. let n = on r f (is_true (turn_of rom b r.token).good g) in goes n (later _ (advanced rom fits y n).1.ready h))
          (λ g h. absurd (subst T (sym h ∙ is_false (turn_of rom b r.token).good g) tt))

      rest_chain : Chained b (round_rest (λ t. turn_of rom b t) (go_on go) (left rom b)
          (read_of rom (length_of rom) b.stand.wide false (far_of rom b)))
      rest_chain =
          subst (λ x. Chained b (round_rest (λ t. turn_of rom b t) (go_on go) (left rom b) x)) (sym r.is)
          (when_is (Chained b) (fixes r.token) _ _ on_chain (λ n e. ends r n))

  pub chain_of : (k : ℕ) (b : Board) → Ready rom b → Chained b (rounds_of rom (length_of rom) k b)
  unfolding rounds_of
  chain_of zero b y = refused b
  chain_of (suc k) b y =
      when_is (Chained b) (round_good rom (length_of rom) b (ran rom b)) _ _
      (λ g. rest_chain b y (good_ran rom fits b y (is_true (round_good rom (length_of rom) b (ran rom b)) g))
      (λ c. rounds_of rom (length_of rom) k c) (λ c z. chain_of k c z))
      (λ g. refused _)

  pub first_ready : Ready rom (first_board (room_of (length_of rom)) (wide_of rom))
  first_ready =
      record {
        seen = length-replicate {A = ℕ} (room_of (length_of rom)) 0;
        kinds = length-replicate {A = ℕ} programs_most 0;
        sums = length-replicate {A = ℕ} programs_most 0;
        fresh = λ p l. zeros (room_of (length_of rom)) p;
        fair = record { height = 0; back = 0; is = refl; low = omega arith; few = omega arith };
      }

  -- ---- what later rounds keep
  pub record Kept (b f : Board) : Type 0 where
    pub seen : (p : ℕ) → p < b.stand.start → get_or f.seen p 0 ≡ get_or b.seen p 0
    pub kinds : (n : ℕ) → kind_of b.kinds n ≢ 0 → kind_of f.kinds n ≡ kind_of b.kinds n
    pub sums : (n : ℕ) → kind_of b.kinds n ≢ 0 → sum_at f.sums n ≡ sum_at b.sums n

  -- a round starts at or before its highest place
  pub climbs : {b : Board} → Ran rom b → b.stand.start ≤ far_of rom b
  climbs r = (r.walked.inside r.walked.highest.1).0

  ran_below : {b : Board} → Ran rom b → (p : ℕ) → p < b.stand.start → get_or (ran rom b).seen p 0 ≡ get_or b.seen p 0
  ran_below r p l = walked_below rom _ _ _ _ _ r.walked p l

  next_kept : {b b' : Board} → Ready rom b → Next rom b b' → Kept b b'
  next_kept y n =
      let z = advanced rom fits y n in
      let c = climbs z.0 in
      record {
        seen = λ p l. z.1.seen p (omega arith) ∙ ran_below z.0 p l;
        kinds = z.1.kinds;
        sums = z.1.sums;
      }

  kept_on : {b c f : Board} → b.stand.start ≤ c.stand.start → Kept b c → Kept c f → Kept b f
  kept_on l h k =
      record {
        seen = λ p i. k.seen p (omega arith) ∙ h.seen p i;
        kinds = λ n i. k.kinds n (λ e. i (sym (h.kinds n i) ∙ e)) ∙ h.kinds n i;
        sums = λ n i. k.sums n (λ e. i (sym (h.kinds n i) ∙ e)) ∙ h.sums n i;
      }

  next_ahead : {b b' : Board} → Ready rom b → Next rom b b' → b.stand.start < b'.stand.start
  next_ahead y n = let z = advanced rom fits y n in let c = climbs z.0 in let a = z.1.ahead in omega arith

  pub chain_kept : {b f : Board} → Ready rom b → Chain rom b f → Kept b f
  chain_kept y (ends r n) = record { seen = λ p l. ran_below r p l; kinds = λ n h. refl; sums = λ n h. refl }
  chain_kept y (goes n c) = let l = next_ahead y n in kept_on (omega arith) (next_kept y n) (chain_kept (advanced rom fits y n).1.ready c)

  -- what a chain leaves at the places of its first round
  pub chain_seen : {b f : Board} → Ready rom b → Chain rom b f → (p : ℕ) → p ≤ far_of rom b
      → get_or f.seen p 0 ≡ get_or (ran rom b).seen p 0
  chain_seen y (ends r n) p l = refl
  chain_seen y (goes n c) p l =
      let z = advanced rom fits y n in
      let a = z.1.ahead in
      (chain_kept z.1.ready c).seen p (omega arith) ∙ z.1.seen p l

  -- ---- from round to round
  pub data Steps : Board → Board → Type 0 where
    here : {b : Board} → Steps b b
    via : {b c d : Board} → Next rom b c → Steps c d → Steps b d

  pub then : {b c d : Board} → Steps b c → Next rom c d → Steps b d
  then here n = via n here
  then (via m s) n = via m (then s n)

  -- the token at the highest place is one
  pub one_token : {b : Board} (r s : Ran rom b) → r.token ≡ s.token
  one_token r s = let e = r.is in let g = s.is in cc (e, g)

  pub next_one : {b c d : Board} → Next rom b c → Next rom b d → c ≡ d
  next_one {b} (on r f g) (on s h i) = ap (λ t. (turn_of rom b t).board) (one_token r s)

  pub chain_next : {b c f : Board} → Chain rom b f → Next rom b c → Chain rom c f
  chain_next (ends r n) (on s h i) = absurd (T_not (fixes r.token) n (rw (one_token r s) h))
  chain_next {f = f} (goes m c) n = subst (λ d. Chain rom d f) (next_one m n) c

  pub chain_steps : {b c f : Board} → Chain rom b f → Steps b c → Chain rom c f
  chain_steps k here = k
  chain_steps k (via n s) = chain_steps (chain_next k n) s

  pub ready_steps : {b c : Board} → Ready rom b → Steps b c → Ready rom c
  ready_steps y here = y
  ready_steps y (via n s) = ready_steps (advanced rom fits y n).1.ready s

  pub steps_kept : {b c : Board} → Ready rom b → Steps b c → (b.stand.start ≤ c.stand.start) × Kept b c
  steps_kept y here = (omega arith, record { seen = λ p l. refl; kinds = λ n h. refl; sums = λ n h. refl })
  steps_kept y (via n s) =
      let l = next_ahead y n in
      let z = steps_kept (advanced rom fits y n).1.ready s in
      let m = z.0 in
      (omega arith, kept_on (omega arith) (next_kept y n) z.1)

  -- of two rounds one comes first
  pub data Order (b c : Board) : Type 0 where
    same : b ≡ c → Order b c
    less : {d : Board} → Next rom b d → Steps d c → Order b c
    more : {d : Board} → Next rom c d → Steps d b → Order b c

  pub order : {a b c : Board} → Steps a b → Steps a c → Order b c
  order here here = same refl
  order here (via n s) = less n s
  order (via n s) here = more n s
  order {c = c} (via n s) (via m u) = order s (subst (λ d. Steps d c) (next_one m n) u)
