-- The rounds' definitions, by what the code has learnt where it returns. Assumes nothing.
use Prim.Native.Nat.{ℕ, zero, suc, ◌+◌, ◌-◌, ◌*◌, ◌<◌, ◌≤◌}
use Rattle.std.specs.Prelude.{◌≡◌, Bool, not, ◌&&◌, ◌||◌, List, ◌≢◌, get_or, set, T, ltb, leb, eqb, Option, Some, None, Err, Ok, Result}
use Rattle.std.proofs.Math.Path.{refl, ap}
use Rattle.std.proofs.Common.{sym, ◌∙◌, subst, add-one, leb→le, ltb→lt}
use Rattle.std.proofs.Math.Bool.{true, false, or-true}
use native.Mathlib.Omega.{arith}
use borrow.Author.Tests.{lt-ltb, le-leb, lt-leb, eq-eqb, ne_eqb}
use Rattle.cells.specs.Laws.Facts.{holds, both_hold, when_true, when_false}
use Rattle.rom.specs.Sizes.{numbers_most, nodes_most, rom_most, data_most}
use Rattle.tokens.specs.Family.{plain, widen, define, new_device}
use Rattle.tokens.specs.Table.{is_program, first_program, last_program}
use Rattle.tokens.specs.Code.{family_in}
use Rattle.tokens.specs.Decode.{formed, is_kind}
use Rattle.tokens.specs.Body.{kind_of}
use Rattle.tokens.specs.Place.{misplaced_of, read_of}
use Rattle.tokens.specs.Laws.Tokens.{none_starts, next_ahead}
use Rattle.tokens.specs.Joints.Glance.{glance_of}
use Rattle.tokens.specs.Laws.Glance.{glance_refused, glance_misplaced, glance_read}
use Rattle.tokens.specs.Joints.Quick.{QuickRead}
use Rattle.tokens.specs.Definition.{new_number, kind_in, takes_here}
use Rattle.tokens.specs.declared.decoding.Operand.{Operand}
use Rattle.tokens.specs.declared.decoding.Operand.TheVariants.{Nothing, Literal, Text, Branch, Number, Definition}
use Rattle.tokens.specs.declared.decoding.Token.{Token}
use Rattle.tokens.specs.declared.glance.Glance.{Glance}
use Rattle.tokens.specs.declared.quick.Quick.{Quick}
use Rattle.tokens.specs.Laws.Stands.{stands}
use Rattle.screen.specs.Effect.{is_a, fixes, value_sum}
use Rattle.screen.specs.Laws.Code.Body.{Bounded, SurveyGood, off_on}
use Rattle.screen.specs.Laws.Code.Keep.{bounded_more, bounded_shift, WalkKept, walked_kept}
use Rattle.screen.specs.Laws.Code.Visit.{tally_in, fixes_by}
use Rattle.screen.specs.Laws.Code.Walk.{EndsWell}
use Rattle.screen.specs.Laws.Found.Model.{sum_told, shift_of, places}
use Rattle.screen.specs.Laws.Found.Model.{slot, Path, walk_all, end_in, fixed_in, apart_of, Board, board}
use Rattle.screen.specs.Laws.Found.Model.{RoundEnd, round_end}
use Rattle.screen.specs.Laws.Found.Model.{outside_text, stood_on, with_nodes, with_count, on_stand, new_node, closed_node, entry_of}
use Rattle.screen.specs.Laws.Found.Model.{on_seen}
use Rattle.screen.specs.Laws.Found.Model.{colon_of}
use Rattle.screen.specs.Laws.Found.Model.{is_new, define_of}
use Rattle.screen.specs.Laws.Found.Model.{advance_of, round_of, round_good, round_rest, go_on, rounds_of}
use Rattle.screen.specs.declared.effect.Sum.{Sum}
use Rattle.screen.specs.declared.walking.Text.{Text as Scope}
use Rattle.screen.specs.declared.walking.Walk.{Walk as Walked}
use Rattle.screen.specs.declared.rounds.Stand.{Stand}
use Rattle.screen.specs.declared.body.Survey.{Survey}
use Rattle.screen.specs.declared.rounds.After.{After}
use Rattle.screen.specs.declared.rounds.After.TheVariants.{Fails, Ends, Goes}
use Rattle.screen.specs.Laws.Found.Cell.{cell_with, height_in, back_in, heights, lower_cell, cell_some, body_most}
use Rattle.screen.specs.Laws.Found.Sums.{packed_sum}

-- ---- overlaps
-- a token that ends a round is the highest
abbrev pub highest_in : ℕ → ℕ → Result Token ℕ → Bool
highest_in far p r = eqb p far || not (fixed_in r)

-- the place behind a token, where it may stand
pub record Ended (may : Bool) (end : ℕ) (y : Option ℕ) : Type 0 where
  pub barred : y ≡ None → may ≡ false
  pub stands : (q : ℕ) → y ≡ Some q → (may ≡ true) × (end ≡ q)

ended_at : {may : Bool} {end y : ℕ} → may ≡ true → end ≡ y → Ended may end (Some y)
ended_at m e = record { barred = λ z. cc; stands = λ q z. (m, cc) }

ended_not : {may : Bool} (end : ℕ) → may ≡ false → Ended may end None
ended_not end m = record { barred = λ z. m; stands = λ q z. cc }

-- by a glance at the token, wherever that was taken
abbrev pub EndBy : ℕ → ℕ → Glance → Option ℕ → Type 0
EndBy far p g y =
    (rom : List ℕ) (length : ℕ) (wide : Bool) → glance_of rom length wide p ≡ g
    → Ended (highest_in far p (read_of rom length wide false p)) (end_in p (read_of rom length wide false p)) y

module _ (far p : ℕ) where
  -- what is refused there
  end_refused : (r : Result Token ℕ) (why : ℕ) → r ≡ Err why → Ended (highest_in far p r) (end_in p r) (Some (p + 1))
  end_refused r why e = ended_at (rw e (or-true (eqb p far))) (rw (e, add-one) refl)

  module _ (g : Glance) where
    pub end_none : g.code ≡ 0 → EndBy far p g (Some (p + 1))
    end_none z rom length wide e =
        let r = glance_refused rom length wide false p g e z in
        end_refused (read_of rom length wide false p) r.0 r.1

    pub end_misplaced : misplaced_of g.code false ≡ true → EndBy far p g (Some (p + 1))
    end_misplaced m rom length wide e = end_refused (read_of rom length wide false p) 18 (glance_misplaced rom length wide false p g e m)

    module _ (z : g.code ≡ 0 → ⊥) (m : misplaced_of g.code false ≡ false) where
      -- the highest, or one that does not end a round
      end_whole : (rom : List ℕ) (length : ℕ) (wide : Bool) → glance_of rom length wide p ≡ g
          → highest_in far p (read_of rom length wide false p) ≡ true
          → Ended (highest_in far p (read_of rom length wide false p)) (end_in p (read_of rom length wide false p)) (Some g.next)
      end_whole rom length wide e h =
          let s = glance_read rom length wide false p g e z m in
          ended_at h (rw s.1 (ap (λ (y : Glance). y.next) s.2))

      pub end_far : p ≡ far → EndBy far p g (Some g.next)
      end_far f rom length wide e = end_whole rom length wide e (rw (eq-eqb _ _ f) refl)

      module _ (f : p ≡ far → ⊥) (b : Bool) (h : b ≡ fixes_by g.code) where
        fixed_so : (rom : List ℕ) (length : ℕ) (wide : Bool) → glance_of rom length wide p ≡ g
            → highest_in far p (read_of rom length wide false p) ≡ not b
        fixed_so rom length wide e =
            let s = glance_read rom length wide false p g e z m in
            let c : s.0.code ≡ g.code = ap (λ (y : Glance). y.code) s.2 in
            rw (ne_eqb _ _ f, s.1, c, h) refl

        pub end_fixed : b ≡ true → EndBy far p g None
        end_fixed t rom length wide e = ended_not _ (fixed_so rom length wide e ∙ rw t refl)

        pub end_other : b ≡ false → EndBy far p g (Some g.next)
        end_other t rom length wide e = end_whole rom length wide e (fixed_so rom length wide e ∙ rw t refl)

-- a place of a round: whether what stands there may
unfoldable pub may_of : List ℕ → Scope → ℕ → ℕ → ℕ → ℕ → Bool
may_of rom x far cell p free =
    elim (eqb cell 0) [ true ↦ true | false ↦ leb free p && highest_in far p (read_of rom x.length x.wide false p) ]

-- and the place before which no token may start then
unfoldable pub free_of : List ℕ → Scope → ℕ → ℕ → ℕ → ℕ
free_of rom x cell p free = elim (eqb cell 0) [ true ↦ free | false ↦ end_in p (read_of rom x.length x.wide false p) ]

abbrev pub PassIs : List ℕ → Scope → ℕ → ℕ → ℕ → ℕ → Option ℕ → Type 0
PassIs rom x far cell p free y = Ended (may_of rom x far cell p free) (free_of rom x cell p free) y

module _ (rom : List ℕ) (x : Scope) (far cell p free : ℕ) where
  abbrev read : Result Token ℕ
  read = read_of rom x.length x.wide false p

  pub pass_none : cell ≡ 0 → PassIs rom x far cell p free (Some free)
  unfolding may_of free_of
  pass_none z = ended_at (when_true _ _ (eqb cell 0) (eq-eqb _ _ z)) (when_true _ _ (eqb cell 0) (eq-eqb _ _ z))

  module _ (z : cell ≡ 0 → ⊥) where
    may_is : may_of rom x far cell p free ≡ (leb free p && highest_in far p read)
    unfolding may_of
    may_is = when_false _ _ (eqb cell 0) (ne_eqb _ _ z)

    free_is : free_of rom x cell p free ≡ end_in p read
    unfolding free_of
    free_is = when_false _ _ (eqb cell 0) (ne_eqb _ _ z)

    pub pass_early : p < free → PassIs rom x far cell p free None
    pass_early l = ended_not _ (rw (may_is, lt-leb _ _ l) refl)

    module _ (l : free ≤ p) where
      pass_met : (y : Option ℕ) → Ended (highest_in far p read) (end_in p read) y → PassIs rom x far cell p free y
      pass_met y k =
          let m : may_of rom x far cell p free ≡ highest_in far p read = rw (may_is, le-leb _ _ l) refl in
          record { barred = λ n. m ∙ k.barred n; stands = λ q n. let s = k.stands q n in (m ∙ s.0, free_is ∙ s.1) }

      pub pass_past : x.length ≤ p → PassIs rom x far cell p free (Some (p + 1))
      pass_past n = pass_met (Some (p + 1)) (end_refused far p read 10 (none_starts rom x.length x.wide false p n))

      pub pass_quick : (q : Quick) → QuickRead rom x.length p q → PassIs rom x far cell p free (Some q.next)
      pass_quick q k =
          let r = k.read x.wide false in
          let f : family_in r.0.code ≡ plain = rw r.2 k.plainly in
          pass_met (Some q.next) (ended_at (rw (r.1, f) (or-true (eqb p far))) (rw r.1 r.3))

      pub pass_glance : (g : Glance) → g ≡ glance_of rom x.length x.wide p → (y : Option ℕ) → EndBy far p g y
          → PassIs rom x far cell p free y
      pass_glance g e y k = pass_met y (k rom x.length x.wide (sym e))

-- what follows a place that was passed
abbrev after_round : (ℕ → Bool) → Bool → ℕ → Bool
after_round go may free = elim may [ true ↦ go free | false ↦ false ]

same_ways : (go : ℕ → Bool) (free end : ℕ) (none may : Bool)
    → elim none [ true ↦ go free | false ↦ elim may [ true ↦ go end | false ↦ false ] ]
    ≡ after_round go (elim none [ true ↦ true | false ↦ may ]) (elim none [ true ↦ free | false ↦ end ])
same_ways go free end true may = refl
same_ways go free end false may = refl

same_free : (go : ℕ → Bool) (free end : ℕ) (none may may₀ : Bool) → go free ≡ go 0 → may ≡ may₀
    → ◌≡◌ {A = Bool} (elim none [ true ↦ go free | false ↦ elim may [ true ↦ go end | false ↦ false ] ])
    (elim none [ true ↦ go 0 | false ↦ elim may₀ [ true ↦ go end | false ↦ false ] ])
same_free go free end true may may₀ e f = e
same_free go free end false may may₀ e f = rw f refl

module _ (rom : List ℕ) (x : Scope) (seen : List ℕ) (far : ℕ) where
  apart_is : (k p free : ℕ) → apart_of rom x seen far (suc k) p free
      ≡ after_round (λ f. apart_of rom x seen far k (suc p) f) (may_of rom x far (get_or seen p 0) p free)
      (free_of rom x (get_or seen p 0) p free)
  unfolding apart_of may_of free_of
  apart_is k p free =
      same_ways (λ f. apart_of rom x seen far k (suc p) f) free (end_in p (read_of rom x.length x.wide false p)) (eqb (get_or seen p 0) 0)
      (leb free p && highest_in far p (read_of rom x.length x.wide false p))

  -- a place that lies behind bars no token
  pub apart_free : (k p free : ℕ) → free ≤ p → apart_of rom x seen far k p free ≡ apart_of rom x seen far k p 0
  unfolding apart_of
  apart_free zero p free l = refl
  apart_free (suc k) p free l =
      same_free (λ f. apart_of rom x seen far k (suc p) f) free (end_in p (read_of rom x.length x.wide false p)) (eqb (get_or seen p 0) 0)
      (leb free p && highest_in far p (read_of rom x.length x.wide false p))
      (leb 0 p && highest_in far p (read_of rom x.length x.wide false p))
      (apart_free k (suc p) free (omega arith)) (rw (le-leb free p l, le-leb 0 p (omega arith)) refl)

  pub apart_spent : (k p free : ℕ) → k ≡ 0 → apart_of rom x seen far k p free ≡ true
  unfolding apart_of
  apart_spent zero p free e = refl
  apart_spent (suc k) p free e = absurd (omega arith)

  pub apart_fails : (k p free cell : ℕ) (y : Option ℕ) → 0 < k → cell ≡ get_or seen p 0 → PassIs rom x far cell p free y → y ≡ None
      → apart_of rom x seen far k p free ≡ false
  apart_fails zero p free cell y h d i g = absurd (omega arith)
  apart_fails (suc k) p free cell y h d i g =
      let j = rw d at i in
      apart_is k p free ∙ when_false _ _ (may_of rom x far (get_or seen p 0) p free) (j.barred g)

  apart_turn : (k p free cell : ℕ) (y : Option ℕ) (q : ℕ) → 0 < k → cell ≡ get_or seen p 0 → PassIs rom x far cell p free y → y ≡ Some q
      → apart_of rom x seen far (k - 1) (p + 1) q ≡ apart_of rom x seen far k p free
  apart_turn zero p free cell y q h d i g = absurd (omega arith)
  apart_turn (suc k) p free cell y q h d i g =
      let z : suc k - 1 ≡ k = omega arith in
      let j = rw d at i in
      let s = j.stands q g in
      rw (z, add-one)
      (sym (apart_is k p free ∙ when_true _ _ (may_of rom x far (get_or seen p 0) p free) s.0
      ∙ ap (λ (f : ℕ). apart_of rom x seen far k (suc p) f) s.1))

  -- the places from one to the last, and those behind it
  pub apart_on : (end p free cell : ℕ) (y : Option ℕ) (q : ℕ) → p < end → cell ≡ get_or seen p 0 → PassIs rom x far cell p free y
      → y ≡ Some q
      → apart_of rom x seen far (end - (p + 1)) (p + 1) q ≡ apart_of rom x seen far (end - p) p free
  apart_on end p free cell y q h d i g =
      let z : end - (p + 1) ≡ end - p - 1 = omega arith in
      rw z (apart_turn (end - p) p free cell y q (omega arith) d i g)

-- ---- where a round starts
pub record StandFits (s : Stand) : Type 0 where
  pub start : s.start ≤ rom_most
  pub some : s.start ≢ 0
  pub real : s.cell ≢ 0
  pub children : s.children ≤ s.nodes
  pub nodes : s.nodes ≤ nodes_most

-- ---- tokens that were read
pub record DefinesWithin (length : ℕ) (t : Token) : Type 0 where
  pub number : new_number t.operand ≤ last_program
  pub kind : kind_in t.operand < 256
  pub next : t.next ≤ length
  pub ahead : t.next ≢ 0

abbrev RoundFormed : Operand → Type 0
RoundFormed o = (new_number o ≤ last_program) × (kind_in o < 256)

formed_so : (o : Operand) → T (formed o) → RoundFormed o
formed_so Nothing f = (omega arith, omega arith)
formed_so (Literal n) f = (omega arith, omega arith)
formed_so (Text start count) f = (omega arith, omega arith)
formed_so (Branch bits aim) f = (omega arith, omega arith)
formed_so (Number n) f = (omega arith, omega arith)
formed_so (Definition n k) f =
    let p = both_hold (is_program n) (is_kind k) f in
    let q = both_hold (leb first_program n) (leb n last_program) p.0 in
    let r = both_hold (leb 0xB7 k) (leb k 0xBA) p.1 in
    let u = leb→le n last_program q.1 in
    let v = leb→le k 0xBA r.1 in
    (omega arith, omega arith)

pub defining : (rom : List ℕ) (length : ℕ) (wide within : Bool) (p : ℕ) (t : Token) → read_of rom length wide within p ≡ Ok t
    → DefinesWithin length t
defining rom length wide within p t e =
    let f = formed_so t.operand (stands rom length wide within p t e).formed in
    let a = next_ahead rom length wide within p t e in
    record { number = f.0; kind = f.1; next = a.1; ahead = λ z. omega arith }

-- ---- a token that ended a round
-- it stands or not, and what it leaves: the same as the definition where it stands
pub record NodeStands (m : Board → RoundEnd) (s next : Stand) : Type 0 where
  pub same : (b : Board) → (m b).good ≡ true
  pub whole : (b : Board) → (m b).board ≡ on_stand b next
  pub standing : StandFits next
  pub cell : next.cell ≡ s.cell

abbrev pub NodeIs : (Board → RoundEnd) → Stand → Option Stand → Type 0
NodeIs m s None = (b : Board) → (m b).good ≡ false
NodeIs m s (Some next) = NodeStands m s next

pub record TurnStands (m : RoundEnd) (seen : List ℕ) (most : ℕ) (next : Stand) (seen' kinds' sums' : List ℕ) : Type 0 where
  pub same : m.good ≡ true
  pub whole : m.board ≡ board seen' kinds' sums' next
  pub keeps : (b : ℕ) → 65536 ≤ b → Bounded b seen → Bounded (b + data_most) seen'
  pub standing : StandFits next
  pub cell : next.cell ≤ most

abbrev pub TurnIs : RoundEnd → List ℕ → ℕ → Option Stand → List ℕ → List ℕ → List ℕ → Type 0
TurnIs m seen most None seen' kinds' sums' = m.good ≡ false
TurnIs m seen most (Some next) seen' kinds' sums' = TurnStands m seen most next seen' kinds' sums'

-- ---- rounds
-- the cells of a round matter only where it is good
pub record RoundGood (rom : List ℕ) (length : ℕ) (b : Board) (far : ℕ) (seen' : List ℕ) : Type 0 where
  pub good : round_good rom length b (round_of rom length b) ≡ true
  pub seen : seen' ≡ (round_of rom length b).seen
  pub reached : far ≡ (round_of rom length b).walk.far
  pub keeps : (m : ℕ) → 65536 ≤ m → b.stand.cell ≤ m → Bounded m b.seen → Bounded m seen'

abbrev pub RoundIs : List ℕ → ℕ → Board → Option ℕ → List ℕ → Type 0
RoundIs rom length b None seen' = round_good rom length b (round_of rom length b) ≡ false
RoundIs rom length b (Some far) seen' = RoundGood rom length b far seen'

-- what comes behind a round whose highest place is known
abbrev pub behind : List ℕ → ℕ → Board → ℕ → (Board → RoundEnd) → RoundEnd
behind rom length b far go =
    round_rest (λ t. advance_of rom length b (get_or b.seen far 0) t) (go_on go) b (read_of rom length b.stand.wide false far)

pub record GoesIs (rom : List ℕ) (length : ℕ) (seen kinds sums : List ℕ) (s : Stand) (far : ℕ) (seen' kinds' sums' : List ℕ)
    (next : Stand) : Type 0 where
  pub goes : (go : Board → RoundEnd) → behind rom length (board seen kinds sums s) far go ≡ go (board seen' kinds' sums' next)
  pub keeps : (b : ℕ) → 65536 ≤ b → Bounded b seen → Bounded (b + data_most) seen'
  pub standing : StandFits next
  pub cell : next.cell ≤ get_or seen far 0 + 1

abbrev pub AfterIs : List ℕ → ℕ → List ℕ → List ℕ → List ℕ → Stand → ℕ → List ℕ → List ℕ → List ℕ → After → Type 0
AfterIs rom length seen kinds sums s far seen' kinds' sums' Fails =
    (go : Board → RoundEnd) → (behind rom length (board seen kinds sums s) far go).good ≡ false
AfterIs rom length seen kinds sums s far seen' kinds' sums' Ends =
    ((go : Board → RoundEnd) → behind rom length (board seen kinds sums s) far go ≡ round_end true (board seen kinds sums s))
    × (seen' ≡ seen)
AfterIs rom length seen kinds sums s far seen' kinds' sums' (Goes next) =
    GoesIs rom length seen kinds sums s far seen' kinds' sums' next

-- what is told of all rounds: whether they pass, and the cells where they do
pub record PassedIs (m : RoundEnd) (good : Bool) (seen' : List ℕ) : Type 0 where
  pub same : m.good ≡ good
  pub whole : good ≡ true → m.board.seen ≡ seen'

-- ---- nodes
pub node_new : (s : Stand) → s.nodes < nodes_most → StandFits s
    → NodeStands (λ b. new_node b s) s (with_nodes s (s.children + 1) (s.nodes + 1))
node_new s h k =
    record {
      same = λ b. lt-ltb _ _ h;
      whole = λ b. simp add-one;
      standing = record {
        start = k.start;
        some = k.some;
        real = k.real;
        children = let c = k.children in omega arith;
        nodes = omega arith;
      };
      cell = refl;
    }

pub node_closed : (s : Stand) → (s.children ≡ 0 → ⊥) → StandFits s
    → NodeStands (λ b. closed_node b s) s (with_nodes s (s.children - 1) s.nodes)
node_closed s h k =
    record {
      same = λ b. rw (ne_eqb _ _ h) refl;
      whole = λ b. refl;
      standing = record {
        start = k.start;
        some = k.some;
        real = k.real;
        children = let c = k.children in omega arith;
        nodes = k.nodes;
      };
      cell = refl;
    }

node_turn : (m : Board → RoundEnd) (s : Stand) (r : Option Stand) (most : ℕ) (seen kinds sums : List ℕ) (st : Stand) → s.cell ≤ most
    → NodeIs m s r
    → TurnIs (m (board seen kinds sums st)) seen most r seen kinds sums
node_turn m s None most seen kinds sums st l k = k (board seen kinds sums st)
node_turn m s (Some next) most seen kinds sums st l k =
    record {
      same = k.same (board seen kinds sums st);
      whole = k.whole (board seen kinds sums st);
      keeps = λ b h d. bounded_more b (b + data_most) seen (omega arith) d;
      standing = k.standing;
      cell = rw k.cell l;
    }

-- ---- behind the token that ended a round
pub moved_is : (s : Stand) (t : Token) (cell c : ℕ) (wide : Bool) → c ≡ cell_with (heights (height_in cell - takes_here t) (back_in cell))
    → wide ≡ (is_a widen t || s.wide)
    → record { start = t.next; cell = c; wide = wide; children = s.children; nodes = s.nodes; count = s.count } ≡ stood_on s t cell
moved_is s t cell c wide h w = rw (h, w) refl

stood_cell : (s : Stand) (t : Token) (cell : ℕ) → (stood_on s t cell).cell ≤ cell + 1
stood_cell s t cell = lower_cell cell (takes_here t)

pub moved_standing : (s : Stand) (t : Token) (cell length : ℕ) → DefinesWithin length t → length ≤ rom_most → StandFits s
    → StandFits (stood_on s t cell)
moved_standing s t cell length d l k =
    let n = d.next in
    record {
      start = omega arith;
      some = d.ahead;
      real = cell_some (heights (height_in cell - takes_here t) (back_in cell));
      children = k.children;
      nodes = k.nodes;
    }

-- ---- b(:)
module _ (rom : List ℕ) (length : ℕ) (seen kinds sums : List ℕ) (s : Stand) (n entry : ℕ) where
  pub turn_colon : (r : Survey) (seen₁ : List ℕ) (seen₂ kinds₂ sums₂ : List ℕ) (sum : Sum) (next : Stand) (st : Stand)
      → SurveyGood rom length kinds sums seen s entry r seen₁
      → seen₂ ≡ shift_of r.tally.need (places entry r.end) entry seen₁ → kinds₂ ≡ set kinds (slot n) 0xB7
      → sums₂ ≡ set sums (slot n) (packed_sum sum)
      → sum ≡ sum_told (tally_in r.tally) → next ≡ with_count s (r.end + 1) (suc s.count) → StandFits s → length ≤ rom_most
      → TurnStands (colon_of rom length (board seen kinds sums st) s n entry) seen s.cell next seen₂ kinds₂ sums₂
  turn_colon r seen₁ seen₂ kinds₂ sums₂ sum next st k e₁ e₂ e₃ e₄ e₅ d l =
      let a = k.accepts st n in
      let i = k.inside in
      record {
        same = ap (λ (m : RoundEnd). m.good) a;
        whole = ap (λ (m : RoundEnd). m.board) a ∙ rw (e₁, e₂, e₃, e₄, e₅, add-one) refl;
        keeps = λ b h y. rw e₁ (bounded_shift r.tally.need b (places entry r.end) entry seen₁ k.fits (k.bounded b h y));
        standing =
            rw e₅
            (record { start = omega arith; some = λ z. omega arith; real = d.real; children = d.children; nodes = d.nodes });
        cell = rw e₅ (omega arith);
      }

-- ---- a defining token
pub new_few : (new : Bool) (kinds : List ℕ) (n count : ℕ) → new ≡ (eqb (kind_of kinds n) 0 && ltb count numbers_most) → new ≡ true
    → count < numbers_most
new_few new kinds n count e h =
    ltb→lt count numbers_most (both_hold (eqb (kind_of kinds n) 0) (ltb count numbers_most)
    (holds (eqb (kind_of kinds n) 0 && ltb count numbers_most) (sym e ∙ h))).1

module _ (rom : List ℕ) (length : ℕ) (b : Board) (s : Stand) (t : Token) (n k : ℕ) (e : n ≡ new_number t.operand)
    (f : k ≡ kind_in t.operand) where
  pub new_so : (new : Bool) (count : ℕ) → b.stand.count ≡ count → new ≡ (eqb (kind_of b.kinds n) 0 && ltb count numbers_most)
      → is_new b (new_number t.operand) ≡ new
  new_so new count c q = rw (← e, c) (sym q)

  pub define_old : (new : Bool) (count : ℕ) → b.stand.count ≡ count → new ≡ (eqb (kind_of b.kinds n) 0 && ltb count numbers_most)
      → new ≡ false
      → (define_of rom length b s t).good ≡ false
  unfolding define_of
  define_old new count c q h =
      ap (λ (m : RoundEnd). m.good) (when_false _ (round_end false b) (is_new b (new_number t.operand)) (new_so new count c q ∙ h))

  pub define_colon : is_new b (new_number t.operand) ≡ true → k ≡ 0xB7 → define_of rom length b s t ≡ colon_of rom length b s n t.next
  unfolding define_of
  define_colon h q =
      when_true _ (round_end false b) (is_new b (new_number t.operand)) h
      ∙ when_true _ _ (eqb (kind_in t.operand) 0xB7) (eq-eqb _ _ (sym f ∙ q))
      ∙ rw e refl

  define_value : is_new b (new_number t.operand) ≡ true → (k ≡ 0xB7 → ⊥)
      → define_of rom length b s t ≡ round_end true (entry_of b s n k value_sum t.next)
  unfolding define_of
  define_value h q =
      when_true _ (round_end false b) (is_new b (new_number t.operand)) h
      ∙ when_false _ _ (eqb (kind_in t.operand) 0xB7) (ne_eqb _ _ (λ p. q (f ∙ p)))
      ∙ rw (e, f) refl

pub turn_value : (rom : List ℕ) (length : ℕ) (seen kinds sums : List ℕ) (st s : Stand) (t : Token) (n k : ℕ) (kinds₂ sums₂ : List ℕ)
    (next : Stand)
    → n ≡ new_number t.operand → k ≡ kind_in t.operand → is_new (board seen kinds sums st) (new_number t.operand) ≡ true
    → (k ≡ 0xB7 → ⊥)
    → kinds₂ ≡ set kinds (slot n) k → sums₂ ≡ set sums (slot n) (packed_sum value_sum) → next ≡ with_count s t.next (suc s.count)
    → StandFits s
    → DefinesWithin length t → length ≤ rom_most
    → TurnStands (define_of rom length (board seen kinds sums st) s t) seen s.cell next seen kinds₂ sums₂
turn_value rom length seen kinds sums st s t n k kinds₂ sums₂ next e f h q e₂ e₃ e₅ d i j =
    let a = define_value rom length (board seen kinds sums st) s t n k e f h q in
    let l = i.next in
    record {
      same = ap (λ (m : RoundEnd). m.good) a;
      whole = ap (λ (m : RoundEnd). m.board) a ∙ rw (e₂, e₃, e₅) refl;
      keeps = λ b h d. bounded_more b (b + data_most) seen (omega arith) d;
      standing = rw e₅ (record { start = omega arith; some = i.ahead; real = d.real; children = d.children; nodes = d.nodes });
      cell = rw e₅ (omega arith);
    }

-- ---- the token is carried out
module _ (rom : List ℕ) (length : ℕ) (seen kinds sums : List ℕ) (stand : Stand) (cell : ℕ) (t : Token) (s : Stand)
    (e : s ≡ stood_on stand t cell) where
  abbrev b : Board
  b = board seen kinds sums stand

  cell_so : s.cell ≤ cell + 1
  cell_so = rw e (stood_cell stand t cell)

  more : (m : RoundEnd) (r : Option Stand) (seen' kinds' sums' : List ℕ) → TurnIs m seen s.cell r seen' kinds' sums'
      → TurnIs m seen (cell + 1) r seen' kinds' sums'
  more m None seen' kinds' sums' k = k
  more m (Some next) seen' kinds' sums' k =
      record {
        same = k.same;
        whole = k.whole;
        keeps = k.keeps;
        standing = k.standing;
        cell = let c = k.cell in let d = cell_so in omega arith;
      }

  pub advance_define : (r : Option Stand) (seen' kinds' sums' : List ℕ) → is_a define t ≡ true
      → TurnIs (define_of rom length b s t) seen s.cell r seen' kinds' sums'
      → TurnIs (advance_of rom length b cell t) seen (cell + 1) r seen' kinds' sums'
  unfolding advance_of
  advance_define r seen' kinds' sums' d k =
      rw (when_true (define_of rom length b (stood_on stand t cell) t) _ (is_a define t) d)
      (subst (λ (z : Stand). TurnIs (define_of rom length b z t) seen (cell + 1) r seen' kinds' sums') e (more _ r seen' kinds' sums' k))

  pub advance_new : (r : Option Stand) → is_a define t ≡ false → is_a new_device t ≡ true → NodeIs (λ y. new_node y s) s r
      → TurnIs (advance_of rom length b cell t) seen (cell + 1) r seen kinds sums
  unfolding advance_of
  advance_new r d n k =
      rw (
        when_false (define_of rom length b (stood_on stand t cell) t) _ (is_a define t) d,
        when_true (new_node b (stood_on stand t cell)) _ (is_a new_device t) n,
      )
      (subst (λ (z : Stand). TurnIs (new_node b z) seen (cell + 1) r seen kinds sums) e
      (node_turn (λ y. new_node y s) s r (cell + 1) seen kinds sums stand cell_so k))

  wide_is : NodeStands (λ y. round_end true (on_stand y s)) s s → is_a define t ≡ false → is_a new_device t ≡ false
      → is_a widen t ≡ true
      → TurnStands (advance_of rom length b cell t) seen (cell + 1) s seen kinds sums
  unfolding advance_of
  wide_is k d n w =
      rw (
        when_false (define_of rom length b (stood_on stand t cell) t) _ (is_a define t) d,
        when_false (new_node b (stood_on stand t cell)) _ (is_a new_device t) n,
        when_true (round_end true (on_stand b (stood_on stand t cell))) _ (is_a widen t) w,
      )
      (subst (λ (z : Stand). TurnStands (round_end true (on_stand b z)) seen (cell + 1) s seen kinds sums) e
      (node_turn (λ y. round_end true (on_stand y s)) s (Some s) (cell + 1) seen kinds sums stand cell_so k))

  pub advance_wide : StandFits s → is_a define t ≡ false → is_a new_device t ≡ false → is_a widen t ≡ true
      → TurnStands (advance_of rom length b cell t) seen (cell + 1) s seen kinds sums
  advance_wide k d n w = wide_is (record { same = λ y. refl; whole = λ y. refl; standing = k; cell = refl }) d n w

  pub advance_close : (r : Option Stand) → is_a define t ≡ false → is_a new_device t ≡ false → is_a widen t ≡ false
      → NodeIs (λ y. closed_node y s) s r
      → TurnIs (advance_of rom length b cell t) seen (cell + 1) r seen kinds sums
  unfolding advance_of
  advance_close r d n w k =
      rw (
        when_false (define_of rom length b (stood_on stand t cell) t) _ (is_a define t) d,
        when_false (new_node b (stood_on stand t cell)) _ (is_a new_device t) n,
        when_false (round_end true (on_stand b (stood_on stand t cell))) _ (is_a widen t) w,
      )
      (subst (λ (z : Stand). TurnIs (closed_node b z) seen (cell + 1) r seen kinds sums) e
      (node_turn (λ y. closed_node y s) s r (cell + 1) seen kinds sums stand cell_so k))

-- ---- what comes behind a round
module _ (rom : List ℕ) (length : ℕ) (seen kinds sums : List ℕ) (s : Stand) (far : ℕ) where
  abbrev here : Board
  here = board seen kinds sums s

  pub behind_refused : (why : ℕ) → read_of rom length s.wide false far ≡ Err why → (go : Board → RoundEnd)
      → (behind rom length (board seen kinds sums s) far go).good ≡ false
  behind_refused why e go = rw e refl

  pub behind_ends : (t : Token) → read_of rom length s.wide false far ≡ Ok t → fixes t ≡ false → (go : Board → RoundEnd)
      → behind rom length (board seen kinds sums s) far go ≡ round_end true (board seen kinds sums s)
  behind_ends t e f go = rw e (when_false _ (round_end true here) (fixes t) f)

  acted : (t : Token) (cell : ℕ) → read_of rom length s.wide false far ≡ Ok t → fixes t ≡ true → cell ≡ get_or seen far 0
      → (go : Board → RoundEnd)
      → behind rom length (board seen kinds sums s) far go ≡ go_on go (advance_of rom length here cell t)
  acted t cell e f d go = rw (e, d) (when_true _ (round_end true here) (fixes t) f)

  module _ (t : Token) (cell : ℕ) (e : read_of rom length s.wide false far ≡ Ok t) (f : fixes t ≡ true) (d : cell ≡ get_or seen far 0)
    where
      pub behind_fails : (advance_of rom length (board seen kinds sums s) cell t).good ≡ false → (go : Board → RoundEnd)
          → (behind rom length (board seen kinds sums s) far go).good ≡ false
      behind_fails q go =
          ap (λ (m : RoundEnd). m.good) (acted t cell e f d go ∙ when_false _ _ (advance_of rom length here cell t).good q) ∙ q

      pub behind_goes : (next : Stand) (seen' kinds' sums' : List ℕ)
          → TurnStands (advance_of rom length (board seen kinds sums s) cell t) seen (cell + 1) next seen' kinds' sums'
          → GoesIs rom length seen kinds sums s far seen' kinds' sums' next
      behind_goes next seen' kinds' sums' k =
          record {
            goes = λ go.
                acted t cell e f d go ∙ when_true _ _ (advance_of rom length here cell t).good k.same ∙ ap (λ (y : Board). go y) k.whole;
            keeps = k.keeps;
            standing = k.standing;
            cell = rw (← d) k.cell;
          }

-- ---- a round
module _ (rom : List ℕ) (length : ℕ) (seen kinds sums : List ℕ) (s : Stand) (x : Scope) (f : x ≡ outside_text length s) where
  abbrev on : Board
  on = board seen kinds sums s

  round_so : walk_all rom x kinds sums seen s.start s.cell ≡ round_of rom length on
  unfolding round_of
  round_so = ap (λ (y : Scope). walk_all rom y kinds sums seen s.start s.cell) f

  pub round_lost : (walk_all rom x kinds sums seen s.start s.cell).walk.good ≡ false
      → round_good rom length (board seen kinds sums s) (round_of rom length (board seen kinds sums s)) ≡ false
  round_lost l =
      let d : (round_of rom length on).walk.good ≡ false = ap (λ (a : Path). a.walk.good) (sym round_so) ∙ l in
      rw d refl

  module _ (w : Walked) (seen' : List ℕ) (k : EndsWell (walk_all rom x kinds sums seen s.start s.cell) w seen') (short : length ≤ rom_most)
      (start : s.start ≤ rom_most) where
    kept_so : (m : ℕ) → 65536 ≤ m → s.cell ≤ m → Bounded m seen → WalkKept m w seen'
    kept_so m h c e = walked_kept m h rom kinds x sums seen s.start s.cell w seen' (rw f short) start c k e

    -- the highest place is no farther than the longest ROM
    pub round_far : (m : ℕ) → 65536 ≤ m → s.cell ≤ m → Bounded m seen → w.far ≤ rom_most
    round_far m h c e = (kept_so m h c e).far

    walked_seen : seen' ≡ (round_of rom length on).seen
    walked_seen = k.seen ∙ ap (λ (a : Path). a.seen) round_so

    walked_far : w.far ≡ (round_of rom length on).walk.far
    walked_far = k.far ∙ ap (λ (a : Path). a.walk.far) round_so

    module _ (good : Bool) (g : good ≡ apart_of rom x seen' w.far (w.far + 1 - s.start) s.start 0) where
      good_so : good ≡ round_good rom length on (round_of rom length on)
      good_so =
          let z : w.far + 1 - s.start ≡ suc w.far - s.start = omega arith in
          let d : (round_of rom length on).walk.good ≡ true = ap (λ (a : Path). a.walk.good) (sym round_so) ∙ k.good in
          g ∙ rw (f, z, walked_seen, walked_far, d) refl

      -- two tokens overlap, or not
      pub round_overlaps : good ≡ false
          → round_good rom length (board seen kinds sums s) (round_of rom length (board seen kinds sums s)) ≡ false
      round_overlaps e = sym good_so ∙ e

      pub round_walked : good ≡ true → RoundGood rom length (board seen kinds sums s) w.far seen'
      round_walked e =
          record { good = sym good_so ∙ e; seen = walked_seen; reached = walked_far; keeps = λ m a b y. (kept_so m a b y).seen }

-- ---- all rounds
module _ (rom : List ℕ) (length : ℕ) where
  -- one round, and the rest by so many more
  abbrev by_turns : ℕ → Board → RoundEnd
  by_turns j b =
      elim (round_good rom length b (round_of rom length b)) [
        | true ↦ behind rom length (on_seen b (round_of rom length b).seen) (round_of rom length b).walk.far (λ y. rounds_of rom length j y)
        | false ↦ round_end false (on_seen b (round_of rom length b).seen)
      ]

  rounds_are : (k : ℕ) (b : Board) → 0 < k → rounds_of rom length k b ≡ by_turns (k - 1) b
  unfolding rounds_of
  rounds_are zero b h = absurd (omega arith)
  rounds_are (suc k) b h =
      let z : k ≡ suc k - 1 = omega arith in
      ap (λ (j : ℕ). by_turns j b) z

  pub rounds_spent : (k : ℕ) (b : Board) → k ≡ 0 → (rounds_of rom length k b).good ≡ false
  unfolding rounds_of
  rounds_spent zero b e = refl
  rounds_spent (suc k) b e = absurd (omega arith)

  module _ (k : ℕ) (seen kinds sums : List ℕ) (s : Stand) (h : 0 < k) where
    abbrev was : Board
    was = board seen kinds sums s

    pub rounds_lost : round_good rom length (board seen kinds sums s) (round_of rom length (board seen kinds sums s)) ≡ false
        → (rounds_of rom length k (board seen kinds sums s)).good ≡ false
    rounds_lost g =
        ap (λ (m : RoundEnd). m.good)
        (rounds_are k was h ∙ when_false _ _ (round_good rom length was (round_of rom length was)) g)

    module _ (far : ℕ) (seen' : List ℕ) (i : RoundGood rom length (board seen kinds sums s) far seen') (seen₂ kinds₂ sums₂ : List ℕ)
        (a : After) (y : AfterIs rom length seen' kinds sums s far seen₂ kinds₂ sums₂ a) where
      rounds_on : rounds_of rom length k (board seen kinds sums s)
          ≡ behind rom length (board seen' kinds sums s) far (λ y. rounds_of rom length (k - 1) y)
      rounds_on =
          rounds_are k was h
          ∙ when_true _ _ (round_good rom length was (round_of rom length was)) i.good
          ∙ rw (i.seen, i.reached) refl

      pub rounds_fails : a ≡ Fails → (rounds_of rom length k (board seen kinds sums s)).good ≡ false
      rounds_fails e =
          let z = subst (AfterIs rom length seen' kinds sums s far seen₂ kinds₂ sums₂) e y in
          ap (λ (m : RoundEnd). m.good) rounds_on ∙ z (λ t. rounds_of rom length (k - 1) t)

      pub rounds_end : a ≡ Ends → PassedIs (rounds_of rom length k (board seen kinds sums s)) true seen₂
      rounds_end e =
          let z = subst (AfterIs rom length seen' kinds sums s far seen₂ kinds₂ sums₂) e y in
          let q = rounds_on ∙ z.0 (λ t. rounds_of rom length (k - 1) t) in
          record { same = ap (λ (m : RoundEnd). m.good) q; whole = λ v. ap (λ (m : RoundEnd). m.board.seen) q ∙ sym z.1 }

      pub rounds_goes : (next : Stand) → a ≡ Goes next → GoesIs rom length seen' kinds sums s far seen₂ kinds₂ sums₂ next
      rounds_goes next e = subst (AfterIs rom length seen' kinds sums s far seen₂ kinds₂ sums₂) e y

      pub rounds_turn : (next : Stand) → a ≡ Goes next
          → rounds_of rom length (k - 1) (board seen₂ kinds₂ sums₂ next) ≡ rounds_of rom length k (board seen kinds sums s)
      rounds_turn next e = sym (rounds_on ∙ (rounds_goes next e).goes (λ t. rounds_of rom length (k - 1) t))

pub passed_so : (m n : RoundEnd) (good : Bool) (seen' : List ℕ) → m ≡ n → PassedIs m good seen' → PassedIs n good seen'
passed_so m n good seen' e k = rw (← e) k

pub passed_fails : (m n : RoundEnd) (seen' : List ℕ) → m ≡ n → m.good ≡ false → PassedIs n false seen'
passed_fails m n seen' e g = rw (← e) (record { same = g; whole = λ v. off_on v })

-- what a round starts with: how high a cell can be goes by the rounds that were
abbrev pub highest : ℕ → ℕ
highest left = 65536 + body_most * (rom_most - left)

pub record Going (left : ℕ) (seen : List ℕ) (s : Stand) : Type 0 where
  pub standing : StandFits s
  pub few : left ≤ rom_most
  pub cell : s.cell ≤ highest left
  pub low : Bounded (highest left) seen

pub going_cell : (left : ℕ) (seen : List ℕ) (s : Stand) → Going left seen s → s.cell ≤ 0x1000_0000
going_cell left seen s g = let c = g.cell in omega arith

pub going_seen : (left : ℕ) (seen : List ℕ) (s : Stand) → Going left seen s → Bounded 0x1000_0000 seen
going_seen left seen s g = bounded_more (highest left) 0x1000_0000 seen (omega arith) g.low

module _ (rom : List ℕ) (length left : ℕ) (seen kinds sums : List ℕ) (s : Stand) (far : ℕ) (seen₁ : List ℕ) (g : Going left seen s)
    (i : RoundGood rom length (board seen kinds sums s) far seen₁) where
  round_seen : Bounded (highest left) seen₁
  round_seen = i.keeps (highest left) (omega arith) g.cell g.low

  pub round_bounded : Bounded 0x1000_0000 seen₁
  round_bounded = bounded_more (highest left) 0x1000_0000 seen₁ (omega arith) round_seen

  pub going_turn : (next : Stand) (seen₂ kinds₂ sums₂ : List ℕ) → 0 < left
      → GoesIs rom length seen₁ kinds sums s far seen₂ kinds₂ sums₂ next → Going (left - 1) seen₂ next
  going_turn next seen₂ kinds₂ sums₂ h k =
      let f = g.few in
      let c = k.cell in
      let d = round_seen.each far in
      record {
        standing = k.standing;
        few = omega arith;
        cell = omega arith;
        low = bounded_more (highest left + data_most) (highest (left - 1)) seen₂ (omega arith)
            (k.keeps (highest left) (omega arith) round_seen);
      }
