-- The run of a passed ROM, token by token: each finds a state that stands as the assignment says, and so none meets a refusal but 21 to 27.
-- Assumes nothing.
use Prim.Native.Nat.{ℕ, zero, suc, ◌+◌, ◌≤◌}
use native.Mathlib.Omega.{arith}
use Rattle.std.specs.Prelude.{◌≡◌, Bool, not, List, [], length, eqb, Ok, Result}
use Rattle.std.proofs.Math.Path.{refl, subst}
use Rattle.std.proofs.Common.{sym, ap, ◌∙◌}
use Rattle.std.proofs.Math.Dec.{T}
use Rattle.cells.specs.Laws.Tests.{when_is, neqb→ne}
use Rattle.rom.specs.Sizes.{work_size, store_size}
use Rattle.rom.specs.Header.{header_of, wide_of}
use Rattle.tokens.specs.Place.{read_of}
use Rattle.tokens.specs.declared.decoding.Token.{Token}
use Rattle.state.specs.Scene.{Scene, scene, refuse}
use Rattle.state.specs.Refusals.{refusal_of}
use Rattle.state.specs.Effects.{act_of}
use Rattle.state.specs.Step.{ready_of, done_of, token_turn, step_of}
use Rattle.state.specs.Run.{RunResult, ended, then, run_of}
use Rattle.state.specs.Open.{fresh_state}
use Rattle.state.specs.Laws.Keeps.Whole.{Rooted, ready_facts, whole_facts}
use Rattle.state.specs.Laws.Keeps.Open.{fresh_rooted, fresh_ready}
use Rattle.state.specs.Laws.Sized.{Sized, fresh_sized}
use Rattle.state.specs.Laws.Steps.{refused_keeps, keeps, run_tokens, step_going, tokens_from}
use Rattle.state.specs.declared.state.State.{State}
use Rattle.state.specs.declared.state.Calls.{Calls}
use Rattle.state.specs.Answer.{Answer, Going, Finished, Refused, Spent}
use Rattle.screen.specs.Reach.{Setting, setting, token_at, Holds, Reach}
use Rattle.screen.specs.Promise.{Marks}
use Rattle.screen.specs.Laws.Rules.Ways.{effect_call}
use Rattle.screen.specs.Rules.{Assignment}
use Rattle.promise.specs.Laws.Standing.{CallChain, outside, within, own, Standing}
use Rattle.promise.specs.Trail.{DependsOnData, Trail, start, token, RunEnds, finishes, stops, runs_out, HeightIs, OpenCall, open_call}
use Rattle.promise.specs.Trail.{open_after}
use Rattle.promise.specs.Laws.Carrying.{carried_none}
use Rattle.promise.specs.Laws.Room.{body_of, open_is}
use Rattle.promise.proofs.Refusing.{ByData, accepted, refused, by_data}
use Rattle.promise.proofs.Steps.{Fine, FineTurn, act_good}

-- ---- before each token: the state stands as the assignment says, and is ready for its token
pub record Steady {rom : List ℕ} (a : Assignment rom) (open_calls : List OpenCall) (work store : List ℕ) (st : State) : Type 0 where
  pub standing : Standing a open_calls st
  pub sized : Sized st
  pub rooted : Rooted st
  pub ready : ready_of (scene rom work store st) ≡ Going

-- the same place read with the same length and width
same_read : (rom : List ℕ) {m n : ℕ} {v w x y : Bool} (p : ℕ) (r : Result Token ℕ) → m ≡ n → v ≡ w → x ≡ y → read_of rom n w y p ≡ r
    → read_of rom m v x p ≡ r
same_read rom p r e f g h = rw (e, f, g) h

module _ {rom : List ℕ} (a : Assignment rom) where
  module _ (open_calls : List OpenCall) (work store : List ℕ) (st : State) (k : Steady a open_calls work store st) where
    abbrev s : Scene
    s = scene rom work store st

    abbrev g : Standing a open_calls st
    g = k.standing

    many : 2 ≤ st.tree.nodes
    many = (whole_facts st (ready_facts s k.ready).1).0.tree.nodes_least

    -- 10, 18 and 11 are not met
    reads_well : (t : Token) × (token_at rom g.text g.setting.wide st.place ≡ Ok t)
    reads_well = a.whole g.reach

    -- the token is refused by data alone, or carried out
    done_fine : (t : Token) → token_at rom g.text g.setting.wide st.place ≡ Ok t → FineTurn a open_calls st (done_of s t)
    unfolding done_of
    done_fine t is =
        when_is (FineTurn a open_calls st) (eqb (refusal_of s t) 0) (act_of s t) (refuse (refusal_of s t) s)
        (λ e. act_good a work store open_calls st k.sized many g t is)
        (λ n. by n (by_data a work store open_calls st g t is))
      where
        by : T (not (eqb (refusal_of s t) 0)) → ByData (refusal_of s t) → DependsOnData (refusal_of s t)
        by n (accepted e) = absurd (neqb→ne (refusal_of s t) 0 n e)
        by n (refused d) = d

    pub token_fine : FineTurn a open_calls st (token_turn s)
    unfolding token_turn
    token_fine =
        let t = reads_well in
        rw (same_read rom st.place (Ok t.0) g.size g.wide (open_is a g.chain) t.1) (done_fine t.0 t.1)

    -- and the next token finds the state so
    pub next_steady : (token_turn s).answer ≡ Going
        → Steady a (open_after open_calls st (token_turn s).state) (token_turn s).work (token_turn s).store (token_turn s).state
    next_steady e =
        let n = keeps s k.sized k.rooted k.ready e in
        record { standing = subst (Fine a open_calls st (token_turn s)) e token_fine; sized = n.1; rooted = n.2; ready = n.0 }

  -- ---- the state that opening hands back, with any work memory and store of their sizes
  pub fresh_steady : (work store : List ℕ) → length work ≡ work_size → length store ≡ store_size → header_of rom ≡ 0
      → Steady a [] work store (fresh_state rom)
  fresh_steady work store x y e =
      record {
        standing =
            record {
              text = 0;
              setting = setting (wide_of rom);
              reach = Holds.first;
              size = refl;
              home = 8;
              outer = setting (wide_of rom);
              floor = 0;
              base = 0;
              chain = outside;
              at = (refl, refl);
              height = omega (arith, a.start.0);
              back = omega (arith, a.start.1);
              wide = refl;
              numbers = carried_none a (fresh_state rom).numbers refl;
              count = refl;
              nodes = refl;
              children = own;
              first = refl;
            };
        sized = fresh_sized rom;
        rooted = fresh_rooted rom;
        ready = fresh_ready rom work store x y e;
      }

  -- ---- every scene that the run comes to
  pub record Arrived (open_calls : List OpenCall) (s : Scene) : Type 0 where
    pub same : s.rom ≡ rom
    pub steady : Steady a open_calls s.work s.store s.state

  arrived_at : (open_calls : List OpenCall) (s : Scene) (m : Arrived open_calls s) → s ≡ scene rom s.work s.store s.state
  arrived_at open_calls s m = rw (← m.same) refl

  pub arrived_fine : (open_calls : List OpenCall) (s : Scene) → Arrived open_calls s → FineTurn a open_calls s.state (token_turn s)
  arrived_fine open_calls s m =
      subst (λ v. FineTurn a open_calls s.state (token_turn v)) (sym (arrived_at open_calls s m))
      (token_fine open_calls s.work s.store s.state m.steady)

  pub arrived_next : (open_calls : List OpenCall) (s : Scene) → Arrived open_calls s → (token_turn s).answer ≡ Going
      → Arrived (open_after open_calls s.state (token_turn s).state) (then s (token_turn s))
  arrived_next open_calls s m e =
      record {
        same = m.same;
        steady = subst (λ v. (token_turn v).answer ≡ Going
            → Steady a (open_after open_calls s.state (token_turn v).state) (token_turn v).work (token_turn v).store (token_turn v).state)
            (sym (arrived_at open_calls s m)) (next_steady open_calls s.work s.store s.state m.steady) e;
      }

  -- ---- the run
  module _ (work store : List ℕ) (x : length work ≡ work_size) (y : length store ≡ store_size) (h : header_of rom ≡ 0) where
    pub trail_arrived : {n : ℕ} {open_calls : List OpenCall} {s : Scene} → Trail rom work store n open_calls s → Arrived open_calls s
    trail_arrived start = record { same = refl; steady = fresh_steady work store x y h }
    trail_arrived (token {n} {open_calls} {s} t g) = arrived_next open_calls s (trail_arrived t) g

    -- n tokens of a run are carried out, and at most k are left of its budget
    tokens_end : {open_calls : List OpenCall} {s : Scene} (before budget k n : ℕ) → n + k ≡ budget
        → Trail rom work store (before + n) open_calls s
        → RunEnds rom work store before budget (tokens_from k n s)
    unfolding tokens_from
    tokens_end {open_calls} {s} before budget zero n b t =
        let e : n ≡ budget = omega arith in
        subst (λ v. RunEnds rom work store before budget (ended (Spent v) v s)) (sym e)
        (runs_out (subst (λ v. Trail rom work store (before + v) open_calls s) e t))
    tokens_end {open_calls} {s} before budget (suc k) n b t =
        by (token_turn s).answer refl (λ i u. tokens_end {open_calls = calls_then} {s = next} before budget k (n + 1) i u)
      where
        next : Scene
        next = then s (token_turn s)

        calls_then : List OpenCall
        calls_then = open_after open_calls s.state (token_turn s).state

        fine : {w : Answer} → (token_turn s).answer ≡ w → Fine a open_calls s.state (token_turn s) w
        fine e = subst (Fine a open_calls s.state (token_turn s)) e (arrived_fine open_calls s (trail_arrived t))

        by : (w : Answer) → (token_turn s).answer ≡ w
            → (n + 1 + k ≡ budget → Trail rom work store (before + (n + 1)) calls_then next
            → RunEnds rom work store before budget (tokens_from k (n + 1) next))
            → RunEnds rom work store before budget (tokens_from (suc k) n s)
        by Going e f =
            let one : suc (before + n) ≡ before + (n + 1) = omega arith in
            rw (e, tokens_from) (f (omega arith) (subst (λ v. Trail rom work store v calls_then next) one (token t e)))
        by Finished e f =
            let one : suc n ≡ n + 1 = omega arith in
            rw (e, tokens_from) (subst (λ v. RunEnds rom work store before budget (ended Finished v next)) one (finishes t (omega arith) e))
        by (Refused why) e f =
            let r = ap (λ v. ended (Refused why) n (then s v)) (refused_keeps s why e) in
            rw (e, tokens_from) (subst (λ o. RunEnds rom work store before budget o) (sym r) (stops t (omega arith) e (fine e)))
        by (Spent m) e f = absurd (fine e)

    -- a run from any scene that tokens come to ends as it may
    pub trail_ends : {n : ℕ} {open_calls : List OpenCall} {s : Scene} → Trail rom work store n open_calls s → (budget : ℕ)
        → RunEnds rom work store n budget (run_of budget s)
    trail_ends {n} {open_calls} {s} t budget =
        let m = trail_arrived t in
        let k = m.steady in
        let ready = subst (λ v. ready_of v ≡ Going) (sym (arrived_at open_calls s m)) k.ready in
        let none : n ≡ n + 0 = omega arith in
        subst (λ o. RunEnds rom work store n budget o) (sym (run_tokens budget 0 s k.sized k.rooted ready))
        (tokens_end n budget budget 0 (omega arith) (subst (λ v. Trail rom work store v open_calls s) none t))

    -- and what it leaves where it does not finish is such a scene again
    pub ends_trail : {before budget : ℕ} {o : RunResult} → RunEnds rom work store before budget o → (o.answer ≡ Finished → ⊥)
        → (open_calls : List OpenCall) × Trail rom work store (before + o.count) open_calls (scene rom o.work o.store o.state)
    ends_trail (finishes t l e) n = absurd (n refl)
    ends_trail {before} (stops {n = m} {open_calls = oc} {s = s} t l e d) n =
        (oc, subst (λ v. Trail rom work store (before + m) oc v) (arrived_at oc s (trail_arrived t)) t)
    ends_trail {before} {budget} (runs_out {open_calls = oc} {s = s} t) n =
        (oc, subst (λ v. Trail rom work store (before + budget) oc v) (arrived_at oc s (trail_arrived t)) t)

  -- ---- heights
  high_chain : {marks : List ℕ} {st : State} → Marks rom a marks
      → {home : ℕ} {open_calls : List OpenCall} {k x floor base : ℕ} {outer s : Setting}
      → CallChain a st.calls home outer open_calls k x floor base → Reach rom x s st.place
      → st.stack.height ≡ floor + a.height x st.place
      → HeightIs marks st open_calls
  high_chain m outside r h = let e = m.height r in HeightIs.outside (omega arith)
  high_chain {st = st} m (within {x = x} {floor = floor} {p = p} {d = d} {t = t} c y i q w v) r h =
      let b = body_of y.defined y.colon y.number in
      let f = m.height (Holds.body y.defined.met.reach y.defined.met.is y.colon b.1.reads) in
      let n = (a.enter b.1).0 in
      let l : (a.sum t.number).need ≤ a.height x p =
      subst (λ u. u.takes ≤ a.height x p) (effect_call a.sum t y.calls) (a.there y.met).0 in
      HeightIs.within {c = open_call (floor + a.height x p) y.defined.token.next} {need = (a.sum t.number).need} {more =
      a.height (suc d) st.place}
      (f ∙ ap suc n) (omega arith) (m.height r) (omega arith)

  calls_length : {calls : Calls} {home : ℕ} {outer : Setting} {open_calls : List OpenCall} {k x floor base : ℕ}
      → CallChain a calls home outer open_calls k x floor base
      → length open_calls ≡ k
  calls_length outside = refl
  calls_length (within c y i q w v) = ap suc (calls_length c)

  module _ (work store : List ℕ) (x : length work ≡ work_size) (y : length store ≡ store_size) (h : header_of rom ≡ 0) where
    pub stands_high : {marks : List ℕ} {n : ℕ} {open_calls : List OpenCall} {s : Scene} → Marks rom a marks
        → Trail rom work store n open_calls s
        → HeightIs marks s.state open_calls × (length open_calls ≡ s.state.calls.count)
    stands_high m t =
        let g = (trail_arrived work store x y h t).steady.standing in
        (high_chain m g.chain g.reach g.height, calls_length g.chain)

    -- ---- a step is its token
    pub steps_so : {n : ℕ} {open_calls : List OpenCall} {s : Scene} → Trail rom work store n open_calls s → (step_of s ≡ token_turn s)
        × FineTurn a open_calls s.state (token_turn s)
    steps_so {n} {open_calls} {s} t =
        let m = trail_arrived work store x y h t in
        (step_going s (subst (λ v. ready_of v ≡ Going) (sym (arrived_at open_calls s m)) m.steady.ready), arrived_fine open_calls s m)
