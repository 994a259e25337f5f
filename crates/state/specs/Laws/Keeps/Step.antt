-- A token that is carried out keeps everything that refusals 6, 1, 7 and 4 ask: family by family. Assumes nothing.
use Prim.Native.Nat.{ℕ, suc, ◌+◌, ◌-◌, ◌%◌, ◌^◌, ◌<◌, ◌≤◌}
use Rattle.std.proofs.Common.{arith, ◌∙◌, length-set, length-append, length-take, eqb→eq, nltb→le, ltb→lt, eq-eqb, ltb-true, Err, Ok}
use Rattle.std.proofs.Common.{Result}
use Rattle.std.specs.Prelude.{◌≡◌, Bool, true, false, not, ◌&&◌, ◌||◌, List, [], ◌∷◌, ◌++◌, length, get_or, set, ltb, leb, eqb}
use Rattle.std.proofs.Math.Path.{refl, ap, subst}
use Rattle.std.proofs.Math.Dec.{T, nleb→lt}
use Rattle.cells.specs.Choice.{pick}
use Rattle.cells.specs.Laws.Tests.{tests, when_is, pick_is, neqb→ne}
use Rattle.cells.specs.Laws.Facts.{holds, is_false, neither, not_both}
use Rattle.rom.specs.Sizes.{data_most, return_most, frames_most, numbers_most, work_size, store_size}
use Rattle.tokens.specs.Family.{plain, always, choice, text, widen, divide, pick_up, roll_up, maybe, leave, fetch, store, define, kind}
use Rattle.tokens.specs.Family.{assign, call}
use Rattle.tokens.specs.Family.{encode_int, encode_string, join, property, titled, new_device, finish_device}
use Rattle.tokens.specs.Code.{code_of, family_in, takes_in, gives_in, return_takes_in, return_gives_in}
use Rattle.tokens.specs.Body.{number_in, unknown_of}
use Rattle.tokens.specs.Place.{read_of}
use Rattle.tokens.specs.declared.decoding.Token.{Token}
use Rattle.memory.specs.declared.window.Window.{Window}
use Rattle.memory.specs.declared.window.Window.TheVariants.{Rom, Work, Nowhere}
use Rattle.memory.specs.Window.{rom_base, work_base, held_by, range_of, resolve_of}
use Rattle.memory.specs.Writing.{written_of, bytes_of}
use Rattle.tree.specs.Whole.{name_most, parent_of}
use Rattle.tree.specs.Property.{bad_name, tree_put, store_put}
use Rattle.tree.specs.Node.{no_room, outermost, child_of}
use Rattle.tree.specs.declared.tree.Tree.{Tree}
use Rattle.tree.specs.Laws.Trees.{Whole as WholeTree}
use Rattle.tree.specs.Laws.Kept.{child_whole, parent_there}
use Rattle.tree.specs.Laws.Puts.{name_facts}
use Rattle.tree.specs.Laws.PutKept.{Accepted, put_whole, put_size}
use Rattle.tree.specs.Laws.PutKept.{SizedTree}
use Rattle.tokens.specs.Definition.{colon, kind_in, new_number, takes_here, value, variable}
use Rattle.tokens.specs.Laws.Stands.{Stands, stands}
use Rattle.state.specs.Stacks.{Stacks, stacks, left_of, plain_of, picked_of, rolled_of, doubled_of, back_trouble, too_deep}
use Rattle.state.specs.State.{stacks_of, moved, with_calls, with_numbers, with_work, with_active, with_tree, is_open, base_of}
use Rattle.state.specs.Numbers.{seek_of, is_held, is_body, kinds_of, defined_of, assigned_of}
use Rattle.state.specs.Scene.{Scene, Turn, turn, goes, cell_of, refuse}
use Rattle.state.specs.Refusals
use Rattle.state.specs.Refusals.{asked, body_here, leads_out, gives_more, rounded, no_room_for, string_at, title_of}
use Rattle.state.specs.Refusals.{named_here, value_here, titled_here, refusals, refusal_of}
use Rattle.state.specs.Effects
use Rattle.state.specs.Effects.{gave, operand_in, aimed, behind_body, framed_of, unframed_of, effects, nothing, act_of}
use Rattle.state.specs.Step.{ready_of, done_of, read_turn, token_turn}
use Rattle.state.specs.Run.{then}
use Rattle.state.specs.Laws.Sized.{Sized, SizedCalls, SizedNumbers}
use Rattle.state.specs.Laws.Keeps.Tests.{none_held, find_at, ◌▸◌}
use Rattle.state.specs.Laws.Titles.{title_good}
use Rattle.state.specs.Laws.Keeps.Whole.{Place, Frames, Entries, Parts, whole_facts, Lent, not_going, not_finished, ready_facts}
use Rattle.state.specs.Laws.Keeps.Whole.{Rooted}
use Rattle.state.specs.Laws.Keeps.Whole.{RootedAt}
use Rattle.state.specs.Laws.Keeps.Whole.{Kept}
use Rattle.state.specs.Laws.Keeps.Token.{takes_by, gives_by, shape, no_returns, branch_place, new_number_lem, leave_open, behind_body_lem}
use Rattle.state.specs.Laws.Keeps.Tree.{child_rooted, child_sized, finish_rooted, put_nodes, put_rooted, put_sized}
use Rattle.state.specs.Laws.Keeps.Parts.{left_length, base_below, frames_moved, frames_pushed, calls_pushed, frames_popped}
use Rattle.state.specs.Laws.Keeps.Parts.{entries_defined}
use Rattle.state.specs.Laws.Keeps.Parts.{numbers_defined, entries_assigned, numbers_assigned, call_held, assign_value}
use Rattle.state.specs.declared.state.State.{State}
use Rattle.state.specs.declared.state.Calls.{Calls}
use Rattle.state.specs.declared.state.Numbers.{Numbers}
use Rattle.state.specs.Answer.{Going}

-- ---- no refusal was given
record AllowedAct (s : Scene) (t : Token) : Type 0 where
  undefined : T (not (Refusals.undefined s t))
  taken : T (not (Refusals.taken s t))
  low : T (not (Refusals.low s t))
  astray : T (not (Refusals.goes_astray s t))
  back_wrong : T (not (Refusals.back_wrong s t))
  high : T (not (Refusals.high s t))
  too_many_frames : T (not (Refusals.too_many_frames s t))
  no_node : T (not (Refusals.no_node s t))
  exhausted : T (not (Refusals.exhausted s t))
  misnamed : T (not (Refusals.misnamed s t))
  store_full : T (not (Refusals.store_full s t))

allowed : (s : Scene) (t : Token) → refusal_of s t ≡ 0 → AllowedAct s t
unfolding refusal_of
allowed s t e =
    let each = no 11 ▸ no 12 ▸ other ▸ no 13 ▸ no 18 ▸ no 15 ▸ no 14 ▸ no 16 ▸ no 19 ▸ no 20 ▸ no 21 ▸ no 22 ▸ no 23 ▸ no 24 ▸ no 25 ▸ no 26
    ▸ tt in
    let n = none_held (refusals s t) each e in
    record {
      undefined = n.0;
      taken = n.1.0;
      low = n.1.1.1.0;
      astray = n.1.1.1.1.0;
      back_wrong = n.1.1.1.1.1.0;
      high = n.1.1.1.1.1.1.0;
      too_many_frames = n.1.1.1.1.1.1.1.0;
      no_node = n.1.1.1.1.1.1.1.1.0;
      exhausted = n.1.1.1.1.1.1.1.1.1.1.1.1.0;
      misnamed = n.1.1.1.1.1.1.1.1.1.1.1.1.1.1.0;
      store_full = n.1.1.1.1.1.1.1.1.1.1.1.1.1.1.1.0;
    }
  where
    no : (n : ℕ) {A : Type 0} → A → suc n ≡ 0 → ⊥
    no n t e = omega arith

    other : T (not (eqb (Refusals.body_refusal s t) 0)) → Refusals.body_refusal s t ≡ 0 → ⊥
    other h e = neqb→ne (Refusals.body_refusal s t) 0 h e

-- a condition that is asked of one family alone, by the family's number
abbrev only : ℕ → ℕ → Bool → Bool
only n family b = elim (eqb n family) [ true ↦ b | false ↦ false ]

-- ---- lengths
written_length : (memory : List ℕ) (at : ℕ) (bytes : List ℕ) → length (written_of memory at bytes) ≡ length memory
unfolding written_of
written_length memory at [] = refl
written_length memory at (b ∷ bs) = written_length (set memory at b) (at + 1) bs ∙ length-set memory at b

held_most : (rom work : List ℕ) (count : ℕ) (w : Window) → length (held_by rom work count w) ≤ count
held_most rom work count (Rom k) = simp length-take (omega arith)
held_most rom work count (Work k) = simp length-take (omega arith)
held_most rom work count Nowhere = omega arith

string_most : (s : Scene) (address count : ℕ) → length (string_at s address count) ≤ count
unfolding resolve_of
string_most s address count = held_most s.rom s.work count (range_of s.rom s.work s.state.length address count)

-- ---- a token in a scene that is ready for it, and no refusal given
module _ (s : Scene) (t : Token) (z : Sized s.state) (l : Lent s) (w : Parts s.state) (a : 1 ≤ s.state.active)
    (d : Stands s.rom s.state.length s.state.wide (is_open s.state.calls) s.state.place t) (ok : AllowedAct s t) where
  abbrev st : State
  st = s.state

  -- stacks that fit
  record Fit (x : Stacks) : Type 0 where
    cells : length x.cells ≡ data_most
    height : x.height ≤ data_most
    back : length x.back ≡ return_most
    returns : x.returns ≤ return_most
    base : base_of st.calls ≤ x.returns

  -- the place behind the token
  next_place : Place st.length t.next
  next_place = record { from = omega (arith, d.follows.0, w.place.from); to = d.follows.1 }

  base_now : base_of st.calls ≤ st.back.height
  base_now = base_below st.length st.calls st.back.height w.calls

  -- what is lent is lent as before
  lent_then : (r : Turn) → r.state.length ≡ st.length → r.state.finished ≡ st.finished → length r.work ≡ work_size
      → length r.store ≡ store_size
      → Lent (then s r)
  lent_then r e f g h =
      record {
        work = g;
        store = h;
        rom_from = l.rom_from;
        fits = l.fits;
        rom_to = l.rom_to;
        least = rw e l.least;
        most = rw e l.most;
        unfinished = f ∙ l.unfinished;
      }

  -- other stacks, another place, other numbers, another work place and other work memory
  full : (x : Stacks) (place : ℕ) (ns : Numbers) (at : ℕ) (memory : List ℕ) → Fit x → Place st.length place → SizedNumbers ns
      → Entries st.length ns → at ≤ work_size → length memory ≡ work_size
      → Kept s (turn Going (with_work (with_numbers (moved st x place) ns) at) memory s.store)
  full x place ns at memory f p zn en h m =
      record {
        lent = lent_then (turn Going (with_work (with_numbers (moved st x place) ns) at) memory s.store) refl refl m l.store;
        parts =
            record {
              height = f.height;
              returns = f.returns;
              work = h;
              place = p;
              calls = frames_moved st.length st.calls st.back.height x.returns w.calls f.base;
              numbers = en;
              tree = w.tree;
              first_there = w.first_there;
              first_least = w.first_least;
              active_there = w.active_there;
            };
        sized = record { stack = f.cells; back = f.back; calls = z.calls; numbers = zn; tree = z.tree };
        rooted = λ r. r;
      }

  stacked : (x : Stacks) (place : ℕ) → Fit x → Place st.length place → Kept s (goes s (moved st x place))
  stacked x place f p = full x place st.numbers st.work_place s.work f p z.numbers w.numbers w.work l.work

  -- other frames
  called : (calls : Calls) (place : ℕ) (wide : Bool) → Place st.length place → SizedCalls calls
      → Frames st.length calls st.back.height
      → Kept s (goes s (with_calls st calls place wide))
  called calls place wide p zc fc =
      record {
        lent = lent_then (goes s (with_calls st calls place wide)) refl refl l.work l.store;
        parts =
            record {
              height = w.height;
              returns = w.returns;
              work = w.work;
              place = p;
              calls = fc;
              numbers = w.numbers;
              tree = w.tree;
              first_there = w.first_there;
              first_least = w.first_least;
              active_there = w.active_there;
            };
        sized = record { stack = z.stack; back = z.back; calls = zc; numbers = z.numbers; tree = z.tree };
        rooted = λ r. r;
      }

  -- another active node, another tree, and another store
  abbrev treed_as : Stacks → ℕ → Tree → List ℕ → Turn
  treed_as x active tree kept = turn Going (with_tree (with_active (moved st x t.next) active) tree) s.work kept

  treed : (x : Stacks) (active : ℕ) (tree : Tree) (kept : List ℕ) → Fit x → SizedTree tree → WholeTree tree → st.tree.nodes ≤ tree.nodes
      → active < tree.nodes → length kept ≡ store_size → (Rooted st → RootedAt st.first active tree)
      → Kept s (treed_as x active tree kept)
  treed x active tree kept f zt wt more there m r =
      record {
        lent = lent_then (treed_as x active tree kept) refl refl l.work m;
        parts =
            record {
              height = f.height;
              returns = f.returns;
              work = w.work;
              place = next_place;
              calls = frames_moved st.length st.calls st.back.height x.returns w.calls f.base;
              numbers = w.numbers;
              tree = wt;
              first_there = omega (arith, w.first_there);
              first_least = w.first_least;
              active_there = there;
            };
        sized = record { stack = f.cells; back = f.back; calls = z.calls; numbers = z.numbers; tree = zt };
        rooted = r;
      }

  -- ---- stacks
  same_fit : Fit (stacks_of st)
  same_fit = record { cells = z.stack; height = w.height; back = z.back; returns = w.returns; base = base_now }

  data_fit : (cells : List ℕ) (height : ℕ) → length cells ≡ data_most → height ≤ data_most
      → Fit (stacks cells height st.back.cells st.back.height)
  data_fit cells height e h = record { cells = e; height = h; back = z.back; returns = w.returns; base = base_now }

  gave_fit : (takes : ℕ) (cells : List ℕ) → st.stack.height - takes + length cells ≤ data_most → Fit (gave st takes cells)
  gave_fit takes cells h =
      data_fit (left_of st.stack.cells (st.stack.height - takes) cells) (st.stack.height - takes + length cells)
      (left_length st.stack.cells (st.stack.height - takes) cells ∙ z.stack) h

  -- ---- what 14 and 15 leave
  takes_other : (f : ℕ) → family_in t.code ≡ f → T (not (eqb f define)) → takes_here t ≡ takes_in t.code
  takes_other f k v = by (eqb (family_in t.code) define) (rw k v)
    where
      by : (b : Bool) → T (not b) → takes_in t.code + elim b [ true ↦ takes_in (code_of (kind_in t.operand)) | false ↦ 0 ] ≡ takes_in
          t.code
      by true h = absurd h
      by false h = omega arith

  low_bound : takes_here t ≤ st.stack.height
  low_bound =
      let p = neither (ltb st.stack.height (takes_here t) || asked pick_up t deep s) (asked roll_up t deep s) ok.low in
      let q = neither (ltb st.stack.height (takes_here t)) (asked pick_up t deep s) p.0 in
      nltb→le st.stack.height (takes_here t) q.0
    where
      deep : Scene → Token → Bool
      deep s t = too_deep (stacks_of s.state)

  high_bound : st.stack.height - takes_here t + (gives_in t.code + gives_more s t) ≤ data_most
  high_bound = nltb→le data_most (st.stack.height - takes_here t + (gives_in t.code + gives_more s t)) ok.high

  module _ (f : ℕ) (k : family_in t.code ≡ f) (u : T (not (eqb f define))) (v : T (not (eqb f plain || eqb f kind))) where
    enough : takes_by f ≤ st.stack.height
    enough =
        let e = takes_other f k u in
        let g = shape t.code t.number f d.code k v in
        let h = low_bound in
        omega (arith, g.0)

    room : st.stack.height - takes_by f + (gives_by f + gives_more s t) ≤ data_most
    room =
        let e = takes_other f k u in
        let g = shape t.code t.number f d.code k v in
        let h = high_bound in
        let i = g.0 in
        let j = g.1 in
        rw (← i, ← j, ← e) h

  -- ---- what the others leave, by the token's family
  unknown : Bool
  unknown = unknown_of (kinds_of st.numbers) t

  is_body_here : Bool
  is_body_here = is_body st.numbers (seek_of st.numbers t.number)

  abbrev unknown_by : ℕ → Bool
  unknown_by n = only n call unknown || only n assign unknown

  abbrev taken_by : ℕ → Bool
  taken_by n = only n define (is_held st.numbers (new_number t.operand) || leb numbers_most st.numbers.count)

  abbrev astray_by : ℕ → Bool
  astray_by n = only n always (leads_out t.operand) || only n choice (eqb (cell_of s 0) 0 && leads_out t.operand)

  abbrev back_by : ℕ → Bool
  back_by n =
      only n plain (back_trouble t.code st.back.height (base_of st.calls))
      || only n leave (not (eqb st.back.height (base_of st.calls)))

  abbrev more_by : ℕ → ℕ
  more_by n = pick (only n call (not is_body_here) || only n maybe (not (eqb (cell_of s 0) 0))) 1 0

  abbrev frames_by : ℕ → Bool
  frames_by n = only n call (is_body_here && leb frames_most st.calls.count)

  abbrev node_by : ℕ → Bool
  node_by n = only n new_device (no_room st.tree) || only n finish_device (outermost st.first st.active)

  abbrev no_variable : Bool
  no_variable = eqb (kind_in t.operand) variable && ltb work_size (rounded st.work_place + 4)

  abbrev work_by : ℕ → Bool
  work_by n =
      only n define no_variable
      || only n encode_int (ltb work_size (st.work_place + 4))
      || only n encode_string (ltb work_size (st.work_place + (cell_of s 0 + 1)))

  abbrev name_by : ℕ → Bool
  name_by n = only n property (bad_name (named_here s))

  abbrev store_by : ℕ → Bool
  store_by n = only n property (no_room_for s (named_here s) (value_here s)) || only n titled
      (no_room_for s (title_of t.number) (titled_here s))

  module _ (f : ℕ) (k : family_in t.code ≡ f) where
    undefined_asked : T (not (unknown_by f))
    unfolding unknown
    undefined_asked = subst (λ (n : ℕ). T (not (unknown_by n))) k ok.undefined

    taken_asked : T (not (taken_by f))
    taken_asked = subst (λ (n : ℕ). T (not (taken_by n))) k ok.taken

    astray_asked : T (not (astray_by f))
    astray_asked = subst (λ (n : ℕ). T (not (astray_by n))) k ok.astray

    back_asked : T (not (back_by f))
    back_asked = subst (λ (n : ℕ). T (not (back_by n))) k ok.back_wrong

    more_asked : gives_more s t ≡ more_by f
    unfolding is_body_here
    more_asked = ap more_by k

    frames_asked : T (not (frames_by f))
    unfolding is_body_here
    frames_asked = subst (λ (n : ℕ). T (not (frames_by n))) k ok.too_many_frames

    node_asked : T (not (node_by f))
    node_asked = subst (λ (n : ℕ). T (not (node_by n))) k ok.no_node

    work_asked : T (not (work_by f))
    work_asked = subst (λ (n : ℕ). T (not (work_by n))) k ok.exhausted

    name_asked : T (not (name_by f))
    name_asked = subst (λ (n : ℕ). T (not (name_by n))) k ok.misnamed

    store_asked : T (not (store_by f))
    store_asked = subst (λ (n : ℕ). T (not (store_by n))) k ok.store_full

  -- ---- family by family
  plain_fit : (op : ℕ) → st.stack.height - takes_in t.code + gives_in t.code ≤ data_most
      → st.back.height - return_takes_in t.code + return_gives_in t.code ≤ return_most
      → base_of st.calls ≤ st.back.height - return_takes_in t.code + return_gives_in t.code
      → Fit (plain_of t.number op (stacks_of st))
  unfolding plain_of
  plain_fit op h r b =
      record {
        cells = left_length st.stack.cells _ _ ∙ z.stack;
        height = rw (← d.code) h;
        back = left_length st.back.cells _ _ ∙ z.back;
        returns = rw (← d.code) r;
        base = rw (← d.code) b;
      }

  keeps_plain : family_in t.code ≡ plain → Kept s (Effects.reckoned s t)
  keeps_plain k =
      let e = takes_other plain k tt in
      let h = high_bound in
      let q = neither (back_trouble t.code st.back.height (base_of st.calls)) false (back_asked plain k) in
      let over = st.back.height - return_takes_in t.code + return_gives_in t.code in
      let (x, y) = neither (ltb (st.back.height - base_of st.calls) (return_takes_in t.code)) (ltb return_most over) q.0 in
      let b = base_now in
      let m = nltb→le (st.back.height - base_of st.calls) (return_takes_in t.code) x in
      let n = nltb→le return_most over y in
      stacked (plain_of t.number (operand_in t.operand) (stacks_of st)) t.next
      (plain_fit (operand_in t.operand) (omega arith) n (omega arith)) next_place

  keeps_divide : family_in t.code ≡ divide → Kept s (Effects.reckoned s t)
  keeps_divide k =
      let e = takes_other divide k tt in
      let h = high_bound in
      let r = no_returns t.code t.number divide d.code k tt in
      let b = base_now in
      stacked (plain_of t.number (operand_in t.operand) (stacks_of st)) t.next
      (plain_fit (operand_in t.operand) (omega arith) (rw (r.0, r.1) (omega (arith, w.returns))) (rw (r.0, r.1) (omega arith)))
      next_place

  keeps_always : family_in t.code ≡ always → Kept s (Effects.branches s t)
  keeps_always k =
      let q = (neither (leads_out t.operand) false (astray_asked always k)).0 in
      stacked (stacks_of st) (aimed t.operand) same_fit
      (branch_place s.rom st.length st.wide (is_open st.calls) st.place t d always k tt q)

  keeps_choice : family_in t.code ≡ choice → Kept s (Effects.chooses s t)
  keeps_choice k =
      let q = astray_asked choice k in
      let h = enough choice k tt tt in
      let r = room choice k tt tt in
      stacked (gave st 1 []) (pick (eqb (cell_of s 0) 0) (aimed t.operand) t.next) (gave_fit 1 [] (omega arith))
      (pick_is (Place st.length) (eqb (cell_of s 0) 0) (aimed t.operand) t.next
      (λ c. branch_place s.rom st.length st.wide (is_open st.calls) st.place t d choice k tt
      (not_both (eqb (cell_of s 0) 0) (leads_out t.operand) c q))
      (λ c. next_place))

  keeps_text : family_in t.code ≡ text → Kept s (Effects.quotes s t)
  keeps_text k =
      let r = room text k tt tt in
      stacked (gave st 0 ((rom_base + Effects.text_start t.operand) ∷ Effects.text_count t.operand ∷ [])) t.next
      (gave_fit 0 _ (omega arith)) next_place

  keeps_widen : family_in t.code ≡ widen → Kept s (Effects.widens s t)
  keeps_widen k = called st.calls t.next true next_place z.calls w.calls

  keeps_pick : family_in t.code ≡ pick_up → Kept s (Effects.picked s t)
  keeps_pick k =
      stacked (picked_of (stacks_of st)) t.next
      (data_fit (picked_of (stacks_of st)).cells st.stack.height (length-set st.stack.cells (st.stack.height - 1) _ ∙ z.stack)
      w.height) next_place

  keeps_roll : family_in t.code ≡ roll_up → Kept s (Effects.rolled s t)
  keeps_roll k =
      stacked (rolled_of (stacks_of st)) t.next
      (data_fit (rolled_of (stacks_of st)).cells (st.stack.height - 1) (left_length st.stack.cells _ _ ∙ z.stack)
      (omega (arith, w.height))) next_place

  keeps_maybe : family_in t.code ≡ maybe → Kept s (Effects.doubled s t)
  keeps_maybe k =
      let h = enough maybe k tt tt in
      let r = room maybe k tt tt in
      let m = more_asked maybe k in
      stacked (pick (eqb (cell_of s 0) 0) (stacks_of st) (doubled_of (stacks_of st))) t.next
      (pick_is Fit (eqb (cell_of s 0) 0) (stacks_of st) (doubled_of (stacks_of st)) (λ c. same_fit)
      (λ c.
      let e : gives_more s t ≡ 1 = m ∙ rw (is_false (eqb (cell_of s 0) 0) c) in
      data_fit (doubled_of (stacks_of st)).cells (st.stack.height + 1) (length-set st.stack.cells st.stack.height _ ∙ z.stack)
      (omega arith)))
      next_place

  keeps_leave : family_in t.code ≡ leave → Kept s (Effects.leaves s t)
  keeps_leave k =
      let o = leave_open s.rom st.length st.wide (is_open st.calls) st.place t d k in
      let c = ltb-true 0 st.calls.count o in
      called (unframed_of st.calls) (get_or st.calls.places (st.calls.count - 1) 0)
      (get_or st.calls.wides (st.calls.count - 1) false)
      (w.calls.each (st.calls.count - 1) (omega arith)).place
      (record { places = z.calls.places; wides = z.calls.wides; bases = z.calls.bases })
      (frames_popped st.length st.calls st.back.height w.calls)

  keeps_fetch : family_in t.code ≡ fetch → Kept s (Effects.fetches s t)
  keeps_fetch k =
      let h = enough fetch k tt tt in
      let r = room fetch k tt tt in
      stacked (gave st 1 _) t.next (gave_fit 1 (_ ∷ []) (omega arith)) next_place

  keeps_store : family_in t.code ≡ store → Kept s (Effects.stores s t)
  keeps_store k =
      full (gave st 2 []) t.next st.numbers st.work_place (written_of s.work (cell_of s 0 - work_base) (Effects.stored_bytes s t))
      (gave_fit 2 [] (omega (arith, w.height))) next_place z.numbers w.numbers w.work
      (written_length s.work (cell_of s 0 - work_base) (Effects.stored_bytes s t) ∙ l.work)

  keeps_assign : family_in t.code ≡ assign → Kept s (Effects.assigns s t)
  keeps_assign k =
      let i = seek_of st.numbers (number_in t.operand) in
      full (gave st 1 []) t.next (assigned_of st.numbers i (cell_of s 0)) st.work_place s.work
      (gave_fit 1 [] (omega (arith, w.height))) next_place
      (numbers_assigned st.numbers i (cell_of s 0) z.numbers)
      (entries_assigned st.length st.numbers i (cell_of s 0) w.numbers
      (assign_value st.numbers t k (unfold unknown in undefined_asked assign k)))
      w.work l.work

  keeps_int : family_in t.code ≡ encode_int → Kept s (Effects.encodes_int s t)
  keeps_int k =
      let h = enough encode_int k tt tt in
      let r = room encode_int k tt tt in
      let q = (neither (ltb work_size (st.work_place + 4)) false (work_asked encode_int k)).0 in
      full (gave st 1 ((work_base + st.work_place) ∷ 4 ∷ [])) t.next st.numbers (st.work_place + 4)
      (written_of s.work st.work_place (bytes_of (cell_of s 0))) (gave_fit 1 _ (omega arith)) next_place z.numbers w.numbers
      (omega (arith, tests))
      (written_length s.work st.work_place (bytes_of (cell_of s 0)) ∙ l.work)

  keeps_string : family_in t.code ≡ encode_string → Kept s (Effects.encodes_string s t)
  keeps_string k =
      let h = enough encode_string k tt tt in
      let r = room encode_string k tt tt in
      let q = work_asked encode_string k in
      let bytes = string_at s (cell_of s 1) (cell_of s 0) ++ (0 ∷ []) in
      let m = string_most s (cell_of s 1) (cell_of s 0) in
      let n : length bytes ≡ length (string_at s (cell_of s 1) (cell_of s 0)) + 1 =
      length-append (string_at s (cell_of s 1) (cell_of s 0)) (0 ∷ []) in
      full (gave st 2 ((work_base + st.work_place) ∷ length bytes ∷ [])) t.next st.numbers (st.work_place + length bytes)
      (written_of s.work st.work_place bytes) (gave_fit 2 _ (omega arith)) next_place z.numbers w.numbers
      (omega (arith, tests))
      (written_length s.work st.work_place bytes ∙ l.work)

  keeps_join : family_in t.code ≡ join → Kept s (Effects.joins s t)
  keeps_join k =
      let h = enough join k tt tt in
      let r = room join k tt tt in
      stacked (gave st 4 (cell_of s 3 ∷ ((cell_of s 2 + cell_of s 0) % 2 ^ 32) ∷ [])) t.next (gave_fit 4 _ (omega arith)) next_place

  put : (takes : ℕ) (name v : List ℕ) → T (not (no_room_for s name v)) → 1 ≤ length name → length name ≤ name_most
      → Kept s (Effects.keeps_of s t takes name v)
  put takes name v f g h =
      let node = st.active in
      let c : Accepted st.tree s.store node name v =
      record { size = l.store; whole = w.tree; least = g; most = h; roomy = is_false (no_room_for s name v) f } in
      let same = put_nodes st.tree s.store node name v in
      treed (gave st takes []) node (tree_put st.tree s.store node name v) (store_put st.tree s.store node name v)
      (gave_fit takes [] (omega (arith, w.height))) (put_sized st.tree z.tree node s.store name v)
      (put_whole st.tree s.store node name v c z.tree w.active_there) (omega arith) (omega (arith, w.active_there))
      (put_size st.tree s.store node name v c ∙ l.store) (put_rooted st.tree s.store node name v st.first node)

  keeps_property : family_in t.code ≡ property → Kept s (Effects.keeps s t)
  keeps_property k =
      let n = name_facts (named_here s) (is_false (bad_name (named_here s)) (name_asked property k)) in
      put 4 (named_here s) (value_here s) (neither (no_room_for s (named_here s) (value_here s)) false (store_asked property k)).0 n.0 n.1

  keeps_titled : family_in t.code ≡ titled → Kept s (Effects.titles s t)
  keeps_titled k =
      let n = name_facts (title_of t.number) (title_good t.number) in
      put 2 (title_of t.number) (titled_here s) (store_asked titled k) n.0 n.1

  keeps_new : family_in t.code ≡ new_device → Kept s (Effects.opens_node s t)
  keeps_new k =
      let q = (neither (no_room st.tree) false (node_asked new_device k)).0 in
      treed (stacks_of st) st.tree.nodes (child_of st.tree st.active) s.store same_fit
      (child_sized st.tree z.tree st.active)
      (child_whole st.tree st.active w.active_there w.tree (is_false (no_room st.tree) q)) (omega arith) (omega arith)
      l.store (child_rooted st.tree z.tree st.active st.first q w.first_there)

  keeps_finish : family_in t.code ≡ finish_device → Kept s (Effects.closes_node s t)
  keeps_finish k =
      let p = parent_there st.tree st.active w.tree a w.active_there in
      treed (stacks_of st) (parent_of st.tree st.active) st.tree s.store same_fit z.tree w.tree (omega arith)
      (omega (arith, w.active_there)) l.store
      (finish_rooted st.tree st.first st.active w.active_there (node_asked finish_device k))

  -- a call: a body is entered, any other gives its value
  keeps_call : family_in t.code ≡ call → Kept s (Effects.calls s t)
  unfolding is_body_here unknown
  keeps_call k = by is_body_here refl
    where
      at : ℕ
      at = seek_of st.numbers t.number

      held : at < st.numbers.count
      held = ltb→lt at st.numbers.count (call_held st.numbers t k (neither unknown false (undefined_asked call k)).0)

      fits : is_body_here ≡ true → st.calls.count < frames_most
      fits e = nleb→lt frames_most st.calls.count
          (not_both is_body_here (leb frames_most st.calls.count) (holds is_body_here e) (frames_asked call k))

      by : (b : Bool) → is_body_here ≡ b → Kept s (Effects.calls s t)
      by true e =
          rw e
          (called (framed_of st.calls t.next st.wide st.back.height) (get_or st.numbers.values at 0)
          (get_or st.numbers.wides at false)
          ((w.numbers.each at held).body (holds is_body_here e))
          (calls_pushed st.length st.calls st.back.height t.next st.wide w.calls (fits e) z.calls next_place)
          (frames_pushed st.length st.calls st.back.height t.next st.wide w.calls (fits e) z.calls next_place))
      by false e =
          let g : gives_more s t ≡ 1 = more_asked call k ∙ rw e in
          let r = room call k tt tt in
          rw e (stacked (gave st 0 (get_or st.numbers.values at 0 ∷ [])) t.next (gave_fit 0 (_ ∷ []) (omega arith)) next_place)

  -- a definition, by its kind
  module _ (k : family_in t.code ≡ define) where
    one_more : st.numbers.count < numbers_most
    one_more =
        nleb→lt numbers_most st.numbers.count
        (neither (is_held st.numbers (new_number t.operand)) (leb numbers_most st.numbers.count) (taken_asked define k)).1

    abbrev numbered : ℕ → Numbers
    numbered v = defined_of st.numbers (new_number t.operand) (kind_in t.operand) v st.wide

    module _ (v : ℕ) (b : kind_in t.operand ≡ colon → Place st.length v) where
      all_numbers : Entries st.length (numbered v)
      all_numbers =
          entries_defined st.length st.numbers (new_number t.operand) (kind_in t.operand) v st.wide w.numbers one_more
          z.numbers
          (new_number_lem s.rom st.length st.wide (is_open st.calls) st.place t d k) b

      all_sized : SizedNumbers (numbered v)
      all_sized =
          numbers_defined st.length st.numbers (new_number t.operand) (kind_in t.operand) v st.wide w.numbers one_more
          z.numbers
          (new_number_lem s.rom st.length st.wide (is_open st.calls) st.place t d k) b

    keeps_colon : Kept s (Effects.colons s t)
    keeps_colon =
        let e = behind_body_lem s.rom st.length st.wide (kinds_of st.numbers) t.next next_place.to in
        full (stacks_of st) (behind_body (body_here s t)) (numbered t.next) st.work_place s.work same_fit
        (record { from = omega (arith, next_place.from, e.0); to = e.1 }) (all_sized t.next (λ c. next_place))
        (all_numbers t.next (λ c. next_place))
        w.work l.work

    keeps_value : (kind_in t.operand ≡ colon → ⊥) → Kept s (Effects.values s t)
    keeps_value n =
        full (gave st 1 []) t.next (numbered (cell_of s 0)) st.work_place s.work (gave_fit 1 [] (omega (arith, w.height)))
        next_place
        (all_sized (cell_of s 0) (λ c. absurd (n c))) (all_numbers (cell_of s 0) (λ c. absurd (n c))) w.work l.work

    keeps_variable : kind_in t.operand ≡ variable → (kind_in t.operand ≡ colon → ⊥) → Kept s (Effects.variables s t)
    keeps_variable c n =
        let at = rounded st.work_place in
        let v = work_base + at in
        let p = (neither no_variable false (neither (no_variable || false) false (work_asked define k)).0).0 in
        let q = not_both (eqb (kind_in t.operand) variable) (ltb work_size (at + 4)) (holds _ (eq-eqb (kind_in t.operand) variable c)) p
        in
        full (gave st 0 []) t.next (numbered v) (at + 4) (written_of s.work at (bytes_of 0)) (gave_fit 0 [] (omega (arith, w.height)))
        next_place
        (all_sized v (λ c. absurd (n c))) (all_numbers v (λ c. absurd (n c))) (nltb→le work_size (at + 4) q)
        (written_length s.work at (bytes_of 0) ∙ l.work)

    keeps_define : Kept s (Effects.defines s t)
    keeps_define =
        let kind = kind_in t.operand in
        pick_is (λ (e : Effects.Effect). Kept s (e s t)) (eqb kind colon) Effects.colons _ (λ c. keeps_colon)
        (λ n. pick_is (λ (e : Effects.Effect). Kept s (e s t)) (eqb kind value) Effects.values _ (λ c. keeps_value (neqb→ne kind colon n))
        (λ m. pick_is (λ (e : Effects.Effect). Kept s (e s t)) (eqb kind variable) Effects.variables Effects.values
        (λ c. keeps_variable (eqb→eq kind variable c) (neqb→ne kind colon n)) (λ o. keeps_value (neqb→ne kind colon n))))

  act_keeps : (act_of s t).answer ≡ Going → Kept s (act_of s t)
  unfolding act_of effects
  act_keeps =
      find_at (λ (e : Effects.Effect). (e s t).answer ≡ Going → Kept s (e s t)) effects nothing (family_in t.code) (
      (λ k g. keeps_plain k) ▸
      (λ k g. absurd (not_finished g)) ▸
      (λ k g. keeps_always k) ▸
      (λ k g. keeps_choice k) ▸
      (λ k g. keeps_text k) ▸
      (λ k g. keeps_widen k) ▸
      (λ k g. keeps_divide k) ▸
      (λ k g. keeps_pick k) ▸
      (λ k g. keeps_roll k) ▸
      (λ k g. keeps_maybe k) ▸
      (λ k g. keeps_leave k) ▸
      (λ k g. keeps_fetch k) ▸
      (λ k g. keeps_store k) ▸
      (λ k g. keeps_define k) ▸
      (λ k g. keeps_assign k) ▸
      (λ k g. keeps_call k) ▸
      (λ k g. keeps_int k) ▸
      (λ k g. keeps_string k) ▸
      (λ k g. keeps_join k) ▸
      (λ k g. keeps_property k) ▸
      (λ k g. keeps_titled k) ▸
      (λ k g. keeps_new k) ▸
      (λ k g. keeps_finish k) ▸
      tt
      )
      (λ g. absurd (not_going 11 g))

-- ---- the token at a ready state's place
module _ (s : Scene) (z : Sized s.state) (l : Lent s) (w : Parts s.state) (a : 1 ≤ s.state.active) where
  done_keeps : (t : Token) → Stands s.rom s.state.length s.state.wide (is_open s.state.calls) s.state.place t
      → (done_of s t).answer ≡ Going → Kept s (done_of s t)
  unfolding done_of
  done_keeps t d =
      when_is (λ (r : Turn). r.answer ≡ Going → Kept s r) (eqb (refusal_of s t) 0) (act_of s t) (refuse (refusal_of s t) s)
      (λ c. act_keeps s t z l w a d (allowed s t (eqb→eq (refusal_of s t) 0 c))) (λ c g. absurd (not_going (refusal_of s t) g))

  read_keeps : (r : Result Token ℕ) → read_of s.rom s.state.length s.state.wide (is_open s.state.calls) s.state.place ≡ r
      → (read_turn s r).answer ≡ Going → Kept s (read_turn s r)
  read_keeps (Err why) e g = absurd (not_going why g)
  read_keeps (Ok t) e g =
      done_keeps t (stands s.rom s.state.length s.state.wide (is_open s.state.calls) s.state.place t e) g

pub token_keeps : (s : Scene) → Sized s.state → ready_of s ≡ Going → (token_turn s).answer ≡ Going → Kept s (token_turn s)
unfolding token_turn
token_keeps s z e g =
    let (l, f) = ready_facts s e in
    let (w, a) = whole_facts s.state f in
    read_keeps s z l w a (read_of s.rom s.state.length s.state.wide (is_open s.state.calls) s.state.place) refl g
