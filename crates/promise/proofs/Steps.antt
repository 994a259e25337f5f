-- A token of a passed ROM, family by family: it is refused by 21 to 27, finishes the run, or leaves a state that stands as the assignment
-- says. Assumes nothing.
use Rattle.std.specs.Prelude.{ℕ, suc, ◌+◌, ◌-◌, ◌≤◌, ◌<◌, ◌≡◌, Bool, true, false, not, ◌&&◌, ◌||◌, leb, eqb, length, None, Ok, Some}
use Rattle.std.proofs.Common.{arith, sym, ap, subst, ◌∙◌, eqb→eq, get_or-set_same, get_or-set_other, eq-eqb, ne_eqb, lt-ltb, le-ltb}
use Rattle.std.proofs.Math.Path.{refl}
use mathlib.Core.List.{List, [], ◌∷◌, ◌++◌}
use Rattle.std.proofs.Math.Dec.{T, T_not, nleb→lt}
use Rattle.cells.specs.Choice.{pick}
use Rattle.cells.specs.Laws.Tests.{tests, pick_is, neqb→ne}
use Rattle.cells.specs.Laws.Facts.{holds, fails, is_false, both_hold, neither}
use Rattle.rom.specs.Header.{length_of}
use Rattle.tokens.specs.Family.{plain, finish, always, choice, text, widen, divide, pick_up, roll_up, maybe, leave, fetch, store, define}
use Rattle.tokens.specs.Family.{kind, assign, call}
use Rattle.tokens.specs.Family.{encode_int, encode_string, join, property, titled, new_device, finish_device}
use Rattle.tokens.specs.Table.{ends, lows, highs, doubles, table, row_of}
use Rattle.tokens.specs.Code.{code_of, family_in, takes_in, gives_in, return_takes_in, return_gives_in}
use Rattle.tokens.specs.Body.{number_in}
use Rattle.tokens.specs.Definition.{colon, value, variable, new_number, kind_in, takes_here}
use Rattle.tokens.specs.declared.decoding.Operand.{Operand}
use Rattle.tokens.specs.declared.decoding.Operand.TheVariants.{Nothing, Literal, Text, Branch, Number, Definition}
use Rattle.tokens.specs.declared.decoding.Token.{Token}
use Rattle.tokens.specs.Laws.Stands.{stands}
use Rattle.tree.specs.Whole.{parent_of}
use Rattle.tree.specs.Property.{recorded_of, tree_put}
use Rattle.tree.specs.Node.{child_of}
use Rattle.tree.specs.Laws.PutKept.{SizedTree}
use Rattle.tree.specs.declared.tree.Tree.{Tree}
use Rattle.state.specs.Stacks.{plain_of}
use Rattle.state.specs.State.{with_work}
use Rattle.state.specs.Numbers.{seek_of, defined_of}
use Rattle.state.specs.Scene.{Scene, scene, Turn, cell_of}
use Rattle.memory.specs.Writing.{bytes_of}
use Rattle.state.specs.Refusals.{string_at, title_of, named_here, value_here, titled_here}
use Rattle.state.specs.Effects
use Rattle.state.specs.Effects.{aimed, onward, behind_body, effects, nothing, act_of}
use Rattle.state.specs.Laws.Sized.{Sized}
use Rattle.state.specs.Laws.Keeps.Tests.{◌▸◌}
use Rattle.state.specs.Laws.Keeps.Tree.{put_nodes}
use Rattle.state.specs.Laws.Keeps.Token.{takes_by, gives_by, shape, no_returns}
use Rattle.state.specs.declared.state.State.{State}
use Rattle.state.specs.Answer.{Answer, Going, Finished, Refused, Spent}
use Rattle.screen.specs.Effect.{is_a, fixes, is_colon, aims, no_places, is_branch, both_ways, leads_of, effect_of}
use Rattle.screen.specs.Reach.{In, here, there, in_body, token_at, extends, leads, Holds}
use Rattle.screen.specs.Rules.{Assignment}
use Rattle.screen.specs.Laws.Rules.Tokens.{heads}
use Rattle.screen.specs.Laws.Rules.Ways.{effect_own}
use Rattle.promise.specs.Laws.Standing.{Defined, Carried, Below, own, child, Standing}
use Rattle.promise.specs.Trail.{DependsOnData, OpenCall, open_after}
use Rattle.promise.specs.Laws.Before.{defined_token, leads_moves}
use Rattle.promise.specs.Laws.Carrying.{carried_on, carried_new, carried_assigned}
use Rattle.promise.specs.Laws.Room.{Outer}
use Rattle.promise.proofs.Refusing.{not_first, aimed_in_lem, on, is_body_here, value_sum_lem, number_room, body_ends, assigned_value}
use Rattle.promise.proofs.Refusing.{no_pick, node_room}
use Rattle.promise.specs.Laws.Families.{find_in, family_known}
use Rattle.promise.proofs.Onward.{open_count, falls_on, go_on, fixed, go_fixed, go_in, go_out}
use Rattle.rom.specs.Sizes.{nodes_most}

-- ---- the tree
-- a child more leaves every node where it was
below_more : (t : Tree) (active : ℕ) {k n : ℕ} → Below t k n → Below (child_of t active) k n
below_more t active own = own
below_more t active (child {k} {n} h l b) =
    let e : parent_of (child_of t active) k ≡ parent_of t k = get_or-set_other t.parents t.nodes k active 0 (λ q. omega arith) in
    child h (omega arith) (subst (λ p. Below (child_of t active) p n) (sym e) (below_more t active b))

-- and is one below the node that was active
below_child : (t : Tree) (active : ℕ) {n : ℕ} → SizedTree t → 2 ≤ t.nodes → t.nodes < nodes_most → Below t active n
    → Below (child_of t active) t.nodes (suc n)
below_child t active {n} z l h b =
    let e : parent_of (child_of t active) t.nodes ≡ active = get_or-set_same t.parents t.nodes active 0 (omega (arith, z.parents)) in
    child l (omega arith) (subst (λ p. Below (child_of t active) p n) (sym e) (below_more t active b))

-- a parent is one less below node 1
below_parent : (t : Tree) {k n : ℕ} → Below t k n → 1 ≤ n → Below t (parent_of t k) (n - 1)
below_parent t own l = absurd (omega arith)
below_parent t (child {k} {n} h u b) l =
    let e : suc n - 1 ≡ n = omega arith in
    subst (λ m. Below t (parent_of t k) m) (sym e) b

-- properties change nothing of it
below_put : (t : Tree) (stored : List ℕ) (node : ℕ) (name v : List ℕ) {k n : ℕ} → Below t k n → Below (tree_put t stored node name v) k n
unfolding recorded_of
below_put t stored node name v own = own
below_put t stored node name v (child h l b) = child h l (below_put t stored node name v b)

-- the nodes of a state
abbrev nodes_of : State → Tree × ℕ × ℕ
nodes_of st = (st.tree, st.active, st.first)

-- ---- branches
-- a branch leads to its aim
to_aim : (o : Operand) → T (not (no_places (aims o))) → In (aimed o) (aims o)
to_aim Nothing h = absurd h
to_aim (Literal n) h = absurd h
to_aim (Text start count) h = absurd h
to_aim (Branch bits (Some to)) h = here
to_aim (Branch bits None) h = absurd h
to_aim (Number n) h = absurd h
to_aim (Definition n k) h = absurd h

-- both ways of one that may be taken
either_way : (next : ℕ) (o : Operand) → T (not (no_places (aims o))) → In next (both_ways next (aims o))
    × In (aimed o) (both_ways next (aims o))
either_way next Nothing h = absurd h
either_way next (Literal n) h = absurd h
either_way next (Text start count) h = absurd h
either_way next (Branch bits (Some to)) h = (here, there here)
either_way next (Branch bits None) h = absurd h
either_way next (Number n) h = absurd h
either_way next (Definition n k) h = absurd h

always_leads : (t : Token) → family_in t.code ≡ always → leads_of t ≡ aims t.operand
unfolding leads_of
always_leads t e = rw e

choice_leads : (t : Token) → family_in t.code ≡ choice → leads_of t ≡ both_ways t.next (aims t.operand)
unfolding leads_of
choice_leads t e = rw e

-- ---- families
-- those of which each token takes and gives the same, and goes on behind itself
abbrev ordinary : ℕ → Bool
ordinary f =
    not (eqb f call || eqb f define)
    && (not (eqb f plain || eqb f kind)
    && (not (eqb f finish || eqb f leave) &&
    (not (eqb f always || eqb f choice) && not (eqb f define || eqb f widen || eqb f new_device || eqb f finish_device))))

record Ordinary (f : ℕ) : Type 0 where
  calls : T (not (eqb f call))
  defines : T (not (eqb f define))
  varies : T (not (eqb f plain || eqb f kind))
  ends : T (not (eqb f finish || eqb f leave))
  branches : T (not (eqb f always || eqb f choice))
  once : T (not (eqb f define || eqb f widen || eqb f new_device || eqb f finish_device))

ordinary_facts : (f : ℕ) → T (ordinary f) → Ordinary f
ordinary_facts f o =
    let h = both_hold (not (eqb f call || eqb f define)) _ o in
    let i = both_hold (not (eqb f plain || eqb f kind)) _ h.1 in
    let j = both_hold (not (eqb f finish || eqb f leave)) _ i.1 in
    let k = both_hold (not (eqb f always || eqb f choice)) _ j.1 in
    let n = neither (eqb f call) (eqb f define) h.0 in
    record { calls = n.0; defines = n.1; varies = i.0; ends = j.0; branches = k.0; once = k.1 }

-- what is not met exactly once defines nothing
not_define : (t : Token) → T (not (fixes t)) → T (not (is_a define t))
not_define t f =
    let a = neither (is_a define t || is_a widen t || is_a new_device t) (is_a finish_device t) f in
    let b = neither (is_a define t || is_a widen t) (is_a new_device t) a.0 in
    (neither (is_a define t) (is_a widen t) b.0).0

-- ---- kinds: what a definition takes
kind_takes : (takes_in (code_of colon) ≡ 0) × (takes_in (code_of value) ≡ 1) × (takes_in (code_of variable) ≡ 0)
    × (takes_in (code_of 0xBA) ≡ 1)
unfolding code_of row_of table ends lows highs doubles
kind_takes = (refl, refl, refl, refl)

-- ---- what a token leaves
-- it goes on, to a state that stands so, finishes the run, or is refused by data
abbrev pub Fine : {rom : List ℕ} → Assignment rom → List OpenCall → State → Turn → Answer → Type 0
Fine a open_calls st r Going = Standing a (open_after open_calls st r.state) r.state
Fine a open_calls st r Finished = Unit {0}
Fine a open_calls st r (Refused why) = DependsOnData why
Fine a open_calls st r (Spent n) = ⊥

abbrev pub FineTurn : {rom : List ℕ} → Assignment rom → List OpenCall → State → Turn → Type 0
FineTurn a open_calls st r = Fine a open_calls st r r.answer

-- no call opened and none left
same_calls : {rom : List ℕ} {a : Assignment rom} {open_calls : List OpenCall} {then : State} (st : State)
    → then.calls.count ≡ st.calls.count → Standing a open_calls then
    → Standing a (open_after open_calls st then) then
same_calls {rom} {a} {open_calls} {then} st e g =
    let up = le-ltb st.calls.count then.calls.count (omega arith) in
    let down = le-ltb then.calls.count st.calls.count (omega arith) in
    rw (up, down) g

module _ {rom : List ℕ} (a : Assignment rom) (work stored : List ℕ) (open_calls : List OpenCall) (st : State) (z : Sized st)
    (many : 2 ≤ st.tree.nodes)
    (g : Standing a open_calls st) (t : Token) (is : token_at rom g.text g.setting.wide st.place ≡ Ok t) where
  abbrev s : Scene
  s = scene rom work stored st

  abbrev family : ℕ
  family = family_in t.code

  code : t.code ≡ code_of t.number
  code = (stands rom (length_of rom) g.setting.wide _ st.place t is).code

  -- ---- tokens that only go on: what they leave beside the stacks no height hangs on
  -- a token that goes on behind itself
  falls : T (not (is_a finish t || is_a leave t)) → T (not (is_branch t)) → T (not (is_colon t))
      → Holds rom (leads g.setting.wide st.place t t.next)
  falls e b c = on a work stored open_calls st g t is (subst (λ q. In t.next q) (sym (falls_on t e b c)) here)

  -- the heights that its effect gives
  abbrev Effected : ℕ → ℕ → Type 0
  Effected height back =
      (height ≡ st.stack.height - (effect_of a.sum t).takes + (effect_of a.sum t).gives)
      × (back ≡ st.back.height - (effect_of a.sum t).return_takes + (effect_of a.sum t).return_gives)

  -- any token but a call and a definition does what its row says
  module _ (c : T (not (is_a call t))) (d : T (not (is_a define t))) where
    own_takes : takes_here t ≡ takes_in t.code
    own_takes = rw (is_false (is_a define t) d) (omega arith)

    heights : (height back : ℕ) → height ≡ st.stack.height - takes_in t.code + gives_in t.code
        → back ≡ st.back.height - return_takes_in t.code + return_gives_in t.code → Effected height back
    heights height back h b =
        let k = own_takes in
        subst (λ v. (height ≡ st.stack.height - v.takes + v.gives) × (back ≡ st.back.height - v.return_takes + v.return_gives))
        (sym (effect_own a.sum t c)) (rw k h, b)

    -- and that is what its family says, if it is one that tells
    given : (f height back : ℕ) → family ≡ f → T (not (eqb f plain || eqb f kind)) → height ≡ st.stack.height - takes_by f + gives_by f
        → back ≡ st.back.height
        → Effected height back
    given f height back e v h b =
        let q = shape t.code t.number f code e v in
        let r = no_returns t.code t.number f code e (neither (eqb f plain) (eqb f kind) v).0 in
        heights height back (rw (q.0, q.1) h) (rw (r.0, r.1) (omega arith))

  -- other stacks, and the rest as it was
  stacked : {q : ℕ} {then : State} → T (not (fixes t)) → Holds rom (leads g.setting.wide st.place t q)
      → Effected then.stack.height then.back.height
      → then.place ≡ q → then.length ≡ st.length → then.wide ≡ st.wide → then.calls ≡ st.calls → then.numbers ≡ st.numbers
      → nodes_of then ≡ nodes_of st → Standing a open_calls then
  stacked {q} {then} f l h p len w c n tr =
      go_on a work stored open_calls st g t is f l
      (record {
        place = p;
        size = len;
        wide = w;
        calls = c;
        height = h.0;
        back = h.1;
        numbers = subst (λ v. Carried rom g.home v) (sym n) g.numbers;
        count = ap (λ v. v.count) n;
        nodes = ap (λ (v : Tree × ℕ × ℕ). v.0.nodes) tr;
        children = subst (λ (v : Tree × ℕ × ℕ). Below v.0 v.1 g.outer.children) (sym tr) g.children;
        first = ap (λ (v : Tree × ℕ × ℕ). v.2) tr;
      })

  -- tokens that only reckon, u/mod among them
  reckoned_good : T (not (is_a call t)) → T (not (fixes t)) → Holds rom (leads g.setting.wide st.place t t.next)
      → Standing a open_calls (Effects.reckoned s t).state
  unfolding plain_of
  reckoned_good c f l =
      let d = not_define t f in
      stacked f l (heights c d _ _ (rw (← code) refl) (rw (← code) refl)) refl refl refl refl refl refl

  plain_good : family ≡ plain → Standing a open_calls (Effects.reckoned s t).state
  plain_good e = reckoned_good (rw e tt) (rw e tt) (falls (rw e tt) (rw e tt) (rw e tt))

  divide_good : family ≡ divide → Standing a open_calls (Effects.reckoned s t).state
  divide_good e = reckoned_good (rw e tt) (rw e tt) (falls (rw e tt) (rw e tt) (rw e tt))

  -- branches
  always_good : family ≡ always → Standing a open_calls (Effects.branches s t).state
  always_good e =
      let i = to_aim t.operand (aimed_in_lem a work stored open_calls st g t is (rw e tt)) in
      stacked (rw e tt) (on a work stored open_calls st g t is (subst (λ q. In (aimed t.operand) q) (sym (always_leads t e)) i))
      (given (rw e tt) (rw e tt) always st.stack.height st.back.height e tt (omega arith) refl) refl refl refl refl refl refl

  choice_good : family ≡ choice → Standing a open_calls (Effects.chooses s t).state
  choice_good e =
      let i = either_way t.next t.operand (aimed_in_lem a work stored open_calls st g t is (rw e tt)) in
      let both = both_ways t.next (aims t.operand) in
      let j = pick_is (λ q. In q both) (eqb (cell_of s 0) 0) (aimed t.operand) t.next (λ h. i.1) (λ h. i.0) in
      stacked (rw e tt)
      (on a work stored open_calls st g t is (subst (λ q. In (pick (eqb (cell_of s 0) 0) (aimed t.operand) t.next) q)
      (sym (choice_leads t e)) j))
      (given (rw e tt) (rw e tt) choice _ _ e tt (omega arith) refl) refl refl refl refl refl refl

  -- ---- families of which each token takes and gives the same, and goes on behind itself
  module _ (f : ℕ) (e : family ≡ f) (o : T (ordinary f)) where
    goes_behind : Holds rom (leads g.setting.wide st.place t t.next)
    goes_behind = let k = ordinary_facts f o in
        falls (rw e k.ends) (rw e k.branches) (not_first (is_a define t) (eqb (kind_in t.operand) colon) (rw e k.defines))

    no_fixing : T (not (fixes t))
    no_fixing = rw e (ordinary_facts f o).once

    taken : (height back : ℕ) → height ≡ st.stack.height - takes_by f + gives_by f → back ≡ st.back.height → Effected height back
    taken height back h b = let k = ordinary_facts f o in given (rw e k.calls) (rw e k.defines) f height back e k.varies h b

    -- cells alone
    gives_good : (takes : ℕ) (cells : List ℕ) → takes ≡ takes_by f → length cells ≡ gives_by f
        → Standing a open_calls (onward s t takes cells)
    gives_good takes cells p q = stacked no_fixing goes_behind (taken _ _ (rw (p, q) refl) refl) refl refl refl refl refl refl

    -- another work place
    encodes_good : (takes : ℕ) (bytes : List ℕ) → takes ≡ takes_by f → 2 ≡ gives_by f
        → Standing a open_calls (Effects.encoded_of s t takes bytes).state
    encodes_good takes bytes p q = stacked no_fixing goes_behind (taken _ _ (rw (← p, ← q) refl) refl) refl refl refl refl refl refl

    -- a property
    keeps_good : (takes : ℕ) (name v : List ℕ) → takes ≡ takes_by f → 0 ≡ gives_by f
        → Standing a open_calls (Effects.keeps_of s t takes name v).state
    keeps_good takes name v p q =
        let h = taken (st.stack.height - takes + 0) st.back.height (rw (← p, ← q) refl) refl in
        go_on a work stored open_calls st g t is no_fixing goes_behind
        (record {
          place = refl;
          size = refl;
          wide = refl;
          calls = refl;
          height = h.0;
          back = h.1;
          numbers = g.numbers;
          count = refl;
          nodes = put_nodes st.tree stored st.active name v;
          children = below_put st.tree stored st.active name v g.children;
          first = refl;
        })

  -- another value of a number, which is a value's
  assign_good : family ≡ assign → Standing a open_calls (Effects.assigns s t).state
  assign_good e =
      let h = taken assign e tt (st.stack.height - 1 + 0) st.back.height refl refl in
      go_on a work stored open_calls st g t is (no_fixing assign e tt) (goes_behind assign e tt)
      (record {
        place = refl;
        size = refl;
        wide = refl;
        calls = refl;
        height = h.0;
        back = h.1;
        numbers = carried_assigned a (seek_of st.numbers (number_in t.operand)) (cell_of s 0)
            (assigned_value a work stored open_calls st g t is e) g.numbers;
        count = refl;
        nodes = refl;
        children = g.children;
        first = refl;
      })

  -- ---- a call: a body is entered, any other number gives its value
  call_good : family ≡ call → FineTurn a open_calls st (Effects.calls s t)
  call_good e = by (is_body_here a work stored open_calls st g t is) refl
    where
      c : T (is_a call t)
      c = holds (is_a call t) (eq-eqb family call e)

      by : (b : Bool) → is_body_here a work stored open_calls st g t is ≡ b → FineTurn a open_calls st (Effects.calls s t)
      by true k = rw (k, lt-ltb st.calls.count (st.calls.count + 1) (omega arith))
          (go_in a work stored open_calls st g t is c k z.calls)
      by false k =
          let o = value_sum_lem a work stored open_calls st g t is c k in
          let h : Effected (st.stack.height - 0 + 1) st.back.height =
          subst (λ v. (st.stack.height - 0 + 1 ≡ st.stack.height - v.takes + v.gives)
          × (st.back.height ≡ st.back.height - v.return_takes + v.return_gives))
          (sym o) (refl, omega arith) in
          rw k (same_calls st refl (stacked (rw e tt) (falls (rw e tt) (rw e tt) (rw e tt)) h refl refl refl refl refl refl))

  -- ---- leaving a body
  leave_good : family ≡ leave → FineTurn a open_calls st (Effects.leaves s t)
  leave_good e =
      let l = holds (is_a leave t) (eq-eqb family leave e) in
      let o = open_count a work stored open_calls st g t is l in
      let up = le-ltb st.calls.count (st.calls.count - 1) (omega arith) in
      let down = lt-ltb (st.calls.count - 1) st.calls.count (omega arith) in
      rw (up, down) (go_out a work stored open_calls st g t is l)

  -- ---- tokens that are met exactly once
  module _ (f : T (fixes t)) where
    abbrev outer : Outer a open_calls st.calls.count g.text g.floor g.base st.place g.home g.setting g.outer t
    outer = fixed a work stored open_calls st g t is f

    past : T (not (is_colon t)) → T (not (is_a finish t || is_a leave t)) → T (not (is_branch t))
        → Holds rom (leads g.outer.wide g.home t t.next)
    past c e b = Holds.by_itself (a.known outer.met) (subst (λ q. In t.next q) (sym (falls_on t e b c)) here)

    width : st.wide ≡ g.outer.wide
    width = g.wide ∙ ap (λ v. v.wide) outer.setting

  -- numbers stay those of the definitions carried out
  moves_on : (f : T (fixes t)) → T (not (is_a define t)) → {q : ℕ} → Holds rom (leads g.outer.wide g.home t q)
      → Carried rom q st.numbers
  moves_on f n {q} l = carried_on a (leads_moves a (outer f).met l) (λ e d. none d) g.numbers
    where
      none : {e : ℕ} → Defined rom g.home e → ⊥
      none d = T_not (is_a define t) n (subst (λ v. T (is_a define v)) (defined_token d (outer f).met) d.defines)

  -- CC, 11F and 127 take nothing
  none_taken : (f : ℕ) → family ≡ f → T (not (is_a define t)) → T (not (eqb f plain || eqb f kind)) → takes_by f ≡ 0
      → st.stack.height ≡ st.stack.height - takes_here t
  none_taken f e d v k =
      let h : takes_here t ≡ takes_in t.code = rw (is_false (is_a define t) d) (omega arith) in
      let q = (shape t.code t.number f code e v).0 in
      omega arith

  widen_good : family ≡ widen → Standing a open_calls (Effects.widens s t).state
  widen_good e =
      let f : T (fixes t) = rw e tt in
      let l = past f (rw e tt) (rw e tt) (rw e tt) in
      go_fixed a work stored open_calls st g t is f l
      (record {
        place = refl;
        size = refl;
        wide = rw e refl;
        calls = refl;
        height = none_taken widen e (rw e tt) tt refl;
        back = refl;
        numbers = moves_on f (rw e tt) l;
        count = rw e refl;
        nodes = rw e refl;
        children = rw e g.children;
        first = refl;
      })

  new_good : family ≡ new_device → Standing a open_calls (Effects.opens_node s t).state
  new_good e =
      let f : T (fixes t) = rw e tt in
      let l = past f (rw e tt) (rw e tt) (rw e tt) in
      let less : st.tree.nodes < nodes_most = nleb→lt nodes_most st.tree.nodes (node_room a work stored open_calls st g t is e) in
      go_fixed a work stored open_calls st g t is f l
      (record {
        place = refl;
        size = refl;
        wide = rw e (width f);
        calls = refl;
        height = none_taken new_device e (rw e tt) tt refl;
        back = refl;
        numbers = moves_on f (rw e tt) l;
        count = rw e refl;
        nodes = rw e (omega arith);
        children = rw e (below_child st.tree st.active z.tree many less g.children);
        first = refl;
      })

  finish_good : family ≡ finish_device → Standing a open_calls (Effects.closes_node s t).state
  finish_good e =
      let f : T (fixes t) = rw e tt in
      let l = past f (rw e tt) (rw e tt) (rw e tt) in
      let i = holds (is_a finish_device t) (eq-eqb family finish_device e) in
      go_fixed a work stored open_calls st g t is f l
      (record {
        place = refl;
        size = refl;
        wide = rw e (width f);
        calls = refl;
        height = none_taken finish_device e (rw e tt) tt refl;
        back = refl;
        numbers = moves_on f (rw e tt) l;
        count = rw e refl;
        nodes = rw e refl;
        children = rw e (below_parent st.tree g.children (a.opened (outer f).met i));
        first = refl;
      })

  -- ---- definitions
  module _ (e : family ≡ define) where
    defines : T (is_a define t)
    defines = holds (is_a define t) (eq-eqb family define e)

    abbrev once : T (fixes t)
    once = rw e tt

    -- a definition takes what its kind takes
    kind_taken : takes_here t ≡ takes_in (code_of (kind_in t.operand))
    kind_taken =
        let q = (shape t.code t.number define code e tt).0 in
        rw e (omega (arith, q))

    -- one number more
    new_numbers : {q : ℕ} (v : ℕ) → Holds rom (extends g.outer.wide t q) → Holds rom (leads g.outer.wide g.home t q)
        → (T (is_colon t) → v ≡ t.next)
        → Carried rom q (defined_of st.numbers (new_number t.operand) (kind_in t.operand) v st.wide)
    new_numbers {q} v x l c =
        let o = outer once in
        let f : Defined rom g.home q = record { setting = g.outer; token = t; met = o.met; defines = defines; ends = x } in
        let n = carried_new a v (leads_moves a o.met l) g.numbers z.numbers
        (number_room a work stored open_calls st g t is defines) f c in
        subst (λ w. Carried rom q (defined_of st.numbers (new_number t.operand) (kind_in t.operand) v w)) (sym (width once)) n

    colon_good : kind_in t.operand ≡ colon → Standing a open_calls (Effects.colons s t).state
    colon_good k =
        let c : T (is_colon t) = rw (e, k) tt in
        let o = outer once in
        let r = a.read o.met c in
        let x = Holds.through_body c r.1 in
        let l = Holds.past_body c x in
        let h = kind_taken in
        let y = kind_takes.0 in
        let w : takes_in (code_of (kind_in t.operand)) ≡ 0 = rw k y in
        go_fixed a work stored open_calls st g t is once l
        (record {
          place = ap behind_body (body_ends a work stored open_calls st g t is defines c r.1) ∙ omega arith;
          size = refl;
          wide = rw e (width once);
          calls = refl;
          height = omega arith;
          back = refl;
          numbers = new_numbers t.next x l (λ c. refl);
          count = rw e (omega arith);
          nodes = rw e refl;
          children = rw e g.children;
          first = refl;
        })

    -- any other kind: so many cells taken, another work place
    module _ (k : kind_in t.operand ≡ colon → ⊥) where
      plainly : T (not (is_colon t))
      plainly = rw e (fails _ (ne_eqb (kind_in t.operand) colon k))

      behind_it : Holds rom (leads g.outer.wide g.home t t.next)
      behind_it = past once plainly (rw e tt) (rw e tt)

      other_good : (takes v at : ℕ) → takes_in (code_of (kind_in t.operand)) ≡ takes
          → Standing a open_calls (with_work (Effects.with_number (onward s t takes []) t v) at)
      other_good takes v at y =
          let h = kind_taken in
          go_fixed a work stored open_calls st g t is once behind_it
          (record {
            place = refl;
            size = refl;
            wide = rw e (width once);
            calls = refl;
            height = rw (h, y) (omega arith);
            back = refl;
            numbers = new_numbers v (Holds.to_next plainly) behind_it (λ c. absurd (T_not (is_colon t) plainly c));
            count = rw e (omega arith);
            nodes = rw e refl;
            children = rw e g.children;
            first = refl;
          })

    define_good : FineTurn a open_calls st (Effects.defines s t)
    define_good =
        let kind = kind_in t.operand in
        let y = kind_takes in
        pick_is (λ (f : Effects.Effect). FineTurn a open_calls st (f s t)) (eqb kind colon) Effects.colons _
        (λ c. same_calls st refl (colon_good (eqb→eq kind colon c)))
        (λ n. pick_is (λ (f : Effects.Effect). FineTurn a open_calls st (f s t)) (eqb kind value) Effects.values _
        (λ c. same_calls st refl (other_good (neqb→ne kind colon n) 1 (cell_of s 0) st.work_place (rw (eqb→eq kind value c) y.1)))
        (λ m. pick_is (λ (f : Effects.Effect). FineTurn a open_calls st (f s t)) (eqb kind variable) Effects.variables Effects.values
        (λ c. same_calls st refl (other_good (neqb→ne kind colon n) 0 _ _ (rw (eqb→eq kind variable c) y.2)))
        (λ o. same_calls st refl (other_good (neqb→ne kind colon n) 1 (cell_of s 0) st.work_place (rw (last_kind n m o) y.3)))))
      where
        last_kind : T (not (eqb (kind_in t.operand) colon)) → T (not (eqb (kind_in t.operand) value))
            → T (not (eqb (kind_in t.operand) variable))
            → kind_in t.operand ≡ 0xBA
        last_kind n m o =
            let h = (heads rom (length_of rom) g.setting.wide (in_body g.text) st.place t is defines).1 in
            let b = both_hold (leb 0xB7 (kind_in t.operand)) (leb (kind_in t.operand) 0xBA) h in
            let l = b.0 in
            let u = b.1 in
            omega (arith, tests)

  -- ---- every family
  pub act_good : FineTurn a open_calls st (act_of s t)
  unfolding act_of effects
  act_good =
      find_in (λ (f : Effects.Effect). FineTurn a open_calls st (f s t)) effects nothing family (
      (λ k. same_calls st refl (plain_good k)) ▸
      (λ k. tt) ▸
      (λ k. same_calls st refl (always_good k)) ▸
      (λ k. same_calls st refl (choice_good k)) ▸
      (λ k. same_calls st refl (gives_good text k tt 0 (_ ∷ _ ∷ []) refl refl)) ▸
      (λ k. same_calls st refl (widen_good k)) ▸
      (λ k. same_calls st refl (divide_good k)) ▸
      (λ k. absurd (shut pick_up k (no_pick a work stored open_calls st g t is).0)) ▸
      (λ k. absurd (shut roll_up k (no_pick a work stored open_calls st g t is).1)) ▸
      (λ k. absurd (shut maybe k (no_pick a work stored open_calls st g t is).2)) ▸
      (λ k. leave_good k) ▸
      (λ k. same_calls st refl (gives_good fetch k tt 1 (_ ∷ []) refl refl)) ▸
      (λ k. same_calls st refl (gives_good store k tt 2 [] refl refl)) ▸
      (λ k. define_good k) ▸
      (λ k. same_calls st refl (assign_good k)) ▸
      (λ k. call_good k) ▸
      (λ k. same_calls st refl (encodes_good encode_int k tt 1 (bytes_of (cell_of s 0)) refl refl)) ▸
      (λ k. same_calls st refl (encodes_good encode_string k tt 2 (string_at s (cell_of s 1) (cell_of s 0) ++ (0 ∷ [])) refl refl)) ▸
      (λ k. same_calls st refl (gives_good join k tt 4 (_ ∷ _ ∷ []) refl refl)) ▸
      (λ k. same_calls st refl (keeps_good property k tt 4 (named_here s) (value_here s) refl refl)) ▸
      (λ k. same_calls st refl (keeps_good titled k tt 2 (title_of t.number) (titled_here s) refl refl)) ▸
      (λ k. same_calls st refl (new_good k)) ▸
      (λ k. same_calls st refl (finish_good k)) ▸
      tt
      )
      (family_known rom (length_of rom) g.setting.wide (in_body g.text) st.place t is)
    where
      shut : (f : ℕ) → family ≡ f → T (not (is_a f t)) → ⊥
      shut f k n = T_not (is_a f t) n (holds (is_a f t) (eq-eqb family f k))
