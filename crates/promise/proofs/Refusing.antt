-- A token that may stand where it stands meets, in a state that stands as the assignment says, no refusal but 21 to 27: 12 to 17, 19 and 20
-- one by one, and those of a body that is read. Assumes nothing.
use Rattle.std.specs.Prelude.{ℕ, suc, ◌+◌, ◌-◌, ◌≤◌, ◌<◌, ◌≡◌, refl, Bool, true, false, not, ◌&&◌, ◌||◌, List, [], ◌∷◌, get_or, ltb, leb}
use Rattle.std.specs.Prelude.{None, Ok, Some}
use Rattle.std.specs.Prelude.{eqb}
use Rattle.std.proofs.Common.{arith, sym, ap, subst, ◌∙◌, T_not, eqb→eq, le-ltb, eq-eqb, ne_eqb}
use Rattle.std.proofs.Math.Dec.{T}
use Rattle.std.proofs.lemmas.Bool.{lt-leb}
use Rattle.cells.specs.Laws.Tests.{pick_is, when_is}
use Rattle.cells.specs.Laws.Facts.{holds, fails, is_true, is_false, both_hold, neither}
use Rattle.rom.specs.Sizes.{data_most, return_most, frames_most, numbers_most, nodes_most}
use Rattle.rom.specs.Header.{length_of}
use Rattle.tokens.specs.Family.{plain, always, choice, pick_up, roll_up, maybe, leave, define, assign, call, new_device}
use Rattle.tokens.specs.Family.{finish_device}
use Rattle.tokens.specs.Code.{code_of, family_in, takes_in, gives_in, return_takes_in, return_gives_in}
use Rattle.tokens.specs.Body.{number_in, unknown_of, body_of}
use Rattle.tokens.specs.Definition.{colon, value, new_number, kind_in, of_kind, takes_here}
use Rattle.tokens.specs.declared.decoding.Operand.{Operand}
use Rattle.tokens.specs.declared.decoding.Operand.TheVariants.{Nothing, Literal, Text, Branch, Number, Definition}
use Rattle.tokens.specs.declared.decoding.Token.{Token}
use Rattle.tokens.specs.Body.{Ends}
use Rattle.tokens.specs.Laws.Stands.{stands}
use Rattle.tree.specs.Node.{no_room, outermost}
use Rattle.tree.specs.declared.tree.Tree.{Tree}
use Rattle.state.specs.Stacks.{back_trouble, too_deep}
use Rattle.state.specs.State.{stacks_of, base_of}
use Rattle.state.specs.Numbers.{seek_of, is_held, is_body, kinds_of}
use Rattle.state.specs.Scene.{Scene, scene, cell_of}
use Rattle.state.specs.Refusals
use Rattle.state.specs.Refusals.{body_here, why_stopped, leads_out, gives_more, first_of, refusals, refusal_of}
use Rattle.state.specs.Laws.Keeps.Tests.{◌▸◌}
use Rattle.state.specs.Laws.Keeps.Token.{shape}
use Rattle.state.specs.declared.state.State.{State}
use Rattle.screen.specs.Effect
use Rattle.screen.specs.Effect.{is_a, is_colon, aims, no_places, is_branch, leads_of, value_sum, own_effect, effect_of}
use Rattle.screen.specs.Reach.{In, Setting, token_at, known, reads, extends, leads, Holds, Met}
use Rattle.screen.specs.Reach.{calls as named_call, assigns as named_assign}
use Rattle.screen.specs.Rules.{Assignment}
use Rattle.screen.specs.Laws.Rules.Ways.{aimed_some, GivesOn, gives_leads, effect_call, effect_own}
use Rattle.promise.specs.Laws.Standing.{Defined, Held, Below, own, child, Standing}
use Rattle.promise.specs.Trail.{DependsOnData, OpenCall}
use Rattle.promise.specs.Laws.Before.{defined_token}
use Rattle.promise.specs.Laws.Carrying.{held_name, found, known_numbers, not_held, body_read}
use Rattle.promise.specs.Laws.Room.{base_is, Room, room, own_frame_lem, not_past, Outer, fixed_outer, leave_base}

-- ---- conditions
-- one that is asked of one family alone does not hold where it does not hold of that family
abbrev only : ℕ → ℕ → Bool → Bool
only n family b = elim (eqb n family) [ true ↦ b | false ↦ false ]

unasked : (n family : ℕ) (b : Bool) → (n ≡ family → T (not b)) → T (not (only n family b))
unasked n family b h = when_is (λ c. T (not c)) (eqb n family) b false (λ e. h (eqb→eq n family e)) (λ e. tt)

-- neither of two
nor : (a b : Bool) → T (not a) → T (not b) → T (not (a || b))
nor true b h i = absurd h
nor false b h i = i

-- not both of two, as the first is not, or the second
pub not_first : (a b : Bool) → T (not a) → T (not (a && b))
not_first true b h = absurd h
not_first false b h = tt

not_second : (a b : Bool) → T (not b) → T (not (a && b))
not_second true b h = h
not_second false b h = tt

-- a branch that has an aim does not lead out
leads_in : (o : Operand) → T (not (no_places (aims o))) → T (not (leads_out o))
leads_in Nothing h = tt
leads_in (Literal n) h = tt
leads_in (Text start count) h = tt
leads_in (Branch bits (Some to)) h = tt
leads_in (Branch bits None) h = absurd h
leads_in (Number n) h = tt
leads_in (Definition n k) h = tt

-- ---- a refusal that depends on data, or none
pub data ByData (why : ℕ) : Type 0 where
  accepted : why ≡ 0 → ByData why
  refused : DependsOnData why → ByData why

-- a list of tests of which each that holds tells such a refusal
abbrev Each : List (ℕ × Bool) → Type 0
Each [] = Unit {0}
Each (x ∷ xs) = (T x.1 → ByData x.0) × Each xs

first_of_lem : (xs : List (ℕ × Bool)) → Each xs → ByData (first_of xs)
first_of_lem [] e = accepted refl
first_of_lem (x ∷ xs) e = pick_is ByData x.1 x.0 (first_of xs) e.0 (λ t. first_of_lem xs e.1)

-- ---- a child that is open is not node 1
below_one : (tree : Tree) {k n : ℕ} → Below tree k n → 1 ≤ n → 2 ≤ k
below_one tree own l = absurd (omega arith)
below_one tree (child h u b) l = h

-- ---- a reachable definition
-- where it ends
pub defined_here : {rom : List ℕ} (a : Assignment rom) {p : ℕ} {s : Setting} {t : Token} → Met rom 0 s p t → T (is_a define t)
    → (e : ℕ) × Holds rom (extends s.wide t e)
defined_here {rom} a {p} {s} {t} m d = by (is_colon t) refl
  where
    by : (b : Bool) → is_colon t ≡ b → (e : ℕ) × Holds rom (extends s.wide t e)
    by true e = let c = holds (is_colon t) e in let r = a.read m c in (suc r.0, Holds.through_body c r.1)
    by false e = (t.next, Holds.to_next (fails (is_colon t) e))

-- ---- a token that is met where a state stands
module _ {rom : List ℕ} (a : Assignment rom) (work store : List ℕ) (open_calls : List OpenCall) (st : State) (g : Standing a open_calls st)
    (t : Token)
    (is : token_at rom g.text g.setting.wide st.place ≡ Ok t) where
  abbrev s : Scene
  s = scene rom work store st

  met : Met rom g.text g.setting st.place t
  met = record { reach = g.reach; is = is }

  code : t.code ≡ code_of t.number
  code = (stands rom (length_of rom) g.setting.wide _ st.place t is).code

  space : Room a st.calls.count g.text g.floor g.base st.place t
  space = room a g.chain met

  low_there : ((effect_of a.sum t).takes ≤ a.height g.text st.place)
      × ((effect_of a.sum t).return_takes ≤ a.back g.text st.place)
  low_there = a.there met

  not_of : (f k : ℕ) → family_in t.code ≡ f → T (not (eqb f k)) → T (not (is_a k t))
  not_of f k e n = rw e n

  abbrev family : ℕ
  family = family_in t.code

  -- ---- 12: every number that is named was defined
  unknown : Bool
  unknown = unknown_of (kinds_of st.numbers) t

  not_undefined : T (not (Refusals.undefined s t))
  unfolding unknown
  not_undefined =
      let l = not_past a g.chain g.reach g.at in
      let h = fails unknown (known_numbers a g.numbers (a.known met) l) in
      nor (only family call unknown) (only family assign unknown) (unasked family call unknown (λ e. h))
      (unasked family assign unknown (λ e. h))

  -- ---- a definition
  module _ (d : T (is_a define t)) where
    outer : Outer a open_calls st.calls.count g.text g.floor g.base st.place g.home g.setting g.outer t
    outer = fixed_outer a g.chain met g.at (rw (is_true (is_a define t) d) tt)

    defined : Defined rom g.home (defined_here a outer.met d).0
    defined = record { setting = g.outer; token = t; met = outer.met; defines = d; ends = (defined_here a outer.met d).1 }

    -- 13: its number is new, and there is room for it
    new_number_lem : is_held st.numbers (new_number t.operand) ≡ false
    unfolding defined
    new_number_lem = not_held a g.numbers defined

    pub number_room : st.numbers.count < numbers_most
    number_room =
        let f = a.few outer.met in
        let e = g.count in
        let i : suc g.outer.numbers ≤ numbers_most = rw (is_true (is_a define t) d) at f in
        omega arith

    -- its body is read to its C2
    pub body_ends : {c : ℕ} → T (is_colon t) → Holds rom (reads g.outer.wide t.next c) → body_here s t ≡ Ends c
    body_ends {c} k r =
        let f : Defined rom g.home (suc c) = record {
          setting = g.outer;
          token = t;
          met = outer.met;
          defines = d;
          ends =
              Holds.through_body k r;
        } in
        let b = body_read a g.numbers f k r in
        let w = g.wide ∙ ap (λ v. v.wide) outer.setting in
        let kinds = kinds_of st.numbers in
        subst (λ n. body_of rom n st.wide kinds t.next ≡ Ends c) (sym g.size)
        (subst (λ v. body_of rom (length_of rom) v kinds t.next ≡ Ends c) (sym w) b)

  -- ---- 13
  taken_here : Bool
  taken_here = is_held st.numbers (new_number t.operand) || leb numbers_most st.numbers.count

  not_taken : T (not (Refusals.taken s t))
  unfolding taken_here
  not_taken =
      unasked family define taken_here
      (λ e.
      let d : T (is_a define t) = holds (is_a define t) (eq-eqb family define e) in
      nor (is_held st.numbers (new_number t.operand)) (leb numbers_most st.numbers.count) (fails _ (new_number_lem d))
      (fails _ (lt-leb numbers_most st.numbers.count (number_room d))))

  -- ---- a body is read without refusal
  body_well : Refusals.body_refusal s t ≡ 0
  body_well =
      when_is (λ n. n ≡ 0) (of_kind colon t) (why_stopped (body_here s t)) 0
      (λ c. let d = (both_hold (is_a define t) (eqb (kind_in t.operand) colon) c).0 in rw (body_ends d c (a.read (outer d).met c).1))
      (λ c. refl)

  -- ---- what a call calls
  -- the definition of its number, which lies wholly before home, and where it is found
  pub record Called : Type 0 where
    pub place : ℕ
    pub end : ℕ
    pub held : seek_of st.numbers t.number < st.numbers.count
    pub entered : Held rom st.numbers (seek_of st.numbers t.number) place end
    pub number : new_number entered.defined.token.operand ≡ t.number
    pub before : end ≤ g.home

  pub called : T (is_a call t) → Called
  called c = by (a.known met)
    where
      l : st.place ≤ g.home
      l = not_past a g.chain g.reach g.at

      of : {d e : ℕ} → (f : Defined rom d e) → e ≤ st.place → new_number f.token.operand ≡ t.number → Called
      of {d} {e} f b i =
          let m = l in
          let h : e ≤ g.home = omega arith in
          let r = found a g.numbers f h in
          let held = subst (λ n. seek_of st.numbers n < st.numbers.count) i r.0 in
          let entered = subst (λ n. Held rom st.numbers (seek_of st.numbers n) d e) i r.1 in
          record {
            place = d;
            end = e;
            held = held;
            entered = entered;
            number = sym entered.name ∙ held_name st.numbers t.number held;
            before = h;
          }

      by : Holds rom (known st.place t) → Called
      by (Holds.unnamed n) = absurd (T_not (is_a call t) (neither (is_a call t) (is_a assign t) n).0 c)
      by (Holds.named r e (named_call k d) x h) =
          of (record { setting = _; token = _; met = record { reach = r; is = e }; defines = d.is; ends = x }) h d.number
      by (Holds.named r e (named_assign k d v) x h) = absurd (T_not (is_a call t) (not_of assign call (eqb→eq family assign k) tt) c)

  -- it is a body exactly where its number was found to be one's
  pub called_colon : (c : Called) → is_body st.numbers (seek_of st.numbers t.number) ≡ is_colon c.entered.defined.token
  called_colon c =
      let e = c.entered in
      rw (e.kind, is_true (is_a define e.defined.token) e.defined.defines)

  -- ---- what b(to) names: a value's number, no body's
  pub assigned_value : family ≡ assign → get_or st.numbers.kinds (seek_of st.numbers (number_in t.operand)) 0 ≡ colon → ⊥
  assigned_value e = by (a.known met)
    where
      l : st.place ≤ g.home
      l = not_past a g.chain g.reach g.at

      of : {d e : ℕ} → (f : Defined rom d e) → e ≤ st.place → new_number f.token.operand ≡ number_in t.operand
          → kind_in f.token.operand ≡ value
          → get_or st.numbers.kinds (seek_of st.numbers (number_in t.operand)) 0 ≡ colon → ⊥
      of {d} {e} f b i v k =
          let m = l in
          let h : e ≤ g.home = omega arith in
          let r = found a g.numbers f h in
          let entered = subst (λ n. Held rom st.numbers (seek_of st.numbers n) d e) i r.1 in
          let same = defined_token f entered.defined.met in
          let z : colon ≡ value = sym k ∙ entered.kind ∙ ap (λ u. kind_in u.operand) (sym same) ∙ v in
          omega arith

      by : Holds rom (known st.place t) → get_or st.numbers.kinds (seek_of st.numbers (number_in t.operand)) 0 ≡ colon → ⊥
      by (Holds.unnamed n) =
          absurd (T_not (is_a assign t) (neither (is_a call t) (is_a assign t) n).1 (holds (is_a assign t) (eq-eqb family assign e)))
      by (Holds.named r i (named_call k d) x h) = absurd (T_not (is_a call t) (not_of assign call e tt) k)
      by (Holds.named r i (named_assign k d v) x h) =
          of (record { setting = _; token = _; met = record { reach = r; is = i }; defines = d.is; ends = x }) h d.number v

  -- ---- what the list says of a call
  call_shape : family ≡ call → (takes_here t ≡ 0) × (gives_in t.code ≡ 0)
  call_shape e =
      let h = shape t.code t.number call code e tt in
      let i = h.0 in
      let z : takes_in t.code + 0 ≡ 0 = omega arith in
      (rw e z, h.1)

  -- ---- heights behind the token
  -- where it leads behind itself
  pub record Behind (q : ℕ) : Type 0 where
    pub height : a.height g.text q ≡ a.height g.text st.place - (effect_of a.sum t).takes + (effect_of a.sum t).gives
    pub back : a.back g.text q ≡ a.back g.text st.place - (effect_of a.sum t).return_takes + (effect_of
        a.sum t).return_gives
    pub high : g.floor + a.height g.text q ≤ data_most
    pub returns : g.base + a.back g.text q ≤ return_most

  pub behind : {q : ℕ} → Holds rom (leads g.setting.wide st.place t q) → Behind q
  behind {q} l =
      let r = Holds.next g.reach is l in
      let u = a.whole r in
      let o = room a g.chain (record { reach = r; is = u.1 }) in
      let f = a.flow met l in
      let b = o.back in
      record { height = f.0; back = f.1; high = o.height; returns = omega arith }

  pub on : {q : ℕ} → In q (leads_of t) → Holds rom (leads g.setting.wide st.place t q)
  on i = Holds.by_itself (a.known met) i

  -- ---- 14: the cells are there
  enough : takes_here t ≤ a.height g.text st.place
  enough = by (is_a call t) refl
    where
      by : (c : Bool) → is_a call t ≡ c → takes_here t ≤ a.height g.text st.place
      by true e = let z = (call_shape (eqb→eq family call (holds (is_a call t) e))).0 in omega arith
      by false e =
          let o = effect_own a.sum t (fails (is_a call t) e) in
          let h = low_there.0 in
          subst (λ v. v.takes ≤ a.height g.text st.place) o h

  -- 4E, 4F and 50 are not met
  pub no_pick : T (not (is_a pick_up t)) × T (not (is_a roll_up t)) × T (not (is_a maybe t))
  no_pick =
      let h = neither (is_a pick_up t || is_a roll_up t) (is_a maybe t) (a.plain met) in
      let i = neither (is_a pick_up t) (is_a roll_up t) h.0 in
      (i.0, i.1, h.1)

  too_deep_here : Bool
  too_deep_here = too_deep (stacks_of st)

  not_low : T (not (Refusals.low s t))
  unfolding too_deep_here
  not_low =
      let h = enough in
      let e = g.height in
      let n = no_pick in
      nor (ltb st.stack.height (takes_here t) || only family pick_up too_deep_here) (only family roll_up too_deep_here)
      (nor (ltb st.stack.height (takes_here t)) (only family pick_up too_deep_here)
      (fails _ (le-ltb st.stack.height (takes_here t) (omega arith)))
      (unasked family pick_up too_deep_here (λ k. absurd (T_not (is_a pick_up t) n.0 (holds (is_a pick_up t) (eq-eqb family pick_up k))))))
      (unasked family roll_up too_deep_here (λ k. absurd (T_not (is_a roll_up t) n.1 (holds (is_a roll_up t) (eq-eqb family roll_up k)))))

  -- ---- 19: no branch leads out
  pub aimed_in_lem : T (is_branch t) → T (not (no_places (aims t.operand)))
  aimed_in_lem b = aimed_some t b (a.aimed met)

  not_astray : T (not (Refusals.goes_astray s t))
  not_astray =
      nor (only family always (leads_out t.operand)) (only family choice (eqb (cell_of s 0) 0 && leads_out t.operand))
      (unasked family always (leads_out t.operand) (λ e. leads_in t.operand (aimed_in_lem (rw e tt))))
      (unasked family choice (eqb (cell_of s 0) 0 && leads_out t.operand)
      (λ e. not_second (eqb (cell_of s 0) 0) (leads_out t.operand) (leads_in t.operand (aimed_in_lem (rw e tt)))))

  -- ---- 16: the return stack is within its limits
  not_call : (f : ℕ) → family ≡ f → T (not (eqb f call)) → effect_of a.sum t ≡ own_effect t
  not_call f e n = effect_own a.sum t (not_of f call e n)

  base_here : base_of st.calls ≡ g.base
  base_here = base_is a g.chain refl

  returns_fit_lem : family ≡ plain → T (not (back_trouble t.code st.back.height (base_of st.calls)))
  returns_fit_lem e =
      let o = not_call plain e tt in
      let h : return_takes_in t.code ≤ a.back g.text st.place =
      subst (λ v. v.return_takes ≤ a.back g.text st.place) o low_there.1 in
      let b = g.back in
      let z = base_here in
      let returns = st.back.height in
      nor (ltb (returns - base_of st.calls) (return_takes_in t.code))
      (ltb return_most (returns - return_takes_in t.code + return_gives_in t.code))
      (fails _ (le-ltb (returns - base_of st.calls) (return_takes_in t.code) (omega arith)))
      (fails _ (le-ltb return_most (returns - return_takes_in t.code + return_gives_in t.code)
      (by o h (gives_leads rom (length_of rom) g.setting.wide _ st.place t is a.sum))))
    where
      by : effect_of a.sum t ≡ own_effect t → return_takes_in t.code ≤ a.back g.text st.place → GivesOn a.sum t
          → st.back.height - return_takes_in t.code + return_gives_in t.code ≤ return_most
      by o h (GivesOn.quiet x y) =
          let z : return_gives_in t.code ≡ 0 = subst (λ v. v.return_gives ≡ 0) o y in
          let b = g.back in
          let r = space.back in
          omega arith
      by o h (GivesOn.goes_on i) =
          let q = behind (on i) in
          let e : a.back g.text t.next ≡ a.back g.text st.place - return_takes_in t.code + return_gives_in t.code =
          subst (λ v. a.back g.text t.next ≡ a.back g.text st.place - v.return_takes + v.return_gives) o q.back in
          let b = g.back in
          let r = q.returns in
          omega arith

  at_base : family ≡ leave → T (not (not (eqb st.back.height (base_of st.calls))))
  at_base e =
      let l = leave_base a g.chain met (holds (is_a leave t) (eq-eqb family leave e)) in
      let b = g.back in
      let z = base_here in
      rw (eq-eqb st.back.height (base_of st.calls) (omega arith)) tt

  not_back_wrong : T (not (Refusals.back_wrong s t))
  not_back_wrong =
      nor (only family plain (back_trouble t.code st.back.height (base_of st.calls)))
      (only family leave (not (eqb st.back.height (base_of st.calls))))
      (unasked family plain (back_trouble t.code st.back.height (base_of st.calls)) returns_fit_lem)
      (unasked family leave (not (eqb st.back.height (base_of st.calls))) at_base)

  -- ---- 15: there is room on the data stack
  abbrev pub is_body_here : Bool
  is_body_here = is_body st.numbers (seek_of st.numbers t.number)

  non_zero : Bool
  non_zero = not (eqb (cell_of s 0) 0)

  not_maybe : T (not (only family maybe non_zero))
  not_maybe = unasked family maybe non_zero (λ k. absurd (T_not (is_a maybe t) no_pick.2 (holds (is_a maybe t) (eq-eqb family maybe k))))

  -- a token gives more than its row says only where it is a number that is no body's
  no_more : T (not (only family call (not is_body_here))) → gives_more s t ≡ 0
  unfolding non_zero
  no_more h =
      rw (is_false (only family call (not is_body_here) || only family maybe non_zero)
      (nor (only family call (not is_body_here)) (only family maybe non_zero) h not_maybe))

  one_more : gives_more s t ≤ 1
  unfolding non_zero
  one_more = pick_is (λ n. n ≤ 1) (only family call (not is_body_here) || only family maybe non_zero) 1 0 (λ h. omega arith)
      (λ h. omega arith)

  -- any other than a call
  own_high : T (not (is_a call t)) → st.stack.height - takes_here t + (gives_in t.code + gives_more s t) ≤ data_most
  own_high n = by (gives_leads rom (length_of rom) g.setting.wide _ st.place t is a.sum)
    where
      o : effect_of a.sum t ≡ own_effect t
      o = effect_own a.sum t n

      more : gives_more s t ≡ 0
      more = no_more (unasked family call (not is_body_here) (λ k. absurd
          (T_not (is_a call t) n (holds (is_a call t) (eq-eqb family call k)))))

      by : GivesOn a.sum t → st.stack.height - takes_here t + (gives_in t.code + gives_more s t) ≤ data_most
      by (GivesOn.quiet x y) =
          let z : gives_in t.code ≡ 0 = subst (λ v. v.gives ≡ 0) o x in
          let m = more in
          let b = g.height in
          let r = space.height in
          omega arith
      by (GivesOn.goes_on i) =
          let q = behind (on i) in
          let e : a.height g.text t.next ≡ a.height g.text st.place - takes_here t + gives_in t.code =
          subst (λ v. a.height g.text t.next ≡ a.height g.text st.place - v.takes + v.gives) o q.height in
          let m = more in
          let h = enough in
          let b = g.height in
          let r = q.high in
          omega arith

  -- a number that is no body's gives one cell
  pub value_sum_lem : (c : T (is_a call t)) → is_body_here ≡ false → effect_of a.sum t ≡ Effect.called value_sum
  value_sum_lem c e =
      let k = called c in
      let f = k.entered.defined in
      let n : T (not (is_colon f.token)) = fails (is_colon f.token) (sym (called_colon k) ∙ e) in
      effect_call a.sum t c ∙ ap (λ v. Effect.called v) (ap (λ m. a.sum m) (sym k.number) ∙ a.valued f.met f.defines n)

  call_high : (c : T (is_a call t)) → st.stack.height - takes_here t + (gives_in t.code + gives_more s t) ≤ data_most
  call_high c = by is_body_here refl
    where
      shaped : (takes_here t ≡ 0) × (gives_in t.code ≡ 0)
      shaped = call_shape (eqb→eq family call c)

      value : effect_of a.sum t ≡ Effect.called value_sum → GivesOn a.sum t
          → st.stack.height - takes_here t + (gives_in t.code + gives_more s t) ≤ data_most
      value o (GivesOn.quiet x y) = let z : ◌≡◌ {A = ℕ} 1 0 = subst (λ v. v.gives ≡ 0) o x in absurd (omega arith)
      value o (GivesOn.goes_on i) =
          let q = behind (on i) in
          let e : a.height g.text t.next ≡ a.height g.text st.place - 0 + 1 =
          subst (λ v. a.height g.text t.next ≡ a.height g.text st.place - v.takes + v.gives) o q.height in
          let z = shaped in
          let m = one_more in
          let b = g.height in
          let r = q.high in
          omega (arith, z.0, z.1)

      by : (b : Bool) → is_body_here ≡ b → st.stack.height - takes_here t + (gives_in t.code + gives_more s t) ≤ data_most
      by true e =
          let m = no_more (unasked family call (not is_body_here) (λ k. rw e tt)) in
          let z = shaped in
          let b = g.height in
          let r = space.height in
          omega (arith, z.0, z.1)
      by false e = value (value_sum_lem c e) (gives_leads rom (length_of rom) g.setting.wide _ st.place t is a.sum)

  not_high : T (not (Refusals.high s t))
  not_high = fails _ (le-ltb data_most (st.stack.height - takes_here t + (gives_in t.code + gives_more s t)) (by (is_a call t) refl))
    where
      by : (c : Bool) → is_a call t ≡ c → st.stack.height - takes_here t + (gives_in t.code + gives_more s t) ≤ data_most
      by true e = call_high (holds (is_a call t) e)
      by false e = own_high (fails (is_a call t) e)

  -- ---- 17: there is a frame for a call
  pub frame_room : (c : T (is_a call t)) → is_body_here ≡ true → st.calls.count < frames_most
  frame_room c e =
      let k = called c in
      let f = k.entered.defined in
      let o = own_frame_lem a f (holds (is_colon f.token) (sym (called_colon k) ∙ e)) k.number in
      let r : st.calls.count + (a.sum t.number).frames ≤ frames_most =
      subst (λ v. st.calls.count + v.frames ≤ frames_most) (effect_call a.sum t c) space.frames in
      omega arith

  not_too_many : T (not (Refusals.too_many_frames s t))
  not_too_many = unasked family call (is_body_here && leb frames_most st.calls.count)
      (λ k. by (holds (is_a call t) (eq-eqb family call k)) is_body_here refl)
    where
      by : T (is_a call t) → (b : Bool) → is_body_here ≡ b → T (not (is_body_here && leb frames_most st.calls.count))
      by c true e = not_second is_body_here (leb frames_most st.calls.count)
          (fails _ (lt-leb frames_most st.calls.count (frame_room c e)))
      by c false e = not_first is_body_here (leb frames_most st.calls.count) (fails is_body_here e)

  -- ---- 20: there is a node
  pub node_room : family ≡ new_device → T (not (no_room st.tree))
  node_room e =
      let o = fixed_outer a g.chain met g.at (rw e tt) in
      let l : suc g.outer.nodes ≤ nodes_most = rw e at (a.limited o.met) in
      let n = g.nodes in
      fails _ (lt-leb nodes_most st.tree.nodes (omega arith))

  not_outermost : family ≡ finish_device → T (not (outermost st.first st.active))
  not_outermost e =
      let o = fixed_outer a g.chain met g.at (rw e tt) in
      let l = a.opened o.met (holds (is_a finish_device t) (eq-eqb family finish_device e)) in
      let b = below_one st.tree g.children l in
      let f = g.first in
      fails _ (ne_eqb st.active st.first (λ z. omega arith))

  not_node : T (not (Refusals.no_node s t))
  not_node =
      nor (only family new_device (no_room st.tree)) (only family finish_device (outermost st.first st.active))
      (unasked family new_device (no_room st.tree) node_room)
      (unasked family finish_device (outermost st.first st.active) not_outermost)

  -- ---- what is left: 21 to 27, or none
  pub by_data : ByData (refusal_of s t)
  unfolding refusal_of
  by_data =
      first_of_lem (refusals s t) (
      never (Refusals.undefined s t) not_undefined ▸
      never (Refusals.taken s t) not_taken ▸
      never (not (eqb (Refusals.body_refusal s t) 0)) (rw body_well tt) ▸
      never (Refusals.low s t) not_low ▸
      never (Refusals.goes_astray s t) not_astray ▸
      never (Refusals.back_wrong s t) not_back_wrong ▸
      never (Refusals.high s t) not_high ▸
      never (Refusals.too_many_frames s t) not_too_many ▸
      never (Refusals.no_node s t) not_node ▸
      (λ h. refused tt) ▸
      (λ h. refused tt) ▸
      (λ h. refused tt) ▸
      (λ h. refused tt) ▸
      (λ h. refused tt) ▸
      (λ h. refused tt) ▸
      (λ h. refused tt) ▸
      tt
      )
    where
      never : {n : ℕ} (b : Bool) → T (not b) → T b → ByData n
      never b h i = absurd (T_not b h i)
