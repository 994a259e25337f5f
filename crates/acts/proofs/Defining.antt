-- Program numbers entered, given another value and defined: the state that the code leaves is the step's. Assumes nothing.
use Rattle.std.proofs.Common.{◌≡◌, ℕ, zero, suc, ◌+◌, ◌-◌, ◌<◌, ◌≤◌, Bool, true, false, not, eqb, ltb, leb, List, [], ◌∷◌, get_or, sym}
use Rattle.std.proofs.Common.{refl, ap, ◌∙◌, subst, arith, leb→le, ltb-false, ltb-true, le-ltb, lt-ltb, eq-eqb, ne_eqb, eqb-true}
use Rattle.std.proofs.Common.{Result, Ok, Err}
use borrow.Author.Tests.{eqb-false}
use Rattle.cells.specs.Laws.Tests.{pick_is}
use Rattle.cells.specs.Laws.Facts.{holds, both_hold}
use Rattle.tokens.specs.Family.{assign, call, define}
use Rattle.tokens.specs.Table.{is_program}
use Rattle.tokens.specs.Decode.{token_of, decode_of, is_kind}
use Rattle.tokens.specs.Place.{judged, misplaced_of, read_of}
use Rattle.tokens.specs.Body.{BodyRead, Ends, Stops, kind_of, number_in, unknown_of, body_onward, after_of, body_from, body_of}
use Rattle.tokens.specs.Laws.Tokens.{find_is}
use Rattle.tokens.specs.declared.decoding.Operand.{Operand}
use Rattle.tokens.specs.declared.decoding.Operand.TheVariants.{Definition}
use Rattle.tokens.specs.declared.decoding.Decoded.{Decoded}
use Rattle.tokens.specs.declared.decoding.Decoded.TheVariants.{Cut, Unlisted, Whole}
use Rattle.tokens.specs.declared.decoding.Token.{Token}
use Rattle.memory.specs.Writing.{written_of, bytes_of}
use Rattle.tokens.specs.Definition.{colon, constant, kind_in, new_number, value, variable}
use Rattle.state.specs.State.{moved, moved_to, with_numbers, with_work}
use Rattle.state.specs.Numbers.{seek_from, seek_of, is_held, defined_of, assigned_of}
use Rattle.state.specs.Numbers.{kind_of_byte, kind_at, kind_held, kinds_of}
use Rattle.state.specs.Scene.{scene, turn, handed_back}
use Rattle.state.specs.Refusals.{rounded}
use Rattle.state.specs.Effects.{gave, behind_body, effects, act_of}
use Rattle.state.specs.Joints.Moves.{Popped, stepped, pop_of, push_of, call_of}
use Rattle.state.specs.Step.{done_of}
use Rattle.acts.specs.Joints.Acts.{QuietOf, QuietBy, Defines, Colons, Variables, Fresh, TakesValue}
use Rattle.state.specs.Laws.Keeps.Tests.{find_at}
use Rattle.state.specs.Laws.Keeps.Token.{behind_body_lem}
use Rattle.state.specs.declared.state.State.{State}
use Rattle.state.specs.declared.state.Numbers.{Numbers}
use Rattle.state.specs.Answer.{Stepped, Going, Refused}
use Rattle.acts.proofs.Cold.{assign_unknown, assign_low, assign_good, call_unknown, call_high, call_value, call_deep, call_body}
use Rattle.acts.proofs.Cold.{define_held, define_most, colon_stops, colon_good, variable_full, variable_good, value_low, value_good}
use Rattle.acts.proofs.Cold.{constant_low, constant_good}
use Rattle.state.specs.Laws.Done.{carried, stopped}
use Rattle.acts.proofs.Pops.{cell_at, first_pop, popped_on, still_on, pushed_here}
use Rattle.state.specs.Laws.Seeking.{program_bounds, kind_got}
use Rattle.rom.specs.Sizes.{data_most, frames_most, numbers_most, work_size}

-- ---- the kind that the numbers say
module _ (ns : Numbers) (m : ℕ) where
  pub kind_outside : is_program m ≡ false → kind_of (kinds_of ns) m ≡ 0
  kind_outside e = rw e

  held_known : is_program m ≡ true → kind_of (kinds_of ns) m ≡ kind_held ns m
  held_known e = let b = program_bounds m e in rw e (kind_got ns m b.0 b.1)

  pub kind_none : is_program m ≡ true → is_held ns m ≡ false → kind_of (kinds_of ns) m ≡ 0
  unfolding kind_held
  kind_none p e = held_known p ∙ rw e

  pub kind_there : is_program m ≡ true → is_held ns m ≡ true → kind_of (kinds_of ns) m ≡ kind_at ns (seek_of ns m)
  unfolding kind_held
  kind_there p e = held_known p ∙ rw e

-- a kind is never 0, and b(value) only where the byte is
kind_some : (k : ℕ) → eqb (kind_of_byte k) 0 ≡ false
kind_some k = find_is (λ (v : ℕ). eqb v 0 ≡ false) ((colon, colon) ∷ (value, value) ∷ []) constant k (refl, (refl, tt)) refl

kind_other : (k : ℕ) → (k ≡ value → ⊥) → eqb (kind_of_byte k) value ≡ false
kind_other k n =
    find_at (λ (v : ℕ). eqb v value ≡ false) ((colon, colon) ∷ (value, value) ∷ []) constant k ((λ e. refl), ((λ e. absurd (n e)), tt)) refl

-- ---- b(to)
module _ (st : State) (o : Operand) (next m at : ℕ) (e : m ≡ number_in o)
    (f : at ≡ seek_from st.numbers.programs m st.numbers.count 0) where
  unassigned : (k : ℕ) (r : Stepped) → kind_of (kinds_of st.numbers) m ≡ k → eqb k value ≡ false → r ≡ stepped (Refused 12) st
      → QuietOf assign o st next r
  unfolding unknown_of
  unassigned k r g z w n rom work store =
      let u : kind_of (kinds_of st.numbers) (number_in o) ≡ k = ap (λ (x : ℕ). kind_of (kinds_of st.numbers) x) (sym e) ∙ g in
      rw w (sym (stopped (scene rom work store st) (token_of n 0x1004_0010 o next) 12 refl
      (assign_unknown (scene rom work store st) n o next (ap (λ (x : ℕ). not (eqb x value)) u ∙ ap not z))))

  pub assign_outside : (r : Stepped) → is_program m ≡ false → r ≡ stepped (Refused 12) st → QuietOf assign o st next r
  assign_outside r p w = unassigned 0 r (kind_outside st.numbers m p) refl w

  module _ (p : is_program m ≡ true) where
    held : at < st.numbers.count → is_held st.numbers m ≡ true
    held l = lt-ltb _ _ (subst (λ (x : ℕ). x < st.numbers.count) f l)

    pub assign_none : (r : Stepped) → st.numbers.count ≤ at → r ≡ stepped (Refused 12) st → QuietOf assign o st next r
    assign_none r l w =
        unassigned 0 r (kind_none st.numbers m p (le-ltb _ _ (subst (λ (x : ℕ). st.numbers.count ≤ x) f l))) refl w

    module _ (l : at < st.numbers.count) (k : ℕ) (g : k ≡ get_or st.numbers.kinds at 0) where
      kind_here : kind_of (kinds_of st.numbers) m ≡ kind_of_byte k
      kind_here = kind_there st.numbers m p (held l) ∙ sym (ap kind_of_byte (g ∙ ap (λ (x : ℕ). get_or st.numbers.kinds x 0) f))

      pub assign_other : (r : Stepped) → (k ≡ value → ⊥) → r ≡ stepped (Refused 12) st → QuietOf assign o st next r
      assign_other r n w = unassigned (kind_of_byte k) r kind_here (kind_other k n) w

      module _ (v : k ≡ value) where
        assigned : (n : ℕ) → unknown_of (kinds_of st.numbers) (token_of n 0x1004_0010 o next) ≡ false
        unfolding unknown_of
        assigned n =
            let u : kind_of (kinds_of st.numbers) (number_in o) ≡ value =
            ap (λ (x : ℕ). kind_of (kinds_of st.numbers) x) (sym e) ∙ kind_here ∙ ap kind_of_byte v in
            ap (λ (x : ℕ). not (eqb x value)) u

        pub assign_low_told : (r : Stepped) → st.stack.height < 1 → r ≡ stepped (Refused 14) st → QuietOf assign o st next r
        assign_low_told r h w n rom work store =
            rw w (sym (stopped (scene rom work store st) (token_of n 0x1004_0010 o next) 14 refl
            (assign_low (scene rom work store st) n o next (assigned n) h)))

        pub assign_told : (q : Popped) (d : State) (r : Stepped) → 1 ≤ st.stack.height → st.stack.height ≤ data_most → q ≡ pop_of st
            → d ≡ with_numbers (moved_to q.state next) (assigned_of q.state.numbers at q.cell) → r ≡ stepped Going d
            → QuietOf assign o st next r
        unfolding act_of effects
        assign_told q d r h i b y w n rom work store =
            let c = first_pop st q h b in
            let here = seek_of st.numbers (number_in o) in
            let j : at ≡ here = f ∙ ap (λ (x : ℕ). seek_from st.numbers.programs x st.numbers.count 0) e in
            ap (λ (x : Stepped). handed_back x work store) w
            ∙ ap (λ (x : State). turn Going x work store) y
            ∙ ap (λ (x : State). turn Going (with_numbers (moved_to x next) (assigned_of x.numbers at q.cell)) work store) c.1
            ∙ ap (λ (x : State). turn Going (with_numbers x (assigned_of st.numbers at q.cell)) work store) (popped_on st 1 next)
            ∙ ap (λ (x : ℕ). turn Going (with_numbers (moved st (gave st 1 []) next) (assigned_of st.numbers x q.cell)) work store) j
            ∙ ap (λ (x : ℕ). turn Going (with_numbers (moved st (gave st 1 []) next) (assigned_of st.numbers here x)) work store) c.0
            ∙ sym (carried (scene rom work store st) (token_of n 0x1004_0010 o next)
            (assign_good (scene rom work store st) n o next (assigned n) h i))

-- ---- a program number
module _ (st : State) (m next at : ℕ) (f : at ≡ seek_of st.numbers m) where
  unknown_told : (r : Stepped) → kind_of (kinds_of st.numbers) m ≡ 0 → r ≡ stepped (Refused 12) st → QuietBy m call st next r
  unfolding unknown_of
  unknown_told r g w o rom work store =
      rw w (sym (stopped (scene rom work store st) (token_of m 0x1100_0000 o next) 12 refl
      (call_unknown (scene rom work store st) m o next (ap (λ (x : ℕ). eqb x 0) g))))

  pub enter_outside : (r : Stepped) → is_program m ≡ false → r ≡ stepped (Refused 12) st → QuietBy m call st next r
  enter_outside r p w = unknown_told r (kind_outside st.numbers m p) w

  module _ (p : is_program m ≡ true) where
    pub enter_none : (r : Stepped) → st.numbers.count ≤ at → r ≡ stepped (Refused 12) st → QuietBy m call st next r
    enter_none r l w =
        unknown_told r (kind_none st.numbers m p (le-ltb _ _ (subst (λ (x : ℕ). st.numbers.count ≤ x) f l))) w

    module _ (l : at < st.numbers.count) (k v : ℕ) (g : k ≡ get_or st.numbers.kinds at 0) (i : v ≡ get_or st.numbers.values at 0)
        (h : st.stack.height ≤ data_most) where
      known_told : (o : Operand) → unknown_of (kinds_of st.numbers) (token_of m 0x1100_0000 o next) ≡ false
      unfolding unknown_of
      known_told o =
          ap (λ (x : ℕ). eqb x 0) (kind_there st.numbers m p (lt-ltb _ _ (subst (λ (x : ℕ). x < st.numbers.count) f l)))
          ∙ kind_some (get_or st.numbers.kinds (seek_of st.numbers m) 0)

      kind_at_lem : k ≡ get_or st.numbers.kinds (seek_of st.numbers m) 0
      kind_at_lem = g ∙ ap (λ (x : ℕ). get_or st.numbers.kinds x 0) f

      value_at_lem : v ≡ get_or st.numbers.values (seek_of st.numbers m) 0
      value_at_lem = i ∙ ap (λ (x : ℕ). get_or st.numbers.values x 0) f

      pub enter_body : (wide : Bool) (r : Stepped) → k ≡ colon → wide ≡ get_or st.numbers.wides at false → r ≡ call_of st v wide next
          → QuietBy m call st next r
      unfolding call_of act_of effects
      enter_body wide r b j w o rom work store = by (ltb st.calls.count frames_most) refl
        where
          body : eqb (get_or st.numbers.kinds (seek_of st.numbers m) 0) colon ≡ true
          body = eq-eqb _ _ (sym kind_at_lem ∙ b)

          wide_at : wide ≡ get_or st.numbers.wides (seek_of st.numbers m) false
          wide_at = j ∙ ap (λ (x : ℕ). get_or st.numbers.wides x false) f

          by : (x : Bool) → ltb st.calls.count frames_most ≡ x
              → handed_back r work store ≡ done_of (scene rom work store st) (token_of m 0x1100_0000 o next)
          by true c =
              rw (w, c, value_at_lem, wide_at)
              (sym (carried (scene rom work store st) (token_of m 0x1100_0000 o next)
              (call_body (scene rom work store st) m o next (known_told o) body h (ltb-true _ _ c)) ∙ rw body))
          by false c =
              rw (w, c)
              (sym (stopped (scene rom work store st) (token_of m 0x1100_0000 o next) 17 refl
              (call_deep (scene rom work store st) m o next (known_told o) body h (ltb-false _ _ c))))

      module _ (b : k ≡ colon → ⊥) where
        no_body : eqb (get_or st.numbers.kinds (seek_of st.numbers m) 0) colon ≡ false
        no_body = ne_eqb _ _ (λ z. b (kind_at_lem ∙ z))

        pub enter_high : (r : Stepped) → data_most < st.stack.height + 1 → r ≡ stepped (Refused 15) st → QuietBy m call st next r
        enter_high r d w o rom work store =
            rw w (sym (stopped (scene rom work store st) (token_of m 0x1100_0000 o next) 15 refl
            (call_high (scene rom work store st) m o next (known_told o) no_body d)))

        pub enter_value : (r : Stepped) → st.stack.height + 1 ≤ data_most → r ≡ push_of (moved_to st next) v → QuietBy m call st next r
        unfolding act_of effects
        enter_value r d w o rom work store =
            rw (pushed_here st next v r (omega arith) w, value_at_lem)
            (sym (carried (scene rom work store st) (token_of m 0x1100_0000 o next)
            (call_value (scene rom work store st) m o next (known_told o) no_body d) ∙ rw no_body))

-- ---- why a body's reading stops is never 0
module _ (rom : List ℕ) (size : ℕ) (wide : Bool) (kinds : List ℕ) where
  abbrev Why : BodyRead → Type 0
  Why (Ends at) = Unit {0}
  Why (Stops at why) = eqb why 0 ≡ false

  abbrev WhyRead : Result Token ℕ → Type 0
  WhyRead (Err why) = eqb why 0 ≡ false
  WhyRead (Ok t) = Unit {0}

  judged_why : (within : Bool) (d : Decoded) → WhyRead (judged within d)
  judged_why within Cut = refl
  judged_why within (Unlisted code) = pick_is (λ (x : ℕ). eqb x 0 ≡ false) (misplaced_of code within) 18 11 (λ t. refl) (λ t. refl)
  judged_why within (Whole t) = pick_is WhyRead (misplaced_of t.code within) (Err 18) (Ok t) (λ m. refl) (λ m. tt)

  read_why : (within : Bool) (p : ℕ) → WhyRead (read_of rom size wide within p)
  unfolding read_of
  read_why within p = judged_why within (decode_of rom size wide p)

  onward_why : (ends unknown : Bool) (p q : ℕ) (go : ℕ → BodyRead) → Why (go q) → Why (body_onward ends unknown p go q)
  onward_why true unknown p q go h = tt
  onward_why false true p q go h = refl
  onward_why false false p q go h = h

  after_why : (p : ℕ) (r : Result Token ℕ) (go : ℕ → BodyRead) → WhyRead r → ((q : ℕ) → Why (go q)) → Why (after_of kinds p r go)
  after_why p (Err why) go a h = a
  after_why p (Ok t) go a h = onward_why (eqb t.number 0xC2) (unknown_of kinds t) p t.next go (h t.next)

  from_why : (k p : ℕ) → Why (body_from rom size wide kinds k p)
  unfolding body_from
  from_why zero p = refl
  from_why (suc k) p = after_why p (read_of rom size wide true p) (λ q. body_from rom size wide kinds k q) (read_why true p)
      (λ q. from_why k q)

  pub stops_why : (p at why : ℕ) → body_of rom size wide kinds p ≡ Stops at why → eqb why 0 ≡ false
  stops_why p at why e = subst Why e (from_why (size - p) p)

  pub ends_within : (p at : ℕ) → p ≤ size → body_of rom size wide kinds p ≡ Ends at → at + 1 ≤ size
  ends_within p at l e = subst (λ (b : BodyRead). behind_body b ≤ size) e (behind_body_lem rom size wide kinds p l).1

-- ---- b(:)
module _ (rom : List ℕ) (st : State) (m next : ℕ) (h : st.stack.height ≤ data_most) (e : Fresh st.numbers m) (kinds : List ℕ) (b : BodyRead)
    (k : kinds ≡ kinds_of st.numbers) (f : b ≡ body_of rom st.length st.wide kinds next) where
  body_is : (x : BodyRead) → b ≡ x → body_of rom st.length st.wide (kinds_of st.numbers) next ≡ x
  body_is x g = ap (λ (l : List ℕ). body_of rom st.length st.wide l next) (sym k) ∙ sym f ∙ g

  pub colon_stops_told : (at why : ℕ) (r : Stepped) → b ≡ Stops at why → r ≡ stepped (Refused why) st → Colons m rom st next r
  colon_stops_told at why r g w work n store =
      let z = stops_why rom st.length st.wide (kinds_of st.numbers) next at why (body_is (Stops at why) g) in
      rw w (sym (stopped (scene rom work store st) (token_of n 0x0E15_0000 (Definition m colon) next) why z
      (colon_stops (scene rom work store st) n (Definition m colon) next m e.0 e.1 h at why (body_is (Stops at why) g) z)))

  pub colon_told : (at : ℕ) (r : Stepped) → b ≡ Ends at
      → r ≡ stepped Going (moved_to (with_numbers st (defined_of st.numbers m colon next st.wide)) (at + 1)) → Colons m rom st next r
  unfolding act_of effects
  colon_told at r g w work n store =
      rw w (sym (carried (scene rom work store st) (token_of n 0x0E15_0000 (Definition m colon) next)
      (colon_good (scene rom work store st) n (Definition m colon) next m e.0 e.1 h at (body_is (Ends at) g))
      ∙ rw (body_is (Ends at) g)))

  pub colon_end : (at : ℕ) → next ≤ st.length → b ≡ Ends at → at + 1 ≤ st.length
  colon_end at l g = ends_within rom st.length st.wide (kinds_of st.numbers) next at l (body_is (Ends at) g)

-- ---- b(value), b(constant)
module _ (st : State) (m next : ℕ) (h : st.stack.height ≤ data_most) (e : Fresh st.numbers m) where
  by_kind : (k : ℕ) (P : ℕ → Type 0) → TakesValue k → P value → P constant → P k
  by_kind k P t v c = by (eqb k constant) refl
    where
      by : (b : Bool) → eqb k constant ≡ b → P k
      by true z = subst P (sym (eqb-true k constant z)) c
      by false z = subst P (sym (t (eqb-false k constant z))) v

  pub value_low_told : (k : ℕ) (r : Stepped) → TakesValue k → st.stack.height < 1 → r ≡ stepped (Refused 14) st
      → QuietOf define (Definition m k) st next r
  value_low_told k r t l w n rom work store =
      by_kind k (λ (x : ℕ). handed_back r work store ≡ done_of (scene rom work store st) (token_of n 0x0E15_0000 (Definition m x) next)) t
      (rw w (sym (stopped (scene rom work store st) (token_of n 0x0E15_0000 (Definition m value) next) 14 refl
      (value_low (scene rom work store st) n (Definition m value) next m e.0 e.1 h l))))
      (rw w (sym (stopped (scene rom work store st) (token_of n 0x0E15_0000 (Definition m constant) next) 14 refl
      (constant_low (scene rom work store st) n (Definition m constant) next m e.0 e.1 h l))))

  module _ (l : 1 ≤ st.stack.height) (p : Popped) (f : p ≡ pop_of st) where
    pub value_room : p.state.numbers.count + 1 ≤ numbers_most
    value_room = let c = first_pop st p l f in subst (λ (x : State). x.numbers.count + 1 ≤ numbers_most) (sym c.1) e.1

    pub value_told : (k : ℕ) (d : State) (r : Stepped) → TakesValue k
        → d ≡ with_numbers (moved_to p.state next) (defined_of p.state.numbers m k p.cell p.state.wide) → r ≡ stepped Going d
        → QuietOf define (Definition m k) st next r
    unfolding act_of effects
    value_told k d r t g w n rom work store =
        let c = first_pop st p l f in
        ap (λ (x : Stepped). handed_back x work store) w
        ∙ ap (λ (x : State). turn Going x work store) g
        ∙ ap (λ (x : State). turn Going (with_numbers (moved_to x next) (defined_of x.numbers m k p.cell x.wide)) work store) c.1
        ∙ ap (λ (x : State). turn Going (with_numbers x (defined_of st.numbers m k p.cell st.wide)) work store) (popped_on st 1 next)
        ∙ ap (λ (x : ℕ). turn Going (with_numbers (moved st (gave st 1 []) next) (defined_of st.numbers m k x st.wide)) work store)
        c.0
        ∙ by_kind k
        (λ (x : ℕ). turn Going (with_numbers (moved st (gave st 1 []) next) (defined_of st.numbers m x (cell_at st 0) st.wide)) work
        store
        ≡ done_of (scene rom work store st) (token_of n 0x0E15_0000 (Definition m x) next)) t
        (sym (carried (scene rom work store st) (token_of n 0x0E15_0000 (Definition m value) next)
        (value_good (scene rom work store st) n (Definition m value) next m e.0 e.1 h l)))
        (sym (carried (scene rom work store st) (token_of n 0x0E15_0000 (Definition m constant) next)
        (constant_good (scene rom work store st) n (Definition m constant) next m e.0 e.1 h l)))

-- ---- b(variable)
module _ (st : State) (m next at : ℕ) (h : st.stack.height ≤ data_most) (e : Fresh st.numbers m)
    (i : at ≡ rounded st.work_place) where
  abbrev cells : ℕ
  cells = rounded st.work_place

  abbrev numbered : ℕ → Numbers
  numbered x = defined_of st.numbers m variable (0x2000_0000 + x) st.wide

  pub variable_full_told : (work : List ℕ) (r : Stepped) → work_size < at + 4 → r ≡ stepped (Refused 24) st
      → Variables m work work st next r
  variable_full_told work r l w rom n store =
      rw w (sym (stopped (scene rom work store st) (token_of n 0x0E15_0000 (Definition m variable) next) 24 refl
      (variable_full (scene rom work store st) n (Definition m variable) next m e.0 e.1 h (subst (λ (x : ℕ). work_size < x + 4) i l))))

  pub variable_told : (work then : List ℕ) (d : State) (r : Stepped) → at + 4 ≤ work_size → then ≡ written_of work at (bytes_of 0)
      → d ≡ with_numbers st (numbered at) → r ≡ stepped Going (with_work (moved_to d next) (at + 4))
      → Variables m work then st next r
  unfolding act_of effects
  variable_told work then d r l a g w rom n store =
      ap (λ (x : Stepped). handed_back x then store) w
      ∙ ap (λ (x : State). turn Going (with_work (moved_to x next) (at + 4)) then store) g
      ∙ ap (λ (x : List ℕ). turn Going (with_work (moved_to (with_numbers st (numbered at)) next) (at + 4)) x store) a
      ∙ ap (λ (x : ℕ). turn Going (with_work (moved_to (with_numbers st (numbered x)) next) (x + 4)) (written_of work x (bytes_of 0)) store)
      i
      ∙ ap (λ (x : State). turn Going (with_work (with_numbers x (numbered cells)) (cells + 4)) (written_of work cells (bytes_of 0)) store)
      (still_on st next)
      ∙ sym (carried (scene rom work store st) (token_of n 0x0E15_0000 (Definition m variable) next)
      (variable_good (scene rom work store st) n (Definition m variable) next m e.0 e.1 h (subst (λ (x : ℕ). x + 4 ≤ work_size) i l)))

-- ---- a definition, by its kind
pub constant_left : (k : ℕ) → is_kind k ≡ true → ((Unit {0} × (k ≡ colon → ⊥)) × (k ≡ value → ⊥)) × (k ≡ variable → ⊥) → k ≡ constant
constant_left k e n =
    by (eqb k constant) refl
  where
    by : (b : Bool) → eqb k constant ≡ b → k ≡ constant
    by true z = eqb-true k constant z
    by false z =
        let y = eqb-false k constant z in
        let a = n.0.0.1 in
        let b = n.0.1 in
        let c = n.1 in
        let p = both_hold (leb colon k) (leb k constant) (holds (is_kind k) e) in
        let l = leb→le colon k p.0 in
        let m = leb→le k constant p.1 in
        absurd (omega arith)

-- ---- 13, and a number that is new
pub fresh_told : (st : State) (m at : ℕ) → at ≡ seek_of st.numbers m → st.numbers.count ≤ at → st.numbers.count < numbers_most
    → Fresh st.numbers m
fresh_told st m at f l h = (le-ltb _ _ (subst (λ (x : ℕ). st.numbers.count ≤ x) f l), omega arith)

module _ (rom work : List ℕ) (st : State) (o : Operand) (next m at : ℕ) (e : m ≡ new_number o) (f : at ≡ seek_of st.numbers m) where
  pub held_told : (r : Stepped) → at < st.numbers.count → r ≡ stepped (Refused 13) st → Defines o rom work work st next r
  held_told r l w n store =
      rw w (sym (stopped (scene rom work store st) (token_of n 0x0E15_0000 o next) 13 refl
      (define_held (scene rom work store st) n o next
      (ap (λ (x : ℕ). is_held st.numbers x) (sym e) ∙ lt-ltb _ _ (subst (λ (x : ℕ). x < st.numbers.count) f l)))))

  pub most_told : (r : Stepped) → st.numbers.count ≤ at → numbers_most ≤ st.numbers.count → r ≡ stepped (Refused 13) st
      → Defines o rom work work st next r
  most_told r l h w n store =
      rw w (sym (stopped (scene rom work store st) (token_of n 0x0E15_0000 o next) 13 refl
      (define_most (scene rom work store st) n o next
      (ap (λ (x : ℕ). is_held st.numbers x) (sym e) ∙ le-ltb _ _ (subst (λ (x : ℕ). st.numbers.count ≤ x) f l)) h)))

pub defined_told : (rom work : List ℕ) (st : State) (o : Operand) (next m k : ℕ) (then : List ℕ) → m ≡ new_number o → k ≡ kind_in o
    → o ≡ Definition (new_number o) (kind_in o) → (r : Stepped) → Defines (Definition m k) rom work then st next r
    → Defines o rom work then st next r
defined_told rom work st o next m k then e f g r d =
    subst (λ (x : Operand). Defines x rom work then st next r) (sym (g ∙ sym (rw (e, f)))) d
