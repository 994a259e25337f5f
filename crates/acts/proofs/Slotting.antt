-- A program number by its slot: what the slot says, and the laws of a number that is entered or given another value by it. Assumes nothing.
use Rattle.std.proofs.Common.{◌≡◌, ℕ, zero, suc, ◌+◌, ◌-◌, ◌<◌, ◌≤◌, Bool, true, false, List, ◌∷◌, length, get_or, sym, refl, ap, ◌∙◌}
use Rattle.std.proofs.Common.{arith, get_or-set_other, get_or-set_same, ltb-false, ltb-true}
use Rattle.std.specs.Prelude.{Option, Some, None, MatchOption}
use Rattle.std.specs.Option.{is_some}
use Rattle.tokens.specs.Table.{is_program, programs_most, first_program}
use Rattle.tokens.specs.Family.{assign, call}
use Rattle.tokens.specs.Body.{number_in}
use Rattle.tokens.specs.declared.decoding.Operand.{Operand}
use Rattle.state.specs.Numbers.{numbers_on, seek_of, is_held, kind_of_byte, kind_at, kind_held, kinds_from, defined_of}
use Rattle.state.specs.Laws.Seeking.{slot_none, slot_some, table_defined, kinds_all, put_kind}
use Rattle.state.specs.Joints.Moves.{stepped}
use Rattle.state.specs.declared.state.State.{State}
use Rattle.state.specs.declared.state.Numbers.{Numbers}
use Rattle.state.specs.Answer.{Stepped, Refused}
use Rattle.acts.specs.Joints.Acts.{QuietOf, QuietBy, Tabled, Tables, slot_in}
use Rattle.acts.proofs.Defining.{enter_outside, enter_none, assign_outside, assign_none}
use Rattle.state.specs.Joints.Tables.{slots_of, table_past}

module _ (slots : List ℕ) (ns : Numbers) (n : ℕ) (e : slots ≡ slots_of ns) where
  slot_is : is_program n ≡ true → slot_in slots n ≡ get_or (slots_of ns) (n - 0x800) 0
  slot_is p = rw (p, e)

  -- it is no program's, or is not held
  pub not_held : slot_in slots n ≡ 0 → is_program n ≡ true → ns.count ≤ seek_of ns n
  not_held z p = ltb-false _ _ (slot_none ns n p (sym (slot_is p) ∙ z))

  -- it is held where the slot says
  pub held_there : (at : ℕ) → slot_in slots n ≡ at + 1 → (is_program n ≡ true) × (at ≡ seek_of ns n) × (at < ns.count)
  held_there at f = by (is_program n) refl
    where
      by : (b : Bool) → is_program n ≡ b → (is_program n ≡ true) × (at ≡ seek_of ns n) × (at < ns.count)
      by true p =
          let g : at + 1 ≡ get_or (slots_of ns) (n - 0x800) 0 = sym f ∙ slot_is p in
          let s = slot_some ns n p (λ q. absurd (let z : at + 1 ≡ 0 = g ∙ q in omega arith)) in
          let m : at + 1 - 1 ≡ seek_of ns n = ap (λ (k : ℕ). k - 1) g ∙ s.1 in
          let l : seek_of ns n < ns.count = ltb-true (seek_of ns n) ns.count s.0 in
          (p, omega arith, omega arith)
      by false p = absurd (let y : slot_in slots n ≡ 0 = rw p in let z : 0 ≡ at + 1 = sym y ∙ f in omega arith)

-- what is said of where a number stands, by whether it does
abbrev pub Place : List ℕ → ℕ → Option ℕ → Type 0
Place slots n r = MatchOption r (slot_in slots n ≡ 0) (λ at. slot_in slots n ≡ at + 1)

pub held_some : (slots : List ℕ) (n : ℕ) (r : Option ℕ) → Place slots n r → is_some r ≡ true → (at : ℕ) × (slot_in slots n ≡ at + 1)
held_some slots n (Some at) h t = (at, h)
held_some slots n None h t = absurd (cc)

pub held_none : (slots : List ℕ) (n : ℕ) (r : Option ℕ) → Place slots n r → is_some r ≡ false → slot_in slots n ≡ 0
held_none slots n (Some at) h t = absurd (cc)
held_none slots n None h t = h

-- the kinds go by names and kinds alone
kinds_any : (names kinds values values' : List ℕ) (ways ways' : List Bool) (held k n : ℕ)
    → kinds_from (numbers_on names kinds values ways held) k n ≡ kinds_from (numbers_on names kinds values' ways' held) k n
unfolding kinds_from kind_held
kinds_any names kinds values values' ways ways' held zero n = refl
kinds_any names kinds values values' ways ways' held (suc k) n =
    ap (λ (l : List ℕ). kind_held (numbers_on names kinds values ways held) n ∷ l)
    (kinds_any names kinds values values' ways ways' held k (n + 1))

pub tables_of : (slots known names kinds values : List ℕ) (ways : List Bool) (held : ℕ)
    → Tabled slots known (numbers_on names kinds values ways held)
    → Tables slots known names kinds held
tables_of slots known names kinds values ways held t values' ways' =
    (t.0, t.1 ∙ kinds_any names kinds values values' ways ways' held programs_most first_program)

-- one number more in both tables
pub tabled_defined : (slots known slots' known' : List ℕ) (ns : Numbers) (n kind v : ℕ) (wide : Bool) → ns.count < length ns.programs
    → ns.count < length ns.kinds
    → is_held ns n ≡ false → Tabled slots known ns → slots' ≡ put_kind slots n (ns.count + 1)
    → known' ≡ put_kind known n (kind_of_byte kind)
    → Tabled slots' known' (defined_of ns n kind v wide)
tabled_defined slots known slots' known' ns n kind v wide h l e t p q = (
  p ∙ ap (λ (x : List ℕ). put_kind x n (ns.count + 1)) t.0 ∙ table_defined (λ j. j + 1) (λ j. j + 1) ns n kind v wide h e (λ j i. refl),
  q
      ∙ ap (λ (x : List ℕ). put_kind x n (kind_of_byte kind)) (t.1 ∙ sym (kinds_all ns))
      ∙ ap (λ (x : ℕ). put_kind (table_past (kind_at ns) ns 0) n (kind_of_byte x)) (sym (get_or-set_same ns.kinds ns.count kind 0 l))
      ∙ table_defined (kind_at ns) (kind_at (defined_of ns n kind v wide)) ns n kind v wide h e
      (λ j i. ap kind_of_byte (get_or-set_other ns.kinds ns.count j kind 0 (λ x. omega arith)))
      ∙ kinds_all (defined_of ns n kind v wide),
)

module _ (slots : List ℕ) (st : State) (n : ℕ) (e : slots ≡ slots_of st.numbers) (z : slot_in slots n ≡ 0)
    (next : ℕ) (r : Stepped)
    (w : r ≡ stepped (Refused 12) st) where
  pub enter_unheld : QuietBy n call st next r
  enter_unheld = by (is_program n) refl
    where
      by : (b : Bool) → is_program n ≡ b → QuietBy n call st next r
      by true p = enter_none st n next (seek_of st.numbers n) refl p r (not_held slots st.numbers n e z p) w
      by false p = enter_outside st n next (seek_of st.numbers n) refl r p w

  pub assign_unheld : (o : Operand) → n ≡ number_in o → QuietOf assign o st next r
  assign_unheld o q = by (is_program n) refl
    where
      by : (b : Bool) → is_program n ≡ b → QuietOf assign o st next r
      by true p = assign_none st o next n (seek_of st.numbers n) q refl p r (not_held slots st.numbers n e z p) w
      by false p = assign_outside st o next n (seek_of st.numbers n) q refl r p w
