-- What is left of whole call frames and program numbers when one is added, changed or taken away; and what is known of a number that is
-- defined. Assumes nothing.
use Rattle.std.specs.Prelude.{ℕ, zero, suc, ◌+◌, ◌-◌, ◌<◌, ◌≤◌, ◌≡◌, refl, Bool, true, false, not, List, [], ◌∷◌, length, get_or, set, T}
use Rattle.std.specs.Prelude.{ltb, leb, eqb}
use Rattle.std.proofs.Common.{arith, sym, ap, ◌∙◌, length-set, get_or-set_same, get_or-set_other, T_not, eqb→eq, eqb-true, ltb-true}
use Rattle.std.proofs.Common.{ltb-false, lt-ltb, le-ltb}
use Rattle.std.proofs.lemmas.Bool.{eqb-false}
use Rattle.cells.specs.Laws.Tests.{tests, neqb→ne}
use Rattle.cells.specs.Laws.Facts.{holds, both_hold, not_unequal}
use Rattle.rom.specs.Sizes.{frames_most, numbers_most}
use Rattle.tokens.specs.Table.{is_program, programs_most, first_program}
use Rattle.tokens.specs.Family.{call, assign}
use Rattle.tokens.specs.Code.{family_in}
use Rattle.tokens.specs.Body.{kind_of, number_in, unknown_of}
use Rattle.tokens.specs.declared.decoding.Token.{Token}
use Rattle.tokens.specs.Definition.{colon, value}
use Rattle.state.specs.State.{base_of}
use Rattle.state.specs.Stacks.{left_of}
use Rattle.state.specs.Numbers.{seek_of, is_held, is_body, kind_at, kind_held, kinds_from, kinds_of, defined_of, assigned_of}
use Rattle.state.specs.Whole.{next_base}
use Rattle.state.specs.Effects.{framed_of, unframed_of}
use Rattle.state.specs.Laws.Sized.{SizedCalls, SizedNumbers}
use Rattle.state.specs.Laws.Keeps.Whole.{Place, Frame, Frames, Entry, Entries}
use Rattle.state.specs.declared.state.Calls.{Calls}
use Rattle.state.specs.declared.state.Numbers.{Numbers}

-- ---- cells put on a stack leave it as long as it was
pub left_length : (cells : List ℕ) (base : ℕ) (vs : List ℕ) → length (left_of cells base vs) ≡ length cells
unfolding left_of
left_length cells base [] = refl
left_length cells base (v ∷ vs) = left_length (set cells base v) (base + 1) vs ∙ length-set cells base v

-- ---- call frames
module _ (calls : Calls) (returns i : ℕ) where
  next_inner : i + 1 < calls.count → next_base calls returns i ≡ get_or calls.bases (i + 1) 0
  next_inner l = rw (lt-ltb (i + 1) calls.count l)

  next_last : calls.count ≤ i + 1 → next_base calls returns i ≡ returns
  next_last l = rw (le-ltb (i + 1) calls.count l)

base_open : (calls : Calls) → 0 < calls.count → base_of calls ≡ get_or calls.bases (calls.count - 1) 0
base_open calls l = rw (lt-ltb 0 calls.count l)

base_none : (calls : Calls) → calls.count ≤ 0 → base_of calls ≡ 0
base_none calls l = rw (le-ltb 0 calls.count l)

last_base : (size : ℕ) (calls : Calls) (returns : ℕ) → Frames size calls returns → 0 < calls.count
    → get_or calls.bases (calls.count - 1) 0 ≤ returns
last_base size calls returns f l =
    let r = f.each (calls.count - 1) (omega arith) in
    let e = next_last calls returns (calls.count - 1) (omega arith) in
    omega (arith, r.base)

pub base_below : (size : ℕ) (calls : Calls) (returns : ℕ) → Frames size calls returns → base_of calls ≤ returns
base_below size calls returns f = by (ltb 0 calls.count) refl
  where
    by : (b : Bool) → ltb 0 calls.count ≡ b → base_of calls ≤ returns
    by true e =
        let l = ltb-true 0 calls.count e in
        let b = base_open calls l in
        let g = last_base size calls returns f l in
        omega arith
    by false e = let b = base_none calls (ltb-false 0 calls.count e) in omega arith

-- with another height of the return stack, not below the youngest frame's base
pub frames_moved : (size : ℕ) (calls : Calls) (returns then : ℕ) → Frames size calls returns → base_of calls ≤ then → Frames size calls then
frames_moved size calls returns then f h = record { count = f.count; each = each }
  where
    by : (i : ℕ) → i < calls.count → (b : Bool) → ltb (i + 1) calls.count ≡ b → get_or calls.bases i 0 ≤ next_base calls then i
    by i l true e =
        let m = ltb-true (i + 1) calls.count e in
        let p = next_inner calls returns i m in
        let q = next_inner calls then i m in
        let r = f.each i l in
        omega (arith, r.base)
    by i l false e =
        let m = ltb-false (i + 1) calls.count e in
        let q = next_last calls then i m in
        let b = base_open calls (omega arith) in
        let j : calls.count - 1 ≡ i = omega arith in
        let c = ap (λ (k : ℕ). get_or calls.bases k 0) j in
        omega arith

    each : (i : ℕ) → i < calls.count → Frame size calls then i
    each i l = record { place = (f.each i l).place; base = by i l (ltb (i + 1) calls.count) refl }

-- one frame more
module _ (size : ℕ) (calls : Calls) (returns place : ℕ) (wide : Bool) (f : Frames size calls returns) (room : calls.count < frames_most)
    (z : SizedCalls calls)
    (p : Place size place) where
  abbrev more : Calls
  more = framed_of calls place wide returns

  old_place : (i : ℕ) → i < calls.count → get_or more.places i 0 ≡ get_or calls.places i 0
  old_place i l = get_or-set_other calls.places calls.count i place 0 (λ e. omega arith)

  old_base : (i : ℕ) → i < calls.count → get_or more.bases i 0 ≡ get_or calls.bases i 0
  old_base i l = get_or-set_other calls.bases calls.count i returns 0 (λ e. omega arith)

  new_base : get_or more.bases calls.count 0 ≡ returns
  new_base = get_or-set_same calls.bases calls.count returns 0 (omega (arith, z.bases))

  new_place : get_or more.places calls.count 0 ≡ place
  new_place = get_or-set_same calls.places calls.count place 0 (omega (arith, z.places))

  old_next : (i : ℕ) → i < calls.count → next_base more returns i ≡ next_base calls returns i
  old_next i l = by (ltb (i + 1) calls.count) refl
    where
      by : (b : Bool) → ltb (i + 1) calls.count ≡ b → next_base more returns i ≡ next_base calls returns i
      by true e =
          let m = ltb-true (i + 1) calls.count e in
          next_inner more returns i (omega arith) ∙ old_base (i + 1) m ∙ sym (next_inner calls returns i m)
      by false e =
          let m = ltb-false (i + 1) calls.count e in
          let j : i + 1 ≡ calls.count = omega arith in
          next_inner more returns i (omega arith) ∙ rw j new_base ∙ sym (next_last calls returns i m)

  pub frames_pushed : Frames size more returns
  frames_pushed = record { count = omega arith; each = λ i l. by i l (eqb i calls.count) refl }
    where
      by : (i : ℕ) → i < calls.count + 1 → (b : Bool) → eqb i calls.count ≡ b → Frame size more returns i
      by i l true e =
          let q = eqb-true i calls.count e in
          let n = next_last more returns i (omega arith) in
          record { place = rw (q, new_place) p; base = rw (n, q, new_base) (omega arith) }
      by i l false e =
          let q = eqb-false i calls.count e in
          let m : i < calls.count = omega arith in
          let r = f.each i m in
          record { place = rw (old_place i m) r.place; base = rw (old_base i m, old_next i m) r.base }

  pub calls_pushed : SizedCalls more
  calls_pushed =
      record {
        places = length-set calls.places calls.count place ∙ z.places;
        wides = length-set calls.wides calls.count wide ∙ z.wides;
        bases = length-set calls.bases calls.count returns ∙ z.bases;
      }

-- one frame less
pub frames_popped : (size : ℕ) (calls : Calls) (returns : ℕ) → Frames size calls returns → Frames size (unframed_of calls) returns
frames_popped size calls returns f = record { count = omega (arith, f.count); each = each }
  where
    by : (i : ℕ) → i < calls.count - 1 → (b : Bool) → ltb (i + 1) (calls.count - 1) ≡ b
        → get_or calls.bases i 0 ≤ next_base (unframed_of calls) returns i
    by i l true e =
        let m = ltb-true (i + 1) (calls.count - 1) e in
        let p = next_inner calls returns i (omega arith) in
        let q = next_inner (unframed_of calls) returns i m in
        let r = f.each i (omega arith) in
        omega (arith, r.base)
    by i l false e =
        let m = ltb-false (i + 1) (calls.count - 1) e in
        let p = next_inner calls returns i (omega arith) in
        let q = next_last (unframed_of calls) returns i m in
        let r = f.each i (omega arith) in
        let g = last_base size calls returns f (omega arith) in
        let j : calls.count - 1 ≡ i + 1 = omega arith in
        let h = rw j at g in
        omega (arith, r.base)

    each : (i : ℕ) → i < calls.count - 1 → Frame size (unframed_of calls) returns i
    each i l = record { place = (f.each i (omega arith)).place; base = by i l (ltb (i + 1) (calls.count - 1)) refl }

-- ---- program numbers
module _ (size : ℕ) (ns : Numbers) (n kind v : ℕ) (wide : Bool) (f : Entries size ns) (room : ns.count < numbers_most) (z : SizedNumbers ns)
    (p : T (is_program n)) (b : kind ≡ colon → Place size v) where
  abbrev defined : Numbers
  defined = defined_of ns n kind v wide

  pub entries_defined : Entries size defined
  entries_defined = record { count = omega arith; each = λ i l. by i l (eqb i ns.count) refl }
    where
      by : (i : ℕ) → i < ns.count + 1 → (q : Bool) → eqb i ns.count ≡ q → Entry size defined i
      by i l true e =
          let q = eqb-true i ns.count e in
          let c = get_or-set_same ns.programs ns.count n 0 (omega (arith, z.programs)) in
          let d = get_or-set_same ns.kinds ns.count kind 0 (omega (arith, z.kinds)) in
          let g = get_or-set_same ns.values ns.count v 0 (omega (arith, z.values)) in
          record {
            name = rw (q, c) p;
            body = λ t. rw (q, g) (b (let u = rw (q, d) at t in eqb→eq kind colon u));
          }
      by i l false e =
          let q = eqb-false i ns.count e in
          let r = f.each i (omega arith) in
          record {
            name = rw (get_or-set_other ns.programs ns.count i n 0 q) r.name;
            body = λ t. rw (get_or-set_other ns.values ns.count i v 0 q)
                (r.body (rw (get_or-set_other ns.kinds ns.count i kind 0 q) at t));
          }

  pub numbers_defined : SizedNumbers defined
  numbers_defined =
      record {
        programs = length-set ns.programs ns.count n ∙ z.programs;
        kinds = length-set ns.kinds ns.count kind ∙ z.kinds;
        values = length-set ns.values ns.count v ∙ z.values;
        wides = length-set ns.wides ns.count wide ∙ z.wides;
      }

pub entries_assigned : (size : ℕ) (ns : Numbers) (k v : ℕ) → Entries size ns → T (not (is_body ns k)) → Entries size (assigned_of ns k v)
entries_assigned size ns k v f h = record { count = f.count; each = λ i l. by i l (eqb i k) refl }
  where
    by : (i : ℕ) → i < ns.count → (q : Bool) → eqb i k ≡ q → Entry size (assigned_of ns k v) i
    by i l true e =
        let q = eqb-true i k e in
        record { name = (f.each i l).name; body = λ t. absurd (T_not (is_body ns k) h (rw q at t)) }
    by i l false e =
        let q = eqb-false i k e in
        record { name = (f.each i l).name; body = λ t. rw (get_or-set_other ns.values k i v 0 q) ((f.each i l).body t) }

pub numbers_assigned : (ns : Numbers) (k v : ℕ) → SizedNumbers ns → SizedNumbers (assigned_of ns k v)
numbers_assigned ns k v z =
    record { programs = z.programs; kinds = z.kinds; values = length-set ns.values k v ∙ z.values; wides = z.wides }

-- ---- a number that is defined
kinds_at : (ns : Numbers) (k n i : ℕ) → i < k → get_or (kinds_from ns k n) i 0 ≡ kind_held ns (n + i)
unfolding kinds_from
kinds_at ns zero n i l = absurd (omega arith)
kinds_at ns (suc k) n zero l = ap (kind_held ns) (omega arith)
kinds_at ns (suc k) n (suc i) l = kinds_at ns k (n + 1) i (omega arith) ∙ ap (kind_held ns) (omega arith)

-- the kind that reading goes by is the one that is held
kind_told : (ns : Numbers) (n : ℕ) → T (is_program n) → get_or (kinds_of ns) (n - 0x800) 0 ≡ kind_held ns n
kind_told ns n t =
    let (a, b) = both_hold (leb 0x800 n) (leb n 0xFFF) t in
    let l : n - 0x800 < programs_most = omega (arith, tests) in
    let e : 0x800 + (n - 0x800) ≡ n = omega (arith, tests) in
    kinds_at ns programs_most first_program (n - 0x800) l ∙ ap (kind_held ns) e

kind_is : (ns : Numbers) (n : ℕ) → (kind_of (kinds_of ns) n ≡ 0 → ⊥) → kind_of (kinds_of ns) n ≡ kind_held ns n
kind_is ns n h = by (is_program n) refl
  where
    by : (b : Bool) → is_program n ≡ b → kind_of (kinds_of ns) n ≡ kind_held ns n
    by true e = rw e (kind_told ns n (holds (is_program n) e))
    by false e = absurd (h (rw e))

pub held_kind : (ns : Numbers) (n : ℕ) → (kind_held ns n ≡ 0 → ⊥) → T (is_held ns n) × (kind_held ns n ≡ kind_at ns (seek_of ns n))
unfolding kind_held
held_kind ns n h = by (is_held ns n) refl
  where
    by : (b : Bool) → is_held ns n ≡ b → T (is_held ns n) × (kind_held ns n ≡ kind_at ns (seek_of ns n))
    by true e = (rw e tt, rw (e, kind_held))
    by false e = absurd (h (rw (e, kind_held)))

-- a value is no body
not_body : (ns : Numbers) (i : ℕ) → kind_at ns i ≡ value → T (not (is_body ns i))
not_body ns i h = by (is_body ns i) refl
  where
    by : (b : Bool) → is_body ns i ≡ b → T (not (is_body ns i))
    by true e = let g = rw e at h in absurd (omega arith)
    by false e = rw e tt

-- refusal 12 was not given
known_call : (kinds : List ℕ) (t : Token) → family_in t.code ≡ call → T (not (unknown_of kinds t)) → kind_of kinds t.number ≡ 0 → ⊥
unfolding unknown_of
known_call kinds t k h e = neqb→ne (kind_of kinds t.number) 0 (rw k at h) e

known_assign : (kinds : List ℕ) (t : Token) → family_in t.code ≡ assign → T (not (unknown_of kinds t))
    → kind_of kinds (number_in t.operand) ≡ value
unfolding unknown_of
known_assign kinds t k h = not_unequal (kind_of kinds (number_in t.operand)) value (rw k at h)

pub call_held : (ns : Numbers) (t : Token) → family_in t.code ≡ call → T (not (unknown_of (kinds_of ns) t)) → T (is_held ns t.number)
call_held ns t k h =
    let n = known_call (kinds_of ns) t k h in
    let e = kind_is ns t.number n in
    (held_kind ns t.number (λ z. n (e ∙ z))).0

pub assign_value : (ns : Numbers) (t : Token) → family_in t.code ≡ assign → T (not (unknown_of (kinds_of ns) t))
    → T (not (is_body ns (seek_of ns (number_in t.operand))))
assign_value ns t k h =
    let v = known_assign (kinds_of ns) t k h in
    let e = kind_is ns (number_in t.operand) (λ z. omega arith) in
    let g = (held_kind ns (number_in t.operand) (λ z. omega arith)).1 in
    not_body ns (seek_of ns (number_in t.operand)) (omega arith)
