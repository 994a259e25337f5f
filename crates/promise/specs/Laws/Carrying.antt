-- The numbers that a state holds: what is found in them, and that they stay those of the definitions carried out. Assumes nothing.
use Rattle.std.specs.Prelude.{ℕ, zero, suc, ◌+◌, ◌≤◌, ◌<◌, ◌≡◌, Bool, true, false, List, ◌≢◌, T, eqb, get_or}
use Rattle.std.proofs.Common.{arith, sym, ◌∙◌, ap, subst, eqb→eq, ltb→lt, get_or-set_same, get_or-set_other, lt-ltb}
use Rattle.std.proofs.Math.Decide.{ℕ_discrete}
use Rattle.cells.specs.Laws.Facts.{is_true, is_false, never_true, both_hold}
use Rattle.cells.specs.Laws.Tests.{neqb→ne, when_is, pick_is}
use Rattle.rom.specs.Sizes.{first_place, numbers_most}
use Rattle.rom.specs.Header.{length_of}
use Rattle.tokens.specs.Family.{define}
use Rattle.tokens.specs.Table.{is_program}
use Rattle.tokens.specs.Body.{kind_of, unknown_of, body_of}
use Rattle.tokens.specs.Laws.Tokens.{next_ahead, body_ends, body_goes}
use Rattle.tokens.specs.Definition.{colon, value, constant, new_number, kind_in}
use Rattle.tokens.specs.declared.decoding.Token.{Token}
use Rattle.tokens.specs.Body.{Ends}
use Rattle.state.specs.Numbers.{seek_from, seek_of, is_held, kind_of_byte, kind_at, kind_held, kinds_of, defined_of, assigned_of}
use Rattle.state.specs.Laws.Seeking.{program_bounds, kind_got}
use Rattle.state.specs.Laws.Sized.{SizedNumbers}
use Rattle.state.specs.declared.state.Numbers.{Numbers}
use Rattle.screen.specs.Effect.{is_a, is_colon, names}
use Rattle.screen.specs.Reach.{Named, known, reads, Holds}
use Rattle.screen.specs.Laws.Rules.Reach.{ExtendsBy, extends_by, end_is}
use Rattle.screen.specs.Rules.{Assignment}
use Rattle.screen.specs.Laws.Rules.Tokens.{heads}
use Rattle.screen.specs.Laws.Rules.Ways.{call_known, assign_known, unnamed_known}
use Rattle.promise.specs.Laws.Standing.{Defined, Held, Carried}
use Rattle.screen.proofs.Rules.InForce.{reach_first}
use Rattle.promise.specs.Laws.Before.{one_extent, MovesHome, defined_token, defined_end, defined_ahead, wholly_before}

-- ---- seeking
-- a name that is among so many is found among them
seek_finds : (list : List ℕ) (n k i j : ℕ) → i ≤ j → j < i + k → get_or list j 0 ≡ n → seek_from list n k i < i + k
unfolding seek_from
seek_finds list n zero i j l h e = absurd (omega arith)
seek_finds list n (suc k) i j l h e =
    when_is (λ s. s < i + suc k) (eqb (get_or list i 0) n) i (seek_from list n k (i + 1)) (λ t. omega arith)
    (λ t.
    let m : i ≢ j = λ q. neqb→ne (get_or list i 0) n t (rw q e) in
    let r = seek_finds list n k (i + 1) j (omega arith) (omega arith) e in
    omega arith)

-- what is found has the name
seek_name : (list : List ℕ) (n k i : ℕ) → seek_from list n k i < i + k → get_or list (seek_from list n k i) 0 ≡ n
unfolding seek_from
seek_name list n zero i h = absurd (omega arith)
seek_name list n (suc k) i h =
    when_is (λ s. s < i + suc k → get_or list s 0 ≡ n) (eqb (get_or list i 0) n) i (seek_from list n k (i + 1))
    (λ t l. eqb→eq (get_or list i 0) n t)
    (λ t l. seek_name list n k (i + 1) (omega arith)) h

-- a number that is held has the name where it is found
pub held_name : (ns : Numbers) (n : ℕ) → seek_of ns n < ns.count → get_or ns.programs (seek_of ns n) 0 ≡ n
held_name ns n h = seek_name ns.programs n ns.count 0 (omega arith)

-- ---- kinds
-- the kind of a number that is held
held_kind : (ns : Numbers) (n : ℕ) → seek_of ns n < ns.count → kind_held ns n ≡ kind_at ns (seek_of ns n)
unfolding kind_held
held_kind ns n h = rw (lt-ltb (seek_of ns n) ns.count h)

-- it is the one that reading goes by
kind_read : (ns : Numbers) (n : ℕ) → T (is_program n) → seek_of ns n < ns.count → kind_of (kinds_of ns) n ≡ kind_at ns (seek_of ns n)
kind_read ns n p h =
    let e = is_true (is_program n) p in
    let b = program_bounds n e in
    rw e (kind_got ns n b.0 b.1 ∙ held_kind ns n h)

-- a kind is never 0
byte_some : (k : ℕ) → kind_of_byte k ≢ 0
byte_some k =
    pick_is (λ b. b ≢ 0) (eqb k colon) colon _ (λ t q. omega arith)
    (λ t. pick_is (λ b. b ≢ 0) (eqb k value) value constant (λ u q. omega arith) (λ u q. omega arith))

-- a b(:) is of the kind colon
colon_kind : (t : Token) → T (is_colon t) → kind_in t.operand ≡ colon
colon_kind t h = eqb→eq (kind_in t.operand) colon (both_hold (is_a define t) (eqb (kind_in t.operand) colon) h).1

-- the token that a number is named by is a defining one
defines_of : {t u : Token} → Named t u → T (is_a define u)
defines_of (Named.calls i m) = m.is
defines_of (Named.assigns i m v) = m.is

-- ---- reading a body
-- a body is read to its C2 where none of its tokens is unknown
reads_on : {rom : List ℕ} {w : Bool} {p c : ℕ} (kinds : List ℕ) → Holds rom (reads w p c)
    → ((q : ℕ) (t : Token) → q ≤ c → Holds rom (known q t) → unknown_of kinds t ≡ false) → body_of rom (length_of rom) w kinds p ≡ Ends c
reads_on {rom} {w} {p} kinds (Holds.last {t = t} e n) f = body_ends rom (length_of rom) w kinds p t e n
reads_on {rom} {w} {p} kinds (Holds.more {t = t} e n k r) f =
    let l = next_ahead rom (length_of rom) w true p t e in
    let y = end_is r in
    body_goes rom (length_of rom) w kinds p t e n (f p t (omega (arith, y.low)) k) ∙ reads_on kinds r f

module _ {rom : List ℕ} (a : Assignment rom) where
  -- ---- what is found
  -- the number of a definition that was carried out is found, and it is that definition's
  pub found : {home d e : ℕ} {ns : Numbers} → Carried rom home ns → (f : Defined rom d e) → e ≤ home
      → (seek_of ns (new_number f.token.operand) < ns.count) × Held rom ns (seek_of ns (new_number f.token.operand)) d e
  found {home} {d} {e} {ns} c f l =
      let n = new_number f.token.operand in
      let (i, h, q) = c.full d e f l in
      let r = seek_finds ns.programs n ns.count 0 i (omega arith) (omega arith) q in
      let s : seek_of ns n < ns.count = omega arith in
      let (d', e', en, l') = c.real (seek_of ns n) s in
      let o : d' ≡ d = a.once en.defined.met f.met en.defined.defines f.defines (sym en.name ∙ held_name ns n s) in
      let y = subst (λ x. Held rom ns (seek_of ns n) x e') o en in
      (s, subst (λ x. Held rom ns (seek_of ns n) d x) (defined_end a y.defined f) y)

  -- reading goes by the kind that the definition says
  found_kind : {home d e : ℕ} {ns : Numbers} → Carried rom home ns → (f : Defined rom d e) → e ≤ home
      → kind_of (kinds_of ns) (new_number f.token.operand) ≡ kind_of_byte (kind_in f.token.operand)
  found_kind {home} {d} {e} {ns} c f l =
      let (s, y) = found c f l in
      let h = heads rom (length_of rom) f.setting.wide false d f.token f.met.is f.defines in
      let same = defined_token y.defined f.met in
      let k = y.kind ∙ ap (λ (t : Token). kind_in t.operand) same in
      kind_read ns (new_number f.token.operand) h.0 s ∙ ap kind_of_byte k

  -- a token that names the number of a definition that was carried out gives no 12
  named_known : {home d e : ℕ} {ns : Numbers} {t : Token} → Carried rom home ns → (f : Defined rom d e) → e ≤ home → Named t f.token
      → unknown_of (kinds_of ns) t ≡ false
  named_known {home} {d} {e} {ns} {t} c f l (Named.calls i m) =
      let k = rw m.number at (found_kind c f l) in
      call_known (kinds_of ns) t i (λ z. byte_some (kind_in f.token.operand) (sym k ∙ z))
  named_known {home} {d} {e} {ns} {t} c f l (Named.assigns i m v) =
      let k = rw (m.number, v) at (found_kind c f l) in
      assign_known (kinds_of ns) t i k

  -- 12 is not given where each definition that lies wholly before the token was carried out
  known_at : {home p : ℕ} {t : Token} {ns : Numbers} → Carried rom home ns → Holds rom (known p t)
      → ((d e : ℕ) → Defined rom d e → e ≤ p → e ≤ home)
      → unknown_of (kinds_of ns) t ≡ false
  known_at {t} {ns} c (Holds.unnamed n) b = unnamed_known (kinds_of ns) t (is_false (names t) n)
  known_at c (Holds.named {s = s} {d = d} {e = e} {u = u} reach is m ext l) b =
      let f : Defined rom d e = record {
        setting = s;
        token = u;
        met = record { reach = reach; is = is };
        defines = defines_of m;
        ends =
            ext;
      } in
      named_known c f (b d e f l) m

  -- 12 is not given: a token that names no number but one that is known
  pub known_numbers : {home p : ℕ} {t : Token} {ns : Numbers} → Carried rom home ns → Holds rom (known p t) → p ≤ home
      → unknown_of (kinds_of ns) t ≡ false
  known_numbers c k l = known_at c k (λ d e f h. omega arith)

  -- the number of a definition at the run's place is not held: 13 is not given
  pub not_held : {d e : ℕ} {ns : Numbers} → Carried rom d ns → (f : Defined rom d e) → is_held ns (new_number f.token.operand) ≡ false
  not_held {d} {e} {ns} c f =
      let n = new_number f.token.operand in
      never_true (is_held ns n)
      (λ t.
      let s = ltb→lt (seek_of ns n) ns.count t in
      let (d', e', en, l) = c.real (seek_of ns n) s in
      let o : d' ≡ d = a.once en.defined.met f.met en.defined.defines f.defines (sym en.name ∙ held_name ns n s) in
      let h = defined_ahead en.defined in
      absurd (omega arith))

  -- a body at the run's place is read to its C2: 10, 18, 11 and 12 are not given
  pub body_read : {d e c : ℕ} {ns : Numbers} → Carried rom d ns → (f : Defined rom d e) → T (is_colon f.token)
      → Holds rom (reads f.setting.wide f.token.next c)
      → body_of rom (length_of rom) f.setting.wide (kinds_of ns) f.token.next ≡ Ends c
  body_read {d} {e} {c} {ns} k f h r =
      let z = one_extent (extends_by f.ends) (ExtendsBy.long h r) in
      reads_on (kinds_of ns) r (λ q t l m. known_at k m (λ x b g u. wholly_before a f g u (omega arith)))

  -- ---- what stays
  -- a token that defines nothing
  pub carried_on : {p q : ℕ} {ns : Numbers} → MovesHome rom p q → ((e : ℕ) → Defined rom p e → ⊥) → Carried rom p ns → Carried rom q ns
  carried_on m none c =
      record {
        real = λ i h. let (d, e, en, l) = c.real i h in (d, e, en, m.keeps d e en.defined l);
        full = λ d e f l. c.full d e f (m.adds d e f l (λ q. none e (subst (λ x. Defined rom x e) q f)));
      }

  -- one number more
  module _ {d e : ℕ} {ns : Numbers} (v : ℕ) (c : Carried rom d ns) (z : SizedNumbers ns) (room : ns.count < numbers_most)
      (f : Defined rom d e)
      (b : T (is_colon f.token) → v ≡ f.token.next) where
    -- what is then held
    abbrev then : Numbers
    then = defined_of ns (new_number f.token.operand) (kind_in f.token.operand) v f.setting.wide

    -- its name
    new_name : get_or then.programs ns.count 0 ≡ new_number f.token.operand
    new_name = get_or-set_same ns.programs ns.count (new_number f.token.operand) 0 (omega (arith, z.programs))

    -- the new one
    new_entry : Held rom then ns.count d e
    new_entry =
        record {
          defined = f;
          name = new_name;
          kind = get_or-set_same ns.kinds ns.count (kind_in f.token.operand) 0 (omega (arith, z.kinds));
          body = λ t. (
            get_or-set_same ns.values ns.count v 0 (omega (arith, z.values)) ∙ b t,
            get_or-set_same ns.wides ns.count f.setting.wide false (omega (arith, z.wides)),
          );
        }

    -- the others are as they were
    old_entry : {i x y : ℕ} → i ≢ ns.count → Held rom ns i x y → Held rom then i x y
    old_entry {i} n en =
        record {
          defined = en.defined;
          name = get_or-set_other ns.programs ns.count i (new_number f.token.operand) 0 n ∙ en.name;
          kind = get_or-set_other ns.kinds ns.count i (kind_in f.token.operand) 0 n ∙ en.kind;
          body = λ t.
              let g = en.body t in (
                get_or-set_other ns.values ns.count i v 0 n ∙ g.0,
                get_or-set_other ns.wides ns.count i f.setting.wide false n ∙ g.1,
              );
        }

    -- each of them is a definition's that lies wholly before the place behind the new one
    real_new : (i : ℕ) → i < ns.count + 1 → (x : ℕ) × (y : ℕ) × Held rom then i x y × (y ≤ e)
    real_new i h =
        elim (ℕ_discrete i ns.count) [
          | yes q ↦ (d, e, rw q new_entry, omega arith)
          | no q ↦
              let (x, y, en, l) = c.real i (omega arith) in
              let g = defined_ahead f in
              (x, y, old_entry q en, omega arith)
        ]

    -- and each such definition's is among them
    full_new : MovesHome rom d e → (x y : ℕ) (g : Defined rom x y) → y ≤ e → (i : ℕ) × (i < ns.count + 1)
        × (get_or then.programs i 0 ≡ new_number g.token.operand)
    full_new m x y g l =
        elim (ℕ_discrete x d) [
          | yes q ↦
              let same = defined_token (subst (λ p. Defined rom p y) q g) f.met in
              (ns.count, omega arith, new_name ∙ ap (λ (t : Token). new_number t.operand) (sym same))
          | no q ↦
              let (i, h, r) = c.full x y g (m.adds x y g l q) in
              (i, omega arith, get_or-set_other ns.programs ns.count i (new_number f.token.operand) 0 (λ s. omega arith) ∙ r)
        ]

  -- a definition
  pub carried_new : {d e : ℕ} {ns : Numbers} (v : ℕ) → MovesHome rom d e → Carried rom d ns → SizedNumbers ns → ns.count < numbers_most
      → (f : Defined rom d e)
      → (T (is_colon f.token) → v ≡ f.token.next)
      → Carried rom e (defined_of ns (new_number f.token.operand) (kind_in f.token.operand) v f.setting.wide)
  carried_new v m c z room f b = record { real = real_new v c z room f b; full = full_new v c z room f b m }

  -- another value of a number that is no body's
  pub carried_assigned : {home : ℕ} {ns : Numbers} (i v : ℕ) → (get_or ns.kinds i 0 ≡ colon → ⊥) → Carried rom home ns
      → Carried rom home (assigned_of ns i v)
  carried_assigned {home} {ns} i v n c =
      record {
        real = λ j h. let (d, e, en, l) = c.real j h in (d, e, entry j d e en, l);
        full = c.full;
      }
    where
      -- an entry with another value, which no body has
      entry : (j d e : ℕ) → Held rom ns j d e → Held rom (assigned_of ns i v) j d e
      entry j d e en =
          record {
            defined = en.defined;
            name = en.name;
            kind = en.kind;
            body = λ t.
                let k = en.kind ∙ colon_kind en.defined.token t in
                let m : j ≢ i = λ q. n (rw (sym q) k) in
                let g = en.body t in
                (get_or-set_other ns.values i j v 0 m ∙ g.0, g.1);
          }

  -- at place 8 there is none
  pub carried_none : (ns : Numbers) → ns.count ≡ 0 → Carried rom first_place ns
  carried_none ns z =
      record {
        real = λ i h. absurd (omega arith);
        full = λ d e f l. let h = defined_ahead f in let g = reach_first f.met.reach in absurd (omega arith);
      }
