-- A token that was seen at the place of a state and is not hot: what its family asks for, which token it is, and that there is no other
-- family. Assumes nothing.
use Rattle.std.proofs.Common.{◌≡◌, ℕ, ◌+◌, ◌-◌, ◌≤◌, Bool, true, false, not, ◌&&◌, ◌||◌, T, eqb, List, [], ◌∷◌, sym, refl, ap, ◌∙◌, subst}
use Rattle.std.proofs.Common.{Result, Ok, Err, arith, eqb→eq, ltb-true}
use Rattle.cells.specs.Laws.Tests.{find_none, Rest}
use Rattle.cells.specs.Laws.Facts.{is_true, both_hold, follows}
use Rattle.rom.specs.Bytes.{byte_of}
use Rattle.tokens.specs.Row.{everywhere, none, string}
use Rattle.tokens.specs.Table.{ends, lows, highs, doubles, table, is_program}
use Rattle.tokens.specs.Family.{text, leave, define, assign, property, titled}
use Rattle.tokens.specs.Code.{code_of, family_in, out_of_place_in, form_in}
use Rattle.tokens.specs.Decode.{is_kind, number_of, token_of}
use Rattle.tokens.specs.Place.{misplaced_of, read_of}
use Rattle.tokens.specs.Laws.Tokens.{find_is}
use Rattle.tokens.specs.Laws.Rows.{code_fact}
use Rattle.tokens.specs.Joints.Glance.{glance_of}
use Rattle.tokens.specs.Laws.Glance.{glance_refused, glance_misplaced, glance_coded, glance_read, read_plain, read_text, read_number}
use Rattle.tokens.specs.Laws.Glance.{read_head, read_named}
use Rattle.tokens.specs.Definition.{colon, kind_in, value, variable}
use Rattle.tokens.specs.declared.decoding.Operand.{Operand}
use Rattle.tokens.specs.declared.decoding.Operand.TheVariants.{Nothing, Text, Number, Definition}
use Rattle.tokens.specs.declared.decoding.Token.{Token}
use Rattle.tokens.specs.declared.glance.Glance.{Glance}
use Rattle.tokens.specs.Laws.Stands.{stands}
use Rattle.state.specs.State.{is_open}
use Rattle.state.specs.Scene.{Scene, Turn, scene, turn, refuse}
use Rattle.state.specs.Refusals.{refusal_of}
use Rattle.state.specs.Effects.{Effect, colons, values, variables, effects, act_of}
use Rattle.state.specs.Step.{done_of, read_turn}
use Rattle.state.specs.Step.{token_turn as turn_of}
use Rattle.state.specs.Joints.Hot.{hot_family, Cold}
use Rattle.state.specs.Laws.Keeps.Token.{leave_open}
use Rattle.state.specs.Laws.Untouched.{count_kept, records_kept}
use Rattle.state.specs.declared.state.State.{State}
use Rattle.state.specs.Answer.{Refused}
use Rattle.acts.specs.Joints.Acts.{cold_families, code_for, why_of}

-- ---- named-token and external-token are new-token but for a name, which is passed over
module _ (s : Scene) (n : ℕ) (o : Operand) (next : ℕ) where
  act_too : act_of s (token_of n 0x0E15_0000 o next) ≡ act_of s (token_of n 0x0E16_0000 o next)
  unfolding act_of effects
  act_too =
      find_is (λ (f : Effect). f s (token_of n 0x0E15_0000 o next) ≡ f s (token_of n 0x0E16_0000 o next))
      ((colon, colons) ∷ (value, values) ∷ (variable, variables) ∷ []) values (kind_in o) (refl, (refl, (refl, tt))) refl

  refused_too : refusal_of s (token_of n 0x0E15_0000 o next) ≡ refusal_of s (token_of n 0x0E16_0000 o next)
  unfolding refusal_of
  refused_too = refl

  abbrev done_by : ℕ → Turn → Turn
  done_by why t = elim (eqb why 0) [ true ↦ t | false ↦ refuse why s ]

  named_too : done_of s (token_of n 0x0E15_0000 o next) ≡ done_of s (token_of n 0x0E16_0000 o next)
  unfolding done_of
  named_too =
      ap (λ (t : Turn). done_by (refusal_of s (token_of n 0x0E15_0000 o next)) t) act_too
      ∙ ap (λ (k : ℕ). done_by k (act_of s (token_of n 0x0E16_0000 o next))) refused_too

-- ---- the families: each has one code but a definition, which has two; every code of the list is hot, of one of these, or out of place
-- everywhere
abbrev pub cold : ℕ → Bool
cold f = not (eqb (code_for f) 0)

abbrev one_code : ℕ → Bool
one_code c = not (cold (family_in c)) || (eqb (family_in c) define || eqb c (code_for (family_in c)))

one_code_lem : (n : ℕ) → T (one_code (code_of n))
unfolding table ends lows highs doubles
one_code_lem n = code_fact one_code tt tt tt n

abbrev two_codes : ℕ → Bool
two_codes c = not (eqb (family_in c) define) || (eqb c 0x0E15_0000 || eqb c 0x0E16_0000)

two_codes_lem : (n : ℕ) → T (two_codes (code_of n))
unfolding table ends lows highs doubles
two_codes_lem n = code_fact two_codes tt tt tt n

abbrev cold_fits : ℕ → Bool
cold_fits c = hot_family (family_in c) || (cold (family_in c) || (eqb (out_of_place_in c) everywhere || eqb c 0))

codes_fit : (n : ℕ) → T (cold_fits (code_of n))
unfolding table ends lows highs doubles
codes_fit n = code_fact cold_fits tt tt tt n

either : (a b : Bool) → T (a || b) → (T a → ⊥) → T b
either true b t n = absurd (n tt)
either false b t n = t

nowhere : (c : ℕ) (within : Bool) → misplaced_of c within ≡ false → T (eqb (out_of_place_in c) everywhere) → ⊥
unfolding misplaced_of
nowhere c within h e = let g = eqb→eq (out_of_place_in c) everywhere e in let z = rw g at h in let y : ◌≡◌ {A = ℕ} 0 1 = cc in subst T z tt

-- ---- nothing that may stand there
module _ (rom work store : List ℕ) (st : State) (g : Glance) (e : glance_of rom st.length st.wide st.place ≡ g) where
  why_turn : (r : Result Token ℕ) (why : ℕ) → r ≡ Err why → turn (Refused (why_of r)) st work store ≡ read_turn (scene rom work store st) r
  why_turn (Err why) k q = refl
  why_turn (Ok t) why q = absurd (let z : ◌≡◌ {A = ℕ} 0 1 = cc in omega arith)

  pub unread_turn : g.code ≡ 0
      → turn (Refused (why_of (read_of rom st.length st.wide (is_open st.calls) st.place))) st work store ≡ turn_of
      (scene rom work store st)
  unfolding turn_of
  unread_turn z =
      let r = glance_refused rom st.length st.wide (is_open st.calls) st.place g e z in
      why_turn (read_of rom st.length st.wide (is_open st.calls) st.place) r.0 r.1

  pub misplaced_turn : misplaced_of g.code (is_open st.calls) ≡ true
      → turn (Refused 18) st work store ≡ turn_of (scene rom work store st)
  unfolding turn_of
  misplaced_turn m =
      sym (ap (λ (r : Result Token ℕ). read_turn (scene rom work store st) r)
      (glance_misplaced rom st.length st.wide (is_open st.calls) st.place g e m))

-- ---- what was seen
module _ (rom work store : List ℕ) (st : State) (g : Glance) (e : glance_of rom st.length st.wide st.place ≡ g)
    (z : g.code ≡ 0 → ⊥)
    (m : misplaced_of g.code (is_open st.calls) ≡ false) where
  abbrev s : Scene
  s = scene rom work store st

  abbrev read : Result Token ℕ
  read = read_of rom st.length st.wide (is_open st.calls) st.place

  coded : g.code ≡ code_of (number_of rom st.place)
  coded = glance_coded rom st.length st.wide (is_open st.calls) st.place g e z

  by_read : (t : Token) (x : Turn) → read ≡ Ok t → x ≡ done_of s t → x ≡ turn_of s
  unfolding turn_of
  by_read t x f d = d ∙ ap (λ (r : Result Token ℕ). read_turn s r) (sym f)

  -- the code of its family, and the turn of a token without operand
  code_is : (f : ℕ) → family_in g.code ≡ f → T (cold f) → T (not (eqb f define)) → g.code ≡ code_for f
  code_is f k c n =
      let h : T (one_code g.code) = rw coded (one_code_lem (number_of rom st.place)) in
      let i = rw k at h in
      eqb→eq g.code (code_for f) (follows (not (eqb f define)) (eqb g.code (code_for f)) (by (cold f) (eqb f define) c i) n)
    where
      by : (a b : Bool) → T a → T (not a || (b || eqb g.code (code_for f))) → T (not (not b) || eqb g.code (code_for f))
      by true true t i = tt
      by true false t i = i
      by false b t i = absurd t

  pub plain_turn : (f : ℕ) → family_in g.code ≡ f → T (cold f) → T (not (eqb f define)) → form_in (code_for f) ≡ none → (x : Turn)
      → x ≡ done_of s (token_of g.number (code_for f) Nothing g.next) → x ≡ turn_of s
  plain_turn f k c n o x d =
      let q = code_is f k c n in
      by_read (token_of g.number g.code Nothing g.next) x
      (read_plain rom st.length st.wide (is_open st.calls) st.place g e z m (ap form_in q ∙ o))
      (d ∙ ap (λ (k : ℕ). done_of s (token_of g.number k Nothing g.next)) (sym q))

  -- b("), b(to) and definitions
  pub text_turn : family_in g.code ≡ text → (x : Turn)
      → x ≡ done_of s (token_of g.number (code_for text) (Text (st.place + 2) (g.next - (st.place + 2))) g.next) → x ≡ turn_of s
  text_turn k x d =
      let q = code_is text k tt tt in
      by_read (token_of g.number g.code (Text (st.place + 2) (g.next - (st.place + 2))) g.next) x
      (read_text rom st.length st.wide (is_open st.calls) st.place g e z m (ap form_in q))
      (d ∙ ap (λ (k : ℕ). done_of s (token_of g.number k (Text (st.place + 2) (g.next - (st.place + 2))) g.next)) (sym q))

  pub text_form : family_in g.code ≡ text → form_in g.code ≡ string
  text_form k = ap form_in (code_is text k tt tt)

  pub assign_turn : family_in g.code ≡ assign → (x : Turn)
      → x ≡ done_of s (token_of (byte_of rom st.place) (code_for assign) (Number g.number) g.next) → x ≡ turn_of s
  assign_turn k x d =
      let q = code_is assign k tt tt in
      by_read (token_of (byte_of rom st.place) g.code (Number g.number) g.next) x
      (read_number rom st.length st.wide (is_open st.calls) st.place g e z m (ap form_in q))
      (d ∙ ap (λ (k : ℕ). done_of s (token_of (byte_of rom st.place) k (Number g.number) g.next)) (sym q))

  abbrev definition : ℕ → Token
  definition k = token_of (byte_of rom st.place) k (Definition g.number g.kind) g.next

  define_is : family_in g.code ≡ define
      → (read ≡ Ok (definition g.code)) × T (is_program g.number && is_kind g.kind)
      × (done_of s (definition 0x0E15_0000) ≡ done_of s (definition g.code))
  define_is k =
      let h : T (two_codes g.code) = rw coded (two_codes_lem (number_of rom st.place)) in
      by (eqb g.code 0x0E15_0000) refl (rw k at h)
    where
      by : (b : Bool) → eqb g.code 0x0E15_0000 ≡ b → T (eqb g.code 0x0E15_0000 || eqb g.code 0x0E16_0000)
          → (read ≡ Ok (definition g.code)) × T (is_program g.number && is_kind g.kind)
          × (done_of s (definition 0x0E15_0000) ≡ done_of s (definition g.code))
      by true a h =
          let q : g.code ≡ 0x0E15_0000 = eqb→eq g.code 0x0E15_0000 (subst T (sym a) tt) in
          let r = read_head rom st.length st.wide (is_open st.calls) st.place g e z m (ap form_in q) in
          (r.0, r.1, ap (λ (k : ℕ). done_of s (definition k)) (sym q))
      by false a h =
          let q : g.code ≡ 0x0E16_0000 = eqb→eq g.code 0x0E16_0000
          (either (eqb g.code 0x0E15_0000) (eqb g.code 0x0E16_0000) h (λ t. subst T a t)) in
          let r = read_named rom st.length st.wide (is_open st.calls) st.place g e z m (ap form_in q) in (
            r.0,
            r.1,
            named_too s (byte_of rom st.place) (Definition g.number g.kind) g.next
                ∙ ap (λ (k : ℕ). done_of s (definition k)) (sym q),
          )

  pub define_turn : family_in g.code ≡ define → (x : Turn) → x ≡ done_of s (definition (code_for define)) → x ≡ turn_of s
  define_turn k x d = let r = define_is k in by_read (definition g.code) x r.0 (d ∙ r.2)

  pub define_fits : family_in g.code ≡ define → (is_kind g.kind ≡ true) × (is_program g.number ≡ true)
  define_fits k =
      let b = both_hold (is_program g.number) (is_kind g.kind) (define_is k).1 in
      (is_true (is_kind g.kind) b.1, is_true (is_program g.number) b.0)

  -- a body is left only where a call is open
  pub frames_open : family_in g.code ≡ leave → 1 ≤ st.calls.count
  frames_open k =
      let q = code_is leave k tt tt in
      let r = read_plain rom st.length st.wide (is_open st.calls) st.place g e z m (ap form_in q) in
      let t = stands rom st.length st.wide (is_open st.calls) st.place (token_of g.number g.code Nothing g.next) r in
      ltb-true 0 st.calls.count (leave_open rom st.length st.wide (is_open st.calls) st.place
      (token_of g.number g.code Nothing g.next) t k)

  -- no token has another family
  pub none_other : Cold rom st.place → Rest (Unit {0}) cold_families (family_in g.code) → ⊥
  none_other c n =
      let h : T (cold_fits g.code) = rw coded (codes_fit (number_of rom st.place)) in
      let i : hot_family (family_in g.code) ≡ false = rw coded c in
      let f : code_for (family_in g.code) ≡ 0 = find_none (Unit {0}) cold_families 0 (family_in g.code) n in
      z (eqb→eq g.code 0
      (either (eqb (out_of_place_in g.code) everywhere) (eqb g.code 0)
      (either (cold (family_in g.code)) (eqb (out_of_place_in g.code) everywhere || eqb g.code 0)
      (either (hot_family (family_in g.code)) (cold (family_in g.code) || (eqb (out_of_place_in g.code) everywhere || eqb g.code 0)) h
      (λ t. subst T i t))
      (λ t. subst (λ (k : ℕ). T (not (eqb k 0))) f t))
      (nowhere g.code (is_open st.calls) m)))

  -- ---- what it leaves alone
  turn_is : (Q : Turn → Type 0) → ((t : Token) → family_in t.code ≡ family_in g.code → Q (done_of s t)) → Q (turn_of s)
  turn_is Q f =
      let r = glance_read rom st.length st.wide (is_open st.calls) st.place g e z m in
      subst Q (by_read r.0 (done_of s r.0) r.1 refl) (f r.0 (ap (λ (x : Glance). family_in x.code) r.2))

  pub count_still : (f : ℕ) → family_in g.code ≡ f → T (not (eqb f define)) → (x : Turn) → x ≡ turn_of s
      → x.state.numbers.count ≡ st.numbers.count
  count_still f k n x d =
      ap (λ (r : Turn). r.state.numbers.count) d
      ∙ turn_is (λ (r : Turn). r.state.numbers.count ≡ st.numbers.count)
      (λ t q. count_kept s t (λ p. subst (λ (j : ℕ). T (not (eqb j define))) (sym k ∙ sym q ∙ p) n))

  pub records_still : (f : ℕ) → family_in g.code ≡ f → T (not (eqb f property)) → T (not (eqb f titled)) → (x : Turn) → x ≡ turn_of s
      → x.state.tree.held ≡ st.tree.held
  records_still f k n o x d =
      ap (λ (r : Turn). r.state.tree.held) d
      ∙ turn_is (λ (r : Turn). r.state.tree.held ≡ st.tree.held)
      (λ t q. records_kept s t (λ p. subst (λ (j : ℕ). T (not (eqb j property))) (sym k ∙ sym q ∙ p) n)
      (λ p. subst (λ (j : ℕ). T (not (eqb j titled))) (sym k ∙ sym q ∙ p) o))
