-- A token that is carried out and does not finish leaves a state that stands as the assignment says: what all tokens have in common, and
-- the two that change the call chain. Assumes nothing.
use Rattle.std.specs.Prelude.{ℕ, suc, ◌+◌, ◌-◌, ◌≤◌, ◌<◌, ◌≡◌, refl, Bool, true, false, not, ◌||◌, List, [], ◌∷◌, T, get_or, Ok}
use Rattle.std.proofs.Common.{arith, sym, ap, subst, ◌∙◌, T_not, eqb→eq, get_or-set_same, get_or-set_other}
use Rattle.cells.specs.Laws.Facts.{holds, fails, is_true, neither, or_first, or_second}
use Rattle.rom.specs.Header.{length_of}
use Rattle.tokens.specs.Family.{finish, always, choice, leave, define, assign, call}
use Rattle.tokens.specs.Code.{family_in, gives_in, return_takes_in, return_gives_in}
use Rattle.tokens.specs.Definition.{takes_here}
use Rattle.tokens.specs.declared.decoding.Token.{Token}
use Rattle.state.specs.Laws.Sized.{SizedCalls}
use Rattle.state.specs.Effects.{framed_of, unframed_of, entered_of, left_body_of}
use Rattle.state.specs.Numbers.{seek_of}
use Rattle.state.specs.declared.state.State.{State}
use Rattle.state.specs.declared.state.Calls.{Calls}
use Rattle.state.specs.declared.state.Numbers.{Numbers}
use Rattle.screen.specs.Effect.{is_a, fixes, is_colon, is_branch, leads_of, effect_of}
use Rattle.screen.specs.Reach.{In, here, Setting, after, children_after, nodes_after, numbers_after, token_at, leads, Holds, Reach, Met}
use Rattle.screen.specs.Rules.{Assignment}
use Rattle.screen.specs.Laws.Rules.Tokens.{after_same, stops_quiet, fixes_no_name, leave_inside}
use Rattle.screen.specs.Laws.Rules.Ways.{Ways, ways_of, effect_call, effect_own}
use Rattle.promise.specs.Laws.Standing.{Defined, Carried, AtHome, Calling, CallChain, outside, within, Below, Standing}
use Rattle.promise.specs.Laws.Before.{defined_token, leads_moves}
use Rattle.promise.specs.Laws.Carrying.{carried_on}
use Rattle.promise.specs.Laws.Room.{body_of, Outer, fixed_outer}
use Rattle.promise.proofs.Refusing.{called, called_colon, is_body_here, behind, frame_room}
use Rattle.promise.specs.Trail.{OpenCall, open_call, without}

-- ---- where a token leads that neither ends nor branches nor is a b(:)
pub falls_on : (t : Token) → T (not (is_a finish t || is_a leave t)) → T (not (is_branch t)) → T (not (is_colon t))
    → leads_of t ≡ t.next ∷ []
falls_on t e b c = by (ways_of t)
  where
    by : Ways t → leads_of t ≡ t.next ∷ []
    by (Ways.ending h l) = absurd (T_not (is_a finish t || is_a leave t) e h)
    by (Ways.jumping h l) = absurd (T_not (is_branch t) b (or_first (is_a always t) (is_a choice t) h))
    by (Ways.choosing h l) = absurd (T_not (is_branch t) b (or_second (is_a always t) (is_a choice t) h))
    by (Ways.skipping h l) = absurd (T_not (is_colon t) c h)
    by (Ways.fixing h k l) = l
    by (Ways.falling h k l) = l

-- a call leads behind itself
call_leads : (t : Token) → T (is_a call t) → leads_of t ≡ t.next ∷ []
call_leads t c = let e = eqb→eq (family_in t.code) call c in falls_on t (rw e tt) (rw e tt) (rw e tt)

-- ---- open calls with the same height and first byte are one
same_call : {h i f e : ℕ} → h ≡ i → f ≡ e → open_call h f ≡ open_call i e
same_call p q = rw (p, q)

-- ---- the call chain is the frames below its count
-- the first k frames are the same
record SameFrames (k : ℕ) (calls then : Calls) : Type 0 where
  places : (i : ℕ) → i < k → get_or then.places i 0 ≡ get_or calls.places i 0
  wides : (i : ℕ) → i < k → get_or then.wides i false ≡ get_or calls.wides i false
  bases : (i : ℕ) → i < k → get_or then.bases i 0 ≡ get_or calls.bases i 0

calls_kept : {rom : List ℕ} {a : Assignment rom} {calls then : Calls} {home : ℕ} {outer : Setting} {es : List OpenCall} {k x floor base : ℕ}
    → CallChain a calls home outer es k x floor base → SameFrames k calls then → CallChain a then home outer es k x floor base
calls_kept outside e = outside
calls_kept {calls = calls} {then = then} (within {k = k} c g h p w b) e =
    let l : k < suc k = omega arith in
    let f : SameFrames k calls then =
    record { places = λ i l. e.places i (omega arith); wides = λ i l. e.wides i (omega arith); bases = λ i l. e.bases i (omega arith) }
    in
    within (calls_kept c f) g h (e.places k l ∙ p) (e.wides k l ∙ w) (e.bases k l ∙ b)

-- one frame more leaves those below it, and one less too
framed_same : (calls : Calls) (place : ℕ) (wide : Bool) (base : ℕ) → SameFrames calls.count calls (framed_of calls place wide base)
framed_same calls place wide base =
    record {
      places = λ i l. get_or-set_other calls.places calls.count i place 0 (λ q. omega arith);
      wides = λ i l. get_or-set_other calls.wides calls.count i wide false (λ q. omega arith);
      bases = λ i l. get_or-set_other calls.bases calls.count i base 0 (λ q. omega arith);
    }

unframed_same : (k : ℕ) (calls : Calls) → SameFrames k calls (unframed_of calls)
unframed_same k calls = record { places = λ i l. refl; wides = λ i l. refl; bases = λ i l. refl }

module _ {rom : List ℕ} (a : Assignment rom) where
  -- ---- home moves with the state outside bodies, and stays where a call is open
  pub record Homed (calls : Calls) (outer : Setting) (es : List OpenCall) (k x floor base q : ℕ) (s : Setting) (ns : Numbers) : Type 0 where
    pub home : ℕ
    pub chain : CallChain a calls home outer es k x floor base
    pub at : AtHome x q s home outer
    pub numbers : Carried rom home ns

  pub home_on : {calls : Calls} {home : ℕ} {es : List OpenCall} {k x floor base p q : ℕ} {outer s : Setting} {t : Token} {ns : Numbers}
      → CallChain a calls home outer es k x floor base
      → Met rom x s p t → T (not (fixes t)) → Holds rom (leads s.wide p t q) → AtHome x p s home outer → Carried rom home ns
      → Homed calls outer es k x floor base q s ns
  home_on {p = p} {q = q} {t = t} {ns = ns} outside m f l h n =
      record {
        home = q;
        chain = outside;
        at = (refl, h.1);
        numbers = carried_on a (leads_moves a m l) (λ e d. none d) (subst (λ v. Carried rom v ns) (sym h.0) n);
      }
    where
      none : {e : ℕ} → Defined rom p e → ⊥
      none d =
          let i : T (is_a define t) = subst (λ v. T (is_a define v)) (defined_token d m) d.defines in
          T_not (fixes t) f (rw (is_true (is_a define t) i) tt)
  home_on (within c g y z w v) m f l h n = record { home = _; chain = within c g y z w v; at = tt; numbers = n }

  module _ (work store : List ℕ) (open_calls : List OpenCall) (st : State) (g : Standing a open_calls st) (t : Token)
      (is : token_at rom g.text g.setting.wide st.place ≡ Ok t) where
    abbrev met : Met rom g.text g.setting st.place t
    met = record { reach = g.reach; is = is }

    -- ---- a token that is not met exactly once, and leaves the call chain as it is
    -- what it leaves: at one of its successors, with the heights that its effect gives
    pub record Next (q : ℕ) (then : State) : Type 0 where
      pub place : then.place ≡ q
      pub size : then.length ≡ st.length
      pub wide : then.wide ≡ st.wide
      pub calls : then.calls ≡ st.calls
      pub height : then.stack.height ≡ st.stack.height - (effect_of a.sum t).takes + (effect_of a.sum t).gives
      pub back : then.back.height ≡ st.back.height - (effect_of a.sum t).return_takes + (effect_of a.sum t).return_gives
      pub numbers : Carried rom g.home then.numbers
      pub count : then.numbers.count ≡ st.numbers.count
      pub nodes : then.tree.nodes ≡ st.tree.nodes
      pub children : Below then.tree then.active g.outer.children
      pub first : then.first ≡ st.first

    pub go_on : {q : ℕ} {then : State} → T (not (fixes t)) → Holds rom (leads g.setting.wide st.place t q) → Next q then
        → Standing a open_calls then
    go_on {q} {then} f l n =
        let h = home_on g.chain met f l g.at n.numbers in
        let b = behind a work store open_calls st g t is l in
        let y = a.there met in
        let e = n.place in
        let height = b.height in
        let back = b.back in
        let tall = g.height in
        let deep = g.back in
        let up = n.height in
        let down = n.back in
        record {
          text = g.text;
          setting = g.setting;
          reach = subst (λ v. Reach rom g.text g.setting v) (sym e)
              (subst (λ v. Reach rom g.text v q) (after_same t g.setting f) (Holds.next g.reach is l));
          size = n.size ∙ g.size;
          home = h.home;
          outer = g.outer;
          floor = g.floor;
          base = g.base;
          chain = subst (λ v. CallChain a v h.home g.outer open_calls v.count g.text g.floor g.base) (sym n.calls)
              h.chain;
          at = subst (λ v. AtHome g.text v g.setting h.home g.outer) (sym e) h.at;
          height = subst (λ v. then.stack.height ≡ g.floor + a.height g.text v) (sym e) (omega (arith, y.0));
          back = subst (λ v. then.back.height ≡ g.base + a.back g.text v) (sym e) (omega (arith, y.1));
          wide = n.wide ∙ g.wide;
          numbers = h.numbers;
          count = n.count ∙ g.count;
          nodes = n.nodes ∙ g.nodes;
          children = n.children;
          first = n.first ∙ g.first;
        }

    -- ---- a token that is met exactly once
    -- what it leaves: behind it, with fewer cells where it takes some, in the setting that it leaves
    pub record Fixed (q : ℕ) (then : State) : Type 0 where
      pub place : then.place ≡ q
      pub size : then.length ≡ st.length
      pub wide : then.wide ≡ (after t g.outer).wide
      pub calls : then.calls ≡ st.calls
      pub height : then.stack.height ≡ st.stack.height - takes_here t
      pub back : then.back.height ≡ st.back.height
      pub numbers : Carried rom q then.numbers
      pub count : then.numbers.count ≡ numbers_after t st.numbers.count
      pub nodes : then.tree.nodes ≡ nodes_after t st.tree.nodes
      pub children : Below then.tree then.active (children_after t g.outer.children)
      pub first : then.first ≡ st.first

    pub fixed : T (fixes t) → Outer a open_calls st.calls.count g.text g.floor g.base st.place g.home g.setting
        g.outer t
    fixed f = fixed_outer a g.chain met g.at (rw (is_true (fixes t) f) tt)

    pub go_fixed : {q : ℕ} {then : State} (f : T (fixes t)) → Holds rom (leads g.outer.wide g.home t q) → Fixed q then
        → Standing a open_calls then
    go_fixed {q} {then} f l n =
        let o = fixed f in
        let w = a.flow o.met l in
        let own = effect_own a.sum t (neither (is_a call t) (is_a assign t) (fixes_no_name t f)).0 in
        let z =
        stops_quiet rom (length_of rom) g.outer.wide false g.home t o.met.is
        (or_second (is_a finish t || is_a leave t || is_a always t || is_a choice t) (fixes t) f) in
        let up : a.height 0 q ≡ a.height 0 g.home - takes_here t + gives_in t.code =
        subst (λ v. a.height 0 q ≡ a.height 0 g.home - v.takes + v.gives) own w.0 in
        let down : a.back 0 q ≡ a.back 0 g.home - return_takes_in t.code + return_gives_in t.code =
        subst (λ v. a.back 0 q ≡ a.back 0 g.home - v.return_takes + v.return_gives) own w.1 in
        let e = n.place in
        record {
          text = 0;
          setting = after t g.outer;
          reach = subst (λ v. Reach rom 0 (after t g.outer) v) (sym e) (Holds.next o.met.reach o.met.is l);
          size = n.size ∙ g.size;
          home = q;
          outer = after t g.outer;
          floor = 0;
          base = 0;
          chain =
              subst (λ v. CallChain a then.calls q (after t g.outer) v then.calls.count 0 0 0) (sym o.none)
              (subst (λ v. CallChain a then.calls q (after t g.outer) [] v 0 0 0) (sym (ap (λ v. v.count) n.calls ∙ o.count))
              outside);
          at = (e, refl);
          height = subst (λ v. then.stack.height ≡ 0 + a.height 0 v) (sym e)
              (omega (arith, z.0, g.height, n.height, o.height, o.low));
          back = subst (λ v. then.back.height ≡ 0 + a.back 0 v) (sym e)
              (omega (arith, z.1, z.2, g.back, n.back, o.back, o.bottom));
          wide = n.wide;
          numbers = n.numbers;
          count = n.count ∙ ap (λ v. numbers_after t v) g.count;
          nodes = n.nodes ∙ ap (λ v. nodes_after t v) g.nodes;
          children = n.children;
          first = n.first ∙ g.first;
        }

    -- ---- a body is entered
    -- its first byte and its width, by the number that is called
    abbrev pub body_first : ℕ
    body_first = get_or st.numbers.values (seek_of st.numbers t.number) 0

    abbrev pub body_wide : Bool
    body_wide = get_or st.numbers.wides (seek_of st.numbers t.number) false

    -- what its heights are moved by and counted from
    abbrev floor_in : ℕ
    floor_in = g.floor + (a.height g.text st.place - (a.sum t.number).need)

    abbrev base_in : ℕ
    base_in = g.base + a.back g.text st.place

    pub go_in : (c : T (is_a call t)) → is_body_here a work store open_calls st g t is ≡ true → SizedCalls st.calls
        → Standing a (open_call st.stack.height body_first ∷ open_calls) (entered_of st body_first body_wide t.next)
    go_in c e z =
        let k = called a work store open_calls st g t is c in
        let f = k.entered.defined in
        let colon = holds (is_colon f.token) (sym (called_colon a work store open_calls st g t is k) ∙ e) in
        let b = body_of f colon k.number in
        let p = k.entered.body colon in
        let n = a.enter b.1 in
        let r = frame_room a work store open_calls st g t is c e in
        let y : (a.sum t.number).need ≤ a.height g.text st.place =
        subst (λ v. v.takes ≤ a.height g.text st.place) (effect_call a.sum t c) (a.there met).0 in
        let calls = st.calls in
        let then = framed_of calls t.next st.wide st.back.height in
        let chain : CallChain a then g.home g.outer open_calls calls.count g.text g.floor g.base =
        calls_kept g.chain (framed_same calls t.next st.wide st.back.height) in
        let calling : Calling rom g.text st.place g.setting t k.place k.end g.home =
        record { met = met; calls = c; defined = f; colon = colon; number = k.number; before = k.before } in
        let one : calls.count + 1 ≡ suc calls.count = omega arith in
        let entry = open_call (g.floor + a.height g.text st.place) f.token.next in
        let same : open_call st.stack.height body_first ≡ open_call (g.floor + a.height g.text st.place) f.token.next =
        same_call g.height p.0 in
        let tall = g.height in
        let deep = g.back in
        let high = n.0 in
        let low = n.1 in
        record {
          text = suc k.place;
          setting = f.setting;
          reach = subst (λ v. Reach rom (suc k.place) f.setting v) (sym p.0)
              (Holds.body f.met.reach f.met.is colon b.1.reads);
          size = g.size;
          home = g.home;
          outer = g.outer;
          floor = floor_in;
          base = base_in;
          chain =
              subst (λ v. CallChain a then g.home g.outer (v ∷ open_calls) (calls.count + 1) (suc k.place) floor_in base_in)
              (sym same)
              (subst (λ v. CallChain a then g.home g.outer (entry ∷ open_calls) v (suc k.place) floor_in base_in) (sym one)
              (within chain calling g.at (get_or-set_same calls.places calls.count t.next 0 (omega (arith, z.places)))
              (get_or-set_same calls.wides calls.count st.wide false (omega (arith, z.wides)) ∙ g.wide)
              (get_or-set_same calls.bases calls.count st.back.height 0 (omega (arith, z.bases)) ∙ g.back)));
          at = tt;
          height = subst (λ v. st.stack.height ≡ floor_in + a.height (suc k.place) v) (sym p.0) (omega arith);
          back = subst (λ v. st.back.height ≡ base_in + a.back (suc k.place) v) (sym p.0) (omega arith);
          wide = p.1;
          numbers = g.numbers;
          count = g.count;
          nodes = g.nodes;
          children = g.children;
          first = g.first;
        }

    -- ---- a body is left
    -- a call is open there
    pub open_count : T (is_a leave t) → 0 < st.calls.count
    open_count l = by g.chain met
      where
        by : {es : List OpenCall} {n x floor base : ℕ} {s : Setting} → CallChain a st.calls g.home g.outer es n x floor base
            → Met rom x s st.place t → 0 < n
        by {s = s} outside m =
            absurd (T_not (is_a leave t) (fails (is_a leave t) (leave_inside rom (length_of rom) s.wide st.place t m.is)) l)
        by (within c y i v w b) m = omega arith

    pub go_out : T (is_a leave t) → Standing a (without open_calls) (left_body_of st)
    go_out l = by st.calls.count refl g.chain met g.height g.back
      where
        by : (n : ℕ) {es : List OpenCall} {x floor base : ℕ} {s : Setting} → st.calls.count ≡ n
            → CallChain a st.calls g.home g.outer es n x floor base
            → Met rom x s st.place t → st.stack.height ≡ floor + a.height x st.place
            → st.back.height ≡ base + a.back x st.place
            → Standing a (without es) (left_body_of st)
        by n {s = s} e outside m h r =
            absurd (T_not (is_a leave t) (fails (is_a leave t) (leave_inside rom (length_of rom) s.wide st.place t m.is)) l)
        by n e (within {open_calls = es} {k = k} {x = x} {floor = floor} {base = base} {p = p} {d = d} {s = s} {t = u} c y i v w b) m h r =
            let j : st.calls.count - 1 ≡ k = omega arith in
            let free : T (not (fixes u)) = rw (eqb→eq (family_in u.code) call y.calls) tt in
            let on : Holds rom (leads s.wide p u u.next) =
            Holds.by_itself (a.known y.met) (subst (λ q. In u.next q) (sym (call_leads u y.calls)) here) in
            let o = home_on c y.met free on i g.numbers in
            let f = body_of y.defined y.colon y.number in
            let z = a.ends f.1 m l in
            let w0 = a.flow y.met on in
            let eff = effect_call a.sum u y.calls in
            let up : a.height x u.next ≡ a.height x p - (a.sum u.number).need + (a.sum u.number).out =
            subst (λ v. a.height x u.next ≡ a.height x p - v.takes + v.gives) eff w0.0 in
            let down : a.back x u.next ≡ a.back x p - 0 + 0 =
            subst (λ v. a.back x u.next ≡ a.back x p - v.return_takes + v.return_gives) eff w0.1 in
            let place : get_or st.calls.places (st.calls.count - 1) 0 ≡ u.next = ap (λ q. get_or st.calls.places q 0) j ∙ v in
            let wide : get_or st.calls.wides (st.calls.count - 1) false ≡ s.wide = ap (λ q. get_or st.calls.wides q false) j ∙ w in
            let tall = z.0 in
            let deep = z.1 in
            record {
              text = x;
              setting = s;
              reach = subst (λ q. Reach rom x s q) (sym place)
                  (subst (λ q. Reach rom x q u.next) (after_same u s free) (Holds.next y.met.reach y.met.is on));
              size = g.size;
              home = o.home;
              outer = g.outer;
              floor = floor;
              base = base;
              chain = subst (λ q. CallChain a (unframed_of st.calls) o.home g.outer es q x floor base) (sym j)
                  (calls_kept o.chain (unframed_same k st.calls));
              at = subst (λ q. AtHome x q s o.home g.outer) (sym place) o.at;
              height = subst (λ q. st.stack.height ≡ floor + a.height x q) (sym place) (omega arith);
              back = subst (λ q. st.back.height ≡ base + a.back x q) (sym place) (omega arith);
              wide = wide;
              numbers = o.numbers;
              count = g.count;
              nodes = g.nodes;
              children = g.children;
              first = g.first;
            }
