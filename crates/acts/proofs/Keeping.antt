-- Properties written, nodes opened and closed: what a call on the tree answers is what the step says. Assumes nothing.
use Rattle.std.proofs.Common.{◌≡◌, ℕ, ◌-◌, ◌≤◌, Bool, true, false, eqb, List, [], ◌∷◌, length, sym, refl, ap, ◌∙◌, arith, eq-eqb, ne_eqb}
use Rattle.std.proofs.Common.{eqb-true, Result, Ok, Err}
use Rattle.cells.specs.Choice.{pick}
use Rattle.tokens.specs.Family.{finish_device, new_device}
use Rattle.tokens.specs.Decode.{token_of}
use Rattle.tokens.specs.declared.decoding.Token.{Token}
use Rattle.memory.specs.Window.{bad_string, resolve_of}
use Rattle.tree.specs.Whole.{parent_of, whole_tree}
use Rattle.tree.specs.Property.{value_of, bad_name, overfull, would_hold, put_refusal, tree_put, store_put, put_of, store_of}
use Rattle.tree.specs.Node.{Written, Activated, activated, no_room, outermost, child_of, new_device_of, finish_device_of, write_refused}
use Rattle.tree.specs.Node.{write_done as tree_done}
use Rattle.tree.specs.declared.tree.Tree.{Tree}
use Rattle.state.specs.State.{moved, moved_to, with_active, with_tree}
use Rattle.state.specs.Scene.{Scene, scene, turn, handed_back}
use Rattle.state.specs.Refusals.{refusal_of, title_of}
use Rattle.state.specs.Laws.Titles.{title_good}
use Rattle.state.specs.Effects.{gave, effects, act_of}
use Rattle.state.specs.Joints.Moves.{Popped, stepped, pop_of, restacked}
use Rattle.state.specs.Joints.Apart.{Arrays, joined, back_on, handed}
use Rattle.state.specs.Step.{done_of}
use Rattle.acts.specs.Joints.Acts.{Quiet, KeepsFrom, KeepsBy, outcome_on, kept_on, active_on, filed_core, filed_of}
use Rattle.state.specs.declared.state.State.{State}
use Rattle.state.specs.Answer.{Stepped, Going, Refused}
use Rattle.state.specs.declared.apart.Core.{Core}
use Rattle.tree.specs.declared.in_place.Tail.{Tail}
use Rattle.acts.specs.declared.acted.Acted.{Acted}
use Rattle.acts.proofs.Cold.{open_full, open_good, close_outermost, close_good, property_bad_name, property_bad_value, property_put}
use Rattle.acts.proofs.Cold.{title_bad, title_put}
use Rattle.state.specs.Laws.Done.{carried, stopped}
use Rattle.acts.proofs.Pops.{popped_by, cell_at, two_pops, four_pops, popped_on}
use Rattle.rom.specs.Refusal.{numbered, refusal_number}
use Rattle.rom.specs.Sizes.{data_most, store_size}
use Rattle.rom.specs.declared.refusal.Refusal.{Refusal}

-- ---- what a property's call in place leaves: refused, the tree as it was
never_done : (why : ℕ) → ◌≡◌ {A = Result (Unit {0}) ℕ} (Ok tt) (Err why) → ⊥
never_done why e = let z : ◌≡◌ {A = ℕ} 0 1 = cc in omega arith

module _ (w : Written) (why : ℕ) (f : w.outcome ≡ Err why) where
  pub put_same : (t : Tree) (store : List ℕ) (node : ℕ) (name value : List ℕ) → w ≡ put_of t store node name value → w.tree ≡ t
  unfolding put_of
  put_same t store node name value e =
      by (eqb (put_refusal t store node name value) 0) (ap (λ (x : Written). x.outcome) (sym e) ∙ f) (ap (λ (x : Written). x.tree) e)
    where
      given : Bool → Written
      given b = pick b (tree_done (tree_put t store node name value)) (write_refused (put_refusal t store node name value) t)

      by : (b : Bool) → (given b).outcome ≡ Err why → w.tree ≡ (given b).tree → w.tree ≡ t
      by true a b = absurd (never_done why a)
      by false a b = b

-- and it is what is kept of the whole state
module _ (st taken : State) (next : ℕ) (w : Written) where
  pub kept_done : (x : Stepped) → w.outcome ≡ (Ok tt) → x ≡ stepped Going (with_tree (moved_to taken next) w.tree)
      → x ≡ kept_on st taken next w
  kept_done x e f = f ∙ ap (λ (o : Result (Unit {0}) ℕ). outcome_on st (with_tree (moved_to taken next) w.tree) o) (sym e)

  pub kept_refused : (x : Stepped) (why : ℕ) → w.outcome ≡ Err why → w.tree ≡ st.tree
      → x ≡ stepped (Refused why) (with_tree st w.tree) → x ≡ kept_on st taken next w
  kept_refused x why e k f =
      f ∙ ap (λ (t : Tree). stepped (Refused why) (with_tree st t)) k
      ∙ ap (λ (o : Result (Unit {0}) ℕ). outcome_on st (with_tree (moved_to taken next) w.tree) o) (sym e)

-- the same by the numbers that are handed back
pub filed_back : (a b : Arrays) (k : Core) (taken next records : ℕ) (tail : Tail) (w : Written) (o : Result (Unit {0}) Refusal) (r : Acted)
    → w.outcome ≡ numbered o
    → r ≡ filed_of k taken next o records tail
    → with_tree (joined a k) w.tree ≡ joined b (filed_core k k.place k.height records)
    → ((why : ℕ) → w.outcome ≡ Err why → w.tree ≡ (joined a k).tree)
    → back_on b (handed r.told r.core) ≡ kept_on (joined a k) (popped_by (joined a k) taken) next w
filed_back a b k taken next records tail w (Ok tt) r e f h i =
    kept_done (joined a k) (popped_by (joined a k) taken) next w (back_on b (handed r.told r.core)) e
    (ap (λ (x : Acted). back_on b (handed x.told x.core)) f
    ∙ ap (λ (x : State). stepped Going (moved_to (restacked x x.stack.cells (k.height - taken)) next)) (sym h))
filed_back a b k taken next records tail w (Err why) r e f h i =
    kept_refused (joined a k) (popped_by (joined a k) taken) next w (back_on b (handed r.told r.core)) (refusal_number why) e
    (i (refusal_number why) e)
    (ap (λ (x : Acted). back_on b (handed x.told x.core)) f ∙ ap (λ (x : State). stepped (Refused (refusal_number why)) x) (sym h))

pub filed_numbers : (k : Core) (taken next records : ℕ) (tail : Tail) (o : Result (Unit {0}) Refusal) (r : Acted)
    → r ≡ filed_of k taken next o records tail
    → (r.core.records ≡ records) × (r.tail ≡ tail) × (r.core.held ≡ k.held)
filed_numbers k taken next records tail (Ok tt) r e =
    (ap (λ (x : Acted). x.core.records) e, ap (λ (x : Acted). x.tail) e, ap (λ (x : Acted). x.core.held) e)
filed_numbers k taken next records tail (Err why) r e =
    (ap (λ (x : Acted). x.core.records) e, ap (λ (x : Acted). x.tail) e, ap (λ (x : Acted). x.core.held) e)

-- ---- nodes
-- refused, the tree and the active node as they were
same_nodes : (b : Bool) (t u : Tree) (k m why : ℕ) (w : Activated) → w.outcome ≡ Err why
    → w ≡ pick b (activated (Err 20) t k) (activated (Ok tt) u m) → w ≡ activated w.outcome t k
same_nodes true t u k m why w f e = e ∙ ap (λ (x : Activated). activated x.outcome t k) (sym e)
same_nodes false t u k m why w f e = absurd (never_done why (sym (ap (λ (x : Activated). x.outcome) e) ∙ f))

module _ (st : State) (next : ℕ) (w : Activated) where
  abbrev active_then : State
  active_then = with_tree (with_active (moved_to st next) w.active) w.tree

  pub active_done : (x : Stepped) → w.outcome ≡ (Ok tt) → x ≡ stepped Going active_then → x ≡ active_on st next w
  active_done x e f = f ∙ ap (λ (o : Result (Unit {0}) ℕ). outcome_on st active_then o) (sym e)

  pub active_refused : (x : Stepped) (why : ℕ) → w.outcome ≡ Err why → w ≡ activated w.outcome st.tree st.active
      → x ≡ stepped (Refused why) (with_tree (with_active st w.active) w.tree) → x ≡ active_on st next w
  active_refused x why e k f =
      f ∙ ap (λ (v : Activated). stepped (Refused why) (with_tree (with_active st v.active) v.tree)) k
      ∙ ap (λ (o : Result (Unit {0}) ℕ). outcome_on st active_then o) (sym e)

  module _ (why : ℕ) (f : w.outcome ≡ Err why) where
    pub open_same : w ≡ new_device_of st.tree st.active → w ≡ activated w.outcome st.tree st.active
    open_same e = same_nodes (no_room st.tree) st.tree (child_of st.tree st.active) st.active st.tree.nodes why w f e

    pub close_same : w ≡ finish_device_of st.tree st.first st.active → w ≡ activated w.outcome st.tree st.active
    close_same e =
        same_nodes (outermost st.first st.active) st.tree st.tree st.active (parent_of st.tree st.active) why w f e

module _ (st : State) (next : ℕ) (h : st.stack.height ≤ data_most) (w : Activated) (r : Stepped) (k : r ≡ active_on st next w) where
  given : (v : Activated) (work store : List ℕ) → w ≡ v → handed_back r work store ≡ handed_back (active_on st next v) work store
  given v work store e = ap (λ (x : Stepped). handed_back x work store) k
      ∙ ap (λ (x : Activated). handed_back (active_on st next x) work store) e

  refused : Activated
  refused = activated (Err 20) st.tree st.active

  pub open_told : w ≡ new_device_of st.tree st.active → Quiet new_device st next r
  unfolding act_of effects refused
  open_told e o n rom work store = by (no_room st.tree) refl
    where
      by : (b : Bool) → no_room st.tree ≡ b → handed_back r work store ≡ done_of (scene rom work store st) (token_of n 0x1710_0000 o next)
      by true f =
          given refused work store (e ∙ rw f)
          ∙ sym (stopped (scene rom work store st) (token_of n 0x1710_0000 o next) 20 refl
          (open_full (scene rom work store st) n o next h f))
      by false f =
          given (activated (Ok tt) (child_of st.tree st.active) st.tree.nodes) work store (e ∙ rw f)
          ∙ sym (carried (scene rom work store st) (token_of n 0x1710_0000 o next) (open_good (scene rom work store st) n o next h f))

  pub close_told : w ≡ finish_device_of st.tree st.first st.active → Quiet finish_device st next r
  unfolding act_of effects refused
  close_told e o n rom work store = by (outermost st.first st.active) refl
    where
      by : (b : Bool) → outermost st.first st.active ≡ b
          → handed_back r work store ≡ done_of (scene rom work store st) (token_of n 0x1810_0000 o next)
      by true f =
          given refused work store (e ∙ rw f)
          ∙ sym (stopped (scene rom work store st) (token_of n 0x1810_0000 o next) 20 refl
          (close_outermost (scene rom work store st) n o next h f))
      by false f =
          given (activated (Ok tt) st.tree (parent_of st.tree st.active)) work store (e ∙ rw f)
          ∙ sym (carried (scene rom work store st) (token_of n 0x1810_0000 o next) (close_good (scene rom work store st) n o next h f))

-- ---- a property put: the step's turn, where the token is refused as the call is and carried out as it is
module _ (rom work store : List ℕ) (st : State) (t : Token) (next takes : ℕ) (name value : List ℕ) where
  abbrev s : Scene
  s = scene rom work store st

  put_told : refusal_of s t ≡ put_refusal st.tree store st.active name value
      → act_of s t ≡ turn Going (with_tree (moved st (gave st takes []) next) (tree_put st.tree store st.active name value)) work
      (store_put st.tree store st.active name value)
      → handed_back (kept_on st (popped_by st takes) next (put_of st.tree store st.active name value)) work
      (store_of st.tree store st.active name value) ≡ done_of s t
  unfolding put_of store_of
  put_told e f = by (eqb (put_refusal st.tree store st.active name value) 0) refl
    where
      by : (b : Bool) → eqb (put_refusal st.tree store st.active name value) 0 ≡ b
          → handed_back (kept_on st (popped_by st takes) next (put_of st.tree store st.active name value)) work
          (store_of st.tree store st.active name value) ≡ done_of s t
      by true z =
          rw z
          (ap (λ (x : State). turn Going (with_tree x (tree_put st.tree store st.active name value)) work
          (store_put st.tree store st.active name value)) (popped_on st takes next)
          ∙ sym (carried s t (e ∙ eqb-true _ _ z) ∙ f))
      by false z = rw z (sym (stopped s t (put_refusal st.tree store st.active name value) z e))

  pub put_by : (taken : State) (w : Written) (then : List ℕ) (r : Stepped)
      → refusal_of s t ≡ put_refusal st.tree store st.active name value
      → act_of s t ≡ turn Going (with_tree (moved st (gave st takes []) next) (tree_put st.tree store st.active name value)) work
      (store_put st.tree store st.active name value)
      → taken ≡ popped_by st takes → w ≡ put_of st.tree store st.active name value
      → then ≡ store_of st.tree store st.active name value → r ≡ kept_on st taken next w
      → handed_back r work then ≡ done_of s t
  put_by taken w then r e f a b c d =
      ap (λ (x : Stepped). handed_back x work then) d
      ∙ ap (λ (x : State). handed_back (kept_on st x next w) work then) a
      ∙ ap (λ (x : Written). handed_back (kept_on st (popped_by st takes) next x) work then) b
      ∙ ap (λ (x : List ℕ). handed_back (kept_on st (popped_by st takes) next (put_of st.tree store st.active name value)) work x) c
      ∙ put_told e f

-- ---- why it is refused, of a store and a tree that are whole
module _ (tree : Tree) (store : List ℕ) (node : ℕ) (name value : List ℕ) (l : length store ≡ store_size) (w : whole_tree tree ≡ true) where
  refusal_is : put_refusal tree store node name value
      ≡ pick (bad_name name) 26 (pick (overfull (would_hold tree store node name value)) 27 0)
  unfolding put_refusal
  refusal_is = rw (eq-eqb (length store) store_size l, w)

-- neither device-name nor model: device-type
pub other_title : (n : ℕ) → (Unit {0} × (n ≡ 0x201 → ⊥)) × (n ≡ 0x119 → ⊥)
    → title_of n ≡ 0x64 ∷ 0x65 ∷ 0x76 ∷ 0x69 ∷ 0x63 ∷ 0x65 ∷ 0x5F ∷ 0x74 ∷ 0x79 ∷ 0x70 ∷ 0x65 ∷ []
other_title n r = rw (ne_eqb n 0x201 r.0.1, ne_eqb n 0x119 r.1)

-- ---- property
module _ (rom work store : List ℕ) (st : State) (next : ℕ) (h : st.stack.height ≤ data_most) (l : 4 ≤ st.stack.height) (p q t u : Popped)
    (e : p ≡ pop_of st) (f : q ≡ pop_of p.state) (g : t ≡ pop_of q.state) (i : u ≡ pop_of t.state) where
  abbrev range : ℕ → ℕ → Bool
  range address count = bad_string rom work st.length address count

  pub property_bad_name_told : (r : Stepped) → range q.cell p.cell ≡ true → r ≡ stepped (Refused 22) st
      → KeepsFrom rom work store store st next r
  property_bad_name_told r b w n o =
      let c = four_pops st p q t u l e f g i in
      rw w (sym (stopped (scene rom work store st) (token_of n 0x1500_0040 o next) 22 refl
      (property_bad_name (scene rom work store st) n o next h l (rw (← c.0, ← c.1) b))))

  module _ (b : range q.cell p.cell ≡ false) where
    pub property_bad_value_told : (r : Stepped) → range u.cell t.cell ≡ true → r ≡ stepped (Refused 22) st
        → KeepsFrom rom work store store st next r
    property_bad_value_told r d w n o =
        let c = four_pops st p q t u l e f g i in
        rw w (sym (stopped (scene rom work store st) (token_of n 0x1500_0040 o next) 22 refl
        (property_bad_value (scene rom work store st) n o next h l (rw (← c.0, ← c.1) b) (rw (← c.2, ← c.3) d))))

    pub property_told : (name value then : List ℕ) (v : Written) (r : Stepped) → range u.cell t.cell ≡ false
        → length store ≡ store_size → whole_tree st.tree ≡ true
        → name ≡ resolve_of rom work st.length q.cell p.cell → value ≡ resolve_of rom work st.length u.cell t.cell
        → v ≡ put_of st.tree store st.active name (value_of value false)
        → then ≡ store_of st.tree store st.active name (value_of value false)
        → r ≡ kept_on st (popped_by st 4) next v → KeepsFrom rom work store then st next r
    unfolding act_of effects
    property_told name value then v r d m w a x y z k n o =
        let c = four_pops st p q t u l e f g i in
        let s = scene rom work store st in
        let one = resolve_of rom work st.length (cell_at st 1) (cell_at st 0) in
        let two = value_of (resolve_of rom work st.length (cell_at st 3) (cell_at st 2)) false in
        let j : name ≡ one = rw (← c.0, ← c.1) a in
        let v' : value ≡ resolve_of rom work st.length (cell_at st 3) (cell_at st 2) = rw (← c.2, ← c.3) x in
        let i : value_of value false ≡ two = ap (λ (b : List ℕ). value_of b false) v' in
        put_by rom work store st (token_of n 0x1500_0040 o next) next 4 one two (popped_by st 4) v then r
        (property_put s n o next h l (rw (← c.0, ← c.1) b) (bad_name one) (overfull (would_hold st.tree store st.active one two))
        (rw (← c.2, ← c.3) d) refl refl
        ∙ sym (refusal_is st.tree store st.active one two m w))
        refl refl
        (y ∙ ap (λ (b : List ℕ). put_of st.tree store st.active b (value_of value false)) j
        ∙ ap (λ (b : List ℕ). put_of st.tree store st.active one b) i)
        (z ∙ ap (λ (b : List ℕ). store_of st.tree store st.active b (value_of value false)) j
        ∙ ap (λ (b : List ℕ). store_of st.tree store st.active one b) i) k

-- ---- device-name, model, device-type
module _ (rom work store : List ℕ) (st : State) (n next : ℕ) (h : st.stack.height ≤ data_most) (l : 2 ≤ st.stack.height) (p q : Popped)
    (e : p ≡ pop_of st) (f : q ≡ pop_of p.state) where
  pub title_bad_told : (r : Stepped) → bad_string rom work st.length q.cell p.cell ≡ true → r ≡ stepped (Refused 22) st
      → KeepsBy n rom work store store st next r
  title_bad_told r b w o =
      let c = two_pops st p q l e f in
      rw w (sym (stopped (scene rom work store st) (token_of n 0x1600_0020 o next) 22 refl
      (title_bad (scene rom work store st) n o next h l (rw (← c.0, ← c.1) b))))

  pub title_told : (value then : List ℕ) (v : Written) (r : Stepped) → bad_string rom work st.length q.cell p.cell ≡ false
      → length store ≡ store_size → whole_tree st.tree ≡ true → value ≡ resolve_of rom work st.length q.cell p.cell
      → v ≡ put_of st.tree store st.active (title_of n) (value_of value true)
      → then ≡ store_of st.tree store st.active (title_of n) (value_of value true)
      → r ≡ kept_on st (popped_by st 2) next v → KeepsBy n rom work store then st next r
  unfolding act_of effects
  title_told value then v r b m w x y z k o =
      let c = two_pops st p q l e f in
      let s = scene rom work store st in
      let one = value_of (resolve_of rom work st.length (cell_at st 1) (cell_at st 0)) true in
      let v' : value ≡ resolve_of rom work st.length (cell_at st 1) (cell_at st 0) = rw (← c.0, ← c.1) x in
      let i : value_of value true ≡ one = ap (λ (b : List ℕ). value_of b true) v' in
      put_by rom work store st (token_of n 0x1600_0020 o next) next 2 (title_of n) one (popped_by st 2) v then r
      (title_put s n o next h l (overfull (would_hold st.tree store st.active (title_of n) one)) (rw (← c.0, ← c.1) b) refl
      ∙ sym (refusal_is st.tree store st.active (title_of n) one m w
      ∙ ap (λ (b : Bool). pick b 26 (pick (overfull (would_hold st.tree store st.active (title_of n) one)) 27 0)) (title_good n)))
      refl refl
      (y ∙ ap (λ (b : List ℕ). put_of st.tree store st.active (title_of n) b) i)
      (z ∙ ap (λ (b : List ℕ). store_of st.tree store st.active (title_of n) b) i) k
