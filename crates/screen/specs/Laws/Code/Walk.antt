-- Where the code's walk is, and which path of the model that stands for. Assumes nothing.
use Prim.Native.Nat.{ℕ, zero, suc, ◌+◌, ◌-◌, ◌≤◌, ◌<◌, max}
use Rattle.std.specs.Prelude.{◌≡◌, Bool, ◌||◌, List, [], ◌∷◌, ◌≢◌, eqb, ltb, length, get_or, set, Option, Some, None}
use Rattle.std.proofs.Math.Path.{refl, sym, ap}
use Rattle.std.proofs.Common.{◌∙◌, subst, get_or-set_same, get_or-set_other}
use Rattle.std.proofs.Math.Bool.{true, false, not, or-true}
use native.Mathlib.Omega.{arith}
use Rattle.std.proofs.Math.Decide.{ℕ_discrete}
use borrow.Author.Tests.{eq-eqb, ne_eqb, lt-ltb, le-ltb, le-leb, lt-leb}
use Rattle.std.proofs.Math.Dec.{T, leb}
use Rattle.std.proofs.Math.ListN.{length-set}
use Rattle.cells.specs.Choice.{pick}
use Rattle.cells.specs.Laws.Facts.{when_true, when_false}
use Rattle.rom.specs.Sizes.{rom_most}
use Rattle.tokens.specs.Place.{read_of}
use Rattle.screen.specs.Laws.Found.Model.{Tally, Path, path, failed, blank_of, no_tally, told_in, put_visit, puts_of, visited_on, walk_step}
use Rattle.screen.specs.Laws.Found.Model.{walking, walk_steps}
use Rattle.screen.specs.Laws.Found.Model.{walk_all}
use Rattle.screen.specs.Laws.Walk.Walking.{blanks, blanks_most, blanks_set, visit_real, puts_lost, blank_mark}
use Rattle.screen.specs.Laws.Code.Visit.{visit_in, tally_in, SeenBy}
use Rattle.screen.specs.declared.walking.Text.{Text as Scope}
use Rattle.screen.specs.declared.walking.Way.{Way}
use Rattle.screen.specs.declared.walking.Walk.{Walk as Walked}
use Rattle.screen.specs.declared.visiting.Visit.{Visit as Told}

-- ---- ways
abbrev pub spoilt_way : Way → Way
spoilt_way w = record { fine = 0; far = w.far; place = w.place; cell = w.cell; top = w.top }

-- the place at hand is taken off
abbrev pub off_way : Way → Way
off_way w = record { fine = w.fine; far = w.far; place = 0; cell = 0; top = w.top }

abbrev pub out_way : ℕ → Way
out_way start = record { fine = 1; far = start; place = 0; cell = 0; top = 0 }

-- ---- what waits: the place at hand, if there is one, and those in the table, the last first
unfoldable pub stack_of : List ℕ → ℕ → List ℕ
stack_of work zero = []
stack_of work (suc t) = get_or work t 0 ∷ stack_of work t

abbrev pub waits_of : List ℕ → ℕ → ℕ → List ℕ
waits_of work place top = pick (eqb place 0) (stack_of work top) (place ∷ stack_of work top)

abbrev pub wait_count : ℕ → ℕ → ℕ
wait_count place top = pick (eqb place 0) top (suc top)

abbrev pub path_of : List ℕ → List ℕ → Way → Tally → Path
path_of seen work w y =
    path seen (waits_of work w.place w.top) (record { good = not (eqb w.fine 0); far = w.far; tally = y })

-- places in the table are places
pub record Waiting (n : ℕ) (work : List ℕ) (top : ℕ) : Type 0 where
  pub each : (i : ℕ) → i < top → (get_or work i 0 ≢ 0) × (get_or work i 0 < n)

-- the tables have room for a text
pub record WalkTables (n : ℕ) (seen work : List ℕ) : Type 0 where
  pub room : n ≤ length seen
  pub few : length seen ≤ rom_most
  pub wide : length seen ≤ length work

-- what holds of a way: there is room for all that can wait, what waits is a place of the text, and the place at hand has its cell
pub record WalkFit (x : Scope) (seen work : List ℕ) (w : Way) : Type 0 where
  pub tables : WalkTables x.length seen work
  pub light : blanks (blank_of x.within) seen + wait_count w.place w.top ≤ length seen
  pub waiting : Waiting x.length work w.top
  pub near : w.place ≢ 0 → w.place < x.length
  pub held : w.place ≢ 0 → w.cell ≡ get_or seen w.place 0

-- ---- the steps
pub record KeptIs (n : ℕ) (work : List ℕ) (place top r : ℕ) (work' : List ℕ) : Type 0 where
  pub count : r ≡ wait_count place top
  pub stack : stack_of work' r ≡ waits_of work place top
  pub waiting : Waiting n work top → (place ≢ 0 → place < n) → Waiting n work' r

pub record CameTo (x : Scope) (seen work : List ℕ) (w : Way) (q c : ℕ) (r : Way) (seen' work' : List ℕ) : Type 0 where
  pub is : (y : Tally) → path_of seen' work' r y ≡ put_visit x (path_of seen work w y) q c
  pub fit : WalkFit x seen' work' r

pub record CameIf (x : Scope) (seen work : List ℕ) (w : Way) (q c : ℕ) (r : Way) (seen' work' : List ℕ) : Type 0 where
  pub is : (y : Tally) → path_of seen' work' r y ≡ puts_of x (path_of seen work w y) q c
  pub fit : WalkFit x seen' work' r

pub record Settled (x : Scope) (seen work : List ℕ) (w r : Way) : Type 0 where
  pub is : (y : Tally) → path_of seen work r y ≡ path_of seen work w y
  pub fit : WalkFit x seen work r
  pub last : r.place ≡ 0 → r.top ≡ 0

pub record WentOn (x : Scope) (seen work : List ℕ) (w : Way) (v : Told) (r : Way) (seen' work' : List ℕ) : Type 0 where
  pub is : r.fine ≢ 0 → (y : Tally) → path_of seen' work' r y ≡ visited_on x (path_of seen work (off_way w) y) (visit_in v)
  pub lost : r.fine ≡ 0 → (y : Tally) → (visited_on x (path_of seen work (off_way w) y) (visit_in v)).walk.good ≡ false
  pub fit : WalkFit x seen' work' r
  pub last : r.fine ≢ 0 → r.place ≡ 0 → r.top ≡ 0

-- ---- the whole
pub record SetOut (x : Scope) (seen work : List ℕ) (start cell : ℕ) : Type 0 where
  pub tables : WalkTables x.length seen work
  pub some : start ≢ 0
  pub unlike : cell ≢ blank_of x.within

-- how a walk ended: good where the model's is, and then with its cells, its highest place and its tally
pub record EndsWell (a : Path) (w : Walked) (seen' : List ℕ) : Type 0 where
  pub good : a.walk.good ≡ true
  pub seen : seen' ≡ a.seen
  pub far : w.far ≡ a.walk.far
  pub tally : tally_in w.tally ≡ a.walk.tally

abbrev pub EndsWith : Path → Option Walked → List ℕ → Type 0
EndsWith a None seen' = a.walk.good ≡ false
EndsWith a (Some w) seen' = EndsWell a w seen'

abbrev pub WalkIs : List ℕ → Scope → List ℕ → List ℕ → List ℕ → ℕ → ℕ → Option Walked → List ℕ → Type 0
WalkIs rom x kinds sums seen start cell r seen' = EndsWith (walk_all rom x kinds sums seen start cell) r seen'

-- ---- the table of what waits
-- a store at or above the top does not touch it
stack_kept : (work : List ℕ) (k v t : ℕ) → t ≤ k → stack_of (set work k v) t ≡ stack_of work t
unfolding stack_of
stack_kept work k v zero h = refl
stack_kept work k v (suc t) h =
    let n : t ≢ k = λ e. omega arith in
    rw (get_or-set_other work k t v 0 n, stack_kept work k v t (omega arith)) refl

-- no place is at hand
pub kept_none : (n : ℕ) (work : List ℕ) (place top : ℕ) → place ≡ 0 → KeptIs n work place top top work
kept_none n work place top e =
    record { count = rw e refl; stack = rw e refl; waiting = λ w l. w }

-- one is, and goes into the table
pub kept_place : (n : ℕ) (work : List ℕ) (place top v : ℕ) (work' : List ℕ) → (place ≡ 0 → ⊥) → top < length work → v ≡ place
    → work' ≡ set work top v → KeptIs n work place top (top + 1) work'
unfolding stack_of
kept_place n work place top v work' z l e f =
    let o : top + 1 ≡ suc top = omega arith in
    let g = ne_eqb place 0 z in
    let p = ap (λ (y : List ℕ). stack_of y (suc top)) (f ∙ ap (λ (y : ℕ). set work top y) e) in
    record {
      count = rw g o;
      stack = rw (o, p, g, get_or-set_same work top place 0 l, stack_kept work top place top (omega arith)) refl;
      waiting = λ w near. record { each = λ i h. rw (f, e) (by w near i (omega arith) (ℕ_discrete i top)) };
    }
  where
    by : Waiting n work top → (place ≢ 0 → place < n) → (i : ℕ) → i < suc top → Dec (i ≡ top)
        → (get_or (set work top place) i 0 ≢ 0) × (get_or (set work top place) i 0 < n)
    by w near i h (yes q) = rw (q, get_or-set_same work top place 0 l) (z, near z)
    by w near i h (no q) = rw (get_or-set_other work top i place 0 q) (w.each i (omega arith))

-- ---- a place is come to
-- as many wait as the top says, or one more
count_least : (place top : ℕ) → top ≤ wait_count place top
count_least place top = by (eqb place 0)
  where
    by : (b : Bool) → top ≤ pick b top (suc top)
    by true = omega arith
    by false = omega arith

module _ {x : Scope} {seen work : List ℕ} {w : Way} (f : WalkFit x seen work w) where
  -- a way that is spoilt has what it had
  abbrev spoilt_fit : WalkFit x seen work (spoilt_way w)
  spoilt_fit = record { tables = f.tables; light = f.light; waiting = f.waiting; near = f.near; held = f.held }

  module _ (q c : ℕ) where
    spoilt_came : (ltb q x.low || leb x.length q) ≡ true → CameTo x seen work w q c (spoilt_way w) seen work
    unfolding put_visit
    spoilt_came e =
        record { is = λ y. sym (when_true _ _ (ltb q x.low || leb x.length q) e); fit = spoilt_fit }

    pub came_low : q < x.low → CameTo x seen work w q c (spoilt_way w) seen work
    came_low h = spoilt_came (rw (lt-ltb q x.low h) refl)

    pub came_past : x.length ≤ q → CameTo x seen work w q c (spoilt_way w) seen work
    came_past h = spoilt_came (rw (le-leb x.length q h) (or-true (ltb q x.low)))

    module _ (low : x.low ≤ q) (high : q < x.length) where
      inside : (ltb q x.low || leb x.length q) ≡ false
      inside = rw (le-ltb q x.low low, lt-leb x.length q high) refl

      in_seen : q < length seen
      in_seen = let r = f.tables.room in omega arith

      -- where it has another cell than a blank one: this one, or any other
      module _ (n : get_or seen q 0 ≡ blank_of x.within → ⊥) where
        pub came_same : get_or seen q 0 ≡ c → CameTo x seen work w q c w seen work
        unfolding put_visit
        came_same e =
            record {
              is = λ y.
                  sym (when_false _ _ (ltb q x.low || leb x.length q) inside
                  ∙ when_false _ _ (eqb (get_or seen q 0) (blank_of x.within)) (ne_eqb _ _ n)
                  ∙ when_true _ _ (eqb (get_or seen q 0) c) (eq-eqb _ _ e));
              fit = f;
            }

        pub came_clash : (get_or seen q 0 ≡ c → ⊥) → CameTo x seen work w q c (spoilt_way w) seen work
        unfolding put_visit
        came_clash e =
            record {
              is = λ y.
                  sym (when_false _ _ (ltb q x.low || leb x.length q) inside
                  ∙ when_false _ _ (eqb (get_or seen q 0) (blank_of x.within)) (ne_eqb _ _ n)
                  ∙ when_false _ _ (eqb (get_or seen q 0) c) (ne_eqb _ _ e));
              fit = spoilt_fit;
            }

      -- where it is blank
      module _ (z : get_or seen q 0 ≡ blank_of x.within) (d : c ≢ blank_of x.within) where
        fewer : suc (blanks (blank_of x.within) (set seen q c)) ≡ blanks (blank_of x.within) seen
        fewer = blanks_set (blank_of x.within) seen q c in_seen z d

        -- there is room for the place at hand
        pub came_room : (w.top < length work) × (w.top < 65536) × (w.place < 65536)
        came_room =
            let l = f.light in
            let e = fewer in
            let k = count_least w.place w.top in
            let t = f.tables in
            let i = t.few in
            let j = t.wide in
            let r = t.room in
            (omega arith, omega arith, by (ℕ_discrete w.place 0))
          where
            by : Dec (w.place ≡ 0) → w.place < 65536
            by (yes e) = omega arith
            by (no e) = let n = f.near e in let r = f.tables.room in let i = f.tables.few in omega arith

        pub came_new : (q ≡ 0 → ⊥) → (far top : ℕ) (seen' work' : List ℕ) → seen' ≡ set seen q c → far ≡ max w.far q
            → ((n : ℕ) → KeptIs n work w.place w.top top work') → length work' ≡ length work
            → CameTo x seen work w q c (record { fine = w.fine; far = far; place = q; cell = c; top = top }) seen' work'
        unfolding put_visit
        came_new p far top seen' work' e g k m =
            let g₀ = ne_eqb q 0 p in
            record {
              is = λ y.
                  rw (e, g, g₀, (k 0).stack)
                  (sym (when_false _ _ (ltb q x.low || leb x.length q) inside
                  ∙ when_true _ _ (eqb (get_or seen q 0) (blank_of x.within)) (eq-eqb _ _ z)));
              fit = record {
                tables = rw e (record {
                  room = let r = f.tables.room in rw length-set r;
                  few = let r = f.tables.few in rw length-set r;
                  wide = let r = f.tables.wide in rw (length-set, m) r;
                });
                light =
                    let l = f.light in
                    let b = fewer in
                    let t = (k 0).count in
                    rw (e, g₀, length-set) (omega arith);
                waiting = (k x.length).waiting f.waiting f.near;
                near = λ n. high;
                held = λ n. rw e (sym (get_or-set_same seen q c 0 in_seen));
              };
            }

    -- 0 is no place
    pub came_none : q ≡ 0 → CameIf x seen work w q c w seen work
    unfolding puts_of
    came_none e = record { is = λ y. sym (when_true _ _ (eqb q 0) (eq-eqb q 0 e)); fit = f }

    pub came_if : {r : Way} {seen' work' : List ℕ} → (q ≡ 0 → ⊥) → CameTo x seen work w q c r seen' work'
        → CameIf x seen work w q c r seen' work'
    unfolding puts_of
    came_if n k = record { is = λ y. k.is y ∙ sym (when_false _ _ (eqb q 0) (ne_eqb q 0 n)); fit = k.fit }

  -- ---- the next place is taken in hand
  pub settled_same : (w.place ≡ 0 → ⊥) → Settled x seen work w w
  settled_same n = record { is = λ y. refl; fit = f; last = λ e. absurd (n e) }

  pub settled_none : w.top ≡ 0 → Settled x seen work w w
  settled_none e = record { is = λ y. refl; fit = f; last = λ z. e }

  pub settled_next : w.place ≡ 0 → (w.top ≡ 0 → ⊥) → (place cell top : ℕ) → top ≡ w.top - 1 → place ≡ get_or work top 0
      → cell ≡ get_or seen place 0 → Settled x seen work w (record { fine = w.fine; far = w.far; place = place; cell = cell; top = top })
  unfolding stack_of
  settled_next z n place cell top e g h =
      let o : w.top ≡ suc top = omega arith in
      let i = f.waiting.each top (omega arith) in
      let p : place ≢ 0 = λ q. i.0 (sym g ∙ q) in
      let b = ne_eqb place 0 p in
      record {
        is = λ y. rw (z, o, b, ← g) refl;
        fit = record {
          tables = f.tables;
          light = let l = f.light in rw b (rw (z, o) at l);
          waiting = record { each = λ j k. f.waiting.each j (omega arith) };
          near = λ q. rw g i.1;
          held = λ q. h;
        };
        last = λ q. absurd (p q);
      }

-- ---- a place was visited
module _ {x : Scope} {seen work : List ℕ} {w : Way} (f : WalkFit x seen work w) (n : w.place ≢ 0) where
  pub off_fit : WalkFit x seen work (off_way w)
  off_fit =
      record {
        tables = f.tables;
        light = let l = f.light in let k = count_least w.place w.top in omega arith;
        waiting = f.waiting;
        near = λ z. absurd (z refl);
        held = λ z. absurd (z refl);
      }

  module _ (v : Told) where
    -- its rules are not met
    pub went_bad : v.cell ≡ 0 → WentOn x seen work w v (spoilt_way (off_way w)) seen work
    unfolding visited_on
    went_bad e =
        let o = off_fit in
        record {
          is = λ z. absurd (z refl);
          lost = λ z y.
              ap (λ (m : Path). m.walk.good) (when_false _ (failed (path_of seen work (off_way w) y)) (not (eqb v.cell 0)) (rw e refl));
          fit = record { tables = o.tables; light = o.light; waiting = o.waiting; near = o.near; held = o.held };
          last = λ z. absurd (z refl);
        }

    module _ (z : v.cell ≡ 0 → ⊥) {r₁ : Way} {seen₁ work₁ : List ℕ}
        (a : CameIf x seen work (off_way w) v.next v.cell r₁ seen₁ work₁) where
      -- its successors are come to, one behind the other
      both_so : (y : Tally) → visited_on x (path_of seen work (off_way w) y) (visit_in v) ≡ puts_of x (path_of seen₁ work₁ r₁ y) v.aim
          v.cell
      unfolding visited_on
      both_so y =
          when_true _ _ (not (eqb v.cell 0)) (rw (ne_eqb v.cell 0 z) refl)
          ∙ ap (λ (m : Path). puts_of x m v.aim v.cell) (sym (a.is y))

      -- the first may not be come to so
      pub went_first : r₁.fine ≡ 0 → WentOn x seen work w v r₁ seen₁ work₁
      went_first e =
          record {
            is = λ i. absurd (i e);
            lost = λ i y.
                ap (λ (m : Path). m.walk.good) (both_so y) ∙ puts_lost x (path_of seen₁ work₁ r₁ y) v.aim v.cell (rw e refl);
            fit = a.fit;
            last = λ i. absurd (i e);
          }

      module _ {r₂ : Way} {seen₂ work₂ : List ℕ} (b : CameIf x seen₁ work₁ r₁ v.aim v.cell r₂ seen₂ work₂) where
        two_so : (y : Tally) → path_of seen₂ work₂ r₂ y ≡ visited_on x (path_of seen work (off_way w) y) (visit_in v)
        two_so y = b.is y ∙ sym (both_so y)

        -- the second may not
        pub went_second : r₂.fine ≡ 0 → WentOn x seen work w v r₂ seen₂ work₂
        went_second e =
            record {
              is = λ i. absurd (i e);
              lost = λ i y. ap (λ (m : Path). m.walk.good) (sym (two_so y)) ∙ rw e refl;
              fit = b.fit;
              last = λ i. absurd (i e);
            }

        -- both are come to
        pub went_on : {r₃ : Way} → Settled x seen₂ work₂ r₂ r₃ → WentOn x seen work w v r₃ seen₂ work₂
        went_on k =
            record {
              is = λ i y. k.is y ∙ two_so y;
              lost = λ i y. ap (λ (m : Path). m.walk.good) (sym (k.is y ∙ two_so y)) ∙ rw i refl;
              fit = k.fit;
              last = λ i. k.last;
            }

-- a walk that sets out has nothing at hand and nothing in the table
pub out_fit : {x : Scope} {seen work : List ℕ} {start cell : ℕ} → SetOut x seen work start cell → WalkFit x seen work (out_way start)
out_fit {x} {seen} o =
    record {
      tables = o.tables;
      light = let l = blanks_most (blank_of x.within) seen in omega arith;
      waiting = record { each = λ i h. absurd (omega arith) };
      near = λ z. absurd (z refl);
      held = λ z. absurd (z refl);
    }

pub end_so : {a b : Path} (r : Option Walked) (seen : List ℕ) → a ≡ b → EndsWith a r seen → EndsWith b r seen
end_so {a} {b} r seen e k = subst (λ (m : Path). EndsWith m r seen) e k

-- ---- the turns of a walk
module _ (rom : List ℕ) (x : Scope) (kinds sums : List ℕ) where
  -- a path that is not good, or on which nothing waits, is the walk's last
  walk_still : (k : ℕ) (a : Path) → walking a ≡ false → walk_steps rom x kinds sums k a ≡ a
  unfolding walk_steps
  walk_still zero a e = when_false _ _ (walking a) e
  walk_still (suc k) a e = when_false _ _ (walking a) e

  walk_lost : (k : ℕ) (a : Path) → a.walk.good ≡ false → (walk_steps rom x kinds sums k a).walk.good ≡ false
  walk_lost k a e = ap (λ (b : Path). b.walk.good) (walk_still k a (rw e refl)) ∙ e

  walk_spent : (k : ℕ) (a : Path) → k ≡ 0 → walking a ≡ true → (walk_steps rom x kinds sums k a).walk.good ≡ false
  unfolding walk_steps
  walk_spent zero a z e = ap (λ (b : Path). b.walk.good) (when_true (failed a) a (walking a) e)
  walk_spent (suc k) a z e = absurd (omega arith)

  walk_turn : (k : ℕ) (a : Path) → 0 < k → walking a ≡ true
      → walk_steps rom x kinds sums k a ≡ walk_steps rom x kinds sums (k - 1) (walk_step rom x kinds sums a)
  unfolding walk_steps
  walk_turn zero a h e = absurd (omega arith)
  walk_turn (suc k) a h e = let z : suc k - 1 ≡ k = omega arith in rw z (when_true _ _ (walking a) e)

  -- what holds at each turn: what is left of the walk comes to what the whole comes to
  pub record Walks (last : Path) (left : ℕ) (seen work : List ℕ) (w : Way) (y : Tally) : Type 0 where
    pub fit : WalkFit x seen work w
    pub none : w.fine ≢ 0 → w.place ≡ 0 → w.top ≡ 0
    pub going : w.fine ≢ 0 → walk_steps rom x kinds sums left (path_of seen work w y) ≡ last
    pub lost : w.fine ≡ 0 → last.walk.good ≡ false

  -- the way to the first turn
  pub walks_first : {seen work : List ℕ} {w : Way} (y : Tally) → y ≡ no_tally → WalkFit x seen work w
      → (w.fine ≢ 0 → w.place ≡ 0 → w.top ≡ 0)
      → Walks (walk_steps rom x kinds sums rom_most (path_of seen work w no_tally)) rom_most seen work w y
  walks_first {seen} {work} {w} y e f n =
      record {
        fit = f;
        none = n;
        going = λ z. rw e refl;
        lost = λ z. walk_lost rom_most (path_of seen work w no_tally) (rw z refl);
      }

  pub from_so : (start cell : ℕ) {seen₀ work₀ seen work : List ℕ} {w r : Way} → CameTo x seen₀ work₀ (out_way start) start cell w seen work
      → Settled x seen work w r
      → walk_steps rom x kinds sums rom_most (path_of seen work r no_tally) ≡ walk_all rom x kinds sums seen₀ start cell
  unfolding stack_of walk_all
  from_so start cell a k = ap (walk_steps rom x kinds sums rom_most) (k.is no_tally ∙ a.is no_tally)

  module _ {last : Path} {left : ℕ} {seen work : List ℕ} {w : Way} {y : Tally} (k : Walks last left seen work w y) where
    -- ---- the ends of a walk
    -- it is spoilt
    pub walks_lost : w.fine ≡ 0 → last.walk.good ≡ false
    walks_lost z = k.lost z

    module _ (n : w.fine ≢ 0) where
      -- nothing waits
      ended_so : w.place ≡ 0 → path_of seen work w y ≡ last
      unfolding stack_of
      ended_so z = sym (walk_still left (path_of seen work w y) (rw (z, k.none n z, ne_eqb w.fine 0 n) refl)) ∙ k.going n

      pub walks_ended : (r : Walked) → r.far ≡ w.far → tally_in r.tally ≡ y → w.place ≡ 0 → EndsWell last r seen
      walks_ended r f t z =
          let e = ended_so z in
          record {
            good = ap (λ (m : Path). m.walk.good) (sym e) ∙ rw (ne_eqb w.fine 0 n) refl;
            seen = ap (λ (m : Path). m.seen) e;
            far = f ∙ ap (λ (m : Path). m.walk.far) e;
            tally = t ∙ ap (λ (m : Path). m.walk.tally) e;
          }

      module _ (p : w.place ≢ 0) where
        on_way : walking (path_of seen work w y) ≡ true
        on_way = rw (ne_eqb w.fine 0 n, ne_eqb w.place 0 p) refl

        -- there are no turns left
        pub walks_spent : left ≡ 0 → last.walk.good ≡ false
        walks_spent z = ap (λ (m : Path). m.walk.good) (sym (k.going n)) ∙ walk_spent left (path_of seen work w y) z on_way

        -- ---- a turn
        module _ (v : Told) (y' : Tally) (s : SeenBy rom x kinds sums w.place w.cell y (visit_in v) y') where
          -- a cell behind a token is no blank one
          pub behind_real : v.cell ≢ 0 → v.cell ≢ blank_of x.within
          behind_real z e =
              rw (← s.visit) at (visit_real rom x kinds sums w.place w.cell) (rw (ne_eqb v.cell 0 z) refl)
              (rw e (blank_mark x.within))

          abbrev told_so : Tally
          told_so = told_in x.within sums y w.cell (read_of rom x.length x.wide x.within w.place)

          step_so : walk_step rom x kinds sums (path_of seen work w y) ≡ visited_on x (path_of seen work (off_way w) told_so) (visit_in v)
          unfolding walk_step
          step_so = rw (ne_eqb w.place 0 p, ← k.fit.held p, s.visit) refl

          last_so : 0 < left → walk_steps rom x kinds sums (left - 1)
              (visited_on x (path_of seen work (off_way w) told_so) (visit_in v)) ≡ last
          last_so h =
              ap (walk_steps rom x kinds sums (left - 1)) (sym step_so) ∙ sym (walk_turn left (path_of seen work w y) h on_way) ∙ k.going n

          pub walks_turn : 0 < left → {r : Way} {seen' work' : List ℕ} → WentOn x seen work w v r seen' work'
              → Walks last (left - 1) seen' work' r y'
          unfolding visited_on
          walks_turn h {r} {seen'} {work'} g =
              record {
                fit = g.fit;
                none = g.last;
                going = λ z. ap (λ (t : Tally). walk_steps rom x kinds sums (left - 1) (path_of seen' work' r t)) (s.tally (fine_good z))
                    ∙ ap (walk_steps rom x kinds sums (left - 1)) (g.is z told_so) ∙ last_so h;
                lost = λ z.
                    ap (λ (m : Path). m.walk.good) (sym (last_so h))
                    ∙ walk_lost (left - 1) (visited_on x (path_of seen work (off_way w) told_so) (visit_in v)) (g.lost z told_so);
              }
            where
              -- what is fine behind a visit was a good visit
              fine_good : r.fine ≢ 0 → not (eqb v.cell 0) ≡ true
              fine_good z = by (not (eqb v.cell 0)) refl
                where
                  by : (b : Bool) → not (eqb v.cell 0) ≡ b → b ≡ true
                  by true e = refl
                  by false e =
                      let q = ap (λ (m : Path). m.walk.good) (g.is z y ∙ when_false _ _ (not (eqb v.cell 0)) e) in
                      absurd (subst T (rw (ne_eqb r.fine 0 z) at q) tt)
