-- What a walk finds, in any text and with any tables: it is good exactly where each place that it comes to has one cell, meets its token's
-- rules and lies where the text may have a token; then these places have their cells, its tally was told of each of them and of nothing
-- else, and no other place has changed. Assumes nothing.
use Prim.Native.Nat.{ℕ, zero, suc, ◌+◌, ◌-◌, ◌≤◌, ◌<◌, max}
use Rattle.std.specs.Prelude.{◌≡◌, Bool, false, not, ◌&&◌, ◌||◌, List, [], ◌∷◌, ◌≢◌, ◌⊎◌, ltb, eqb, length, get_or, set, Err, Ok, Result}
use Rattle.std.proofs.Math.Path.{refl, subst}
use Rattle.std.proofs.Common.{sym, ap, ◌∙◌, inl, inr, arith, T_not, ltb→lt, leb→le, length-set, get_or-set_same, get_or-set_other}
use Rattle.std.proofs.Math.Bool.{true}
use Rattle.std.proofs.Math.Decide.{dec_lt, ℕ_discrete}
use Rattle.std.proofs.Math.Dec.{T, leb, eqb→eq, nltb→le, nleb→lt}
use Rattle.cells.specs.Laws.Facts.{holds, is_true, is_false, both_hold, neither, not_both, either}
use Rattle.cells.specs.Laws.Tests.{when_is, neqb→ne}
use Rattle.rom.specs.Sizes.{rom_most}
use Rattle.tokens.specs.Place.{read_of}
use Rattle.screen.specs.Effect.{effect_of}
use Rattle.screen.specs.Reach.{In, here, there}
use Rattle.screen.specs.Laws.Found.Model.{Tally}
use Rattle.screen.specs.declared.walking.Text.{Text as Scope}
use Rattle.screen.specs.Laws.Found.Model.{Visit}
use Rattle.screen.specs.Laws.Found.Model.{Path, path, head_in, rest_in, is_some, topped, waiting, walking, no_tally, told_in, set_out}
use Rattle.screen.specs.Laws.Found.Model.{blank_of, sum_at, sound_of, fits_of, token_visit}
use Rattle.screen.specs.Laws.Found.Model.{read_visit, visit_of, put_visit, puts_of, visited_on, walk_step, walk_steps, walk_all}
use Rattle.screen.specs.Laws.Found.Cell.{cell_with}
use Rattle.screen.specs.Laws.Found.Cell.{TokenHeights, mark_in, body_most, cell_mark, mark_none, mark_unmet}
use Rattle.screen.specs.Laws.Code.Codes.{fitting}
use Rattle.tokens.specs.declared.decoding.Token.{Token}

-- ---- tests and lists
-- where some wait, the first does
first_in : (ws : List ℕ) → T (is_some ws) → In (head_in ws) ws
first_in [] t = absurd t
first_in (w ∷ ws) t = here

-- and the rest are one less
rest_less : (ws : List ℕ) → T (is_some ws) → suc (length (rest_in ws)) ≡ length ws
rest_less [] t = absurd t
rest_less (w ∷ ws) t = refl

-- what waits is the first or one of the rest
pub in_parts : {p : ℕ} {ws : List ℕ} → In p ws → (head_in ws ≡ p) ⊎ In p (rest_in ws)
in_parts here = inl refl
in_parts (there i) = inr i

-- and the rest wait
rest_in_lem : {p : ℕ} (ws : List ℕ) → In p (rest_in ws) → In p ws
rest_in_lem [] i = i
rest_in_lem (w ∷ ws) i = there i

-- where one waits, some do
some_in : {p : ℕ} {ws : List ℕ} → In p ws → T (is_some ws)
some_in here = tt
some_in (there i) = tt

-- what holds of an entry after a store
pub at_set : (P : ℕ → Type 0) (m : List ℕ) (q v r : ℕ) → q < length m → (r ≡ q → P v) → (r ≢ q → P (get_or m r 0))
    → P (get_or (set m q v) r 0)
at_set P m q v r l same other = go (ℕ_discrete r q)
  where
    go : Dec (r ≡ q) → P (get_or (set m q v) r 0)
    go (yes e) = rw (e, get_or-set_same) (same e)
    go (no n) = rw get_or-set_other (other n)

-- 1 for b, 0 for any other
abbrev pub same : ℕ → ℕ → ℕ
same b y = 1 - ((y - b) + (b - y))

-- how many entries are b
unfoldable pub blanks : ℕ → List ℕ → ℕ
blanks b [] = 0
blanks b (y ∷ ys) = same b y + blanks b ys

-- there are no more of them than entries
pub blanks_most : (b : ℕ) (m : List ℕ) → blanks b m ≤ length m
unfolding blanks
blanks_most b [] = omega arith
blanks_most b (y ∷ ys) = omega (arith, blanks_most b ys)

-- an entry counts one where it is b, and none where it is not
same_one : (b y : ℕ) → y ≡ b → same b y ≡ 1
same_one b y e = omega arith

same_none : (b y : ℕ) → y ≢ b → same b y ≡ 0
same_none b y n = omega arith

-- one less, where one of them becomes another
pub blanks_set : (b : ℕ) (m : List ℕ) (q v : ℕ) → q < length m → get_or m q 0 ≡ b → v ≢ b → suc (blanks b (set m q v)) ≡ blanks b m
unfolding blanks
blanks_set b [] q v l e n = absurd (omega arith)
blanks_set b (y ∷ ys) zero v l e n = rw (same_one b y e, same_none b v n) (omega arith)
blanks_set b (y ∷ ys) (suc q) v l e n = rw (← blanks_set b ys q v (omega arith) e n) (omega arith)

-- ---- a good visit's cell is a height's: neither 0 nor that of a token start not met
-- a height's cell has a mark, by which it is known
cell_real : (h : TokenHeights) → h.height ≤ body_most → mark_in (cell_with h) ≢ 0
cell_real h l z = let m = cell_mark h (omega arith) in omega arith

-- so has the cell of a good visit, by what was read
read_real : (x : Scope) (kinds sums : List ℕ) (cell : ℕ) (r : Result Token ℕ) → (read_visit x kinds sums cell r).good ≡ true
    → mark_in (read_visit x kinds sums cell r).cell ≢ 0
unfolding token_visit
read_real x kinds sums cell (Err why) g = absurd (holds false g)
read_real x kinds sums cell (Ok t) g =
    when_is (λ (v : Visit). v.good ≡ true → mark_in v.cell ≢ 0)
    (sound_of x kinds t cell && fits_of x.within (effect_of (sum_at sums) t) cell) _ _
    (λ h i.
    let f = (both_hold (sound_of x kinds t cell) (fits_of x.within (effect_of (sum_at sums) t) cell) h).1 in
    cell_real _ (fitting x.within (effect_of (sum_at sums) t) cell (is_true (fits_of x.within (effect_of (sum_at sums) t) cell) f)).most)
    (λ h i. absurd (holds false i)) g

-- and by its place
pub visit_real : (rom : List ℕ) (x : Scope) (kinds sums : List ℕ) (p c : ℕ) → (visit_of rom x kinds sums p c).good ≡ true
    → mark_in (visit_of rom x kinds sums p c).cell ≢ 0
unfolding visit_of
visit_real rom x kinds sums p c = read_real x kinds sums c (read_of rom x.length x.wide x.within p)

-- a blank cell has none
pub blank_mark : (within : Bool) → mark_in (blank_of within) ≡ 0
blank_mark true = mark_unmet
blank_mark false = mark_none

-- ---- the walk
abbrev Bad : Path → Type 0
Bad a = a.walk.good ≡ false

-- a put on a path that is refused
put_lost : (x : Scope) (a : Path) (q c : ℕ) → Bad a → Bad (put_visit x a q c)
unfolding put_visit
put_lost x a q c e =
    when_is Bad (ltb q x.low || leb x.length q) _ _ (λ s. refl)
    (λ s.
    when_is Bad (eqb (get_or a.seen q 0) (blank_of x.within)) _ _ (λ t. e)
    (λ t. when_is Bad (eqb (get_or a.seen q 0) c) _ _ (λ u. e) (λ u. refl)))

-- and at a place that may be none
pub puts_lost : (x : Scope) (a : Path) (q c : ℕ) → a.walk.good ≡ false → (puts_of x a q c).walk.good ≡ false
unfolding puts_of
puts_lost x a q c e = when_is Bad (eqb q 0) _ _ (λ s. e) (λ s. put_lost x a q c e)

-- a successor that a visit names
pub data Way (v : Visit) (q : ℕ) : Type 0 where
  by_next : v.next ≡ q → q ≢ 0 → Way v q
  by_aim : v.aim ≡ q → q ≢ 0 → Way v q

module _ (rom : List ℕ) (x : Scope) (kinds sums : List ℕ) (start cell₀ : ℕ) where
  -- the cells that a walk from the start can bring to a place
  pub data At : ℕ → ℕ → Type 0 where
    begins : At start cell₀
    on : {p c q : ℕ} → At p c → (visit_of rom x kinds sums p c).good ≡ true → Way (visit_of rom x kinds sums p c) q
        → At q (visit_of rom x kinds sums p c).cell

  -- why a walk is refused: a token's rules are not met, two cells come to one place, or a place is come to where the text has no token
  pub data Fails (seen₀ : List ℕ) : Type 0 where
    unfit : {p c : ℕ} → At p c → (visit_of rom x kinds sums p c).good ≡ false → Fails seen₀
    clash : {p c d : ℕ} → At p c → At p d → c ≢ d → Fails seen₀
    before : {p c : ℕ} → At p c → p < x.low → Fails seen₀
    behind : {p c : ℕ} → At p c → x.length ≤ p → Fails seen₀
    barred : {p c : ℕ} → At p c → get_or seen₀ p 0 ≢ blank_of x.within → Fails seen₀

  -- a tally that was told of places, the last first, each with a cell that a walk can bring to it
  pub data Told : List ℕ → Tally → Type 0 where
    untold : Told [] no_tally
    telling : {ps : List ℕ} {y : Tally} {p c : ℕ} → Told ps y → At p c
        → Told (p ∷ ps) (told_in x.within sums y c (read_of rom x.length x.wide x.within p))

  -- what a walk leaves, and where it was
  pub record Walked (seen₀ : List ℕ) (a : Path) : Type 0 where
    pub marked : {p c : ℕ} → At p c → get_or a.seen p 0 ≡ c
    pub kept : (p : ℕ) → (get_or a.seen p 0 ≡ get_or seen₀ p 0) ⊎ At p (get_or a.seen p 0)
    pub old : (p : ℕ) → ((c : ℕ) → At p c → ⊥) → get_or a.seen p 0 ≡ get_or seen₀ p 0
    pub fine : {p c : ℕ} → At p c → (visit_of rom x kinds sums p c).good ≡ true
    pub inside : {p c : ℕ} → At p c
        → (x.low ≤ p) × (p < x.length) × (p ≤ a.walk.far) × (get_or seen₀ p 0 ≡ blank_of x.within)
    pub highest : (c : ℕ) × At a.walk.far c
    pub size : length a.seen ≡ length seen₀
    -- the places that its tally was told of: all that it can come to
    pub past : List ℕ
    pub told : Told past a.walk.tally
    pub every : {p c : ℕ} → At p c → In p past

  -- what a walk asks: the text has room, there are turns enough, and above its low end its cells are blank or 0
  pub record Given (seen₀ : List ℕ) : Type 0 where
    pub room : x.length ≤ length seen₀
    pub few : length seen₀ ≤ rom_most
    pub unlike : cell₀ ≢ blank_of x.within
    pub some : cell₀ ≢ 0
    pub fresh : (p : ℕ) → x.low ≤ p → p < x.length → get_or seen₀ p 0 ≢ blank_of x.within → get_or seen₀ p 0 ≡ 0

  -- ---- what holds of a path
  -- a place that was put, with its cell
  record Put (seen₀ seen : List ℕ) (far p c : ℕ) : Type 0 where
    is : get_or seen p 0 ≡ c
    at : At p c
    above : x.low ≤ p
    inside : p < x.length
    under : p ≤ far
    fresh : get_or seen₀ p 0 ≡ blank_of x.within

  -- a place that is to be visited
  abbrev Waits : Path → ℕ → Type 0
  Waits a p = In p a.waits

  module _ (seen₀ : List ℕ) where
    -- a place that a path has put, with its cell
    abbrev PutIn : Path → ℕ → ℕ → Type 0
    PutIn a p c = Put seen₀ a.seen a.walk.far p c

    -- a place whose visit is done, and of which the tally was told
    record Closed (past : List ℕ) (a : Path) (p c : ℕ) : Type 0 where
      fine : (visit_of rom x kinds sums p c).good ≡ true
      out : (q : ℕ) → Way (visit_of rom x kinds sums p c) q → PutIn a q (visit_of rom x kinds sums p c).cell
      told : In p past

    -- every cell is an old one or was put, and what waits was put
    record Base (a : Path) : Type 0 where
      good : a.walk.good ≡ true
      size : length a.seen ≡ length seen₀
      each : (p : ℕ) → (get_or a.seen p 0 ≡ get_or seen₀ p 0) ⊎ PutIn a p (get_or a.seen p 0)
      queue : {p : ℕ} → Waits a p → (c : ℕ) × PutIn a p c

    -- the highest place was put
    abbrev Peak : Path → Type 0
    Peak a = (c : ℕ) × PutIn a a.walk.far c

    -- what holds at each step: every place that was put waits or is closed
    record Inv (a : Path) : Type 0 where
      ok : Base a
      base : PutIn a start cell₀
      far : Peak a
      past : List ℕ
      told : Told past a.walk.tally
      shut : {p c : ℕ} → PutIn a p c → Waits a p ⊎ Closed past a p c

    -- how many places wait, and how many more can: no step makes more of them
    abbrev load : Path → ℕ
    load a = blanks (blank_of x.within) a.seen + length a.waits

    -- a' has what a has, and more that waits
    record Grow (a a' : Path) : Type 0 where
      keep : {p c : ℕ} → PutIn a p c → PutIn a' p c
      stay : {p : ℕ} → Waits a p → Waits a' p
      back : {p c : ℕ} → PutIn a' p c → PutIn a p c ⊎ Waits a' p
      peak : (a'.walk.far ≡ a.walk.far) ⊎ Peak a'
      tally : a'.walk.tally ≡ a.walk.tally
      light : load a' ≤ load a

    -- what a put leaves, and where R holds, its place put
    record Came (R : Type 0) (a : Path) (q c : ℕ) (a' : Path) : Type 0 where
      ok : Base a'
      grow : Grow a a'
      has : R → PutIn a' q c

    -- a step leaves k to go
    record Stepped (k : ℕ) (a : Path) : Type 0 where
      inv : Inv a
      fuel : load a ≤ k

    -- nothing waits
    record Ended (a : Path) : Type 0 where
      inv : Inv a
      none : T (not (is_some a.waits))

    -- a path is as wanted, or the walk is refused with its reason
    data Is (Q : Path → Type 0) (a : Path) : Type 0 where
      went : Q a → Is Q a
      lost : Bad a → Fails seen₀ → Is Q a

    -- what comes behind a path: what is refused stays so
    and_then : {Q R : Path → Type 0} {a b : Path} → (Q a → Is R b) → (Bad a → Bad b) → Is Q a → Is R b
    and_then f g (went u) = f u
    and_then f g (lost e w) = lost (g e) w

    -- a path has what it has
    same_grow : (a : Path) → Grow a a
    same_grow a = record { keep = λ u. u; stay = λ w. w; back = λ u. inl u; peak = inl refl; tally = refl; light = omega arith }

    -- the highest place stays, or is a new one
    grow_far : {a b : Path} → Grow a b → Peak a → Peak b
    grow_far {a} {b} w u =
        elim w.peak [
          | inl e ↦ (u.0, subst (λ (n : ℕ). Put seen₀ b.seen b.walk.far n u.0) (sym e) (w.keep u.1))
          | inr v ↦ v
        ]

    -- one after another
    grow_on : {a b c : Path} → Grow a b → Grow b c → Grow a c
    grow_on {a} {b} {c} u v = record {
      keep = λ y. v.keep (u.keep y);
      stay = λ y. v.stay (u.stay y);
      back = λ y. elim (v.back y) [ inl z ↦ elim (u.back z) [ inl w ↦ inl w | inr w ↦ inr (v.stay w) ] | inr z ↦ inr z ];
      peak = elim u.peak [ inl y ↦ elim v.peak [ inl z ↦ inl (z ∙ y) | inr z ↦ inr z ] | inr y ↦ inr (grow_far v y) ];
      tally = v.tally ∙ u.tally;
      light = omega (arith, u.light, v.light);
    }

  -- ---- a place is come to
  module _ {seen₀ : List ℕ} (given : Given seen₀) where
    -- a cell that is brought is neither 0 nor blank
    pub at_real : {p c : ℕ} → At p c → (c ≢ 0) × (c ≢ blank_of x.within)
    at_real begins = (given.some, given.unlike)
    at_real (on {p} {c} a g w) =
        let n = visit_real rom x kinds sums p c g in
        (λ z. n (rw z mark_none), λ z. n (rw z (blank_mark x.within)))

    -- where it is blank: it has the cell, and waits
    module _ {a : Path} {q c : ℕ} (b : Base seen₀ a) (y : At q c) (l : x.low ≤ q) (h : q < x.length)
        (z : get_or a.seen q 0 ≡ blank_of x.within) where
      -- the path behind it
      abbrev new_path : Path
      new_path =
          path (set a.seen q c) (q ∷ a.waits)
          (record { good = a.walk.good; far = max a.walk.far q; tally = a.walk.tally })

      -- there is room
      in_seen : q < length a.seen
      in_seen = omega (arith, given.room, b.size)

      -- what was put stays
      new_keep : {r d : ℕ} → PutIn seen₀ a r d → PutIn seen₀ new_path r d
      new_keep {r} {d} u = record {
        is =
            at_set (λ n. n ≡ d) a.seen q c r in_seen
            (λ s. absurd ((at_real u.at).1 (sym u.is ∙ ap (λ (n : ℕ). get_or a.seen n 0) s ∙ z))) (λ s. u.is);
        at = u.at;
        above = u.above;
        inside = u.inside;
        under = omega (arith, u.under);
        fresh = u.fresh;
      }

      -- the new place is put
      new_has : PutIn seen₀ new_path q c
      new_has = record {
        is = get_or-set_same a.seen q c 0 in_seen;
        at = y;
        above = l;
        inside = h;
        under = omega arith;
        fresh = elim (b.each q) [ inl e ↦ sym e ∙ z | inr u ↦ u.fresh ];
      }

      -- every cell is still an old one or was put
      new_base : Base seen₀ new_path
      new_base = record {
        good = b.good;
        size = length-set a.seen q c ∙ b.size;
        each = λ r.
            at_set (λ n. (n ≡ get_or seen₀ r 0) ⊎ PutIn seen₀ new_path r n) a.seen q c r in_seen (λ s. inr (rw s new_has))
            (λ s. elim (b.each r) [ inl e ↦ inl e | inr u ↦ inr (new_keep u) ]);
        queue = λ i.
            elim (in_parts i) [
              | inl e ↦ (c, subst (λ (n : ℕ). PutIn seen₀ new_path n c) e new_has)
              | inr j ↦ let u = b.queue j in (u.0, new_keep u.1)
            ];
      }

      -- of what is put, only the new place was not
      new_back : {r d : ℕ} → PutIn seen₀ new_path r d → PutIn seen₀ a r d ⊎ Waits new_path r
      new_back {r} {d} u =
          elim (ℕ_discrete r q) [
            | yes e ↦ inr (rw e here)
            | no n ↦
                let was : get_or a.seen r 0 ≡ d = sym (get_or-set_other a.seen q r c 0 n) ∙ u.is in
                elim (b.each r) [
                  | inl e ↦ absurd ((at_real u.at).1 (sym was ∙ e ∙ u.fresh))
                  | inr v ↦ inl (subst (λ (k : ℕ). PutIn seen₀ a r k) was v)
                ]
          ]

      -- the new place is all that is more
      new_grow : Grow seen₀ a new_path
      new_grow = record {
        keep = new_keep;
        stay = λ w. there w;
        back = new_back;
        peak =
            elim (dec_lt a.walk.far q) [
              | yes n ↦
                  let e : q ≡ max a.walk.far q = omega arith in
                  inr (c, subst (λ (n : ℕ). Put seen₀ (set a.seen q c) (max a.walk.far q) n c) e new_has)
              | no n ↦ inl (omega arith)
            ];
        tally = refl;
        light = omega (arith, blanks_set (blank_of x.within) a.seen q c in_seen z (at_real y).1);
      }

    -- where it has this cell: the walk has put it, since the cell is not 0
    had : {a : Path} {q c : ℕ} → Base seen₀ a → At q c → x.low ≤ q → q < x.length → get_or a.seen q 0 ≢ blank_of x.within
        → get_or a.seen q 0 ≡ c → PutIn seen₀ a q c
    had {a} {q} {c} b y l h n e =
        elim (b.each q) [
          | inl s ↦ absurd ((at_real y).0 (sym e ∙ s ∙ given.fresh q l h (λ z. n (s ∙ z))))
          | inr u ↦ subst (λ (k : ℕ). PutIn seen₀ a q k) e u
        ]

    -- where it has another
    differ : {a : Path} {q c : ℕ} → Base seen₀ a → At q c → get_or a.seen q 0 ≢ blank_of x.within → get_or a.seen q 0 ≢ c → Fails seen₀
    differ {a} {q} {c} b y n e = elim (b.each q) [ inl s ↦ barred y (λ z. n (s ∙ z)) | inr u ↦ clash u.at y e ]

    -- what comes of a put
    put_is : (R : Type 0) {a : Path} {q c : ℕ} → Base seen₀ a → At q c → Is seen₀ (Came seen₀ R a q c) (put_visit x a q c)
    unfolding put_visit
    put_is R {a} {q} {c} b y =
        when_is (Is seen₀ (Came seen₀ R a q c)) (ltb q x.low || leb x.length q) _ _
        (λ s.
        either (ltb q x.low) (leb x.length q) _ s (λ l. lost refl (before y (ltb→lt q x.low l)))
        (λ l. lost refl (behind y (leb→le x.length q l))))
        (λ s.
        let n = neither (ltb q x.low) (leb x.length q) s in
        let l = nltb→le q x.low n.0 in
        let h = nleb→lt x.length q n.1 in
        when_is (Is seen₀ (Came seen₀ R a q c)) (eqb (get_or a.seen q 0) (blank_of x.within)) _ _
        (λ e.
        let z = eqb→eq (get_or a.seen q 0) (blank_of x.within) e in
        went (record { ok = new_base b y l h z; grow = new_grow b y l h z; has = λ r. new_has b y l h z }))
        (λ e.
        let z = neqb→ne (get_or a.seen q 0) (blank_of x.within) e in
        when_is (Is seen₀ (Came seen₀ R a q c)) (eqb (get_or a.seen q 0) c) _ _
        (λ f. went (record { ok = b; grow = same_grow seen₀ a; has = λ r. had b y l h z (eqb→eq (get_or a.seen q 0) c f) }))
        (λ f. lost refl (differ b y z (neqb→ne (get_or a.seen q 0) c f)))))

    -- and of one at a place that may be none
    puts_is : {a : Path} {q c : ℕ} → Base seen₀ a → (q ≢ 0 → At q c) → Is seen₀ (Came seen₀ (q ≢ 0) a q c) (puts_of x a q c)
    unfolding puts_of
    puts_is {a} {q} {c} b y =
        when_is (Is seen₀ (Came seen₀ (q ≢ 0) a q c)) (eqb q 0) _ _
        (λ e. went (record { ok = b; grow = same_grow seen₀ a; has = λ n. absurd (n (eqb→eq q 0 e)) }))
        (λ e. put_is (q ≢ 0) b (y (neqb→ne q 0 e)))

    -- ---- a step
    module _ {a : Path} (i : Inv seen₀ a) (l : T (is_some a.waits)) where
      -- the cell of the place that is visited
      abbrev held : ℕ
      held = get_or a.seen (waiting a) 0

      -- its visit
      abbrev visited : Visit
      visited = visit_of rom x kinds sums (waiting a) held

      -- the path without it
      abbrev taken : Path
      taken = topped rom x sums a

      -- the path with the next place put
      abbrev halfway : Path
      halfway = puts_of x taken visited.next visited.cell

      -- that place was put
      here_put : PutIn seen₀ a (waiting a) held
      here_put =
          let u = i.ok.queue (first_in a.waits l) in
          subst (λ (n : ℕ). PutIn seen₀ a (waiting a) n) (sym u.1.is) u.1

      -- without it the rest waits as before
      top_base : Base seen₀ taken
      top_base = record {
        good = i.ok.good;
        size = i.ok.size;
        each = i.ok.each;
        queue = λ j. i.ok.queue (rest_in_lem a.waits j);
      }

      -- the places that the tally was told of then
      abbrev past : List ℕ
      past = waiting a ∷ i.past

      module _ {a' : Path} (g : visited.good ≡ true) (w : Grow seen₀ taken a')
          (o : (q : ℕ) → Way visited q → PutIn seen₀ a' q visited.cell) where
        -- what waited: the place that was visited is closed, any other waits
        waited_shut : {p c : ℕ} → PutIn seen₀ a p c → Waits a p → Waits a' p ⊎ Closed seen₀ past a' p c
        waited_shut {p} {c} y k =
            elim (in_parts k) [
              | inl place ↦
                  let cell : held ≡ c = ap (λ (n : ℕ). get_or a.seen n 0) place ∙ y.is in
                  inr
                  (subst (λ (n : ℕ). Closed seen₀ past a' n c) place
                  (subst (λ (n : ℕ). Closed seen₀ past a' (waiting a) n) cell (record { fine = g; out = o; told = here })))
              | inr j ↦ inl (w.stay j)
            ]

        -- so that every place that was put waits or is closed
        step_shut : {p c : ℕ} → PutIn seen₀ a' p c → Waits a' p ⊎ Closed seen₀ past a' p c
        step_shut u =
            elim (w.back u) [
              | inl y ↦
                  elim (i.shut y) [
                    | inl k ↦ waited_shut y k
                    | inr k ↦ inr (record { fine = k.fine; out = λ q z. w.keep (k.out q z); told = there k.told })
                  ]
              | inr y ↦ inl y
            ]

      -- the successors are put
      out_put : {a₁ a₂ : Path} → Grow seen₀ a₁ a₂ → (visited.next ≢ 0 → PutIn seen₀ a₁ visited.next visited.cell)
          → (visited.aim ≢ 0 → PutIn seen₀ a₂ visited.aim visited.cell) → (q : ℕ) → Way visited q → PutIn seen₀ a₂ q visited.cell
      out_put {a₁} {a₂} w u v q (by_next e z) = subst (λ (r : ℕ). PutIn seen₀ a₂ r visited.cell) e (w.keep (u (λ y. z (sym e ∙ y))))
      out_put {a₁} {a₂} w u v q (by_aim e z) = subst (λ (r : ℕ). PutIn seen₀ a₂ r visited.cell) e (v (λ y. z (sym e ∙ y)))

      -- what comes of a visit
      onward_is : (k : ℕ) → load seen₀ a ≤ suc k → Is seen₀ (Stepped seen₀ k) (visited_on x taken visited)
      unfolding visited_on
      onward_is k m =
          when_is (Is seen₀ (Stepped seen₀ k)) visited.good _ _ (λ t. good (is_true visited.good t))
          (λ t. lost refl (unfit here_put.at (is_false visited.good t)))
        where
          second : {a₁ a₂ : Path} → visited.good ≡ true → Came seen₀ (visited.next ≢ 0) taken visited.next visited.cell a₁
              → Came seen₀ (visited.aim ≢ 0) a₁ visited.aim visited.cell a₂ → Stepped seen₀ k a₂
          second g u v =
              let w = grow_on seen₀ u.grow v.grow in
              record {
                inv = record {
                  ok = v.ok;
                  base = w.keep i.base;
                  far = grow_far seen₀ w i.far;
                  past = past;
                  told = subst (Told past) (sym w.tally) (telling i.told here_put.at);
                  shut = step_shut g w (out_put v.grow u.has v.has);
                };
                fuel = omega (arith, w.light, rest_less a.waits l);
              }

          good : visited.good ≡ true
              → Is seen₀ (Stepped seen₀ k) (puts_of x halfway visited.aim visited.cell)
          good g =
              and_then seen₀
              (λ u.
              and_then seen₀ (λ v. went (second g u v)) (λ e. e)
              (puts_is u.ok (λ z. on here_put.at g (by_aim refl z))))
              (puts_lost x halfway visited.aim visited.cell) (puts_is top_base (λ z. on here_put.at g (by_next refl z)))

      -- and of a step
      step_is : (k : ℕ) → load seen₀ a ≤ suc k → Is seen₀ (Stepped seen₀ k) (walk_step rom x kinds sums a)
      unfolding walk_step
      step_is k m = onward_is k m

    -- ---- all steps
    walk_lost : (k : ℕ) (a : Path) → Bad a → Bad (walk_steps rom x kinds sums k a)
    unfolding walk_steps
    walk_lost zero a e = when_is Bad (walking a) _ _ (λ t. refl) (λ t. e)
    walk_lost (suc k) a e =
        when_is Bad (walking a) _ _ (λ t. absurd (subst T e (both_hold a.walk.good (is_some a.waits) t).0)) (λ t. e)

    -- a walk ends where nothing waits
    none_waits : {a : Path} → Inv seen₀ a → T (not (walking a)) → Is seen₀ (Ended seen₀) a
    none_waits {a} i t =
        went (record { inv = i; none = not_both a.walk.good (is_some a.waits) (holds a.walk.good i.ok.good) t })

    -- as many turns as places wait or can are enough
    walk_is : (k : ℕ) (a : Path) → Inv seen₀ a → load seen₀ a ≤ k → Is seen₀ (Ended seen₀) (walk_steps rom x kinds sums k a)
    unfolding walk_steps
    walk_is zero a i m =
        when_is (Is seen₀ (Ended seen₀)) (walking a) _ _
        (λ t. absurd (omega (arith, rest_less a.waits (both_hold a.walk.good (is_some a.waits) t).1))) (λ t. none_waits i t)
    walk_is (suc k) a i m =
        when_is (Is seen₀ (Ended seen₀)) (walking a) _ _
        (λ t.
        and_then seen₀ (λ s. walk_is k (walk_step rom x kinds sums a) s.inv s.fuel) (walk_lost k (walk_step rom x kinds sums a))
        (step_is i (both_hold a.walk.good (is_some a.waits) t).1 k m))
        (λ t. none_waits i t)

    -- ---- the whole walk
    abbrev first : Path
    first = path seen₀ [] (set_out start)

    -- nothing is put, and all cells are old
    first_base : Base seen₀ first
    first_base = record {
      good = refl;
      size = refl;
      each = λ p. inl refl;
      queue = λ j. absurd (some_in j);
    }

    -- with the start put, it waits
    first_inv : {a : Path} → Came seen₀ Unit first start cell₀ a → Inv seen₀ a
    first_inv {a} v = record {
      ok = v.ok;
      base = v.has tt;
      far = elim v.grow.peak [
        | inl e ↦ (cell₀, subst (λ (n : ℕ). Put seen₀ a.seen a.walk.far n cell₀) (sym e) (v.has tt))
        | inr
            y ↦ y
      ];
      past = [];
      told = subst (Told []) (sym v.grow.tally) untold;
      shut = λ u. elim (v.grow.back u) [ inl y ↦ absurd ((at_real y.at).1 (sym y.is ∙ y.fresh)) | inr y ↦ inl y ];
    }

    -- what comes of the steps from there
    first_is : (a : Path) → Is seen₀ (Came seen₀ Unit first start cell₀) a → Is seen₀ (Ended seen₀) (walk_steps rom x kinds sums rom_most a)
    first_is a =
        and_then seen₀
        (λ v. walk_is rom_most a (first_inv v) (omega (arith, v.grow.light, blanks_most (blank_of x.within) seen₀, given.few)))
        (walk_lost rom_most a)

    -- and of the whole walk
    from_is : Is seen₀ (Ended seen₀) (walk_all rom x kinds sums seen₀ start cell₀)
    unfolding walk_all
    from_is = first_is (put_visit x first start cell₀) (put_is Unit first_base begins)

    module _ {a : Path} (v : Ended seen₀ a) where
      -- nothing waits
      all_closed : {p c : ℕ} → PutIn seen₀ a p c → Closed seen₀ v.inv.past a p c
      all_closed u = elim (v.inv.shut u) [ inl k ↦ absurd (T_not (is_some a.waits) v.none (some_in k)) | inr k ↦ k ]

      -- what a walk can bring was put
      all_put : {p c : ℕ} → At p c → PutIn seen₀ a p c
      all_put begins = v.inv.base
      all_put (on {q = q} y g w) = (all_closed (all_put y)).out q w

      -- so that the walk leaves what was said
      all_walked : Walked seen₀ a
      all_walked = record {
        marked = λ y. (all_put y).is;
        kept = λ p. elim (v.inv.ok.each p) [ inl e ↦ inl e | inr u ↦ inr u.at ];
        old = λ p n. elim (v.inv.ok.each p) [ inl e ↦ e | inr u ↦ absurd (n _ u.at) ];
        fine = λ y. (all_closed (all_put y)).fine;
        inside = λ y. let u = all_put y in (u.above, u.inside, u.under, u.fresh);
        highest = (v.inv.far.0, v.inv.far.1.at);
        size = v.inv.ok.size;
        past = v.inv.past;
        told = v.inv.told;
        every = λ y. (all_closed (all_put y)).told;
      }

    -- a walk that is good has come to every place that it can come to
    pub walk_good : (walk_all rom x kinds sums seen₀ start cell₀).walk.good ≡ true
        → Walked seen₀ (walk_all rom x kinds sums seen₀ start cell₀)
    walk_good g = elim from_is [ went v ↦ all_walked v | lost e f ↦ absurd (subst T (sym g ∙ e) tt) ]

    -- a walk that is not good has a reason
    pub walk_bad : (walk_all rom x kinds sums seen₀ start cell₀).walk.good ≡ false → Fails seen₀
    walk_bad g = elim from_is [ went v ↦ absurd (subst T (sym v.inv.ok.good ∙ g) tt) | lost e f ↦ f ]

  -- above the highest place, and below the text, no cell has changed
  pub walked_above : {seen₀ : List ℕ} {a : Path} → Walked seen₀ a → (p : ℕ) → a.walk.far < p → get_or a.seen p 0 ≡ get_or seen₀ p 0
  walked_above w p l = w.old p (λ c y. omega (arith, (w.inside y).2))

  pub walked_below : {seen₀ : List ℕ} {a : Path} → Walked seen₀ a → (p : ℕ) → p < x.low → get_or a.seen p 0 ≡ get_or seen₀ p 0
  walked_below w p l = w.old p (λ c y. omega (arith, (w.inside y).0))
