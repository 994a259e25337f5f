-- What refusals 6, 1, 7 and 4 say of a state that they let pass, taken apart into facts and put together again. Assumes nothing.
use Rattle.std.specs.Prelude.{ℕ, ◌<◌, ◌≤◌, ◌≡◌, refl, Bool, true, false, not, ◌&&◌, length, get_or, T, ltb, leb, eqb}
use Rattle.std.proofs.Common.{arith, ◌∙◌, le→leb, lt→ltb, eq-eqb, le-ltb, lt-ltb, le-leb}
use Rattle.cells.specs.Choice.{pick}
use Rattle.cells.specs.Laws.Tests.{tests, pick_is}
use Rattle.cells.specs.Laws.Facts.{holds, is_true, is_false, both_hold, join_hold, four_hold, join_four, neither, not-not, not_unequal}
use Rattle.rom.specs.Sizes.{first_place, data_most, return_most, frames_most, numbers_most, work_size, store_size, rom_least}
use Rattle.rom.specs.Sizes.{rom_most}
use Rattle.tokens.specs.Table.{is_program}
use Rattle.tree.specs.Whole.{every_below, whole_tree, parent_of}
use Rattle.tree.specs.Laws.Trees.{every_one, every_all}
use Rattle.tree.specs.Laws.Trees.{Whole as WholeTree}
use Rattle.tree.specs.Laws.Trees.{whole_facts as tree_facts}
use Rattle.tree.specs.Laws.Kept.{whole_is as tree_whole}
use Rattle.tree.specs.declared.tree.Tree.{Tree}
use Rattle.state.specs.Numbers.{is_body}
use Rattle.state.specs.Whole.{is_place, heights_whole, next_base, frame_whole, calls_whole, entry_whole, numbers_whole, below_root}
use Rattle.state.specs.Whole.{whole_of}
use Rattle.state.specs.Scene.{Scene, Turn}
use Rattle.state.specs.Run.{then}
use Rattle.state.specs.Laws.Sized.{Sized}
use Rattle.rom.specs.Spread.{fcode_most}
use Rattle.rom.specs.Header.{wrong_rom, wrong_length}
use Rattle.rom.specs.Laws.Spread.{most_most}
use Rattle.state.specs.Step.{wrong_sizes, ready_of}
use Rattle.state.specs.declared.state.State.{State}
use Rattle.state.specs.declared.state.Calls.{Calls}
use Rattle.state.specs.declared.state.Numbers.{Numbers}
use Rattle.state.specs.Answer.{Answer, Going, Finished, Refused}

-- ---- a place
pub record Place (size place : ℕ) : Type 0 where
  pub from : first_place ≤ place
  pub to : place ≤ size

pub place_facts : (size place : ℕ) → T (is_place size place) → Place size place
place_facts size place t =
    let p = both_hold (leb first_place place) (leb place size) t in
    let a = p.0 in
    let b = p.1 in
    record { from = omega (arith, tests); to = omega (arith, tests) }

pub place_whole : (size place : ℕ) → Place size place → T (is_place size place)
place_whole size place p = join_hold (leb first_place place) (leb place size) (le→leb first_place place p.from) (le→leb place size p.to)

-- ---- call frames
pub record Frame (size : ℕ) (calls : Calls) (returns i : ℕ) : Type 0 where
  pub place : Place size (get_or calls.places i 0)
  pub base : get_or calls.bases i 0 ≤ next_base calls returns i

pub record Frames (size : ℕ) (calls : Calls) (returns : ℕ) : Type 0 where
  pub count : calls.count ≤ frames_most
  pub each : (i : ℕ) → i < calls.count → Frame size calls returns i

frame_facts : (size : ℕ) (calls : Calls) (returns i : ℕ) → T (frame_whole size calls returns i) → Frame size calls returns i
frame_facts size calls returns i t =
    let p = both_hold (is_place size (get_or calls.places i 0)) (leb (get_or calls.bases i 0) (next_base calls returns i)) t in
    let b = p.1 in
    record { place = place_facts size (get_or calls.places i 0) p.0; base = omega (arith, tests) }

frame_whole_lem : (size : ℕ) (calls : Calls) (returns i : ℕ) → Frame size calls returns i → T (frame_whole size calls returns i)
frame_whole_lem size calls returns i f =
    join_hold (is_place size (get_or calls.places i 0)) (leb (get_or calls.bases i 0) (next_base calls returns i))
    (place_whole size (get_or calls.places i 0) f.place) (le→leb (get_or calls.bases i 0) (next_base calls returns i) f.base)

pub calls_facts : (size : ℕ) (calls : Calls) (returns : ℕ) → T (calls_whole size calls returns) → Frames size calls returns
unfolding calls_whole
calls_facts size calls returns t =
    let p = both_hold (leb calls.count frames_most) (every_below calls.count (frame_whole size calls returns)) t in
    let a = p.0 in
    record {
      count = omega (arith, tests);
      each = λ i l. frame_facts size calls returns i (every_one calls.count (frame_whole size calls returns) p.1 i l);
    }

pub calls_whole_lem : (size : ℕ) (calls : Calls) (returns : ℕ) → Frames size calls returns → T (calls_whole size calls returns)
unfolding calls_whole
calls_whole_lem size calls returns f =
    join_hold (leb calls.count frames_most) (every_below calls.count (frame_whole size calls returns))
    (le→leb calls.count frames_most f.count)
    (every_all calls.count (frame_whole size calls returns) (λ i l. frame_whole_lem size calls returns i (f.each i l)))

-- ---- program numbers
pub record Entry (size : ℕ) (ns : Numbers) (i : ℕ) : Type 0 where
  pub name : T (is_program (get_or ns.programs i 0))
  pub body : T (is_body ns i) → Place size (get_or ns.values i 0)

pub record Entries (size : ℕ) (ns : Numbers) : Type 0 where
  pub count : ns.count ≤ numbers_most
  pub each : (i : ℕ) → i < ns.count → Entry size ns i

entry_facts : (size : ℕ) (ns : Numbers) (i : ℕ) → T (entry_whole size ns i) → Entry size ns i
entry_facts size ns i t =
    let p = both_hold (is_program (get_or ns.programs i 0)) (pick (is_body ns i) (is_place size (get_or ns.values i 0)) true) t in
    record { name = p.0; body = by (is_body ns i) p.1 }
  where
    by : (b : Bool) → T (pick b (is_place size (get_or ns.values i 0)) true) → T b → Place size (get_or ns.values i 0)
    by true t u = place_facts size (get_or ns.values i 0) t
    by false t u = absurd u

entry_whole_lem : (size : ℕ) (ns : Numbers) (i : ℕ) → Entry size ns i → T (entry_whole size ns i)
entry_whole_lem size ns i e =
    join_hold (is_program (get_or ns.programs i 0)) (pick (is_body ns i) (is_place size (get_or ns.values i 0)) true) e.name
    (pick_is T (is_body ns i) (is_place size (get_or ns.values i 0)) true (λ t. place_whole size (get_or ns.values i 0) (e.body t))
    (λ t. tt))

pub numbers_facts : (size : ℕ) (ns : Numbers) → T (numbers_whole size ns) → Entries size ns
unfolding numbers_whole
numbers_facts size ns t =
    let p = both_hold (leb ns.count numbers_most) (every_below ns.count (entry_whole size ns)) t in
    let a = p.0 in
    record {
      count = omega (arith, tests);
      each = λ i l. entry_facts size ns i (every_one ns.count (entry_whole size ns) p.1 i l);
    }

pub numbers_whole_lem : (size : ℕ) (ns : Numbers) → Entries size ns → T (numbers_whole size ns)
unfolding numbers_whole
numbers_whole_lem size ns e =
    join_hold (leb ns.count numbers_most) (every_below ns.count (entry_whole size ns)) (le→leb ns.count numbers_most e.count)
    (every_all ns.count (entry_whole size ns) (λ i l. entry_whole_lem size ns i (e.each i l)))

-- ---- the active node and the first: each is there and is not the root
below_facts : (nodes node : ℕ) → T (below_root nodes node) → (node < nodes) × (1 ≤ node)
below_facts nodes node t = let (a, b) = both_hold (ltb node nodes) (leb 1 node) t in (omega (arith, tests), omega (arith, tests))

below_whole : (nodes node : ℕ) → node < nodes → 1 ≤ node → T (below_root nodes node)
below_whole nodes node h l = join_hold (ltb node nodes) (leb 1 node) (lt→ltb node nodes h) (le→leb 1 node l)

-- ---- a state; that the root is not active is told apart, since finish-device may come to it
pub record Parts (st : State) : Type 0 where
  pub height : st.stack.height ≤ data_most
  pub returns : st.back.height ≤ return_most
  pub work : st.work_place ≤ work_size
  pub place : Place st.length st.place
  pub calls : Frames st.length st.calls st.back.height
  pub numbers : Entries st.length st.numbers
  pub tree : WholeTree st.tree
  pub first_there : st.first < st.tree.nodes
  pub first_least : 1 ≤ st.first
  pub active_there : st.active < st.tree.nodes

pub whole_facts : (st : State) → whole_of st ≡ true → Parts st × (1 ≤ st.active)
unfolding whole_of
whole_facts st e =
    let calls = calls_whole st.length st.calls st.back.height in
    let numbers = numbers_whole st.length st.numbers in
    let tree = whole_tree st.tree in
    let first = below_root st.tree.nodes st.first in
    let active = below_root st.tree.nodes st.active in
    let p = both_hold (heights_whole st) (calls && (numbers && (tree && (first && active)))) (holds _ e) in
    let q = both_hold calls (numbers && (tree && (first && active))) p.1 in
    let r = both_hold numbers (tree && (first && active)) q.1 in
    let u = both_hold tree (first && active) r.1 in
    let v = both_hold first active u.1 in
    let (a, b, c, d) =
    four_hold (leb st.stack.height data_most) (leb st.back.height return_most) (leb st.work_place work_size)
    (is_place st.length st.place) p.0 in
    let f = below_facts st.tree.nodes st.first v.0 in
    let n = below_facts st.tree.nodes st.active v.1 in (
      record {
        height = omega (arith, tests);
        returns = omega (arith, tests);
        work = omega (arith, tests);
        place = place_facts st.length st.place d;
        calls = calls_facts st.length st.calls st.back.height q.0;
        numbers = numbers_facts st.length st.numbers r.0;
        tree = tree_facts st.tree (is_true tree u.0);
        first_there = f.0;
        first_least = f.1;
        active_there = n.0;
      },
      n.1,
    )

-- with all else in its limits it is the active node that decides
pub whole_is : (st : State) → Parts st → whole_of st ≡ leb 1 st.active
unfolding whole_of
whole_is st w =
    rw (
      is_true (heights_whole st)
          (join_four (leb st.stack.height data_most) (leb st.back.height return_most) (leb st.work_place work_size)
          (is_place st.length st.place)
          (le→leb st.stack.height data_most w.height) (le→leb st.back.height return_most w.returns)
          (le→leb st.work_place work_size w.work)
          (place_whole st.length st.place w.place)),
      is_true (calls_whole st.length st.calls st.back.height) (calls_whole_lem st.length st.calls st.back.height w.calls),
      is_true (numbers_whole st.length st.numbers) (numbers_whole_lem st.length st.numbers w.numbers),
      tree_whole st.tree w.tree,
      is_true (below_root st.tree.nodes st.first) (below_whole st.tree.nodes st.first w.first_there w.first_least),
      lt-ltb st.active st.tree.nodes w.active_there,
    )

pub parts_whole : (st : State) → Parts st → 1 ≤ st.active → whole_of st ≡ true
parts_whole st w h = whole_is st w ∙ le-leb 1 st.active h

-- ---- what stands before a token: all that is asked of it, and whether the state is whole told apart
pub record Lent (s : Scene) : Type 0 where
  pub work : length s.work ≡ work_size
  pub store : length s.store ≡ store_size
  pub rom_from : rom_least ≤ length s.rom
  pub fits : length s.rom ≤ fcode_most s.rom
  pub rom_to : length s.rom ≤ rom_most
  pub least : 9 ≤ s.state.length
  pub most : s.state.length ≤ length s.rom
  pub unfinished : s.state.finished ≡ false

pub not_going : (why : ℕ) → Refused why ≡ Going → ⊥
not_going why e = let z : ◌≡◌ {A = ℕ} 0 1 = cc in omega arith

pub not_finished : Finished ≡ Going → ⊥
not_finished e = let z : ◌≡◌ {A = ℕ} 0 1 = cc in omega arith

-- what was not the answer was not asked
passed : (b : Bool) (x y : Answer) → (x ≡ Going → ⊥) → pick b x y ≡ Going → T (not b) × (y ≡ Going)
passed true x y n e = absurd (n e)
passed false x y n e = (tt, e)

pub ready_facts : (s : Scene) → ready_of s ≡ Going → Lent s × (whole_of s.state ≡ true)
unfolding ready_of
ready_facts s e =
    let p = passed (wrong_sizes s.work s.store) (Refused 6) _ (not_going 6) e in
    let q = passed (wrong_rom s.rom) (Refused 1) _ (not_going 1) p.1 in
    let r = passed (not (whole_of s.state)) (Refused 7) _ (not_going 7) q.1 in
    let v = passed (wrong_length s.rom s.state.length) (Refused 4) _ (not_going 4) r.1 in
    let w = passed s.state.finished Finished Going not_finished v.1 in
    let (a, b) = neither (not (eqb (length s.work) work_size)) (not (eqb (length s.store) store_size)) p.0 in
    let (c, d) = neither (ltb (length s.rom) rom_least) (ltb (fcode_most s.rom) (length s.rom)) q.0 in
    let (f, g) = neither (ltb s.state.length 9) (ltb (length s.rom) s.state.length) v.0 in
    let k : length s.rom ≤ fcode_most s.rom = omega (arith, tests) in
    let m = most_most s.rom in (
      record {
        work = not_unequal (length s.work) work_size a;
        store = not_unequal (length s.store) store_size b;
        rom_from = omega (arith, tests);
        fits = k;
        rom_to = omega arith;
        least = omega (arith, tests);
        most = omega (arith, tests);
        unfinished = is_false s.state.finished w.0;
      },
      is_true (whole_of s.state) (not-not (whole_of s.state) r.0),
    )

-- with all else in order it is the state alone that decides
pub ready_is : (s : Scene) → Lent s → ready_of s ≡ pick (whole_of s.state) Going (Refused 7)
unfolding ready_of
ready_is s l =
    rw (
      eq-eqb (length s.work) work_size l.work,
      eq-eqb (length s.store) store_size l.store,
      le-ltb (length s.rom) rom_least l.rom_from,
      le-ltb (fcode_most s.rom) (length s.rom) l.fits,
      le-ltb s.state.length 9 l.least,
      le-ltb (length s.rom) s.state.length l.most,
    )
    (turned (whole_of s.state) s.state.finished l.unfinished)
  where
    turned : (b f : Bool) → f ≡ false → pick (not b) (Refused 7) (pick f Finished Going) ≡ pick b Going (Refused 7)
    turned true f e = rw e
    turned false f e = refl

pub facts_ready : (s : Scene) → Lent s → whole_of s.state ≡ true → ready_of s ≡ Going
facts_ready s l w = ready_is s l ∙ rw w

-- ---- what a token that is carried out leaves
-- The active node is not older than the first, and no node younger than the first has a parent older than it, as in every state that tokens
-- make of an opened one: a state of which this is not said is whole, but its finish-device may come to the root.
abbrev pub RootedAt : ℕ → ℕ → Tree → Type 0
RootedAt first active t = (first ≤ active) × ((k : ℕ) → first < k → k < t.nodes → first ≤ parent_of t k)

abbrev pub Rooted : State → Type 0
Rooted st = RootedAt st.first st.active st.tree

pub record Kept (s : Scene) (r : Turn) : Type 0 where
  pub lent : Lent (then s r)
  pub parts : Parts r.state
  pub sized : Sized r.state
  pub rooted : Rooted s.state → Rooted r.state
