-- "Bytes past the length are ignored": a step and a run are the same with two ROMs whose bytes are the same below the state's length.
-- What a token takes of the ROM is its own bytes, those of a body, and what the ROM's window shows, all of it before that length.
-- Assumes nothing.
use Rattle.std.specs.Prelude.{ℕ, zero, suc, ◌+◌, ◌-◌, ◌≤◌, min, ◌≡◌, Bool, ◌||◌, length, replicate, eqb, Err, Ok, Result}
use Rattle.std.proofs.Common.{arith, sym, ◌∙◌, subst}
use Rattle.std.proofs.Math.Path.{refl, ap}
use Rattle.std.proofs.Math.Bool.{true, false, not}
use mathlib.Core.List.{List, [], ◌∷◌, ◌++◌}
use borrow.Author.Tests.{le-ltb, eqb-true}
use Rattle.cells.specs.Choice.{pick}
use Rattle.cells.specs.Laws.Tests.{when_is}
use Rattle.cells.specs.Laws.Facts.{when_true, when_false}
use Rattle.rom.specs.Sizes.{rom_least, first_place, work_size, store_size}
use Rattle.rom.specs.Spread.{fcode_most}
use Rattle.rom.specs.Bytes.{byte_of, word32_of}
use Rattle.rom.specs.Alike.{AlikeTo}
use Rattle.rom.specs.Laws.Past.{SameFrom, same_all, same_part}
use Rattle.tokens.specs.Place.{read_of}
use Rattle.tokens.specs.Laws.Tokens.{find_is}
use Rattle.tokens.specs.Laws.Past.{SameTokens, SamePrograms, tokens_below, same_read, same_body}
use Rattle.tokens.specs.Code.{family_in}
use Rattle.tokens.specs.Family.{fetch, store as storing, encode_string, property, titled}
use Rattle.tokens.specs.Definition.{colon, kind_in, of_kind, value, variable}
use Rattle.tokens.specs.declared.decoding.Token.{Token}
use Rattle.memory.specs.Window.{rom_base, held_by, range_of, bad_string, resolve_of}
use Rattle.memory.specs.Laws.Memory.{window_is}
use Rattle.memory.specs.Cells.{outside_work}
use Rattle.tree.specs.Node.{fresh_tree}
use Rattle.tree.specs.Property.{value_of, bad_name}
use Rattle.state.specs.State.{is_open, moved_to}
use Rattle.state.specs.Numbers.{seek_of, is_body, kinds_of}
use Rattle.state.specs.Scene.{Scene, scene, Turn, turn, refuse, goes, cell_of}
use Rattle.state.specs.Refusals.{asked, undefined, taken, body_here, why_stopped, body_refusal, low, goes_astray, back_wrong, high}
use Rattle.state.specs.Refusals.{
  too_many_frames,
  no_node,
  zero_divisor,
  is_cell,
  cell_size,
  bad,
  bad_text,
  no_window,
  not_aligned,
  exhausted,
  apart,
}
use Rattle.state.specs.Refusals.{title_of, named_here, value_here, titled_here, misnamed, no_room_for, store_full}
use Rattle.state.specs.Refusals.{first_of, refusal_of}
use Rattle.state.specs.Effects.{Effect, onward, calls, fetches, behind_body, with_number, colons, values, variables, defines}
use Rattle.state.specs.Effects.{encoded_of, keeps_of, effects, nothing, act_of}
use Rattle.state.specs.Step.{wrong_sizes, ready_of, done_of, read_turn, token_turn, known_turn, step_of}
use Rattle.state.specs.Open.{empty_state, zero_state, fresh_state, open_refusal, open_of}
use Rattle.state.specs.Run.{RunResult, ended, then, run_on, unless, run_from}
use Rattle.state.specs.Laws.Keeps.Tests.{find_at, ◌▸◌}
use Rattle.state.specs.Stacks.{top_of}
use Rattle.state.specs.declared.state.State.{State}
use Rattle.state.specs.Answer.{Answer, Going, Finished, Refused, Spent}

-- ---- a token keeps the state's length
module _ (s : Scene) (t : Token) where
  abbrev KeepsLength : Turn → Type 0
  KeepsLength r = r.state.length ≡ s.state.length

  call_length : (b : Bool) → is_body s.state.numbers (seek_of s.state.numbers t.number) ≡ b → KeepsLength (calls s t)
  call_length true e = rw e
  call_length false e = rw e

  define_length : KeepsLength (defines s t)
  define_length =
      find_is (λ (f : Effect). KeepsLength (f s t)) ((colon, colons) ∷ (value, values) ∷ (variable, variables) ∷ []) values
      (kind_in t.operand) (refl ▸ refl ▸ refl ▸ tt) refl

  act_length : KeepsLength (act_of s t)
  unfolding act_of effects
  act_length =
      find_is (λ (f : Effect). KeepsLength (f s t)) effects nothing (family_in t.code) (
      refl ▸ refl ▸ refl ▸ refl ▸ refl ▸ refl ▸ refl ▸ refl ▸ refl ▸ refl ▸ refl ▸ refl ▸ refl ▸
      define_length ▸
      refl ▸
      call_length _ refl ▸
      refl ▸ refl ▸ refl ▸ refl ▸ refl ▸ refl ▸ refl ▸
      tt
      ) refl

  done_length : KeepsLength (done_of s t)
  unfolding done_of
  done_length = when_is KeepsLength (eqb (refusal_of s t) 0) (act_of s t) (refuse (refusal_of s t) s) (λ c. act_length) (λ c. refl)

read_length : (s : Scene) (r : Result Token ℕ) → (read_turn s r).state.length ≡ s.state.length
read_length s (Err why) = refl
read_length s (Ok t) = done_length s t

pub token_length : (s : Scene) → (token_turn s).state.length ≡ s.state.length
unfolding token_turn
token_length s = read_length s (read_of s.rom s.state.length s.state.wide (is_open s.state.calls) s.state.place)

-- ---- what a token sees of two ROMs
-- a range that both show alike
abbrev pub SameRange : List ℕ → List ℕ → List ℕ → State → ℕ → ℕ → Type 0
SameRange rom other work st address count =
    (bad_string rom work st.length address count ≡ bad_string other work st.length address count)
    × (resolve_of rom work st.length address count ≡ resolve_of other work st.length address count)

-- the cell of a state so far from the top
abbrev pub cell_from : State → ℕ → ℕ
cell_from st k = top_of st.stack.cells st.stack.height k

-- beside its own bytes and a body's, all that a token of any kind takes of a ROM
pub record Sees (rom other work : List ℕ) (st : State) (t : Token) : Type 0 where
  pub fetched : family_in t.code ≡ fetch → (count : ℕ)
      → resolve_of rom work st.length (cell_from st 0) count ≡ resolve_of other work st.length (cell_from st 0) count
  pub encoded : family_in t.code ≡ encode_string → SameRange rom other work st (cell_from st 1) (cell_from st 0)
  pub named : family_in t.code ≡ property → SameRange rom other work st (cell_from st 1) (cell_from st 0)
  pub valued : family_in t.code ≡ property → SameRange rom other work st (cell_from st 3) (cell_from st 2)
  pub told : family_in t.code ≡ titled → SameRange rom other work st (cell_from st 1) (cell_from st 0)

-- the token at a state's place, if there is one
abbrev pub SeesHere : List ℕ → List ℕ → List ℕ → State → Type 0
SeesHere rom other work st =
    (t : Token) → read_of rom st.length st.wide (is_open st.calls) st.place ≡ Ok t → Sees rom other work st t

-- both are read up to the state's length, and the same tokens stand in them
pub record SameRead (rom other : List ℕ) (size : ℕ) : Type 0 where
  pub within : (size ≤ length rom) × (size ≤ length other)
  pub tokens : SameTokens size rom other
  pub least : (rom_least ≤ length rom) × (rom_least ≤ length other)
  pub most : (length rom ≤ fcode_most rom) × (length other ≤ fcode_most other)

-- ---- a step
module _ (rom other work store : List ℕ) (st : State) (a : SameRead rom other st.length) where
  abbrev here : Scene
  here = scene rom work store st

  abbrev there : Scene
  there = scene other work store st

  -- the windows are as large
  pub same_range : (address count : ℕ) → range_of rom work st.length address count ≡ range_of other work st.length address count
  same_range address count =
      let h : min st.length (length rom) ≡ st.length = let l = a.within.0 in omega arith in
      let k : min st.length (length other) ≡ st.length = let l = a.within.1 in omega arith in
      rw (h, k)

  same_bad : (address count : ℕ) → bad here address count ≡ bad there address count
  same_bad address count = rw (same_range address count)

  module _ (t : Token) (sees : Sees rom other work st t) where
    same_reading : body_here here t ≡ body_here there t
    same_reading = same_body st.length rom other a.tokens st.wide (kinds_of st.numbers) (st.length - t.next) t.next

    same_body_refusal : body_refusal here t ≡ body_refusal there t
    same_body_refusal = λ i. elim (of_kind colon t) [ true ↦ why_stopped (same_reading i) | false ↦ 0 ]

    -- a condition of one family is the same where the token is of it
    same_asked : (family : ℕ) (f : Scene → Token → Bool) → (family_in t.code ≡ family → f here t ≡ f there t)
        → asked family t f here ≡ asked family t f there
    same_asked family f h = by (eqb (family_in t.code) family) refl
      where
        by : (b : Bool) → eqb (family_in t.code) family ≡ b → asked family t f here ≡ asked family t f there
        by true e = when_true (f here t) false _ e ∙ h (eqb-true _ _ e) ∙ sym (when_true (f there t) false _ e)
        by false e = when_false (f here t) false _ e ∙ sym (when_false (f there t) false _ e)

    same_no_window : no_window here t ≡ no_window there t
    same_no_window =
        λ i.
        same_asked fetch (λ s u. bad s (cell_of s 0) (cell_size u)) (λ k. same_bad (cell_of here 0) (cell_size t)) i
        || asked storing t (λ s u. outside_work s.work (cell_of s 0) (cell_size u)) here
        || same_asked encode_string (λ s u. bad_text s (cell_of s 1) (cell_of s 0)) (λ k. (sees.encoded k).0) i
        || same_asked property (λ s u. bad_text s (cell_of s 1) (cell_of s 0) || bad_text s (cell_of s 3) (cell_of s 2))
        (λ k j. (sees.named k).0 j || (sees.valued k).0 j) i
        || same_asked titled (λ s u. bad_text s (cell_of s 1) (cell_of s 0)) (λ k. (sees.told k).0) i

    same_misnamed : misnamed here t ≡ misnamed there t
    same_misnamed = same_asked property (λ s u. bad_name (named_here s)) (λ k j. bad_name ((sees.named k).1 j))

    same_full : store_full here t ≡ store_full there t
    same_full =
        λ i.
        same_asked property (λ s u. no_room_for s (named_here s) (value_here s))
        (λ k j. no_room_for here ((sees.named k).1 j) (value_of ((sees.valued k).1 j) false)) i
        || same_asked titled (λ s u. no_room_for s (title_of u.number) (titled_here s))
        (λ k j. no_room_for here (title_of t.number) (value_of ((sees.told k).1 j) true)) i

    same_refusal : refusal_of here t ≡ refusal_of there t
    unfolding refusal_of
    same_refusal =
        λ i.
        first_of (
        (12, undefined here t) ∷
        (13, taken here t) ∷
        (same_body_refusal i, not (eqb (same_body_refusal i) 0)) ∷
        (14, low here t) ∷
        (19, goes_astray here t) ∷
        (16, back_wrong here t) ∷
        (15, high here t) ∷
        (17, too_many_frames here t) ∷
        (20, no_node here t) ∷
        (21, zero_divisor here t) ∷
        (22, same_no_window i) ∷
        (23, not_aligned here t) ∷
        (24, exhausted here t) ∷
        (25, apart here t) ∷
        (26, same_misnamed i) ∷
        (27, same_full i) ∷
        []
        )

    -- what the token does
    same_fetched : family_in t.code ≡ fetch → fetches here t ≡ fetches there t
    same_fetched k =
        λ i.
        goes here (onward here t 1 (pick (is_cell t) (word32_of (sees.fetched k 4 i) 0) (byte_of (sees.fetched k 1 i) 0) ∷ []))

    same_defined : defines here t ≡ defines there t
    same_defined =
        find_is (λ (f : Effect). f here t ≡ f there t) ((colon, colons) ∷ (value, values) ∷ (variable, variables) ∷ []) values
        (kind_in t.operand) ((λ i. goes here (moved_to (with_number st t t.next) (behind_body (same_reading i)))) ▸ refl ▸ refl ▸ tt) refl

    -- what takes nothing of the ROM
    apart_from_it : {n : ℕ} {r : Turn} → family_in t.code ≡ n → r ≡ r
    apart_from_it k = refl

    same_act : act_of here t ≡ act_of there t
    unfolding act_of effects
    same_act =
        find_at (λ (f : Effect). f here t ≡ f there t) effects nothing (family_in t.code) (
        apart_from_it ▸ apart_from_it ▸ apart_from_it ▸ apart_from_it ▸ apart_from_it ▸ apart_from_it ▸ apart_from_it ▸ apart_from_it ▸
        apart_from_it ▸ apart_from_it ▸ apart_from_it ▸
        same_fetched ▸
        apart_from_it ▸
        (λ k. same_defined) ▸
        apart_from_it ▸ apart_from_it ▸ apart_from_it ▸
        (λ k i. encoded_of here t 2 ((sees.encoded k).1 i ++ (0 ∷ []))) ▸
        apart_from_it ▸
        (λ k i. keeps_of here t 4 ((sees.named k).1 i) (value_of ((sees.valued k).1 i) false)) ▸
        (λ k i. keeps_of here t 2 (title_of t.number) (value_of ((sees.told k).1 i) true)) ▸
        apart_from_it ▸ apart_from_it ▸
        tt
        ) refl

    same_done : done_of here t ≡ done_of there t
    unfolding done_of
    same_done = λ i. elim (eqb (same_refusal i) 0) [ true ↦ same_act i | false ↦ refuse (same_refusal i) here ]

  same_turn : (r : Result Token ℕ) → ((t : Token) → r ≡ Ok t → Sees rom other work st t) → read_turn here r ≡ read_turn there r
  same_turn (Err why) sees = refl
  same_turn (Ok t) sees = same_done t (sees t refl)

  pub same_token : SeesHere rom other work st → token_turn here ≡ token_turn there
  unfolding token_turn
  same_token sees =
      same_turn (read_of rom st.length st.wide (is_open st.calls) st.place) sees
      ∙ ap (λ r. read_turn there r) (same_read st.length rom other a.tokens st.wide (is_open st.calls) st.place)

  -- what is known beforehand: neither is refused with 1, or with 4 for a length above the ROM
  pub same_ready : ready_of here ≡ ready_of there
  unfolding ready_of
  same_ready =
      rw (
        le-ltb (length rom) rom_least a.least.0,
        le-ltb (fcode_most rom) (length rom) a.most.0,
        le-ltb (length rom) st.length a.within.0,
        le-ltb (length other) rom_least a.least.1,
        le-ltb (fcode_most other) (length other) a.most.1,
        le-ltb (length other) st.length a.within.1,
      )

  pub same_step : SeesHere rom other work st → step_of here ≡ step_of there
  unfolding step_of
  same_step sees =
      λ i.
      elim (same_ready i) [
        | Going ↦ same_token sees i
        | Finished ↦ known_turn Finished here
        | Refused why ↦ known_turn (Refused why) here
        | Spent n ↦ known_turn (Spent n) here
      ]

-- ROMs that differ past a state's length alone: a token sees the same of both, whatever it is
module _ {rom other : List ℕ} {size : ℕ} (a : AlikeTo size rom other) where
  pub alike_read : SameRead rom other size
  alike_read = record { within = a.within; tokens = tokens_below size rom other a.same; least = a.least; most = a.most }

-- what the windows show of bytes that are the same from a place on, where no byte before it is asked for
pub same_string : (from : ℕ) (rom other work : List ℕ) (st : State) → SameFrom from st.length rom other → SameRead rom other st.length
    → (address count : ℕ) → (rom_base ≤ address → rom_base + from ≤ address)
    → resolve_of rom work st.length address count ≡ resolve_of other work st.length address count
unfolding resolve_of
same_string from rom other work st same a address count f =
    window_is (min st.length (length rom)) (length work) address count (λ w. held_by rom work count w ≡ held_by other work count w)
    (λ p q.
    let g = f p in
    same_part from st.length rom other same a.within.0 a.within.1 (address - rom_base) count (omega arith) (omega arith))
    (λ p q. refl) refl
    ∙ ap (λ w. held_by other work count w) (same_range rom other work [] st a address count)

module _ (rom other work : List ℕ) (st : State) (a : AlikeTo st.length rom other) where
  alike_string : (address count : ℕ) → resolve_of rom work st.length address count ≡ resolve_of other work st.length address count
  alike_string address count =
      same_string 0 rom other work st (same_all st.length rom other a.same) (alike_read a) address count (λ h. omega arith)

  alike_range : (address count : ℕ) → SameRange rom other work st address count
  alike_range address count =
      (rw (a.start, same_range rom other work [] st (alike_read a) address count), alike_string address count)

  pub alike_sees : SeesHere rom other work st
  alike_sees t e =
      record {
        fetched = λ k count. alike_string (cell_from st 0) count;
        encoded = λ k. alike_range (cell_from st 1) (cell_from st 0);
        named = λ k. alike_range (cell_from st 1) (cell_from st 0);
        valued = λ k. alike_range (cell_from st 3) (cell_from st 2);
        told = λ k. alike_range (cell_from st 1) (cell_from st 0);
      }

-- ---- opening
module _ {rom other : List ℕ} (a : SamePrograms rom other) where
  pub same_fresh : fresh_state rom ≡ fresh_state other
  same_fresh = λ i. empty_state (a.length i) first_place (a.wide i) 1 fresh_tree

  pub same_open_refusal : (work store : List ℕ) → open_refusal rom work store ≡ open_refusal other work store
  same_open_refusal work store = ap (λ n. pick (wrong_sizes work store) 6 n) a.header

  pub same_open : (work store : List ℕ) → open_of rom work store ≡ open_of other work store
  unfolding open_of
  same_open work store =
      λ i.
      elim (eqb (same_open_refusal work store i) 0) [
        | true ↦ turn Going (same_fresh i) (replicate work_size 0) (replicate store_size 0)
        | false ↦ turn (Refused (same_open_refusal work store i)) zero_state work store
      ]

-- ---- a run: the state's length is the same before each token
module _ (rom other work store : List ℕ) (st : State) where
  same_unless : (w : Answer) (n : ℕ) (f g : RunResult) → f ≡ g
      → unless w n (scene rom work store st) f ≡ unless w n (scene other work store st) g
  same_unless Going n f g e = e
  same_unless Finished n f g e = refl
  same_unless (Refused why) n f g e = refl
  same_unless (Spent m) n f g e = refl

  same_after : (w : Answer) (n : ℕ) (f : Scene → RunResult) → (w ≡ Going → f (scene rom work store st) ≡ f (scene other work store st))
      → run_on w n (scene rom work store st) f ≡ run_on w n (scene other work store st) f
  same_after Going n f e = e refl
  same_after Finished n f e = refl
  same_after (Refused why) n f e = refl
  same_after (Spent m) n f e = refl

-- so many tokens from a state on see the same of both ROMs, or fewer where the run ends before
abbrev pub SeesAlong : ℕ → List ℕ → List ℕ → Scene → Type 0
SeesAlong zero rom other s = Unit {0}
SeesAlong (suc k) rom other s =
    SeesHere rom other s.work s.state × ((token_turn s).answer ≡ Going → SeesAlong k rom other (then s (token_turn s)))

pub same_run_along : (k n : ℕ) (rom other work store : List ℕ) (st : State) → SameRead rom other st.length
    → SeesAlong k rom other (scene rom work store st)
    → run_from k n (scene rom work store st) ≡ run_from k n (scene other work store st)
unfolding run_from
same_run_along zero n rom other work store st a sees =
    let there = scene other work store st in
    same_unless rom other work store st (ready_of (scene rom work store st)) n _ _ refl
    ∙ ap (λ w. unless w n there (ended (Spent n) n there)) (same_ready rom other work store st a)
same_run_along (suc k) n rom other work store st a sees =
    on (λ r b c. same_run_along k (n + 1) rom other r.work r.store r.state b c)
  where
    here : Scene
    here = scene rom work store st

    there : Scene
    there = scene other work store st

    on : ((r : Turn) → SameRead rom other r.state.length → SeesAlong k rom other (then here r)
        → run_from k (n + 1) (then here r) ≡ run_from k (n + 1) (then there r))
        → run_from (suc k) n here ≡ run_from (suc k) n there
    on go =
        λ i.
        elim (same_ready rom other work store st a i) [
          | Going ↦ next i
          | Finished ↦ ended Finished n here
          | Refused why ↦ ended (Refused why) n here
          | Spent m ↦ ended (Spent m) n here
        ]
      where
        next : run_on (token_turn here).answer n (then here (token_turn here)) (λ to. run_from k (n + 1) to)
            ≡ run_on (token_turn there).answer n (then there (token_turn there)) (λ to. run_from k (n + 1) to)
        next =
            let r = token_turn here in
            same_after rom other r.work r.store r.state r.answer n (λ to. run_from k (n + 1) to)
            (λ g. go r (subst (λ m. SameRead rom other m) (sym (token_length here)) a) (sees.1 g))
            ∙ ap (λ (q : Turn). run_on q.answer n (then there q) (λ to. run_from k (n + 1) to))
            (same_token rom other work store st a sees.0)

-- ROMs that differ past the state's length alone
alike_along : (k : ℕ) (rom other work store : List ℕ) (st : State) → AlikeTo st.length rom other
    → SeesAlong k rom other (scene rom work store st)
alike_along zero rom other work store st a = tt
alike_along (suc k) rom other work store st a =
    let s = scene rom work store st in
    let r = token_turn s in (
      alike_sees rom other work st a,
      λ g. alike_along k rom other r.work r.store r.state (subst (λ m. AlikeTo m rom other) (sym (token_length s)) a),
    )

pub same_run : (k n : ℕ) (rom other work store : List ℕ) (st : State) → AlikeTo st.length rom other
    → run_from k n (scene rom work store st) ≡ run_from k n (scene other work store st)
same_run k n rom other work store st a =
    same_run_along k n rom other work store st (alike_read a) (alike_along k rom other work store st a)
