-- A visit and a tally as the code has them, and what each step of a visit comes to. Assumes nothing.
use Prim.Native.Nat.{ℕ, suc, ◌+◌, ◌-◌, ◌≤◌, ◌<◌, max}
use Rattle.std.specs.Prelude.{◌≡◌, refl, Bool, not, ◌&&◌, ◌||◌, List, ◌≢◌, Err, None, Ok, Some, Result}
use Rattle.std.proofs.Common.{sym, ap, ◌∙◌}
use Rattle.std.proofs.Math.Bool.{true, false, not-not, and-true}
use native.Mathlib.Omega.{arith}
use Rattle.std.proofs.Math.Dec.{T, eqb, eqb→eq}
use borrow.Author.Tests.{le-leb, eq-eqb, ne_eqb, eqb-true, eqb-false}
use Rattle.cells.specs.Choice.{pick}
use Rattle.cells.specs.Laws.Tests.{pick_is}
use Rattle.cells.specs.Laws.Facts.{holds, follows, fails, is_false, neither}
use Rattle.tokens.specs.Family.{unlisted, plain, finish, always, choice, widen, pick_up, roll_up, maybe, leave, define, assign, call}
use Rattle.tokens.specs.Family.{new_device, finish_device}
use Rattle.tokens.specs.Row.{none as no_form, number as number_form}
use Rattle.tokens.specs.Table.{ends, lows, highs, doubles, table}
use Rattle.tokens.specs.Code.{code_of, family_in, form_in, takes_in, gives_in, return_takes_in, return_gives_in}
use Rattle.tokens.specs.Laws.Rows.{code_fact}
use Rattle.tokens.specs.Decode.{behind_number, number_of, operand_of, decode_of}
use Rattle.tokens.specs.Place.{judged, misplaced_of, read_of}
use Rattle.tokens.specs.Body.{kind_of, number_in, unknown_of}
use Rattle.tokens.specs.Definition.{kind_in, takes_here}
use Rattle.tokens.specs.Joints.Quick.{QuickRead}
use Rattle.tokens.specs.Joints.Glance.{about_of, aim_in, seen_in, glanced, glance_of}
use Rattle.tokens.specs.Laws.Glance.{glance_refused, glance_misplaced, glance_coded, glance_read}
use Rattle.tokens.specs.declared.decoding.Operand.{Operand}
use Rattle.tokens.specs.declared.decoding.Operand.TheVariants.{Nothing, Literal, Text, Branch, Number, Definition}
use Rattle.tokens.specs.declared.decoding.Token.{Token}
use Rattle.tokens.specs.declared.decoding.Decoded.{Decoded}
use Rattle.tokens.specs.declared.decoding.Decoded.TheVariants.{Cut, Unlisted, Whole}
use Rattle.tokens.specs.declared.glance.Glance.{Glance}
use Rattle.tokens.specs.declared.quick.Quick.{Quick}
use Rattle.tokens.specs.Laws.Stands.{stands}
use Rattle.screen.specs.Effect.{is_a, fixes, aims, no_places, called, own_effect, effect_of}
use Rattle.screen.specs.Reach.{In, here}
use Rattle.screen.specs.Laws.Rules.Tokens.{aims_fit}
use Rattle.screen.specs.Laws.Found.Model.{Visit, Tally, sum_at, fits_of, bad_visit, heights_after}
use Rattle.screen.specs.Laws.Found.Model.{agreed, told_in, sound_of, next_on, branch_in, aim_on as model_aim_in, token_visit, visit_of}
use Rattle.screen.specs.Laws.Found.Model.{tallied}
use Rattle.screen.specs.Laws.Code.Codes.{EffectRoom, unfit, fits_last}
use Rattle.screen.specs.Laws.Walk.Visits.{visit_fits}
use Rattle.screen.specs.declared.effect.Effect.{Effect}
use Rattle.screen.specs.declared.walking.Text.{Text as Scope}
use Rattle.screen.specs.declared.visiting.Visit.{Visit as Told}
use Rattle.screen.specs.declared.tally.Tally.{Tally as Kept}
use Rattle.screen.specs.Laws.Found.Cell.{cell_with, height_in, back_in, entered, cell_some}

-- ---- what the code's numbers stand for
-- a visit is good where there is a cell behind it
abbrev pub visit_in : Told → Visit
visit_in v = record { good = not (eqb v.cell 0); cell = v.cell; next = v.next; aim = v.aim }

abbrev pub tally_in : Kept → Tally
tally_in y =
    record {
      good = not (eqb y.fine 0);
      need = y.need;
      peak = y.peak;
      return_peak = y.return_peak;
      frames = y.frames;
      out = y.out;
    }

-- ---- a token by its code
-- the cells that it takes, with the kind of a definition
abbrev pub takes_seen : ℕ → ℕ → ℕ
takes_seen code kind = takes_in code + elim (eqb (family_in code) define) [ true ↦ takes_in (code_of kind) | false ↦ 0 ]

abbrev pub fixes_by : ℕ → Bool
fixes_by code = eqb (family_in code) define || eqb (family_in code) widen || eqb (family_in code) new_device || eqb (family_in code)
    finish_device

-- what one does that is no call
abbrev pub plain_effect : ℕ → ℕ → Effect
plain_effect takes code =
    record {
      takes = takes;
      gives = gives_in code;
      rise = takes;
      return_takes = return_takes_in code;
      return_gives = return_gives_in code;
      return_rise = 0;
      frames = 0;
    }

-- a visit by what the token does
unfoldable pub visit_by : Bool → Effect → ℕ → ℕ → ℕ → Visit
visit_by within e cell next aim =
    elim (fits_of within e cell) [
      | true ↦ record { good = true; cell = cell_with (heights_after e cell); next = next; aim = aim }
      | false ↦ bad_visit
    ]

-- by a glance at the token, wherever that was taken
abbrev pub VisitBy : Scope → List ℕ → List ℕ → Glance → ℕ → Visit → Type 0
VisitBy x kinds sums g cell v =
    (rom : List ℕ) (p : ℕ) → glance_of rom x.length x.wide p ≡ g → v ≡ visit_of rom x kinds sums p cell

-- ---- a tally
-- with a token that is no call and no end
abbrev pub raised_by : Tally → ℕ → ℕ → Tally
raised_by y takes cell =
    record {
      good = y.good;
      need = max y.need (entered + takes - height_in cell);
      peak = max y.peak (height_in cell);
      return_peak = max y.return_peak (back_in cell);
      frames = max y.frames 1;
      out = y.out;
    }

-- with an end
abbrev pub ended_by : Tally → ℕ → ℕ → Tally
ended_by y takes cell =
    record {
      good = y.good && agreed y (height_in cell);
      need = max y.need (entered + takes - height_in cell);
      peak = max y.peak (height_in cell);
      return_peak = max y.return_peak (back_in cell);
      frames = max y.frames 1;
      out = suc (height_in cell);
    }

-- with a call
abbrev pub called_by : List ℕ → Tally → ℕ → ℕ → Tally
called_by sums y n cell =
    record {
      good = y.good;
      need = max y.need (entered + (sum_at sums n).need - height_in cell);
      peak = max y.peak (max (height_in cell) (height_in cell - (sum_at sums n).need + (sum_at sums n).peak));
      return_peak = max y.return_peak (back_in cell + (sum_at sums n).return_peak);
      frames = max y.frames (1 + (sum_at sums n).frames);
      out = y.out;
    }

-- by a glance at the token, where its visit is good
abbrev pub ToldBy : List ℕ → Bool → Glance → Tally → ℕ → Tally → Type 0
ToldBy sums within g y cell y' =
    (rom : List ℕ) (x : Scope) (kinds : List ℕ) (p : ℕ) → x.within ≡ within → glance_of rom x.length x.wide p ≡ g
    → (visit_of rom x kinds sums p cell).good ≡ true
    → y' ≡ told_in within sums y cell (read_of rom x.length x.wide x.within p)

-- the token at a place was visited, and told of
pub record SeenBy (rom : List ℕ) (x : Scope) (kinds sums : List ℕ) (p cell : ℕ) (y : Tally) (v : Visit) (y' : Tally) : Type 0 where
  pub visit : v ≡ visit_of rom x kinds sums p cell
  pub tally : v.good ≡ true → y' ≡ told_in x.within sums y cell (read_of rom x.length x.wide x.within p)

-- ---- a visit by its tests
-- one that is not good, by any of the tests
pub unfit_visit : (within : Bool) (e : Effect) (cell next aim : ℕ) → (EffectRoom within e cell → ⊥)
    → bad_visit ≡ visit_by within e cell next aim
unfolding visit_by
unfit_visit within e cell next aim f = rw (visit_by, ← unfit within e cell f)

-- one that is good: the cell behind the token says so, since it is not 0
pub fit_visit : (within : Bool) (e : Effect) (cell next aim to : ℕ) → EffectRoom within e cell
    → to ≡ cell_with (heights_after e cell)
    → visit_in (record { cell = to; next = next; aim = aim }) ≡ visit_by within e cell next aim
unfolding visit_by
fit_visit within e cell next aim to r c =
    let l = fits_last within e cell r.takes r.most r.rise r.return_takes r.return_high r.return_rise in
    rw (visit_by, l, le-leb _ _ r.frames, ne_eqb to 0 (λ z. cell_some (heights_after e cell) (sym c ∙ z)), c)

-- ---- a token that was read, and a glance at it
-- two that were read at one place are one
pub one_read : {t u : Token} → ◌≡◌ {A = Result Token ℕ} (Ok t) (Ok u) → t ≡ u
one_read e = cc

refused_good : {why : ℕ} {t : Token} → Err why ≡ Ok t → ⊥
refused_good e = let z : ◌≡◌ {A = ℕ} 0 1 = cc in omega arith

judged_seen : (within : Bool) (d : Decoded) (t : Token) → judged within d ≡ Ok t → glanced d ≡ seen_in t
judged_seen within Cut t e = absurd (refused_good e)
judged_seen within (Unlisted code) t e = absurd (refused_good e)
judged_seen within (Whole u) t e =
    pick_is (λ r. r ≡ Ok t → seen_in u ≡ seen_in t) (misplaced_of u.code within) (Err 18) (Ok u) (λ m i. absurd (refused_good i))
    (λ m i. ap seen_in (one_read i)) e

-- the token of which a glance was taken
pub record VisitShown (rom : List ℕ) (x : Scope) (p : ℕ) (g : Glance) (t : Token) : Type 0 where
  pub read : read_of rom x.length x.wide x.within p ≡ Ok t
  pub code : t.code ≡ g.code
  pub about : about_of t.number t.operand ≡ g.number
  pub next : t.next ≡ g.next
  pub aim : aim_in t.operand ≡ g.aim
  pub kind : kind_in t.operand ≡ g.kind

pub shown : (rom : List ℕ) (x : Scope) (p : ℕ) (g : Glance) (t : Token) → read_of rom x.length x.wide x.within p ≡ Ok t
    → glance_of rom x.length x.wide p ≡ g → VisitShown rom x p g t
unfolding read_of glance_of
shown rom x p g t r e =
    let s = sym (judged_seen x.within (decode_of rom x.length x.wide p) t r) ∙ e in
    record {
      read = r;
      code = ap (λ (y : Glance). y.code) s;
      about = ap (λ (y : Glance). y.number) s;
      next = ap (λ (y : Glance). y.next) s;
      aim = ap (λ (y : Glance). y.aim) s;
      kind = ap (λ (y : Glance). y.kind) s;
    }

-- ---- what the list says of every code
-- what is of no family is not in the list
abbrev family_fits : ℕ → Bool
family_fits c = not (eqb (family_in c) unlisted) || eqb c 0

pub families_fit : (n : ℕ) → T (family_fits (code_of n))
unfolding table ends lows highs doubles
families_fit n = code_fact family_fits tt tt tt n

-- a call has no operand
abbrev call_fits : ℕ → Bool
call_fits c = not (eqb (family_in c) call) || eqb (form_in c) no_form

calls_fit : (n : ℕ) → T (call_fits (code_of n))
unfolding table ends lows highs doubles
calls_fit n = code_fact call_fits tt tt tt n

-- behind b(to) a number stands
abbrev assign_fits : ℕ → Bool
assign_fits c = not (eqb (family_in c) assign) || eqb (form_in c) number_form

assigns_fit : (n : ℕ) → T (assign_fits (code_of n))
unfolding table ends lows highs doubles
assigns_fit n = code_fact assign_fits tt tt tt n

-- ---- what a glance tells of its token
module _ (rom : List ℕ) (x : Scope) (p : ℕ) (g : Glance) (t : Token) (s : VisitShown rom x p g t) where
  abbrev standing : t.operand ≡ operand_of rom x.length x.wide (behind_number rom p) (form_in t.code)
  standing = (stands rom x.length x.wide x.within p t s.read).operand

  pub same_family : (f : ℕ) → family_in g.code ≡ f → family_in t.code ≡ f
  same_family f k = ap family_in s.code ∙ k

  -- the cells that it takes
  same_takes : takes_here t ≡ takes_seen g.code g.kind
  same_takes = ap (λ (c : ℕ). takes_seen c (kind_in t.operand)) s.code ∙ ap (takes_seen g.code) s.kind

  -- a family whose operand is always of one form
  form_is : (f form : ℕ) → ((n : ℕ) → T (not (eqb (family_in (code_of n)) f) || eqb (form_in (code_of n)) form)) → family_in g.code ≡ f
      → form_in t.code ≡ form
  form_is f form h k =
      let c = (stands rom x.length x.wide x.within p t s.read).code in
      let a : T (not (eqb (family_in t.code) f) || eqb (form_in t.code) form) = rw c (h t.number) in
      let b = holds (eqb (family_in t.code) f) (eq-eqb _ _ (same_family f k)) in
      eqb→eq (form_in t.code) form (follows (eqb (family_in t.code) f) (eqb (form_in t.code) form) a b)

  -- the number that is called
  pub called_number : family_in g.code ≡ call → t.number ≡ g.number
  unfolding operand_of
  called_number k =
      let o = rw (form_is call no_form calls_fit k) at standing in
      rw o at s.about

  -- the number behind b(to)
  pub assigned_number : family_in g.code ≡ assign → number_in t.operand ≡ g.number
  unfolding operand_of
  assigned_number k =
      let o = rw (form_is assign number_form assigns_fit k) at standing in
      let a = rw o at s.about in
      rw o a

  -- a branch is astray where its aim is 0, since no branch leads to place 0
  pub astray_aim : no_places (aims t.operand) ≡ eqb g.aim 0
  astray_aim = rw (← s.aim) (by t.operand (aims_fit rom x.length x.wide x.within p t s.read))
    where
      by : (o : Operand) → ((q : ℕ) → In q (aims o) → (8 ≤ q) × (q < x.length)) → no_places (aims o) ≡ eqb (aim_in o) 0
      by Nothing f = refl
      by (Literal n) f = refl
      by (Text start count) f = refl
      by (Branch bits (Some to)) f = let l = (f to here).0 in sym (ne_eqb to 0 (omega arith))
      by (Branch bits None) f = refl
      by (Number n) f = refl
      by (Definition n k) f = refl

  -- and the place that it leads to is its aim
  pub same_aim : model_aim_in t.operand ≡ g.aim
  same_aim = by t.operand ∙ s.aim
    where
      by : (o : Operand) → model_aim_in o ≡ aim_in o
      by Nothing = refl
      by (Literal n) = refl
      by (Text start count) = refl
      by (Branch bits (Some to)) = refl
      by (Branch bits None) = refl
      by (Number n) = refl
      by (Definition n k) = refl

-- ---- the visit to a token that was read
module _ (rom : List ℕ) (x : Scope) (kinds sums : List ℕ) (p cell : ℕ) (t : Token)
    (r : read_of rom x.length x.wide x.within p ≡ Ok t) where
  -- one that may not stand there
  pub unsound_visit : sound_of x kinds t cell ≡ false → bad_visit ≡ visit_of rom x kinds sums p cell
  unfolding visit_of token_visit
  unsound_visit s = rw (visit_of, r, token_visit, s)

  -- one that may is visited by what it does
  pub sound_visit : sound_of x kinds t cell ≡ true
      → visit_by x.within (effect_of (sum_at sums) t) cell (next_on t) (branch_in t) ≡ visit_of rom x kinds sums p cell
  unfolding visit_of token_visit visit_by
  sound_visit s = rw (visit_of, r, token_visit, s)

  -- where the visit is good the cells that the token takes are there
  pub good_takes : (visit_of rom x kinds sums p cell).good ≡ true → (effect_of (sum_at sums) t).takes ≤ height_in cell
  good_takes v =
      let f = visit_fits rom x kinds sums p cell v in
      let e : f.token ≡ t = one_read (sym f.meets.is ∙ r) in
      rw e at f.meets.takes

-- ---- the visit by a glance
-- what is known of a token that is no call: whether it may stand where it is met, and its successors
pub record Leads (x : Scope) (kinds : List ℕ) (cell : ℕ) (t : Token) (good : Bool) (to away : ℕ) : Type 0 where
  pub uncalled : is_a call t ≡ false
  pub sound : sound_of x kinds t cell ≡ good
  pub next : next_on t ≡ to
  pub aim : branch_in t ≡ away

-- such a token is visited by its own effect
pub own_visit : (rom : List ℕ) (x : Scope) (kinds sums : List ℕ) (p cell : ℕ) (t : Token) (good : Bool) (to away code takes : ℕ)
    → read_of rom x.length x.wide x.within p ≡ Ok t → t.code ≡ code → takes_here t ≡ takes → Leads x kinds cell t good to away
    → pick good (visit_by x.within (plain_effect takes code) cell to away) bad_visit ≡ visit_of rom x kinds sums p cell
unfolding effect_of
own_visit rom x kinds sums p cell t false to away code takes r c h l = unsound_visit rom x kinds sums p cell t r l.sound
own_visit rom x kinds sums p cell t true to away code takes r c h l =
    let e : effect_of (sum_at sums) t ≡ own_effect t = rw (effect_of, l.uncalled) in
    let v = rw e at (sound_visit rom x kinds sums p cell t r l.sound) in
    rw (← c, ← h, ← l.next, ← l.aim) v

-- the families that have a test of their own, or another successor than the place behind them, but for what is met exactly once
abbrev pub special : ℕ → Bool
special f =
    eqb f pick_up || eqb f roll_up || eqb f maybe || eqb f call || eqb f assign || eqb f always || eqb f choice || eqb f finish || eqb f
    leave

-- a token of any other may stand wherever it is met
pub quiet_leads : (x : Scope) (kinds : List ℕ) (cell : ℕ) (t : Token) (next : ℕ) (fixed : Bool) → t.next ≡ next
    → special (family_in t.code) ≡ false → fixes t ≡ fixed → Leads x kinds cell t true (pick fixed 0 next) 0
unfolding sound_of unknown_of
quiet_leads x kinds cell t next fixed n q e =
    let f = family_in t.code in
    let a7 = eqb f pick_up || eqb f roll_up || eqb f maybe || eqb f call || eqb f assign || eqb f always || eqb f choice in
    let a5 = eqb f pick_up || eqb f roll_up || eqb f maybe || eqb f call || eqb f assign in
    let n9 = neither (a7 || eqb f finish) (eqb f leave) (fails (special f) q) in
    let n8 = neither a7 (eqb f finish) n9.0 in
    let n7 = neither (a5 || eqb f always) (eqb f choice) n8.0 in
    let n6 = neither a5 (eqb f always) n7.0 in
    let n5 = neither (eqb f pick_up || eqb f roll_up || eqb f maybe || eqb f call) (eqb f assign) n6.0 in
    let n4 = neither (eqb f pick_up || eqb f roll_up || eqb f maybe) (eqb f call) n5.0 in
    let forbidden = is_false (eqb f pick_up || eqb f roll_up || eqb f maybe) n4.0 in
    let calls = is_false (eqb f call) n4.1 in
    let assigns = is_false (eqb f assign) n5.1 in
    let jumps = is_false (eqb f always) n6.1 in
    let chooses = is_false (eqb f choice) n7.1 in
    let finishes = is_false (eqb f finish) n8.1 in
    let leaves = is_false (eqb f leave) n9.1 in
    record {
      uncalled = calls;
      sound = rw (forbidden, calls, assigns, jumps, chooses, finishes, leaves);
      next = rw (finishes, leaves, jumps, e, n);
      aim = rw (jumps, chooses);
    }

module _ (x : Scope) (kinds sums : List ℕ) (g : Glance) (cell : ℕ) where
  -- one out of place
  pub misplaced_seen : misplaced_of g.code x.within ≡ true → VisitBy x kinds sums g cell bad_visit
  unfolding visit_of
  misplaced_seen m rom p e = rw (visit_of, glance_misplaced rom x.length x.wide x.within p g e m)

  -- one that is not in the list
  pub unlisted_seen : family_in g.code ≡ unlisted → VisitBy x kinds sums g cell bad_visit
  unfolding visit_of
  unlisted_seen k rom p e =
      rw (visit_of, (glance_refused rom x.length x.wide x.within p g e (by (eqb g.code 0) refl)).1)
    where
      by : (b : Bool) → eqb g.code 0 ≡ b → g.code ≡ 0
      by true h = eqb-true g.code 0 h
      by false h =
          let c = glance_coded rom x.length x.wide x.within p g e (eqb-false g.code 0 h) in
          let f : T (family_fits g.code) = rw c (families_fit (number_of rom p)) in
          eqb→eq g.code 0
          (follows (eqb (family_in g.code) unlisted) (eqb g.code 0) f (holds (eqb (family_in g.code) unlisted) (eq-eqb _ _ k)))

  -- one of the list, in its place
  module _ (m : misplaced_of g.code x.within ≡ false) where
    abbrev Each : (Token → Type 0) → Type 0
    Each Q = (rom : List ℕ) (p : ℕ) (t : Token) → VisitShown rom x p g t → Q t

    -- its visit if it is no call and may stand there
    abbrev own_by : ℕ → ℕ → Visit
    own_by to away = visit_by x.within (plain_effect (takes_seen g.code g.kind) g.code) cell to away

    -- a token of a family is there, so that the glance is one at it
    met : family_in g.code ≢ unlisted → (rom : List ℕ) (p : ℕ) → glance_of rom x.length x.wide p ≡ g
        → (t : Token) × VisitShown rom x p g t
    met n rom p e =
        let a = glance_read rom x.length x.wide x.within p g e (λ z. omega arith) m in
        (a.0, shown rom x p g a.0 a.1 e)

    own_seen : family_in g.code ≢ unlisted → (good : Bool) (to away : ℕ) → Each (λ t. Leads x kinds cell t good to away)
        → VisitBy x kinds sums g cell (pick good (own_by to away) bad_visit)
    own_seen n good to away f rom p e =
        let a = met n rom p e in
        let s = a.1 in
        own_visit rom x kinds sums p cell a.0 good to away g.code (takes_seen g.code g.kind) s.read s.code
        (same_takes rom x p g a.0 s) (f rom p a.0 s)

    -- of a family with no test of its own
    pub quiet_seen : family_in g.code ≢ unlisted → special (family_in g.code) ≡ false → (fixed : Bool) → fixes_by g.code ≡ fixed
        → VisitBy x kinds sums g cell (own_by (pick fixed 0 g.next) 0)
    quiet_seen n q fixed h =
        own_seen n true (pick fixed 0 g.next) 0
        (λ rom p t s. quiet_leads x kinds cell t g.next fixed s.next (rw s.code q) (rw s.code h))

    -- 4E, 4F and 50
    pub forbidden_seen : family_in g.code ≢ unlisted
        → (eqb (family_in g.code) pick_up || eqb (family_in g.code) roll_up || eqb (family_in g.code) maybe) ≡ true
        → VisitBy x kinds sums g cell bad_visit
    unfolding sound_of
    forbidden_seen n h rom p e =
        let a = met n rom p e in
        let s = a.1 in
        unsound_visit rom x kinds sums p cell a.0 s.read (rw (s.code, h))

    -- a token that finishes may not leave children open
    pub finished_seen : family_in g.code ≡ finish → VisitBy x kinds sums g cell (pick (eqb x.children 0) (own_by 0 0) bad_visit)
    unfolding sound_of unknown_of
    finished_seen k =
        own_seen (λ z. omega arith) (eqb x.children 0) 0 0 (λ rom p t s.
        let j = same_family rom x p g t s finish k in
        record { uncalled = rw j; sound = rw (j, and-true); next = rw j; aim = rw j })

    -- one that leaves a body may not leave return cells
    pub left_seen : family_in g.code ≡ leave → VisitBy x kinds sums g cell (pick (eqb (back_in cell) 0) (own_by 0 0) bad_visit)
    unfolding sound_of unknown_of
    left_seen k =
        own_seen (λ z. omega arith) (eqb (back_in cell) 0) 0 0 (λ rom p t s.
        let j = same_family rom x p g t s leave k in
        record { uncalled = rw j; sound = rw j; next = rw j; aim = rw j })

    -- b(to) wants the number of a value
    pub assigned_seen : family_in g.code ≡ assign
        → VisitBy x kinds sums g cell (pick (eqb (kind_of kinds g.number) 0xB8) (own_by g.next 0) bad_visit)
    unfolding sound_of unknown_of
    assigned_seen k =
        own_seen (λ z. omega arith) (eqb (kind_of kinds g.number) 0xB8) g.next 0 (λ rom p t s.
        let j = same_family rom x p g t s assign k in
        record {
          uncalled = rw j;
          sound = rw (j, assigned_number rom x p g t s k) (simp (and-true, not-not));
          next = rw (j, s.next);
          aim = rw j;
        })

    -- a branch leads to a place of the program
    pub jumped_seen : family_in g.code ≡ always → VisitBy x kinds sums g cell (pick (not (eqb g.aim 0)) (own_by 0 g.aim) bad_visit)
    unfolding sound_of unknown_of
    jumped_seen k =
        own_seen (λ z. omega arith) (not (eqb g.aim 0)) 0 g.aim (λ rom p t s.
        let j = same_family rom x p g t s always k in
        record {
          uncalled = rw j;
          sound = rw (j, astray_aim rom x p g t s) (simp and-true);
          next = rw j;
          aim = rw (j, same_aim rom x p g t s);
        })

    pub chosen_seen : family_in g.code ≡ choice
        → VisitBy x kinds sums g cell (pick (not (eqb g.aim 0)) (own_by g.next g.aim) bad_visit)
    unfolding sound_of unknown_of
    chosen_seen k =
        own_seen (λ z. omega arith) (not (eqb g.aim 0)) g.next g.aim (λ rom p t s.
        let j = same_family rom x p g t s choice k in
        record {
          uncalled = rw j;
          sound = rw (j, astray_aim rom x p g t s) (simp and-true);
          next = rw (j, s.next);
          aim = rw (j, same_aim rom x p g t s);
        })

    -- a call is visited by what its number does
    call_seen : (rom : List ℕ) (p : ℕ) (t : Token) → VisitShown rom x p g t → family_in g.code ≡ call → (good : Bool)
        → not (eqb (kind_of kinds g.number) 0) ≡ good
        → pick good (visit_by x.within (called (sum_at sums g.number)) cell g.next 0) bad_visit ≡ visit_of rom x kinds sums p cell
    unfolding sound_of unknown_of effect_of
    call_seen rom p t s k good h = by good (q ∙ h)
      where
        j : family_in t.code ≡ call
        j = same_family rom x p g t s call k

        q : sound_of x kinds t cell ≡ not (eqb (kind_of kinds g.number) 0)
        q = rw (j, called_number rom x p g t s k) (simp and-true)

        by : (b : Bool) → sound_of x kinds t cell ≡ b
            → pick b (visit_by x.within (called (sum_at sums g.number)) cell g.next 0) bad_visit ≡ visit_of rom x kinds sums p cell
        by false i = unsound_visit rom x kinds sums p cell t s.read i
        by true i =
            let e : effect_of (sum_at sums) t ≡ called (sum_at sums t.number) = rw (effect_of, j) in
            let n : next_on t ≡ g.next = rw (j, s.next) in
            let w : branch_in t ≡ 0 = rw j in
            let v = rw (e, n, w) at (sound_visit rom x kinds sums p cell t s.read i) in
            rw (← called_number rom x p g t s k) v

    pub called_seen : family_in g.code ≡ call
        → VisitBy x kinds sums g cell
        (pick (not (eqb (kind_of kinds g.number) 0)) (visit_by x.within (called (sum_at sums g.number)) cell g.next 0) bad_visit)
    called_seen k rom p e =
        let a = met (λ z. omega arith) rom p e in
        call_seen rom p a.0 a.1 k (not (eqb (kind_of kinds g.number) 0)) refl

-- ---- the tally with a token, where its visit is good: the cells that it takes are there
module _ (sums : List ℕ) (y : Tally) (cell : ℕ) (t : Token) where
  -- one that is no call and no end rises no higher than it stands
  pub tallied_plain : (takes : ℕ) → is_a call t ≡ false → is_a leave t ≡ false → takes_here t ≡ takes
      → (effect_of (sum_at sums) t).takes ≤ height_in cell → raised_by y takes cell ≡ tallied y t (effect_of (sum_at sums) t) cell
  unfolding tallied effect_of
  tallied_plain takes c l h b =
      let i = rw (effect_of, c, h) at b in
      let m : max (height_in cell) (height_in cell - takes + takes) ≡ height_in cell = omega arith in
      let z : back_in cell + 0 ≡ back_in cell = omega arith in
      rw (effect_of, c, l, h) (simp (and-true, m, z))

  tallied_end : (takes : ℕ) → family_in t.code ≡ leave → takes_here t ≡ takes
      → (effect_of (sum_at sums) t).takes ≤ height_in cell → ended_by y takes cell ≡ tallied y t (effect_of (sum_at sums) t) cell
  unfolding tallied effect_of
  tallied_end takes l h b =
      let c : is_a call t ≡ false = rw l in
      let i = rw (effect_of, c, h) at b in
      let m : max (height_in cell) (height_in cell - takes + takes) ≡ height_in cell = omega arith in
      let z : back_in cell + 0 ≡ back_in cell = omega arith in
      rw (effect_of, c, eq-eqb _ _ l, h) (simp (m, z))

  tallied_call : (number : ℕ) → family_in t.code ≡ call → t.number ≡ number
      → called_by sums y number cell ≡ tallied y t (effect_of (sum_at sums) t) cell
  unfolding tallied effect_of
  tallied_call number k n = rw (effect_of, k, n) (simp and-true)

module _ (sums : List ℕ) (within : Bool) (g : Glance) (y : Tally) (cell : ℕ) where
  -- outside bodies nothing is told
  pub told_outside : within ≡ false → ToldBy sums within g y cell y
  told_outside o rom x kinds p w e v = rw o

  -- in a body the token is
  module _ (i : within ≡ true) where
    told_inside : (y' : Tally)
        → ((rom : List ℕ) (x : Scope) (p : ℕ) (t : Token) → VisitShown rom x p g t → (effect_of (sum_at sums) t).takes ≤ height_in cell
        → y' ≡ tallied y t (effect_of (sum_at sums) t) cell)
        → ToldBy sums within g y cell y'
    told_inside y' h rom x kinds p w e v =
        let f = visit_fits rom x kinds sums p cell v in
        let r = f.meets.is in
        rw (i, r) (h rom x p f.token (shown rom x p g f.token r e) f.meets.takes)

    pub told_call : family_in g.code ≡ call → ToldBy sums within g y cell (called_by sums y g.number cell)
    told_call k =
        told_inside (called_by sums y g.number cell)
        (λ rom x p t s b. tallied_call sums y cell t g.number (same_family rom x p g t s call k) (called_number rom x p g t s k))

    pub told_end : family_in g.code ≡ leave → ToldBy sums within g y cell (ended_by y (takes_seen g.code g.kind) cell)
    told_end k =
        told_inside (ended_by y (takes_seen g.code g.kind) cell)
        (λ rom x p t s b.
        tallied_end sums y cell t (takes_seen g.code g.kind) (same_family rom x p g t s leave k) (same_takes rom x p g t s) b)

    pub told_plain : family_in g.code ≢ call → family_in g.code ≢ leave
        → ToldBy sums within g y cell (raised_by y (takes_seen g.code g.kind) cell)
    told_plain c l =
        told_inside (raised_by y (takes_seen g.code g.kind) cell)
        (λ rom x p t s b.
        tallied_plain sums y cell t (takes_seen g.code g.kind) (rw s.code (ne_eqb _ _ c)) (rw s.code (ne_eqb _ _ l))
        (same_takes rom x p g t s) b)

-- ---- a token that was read quickly
-- such a token has no test of its own, and takes what its code says
pub quick_seen : (rom : List ℕ) (x : Scope) (kinds sums : List ℕ) (p cell : ℕ) (y : Tally) (q : Quick) → QuickRead rom x.length p q
    → SeenBy rom x kinds sums p cell y (visit_by x.within (plain_effect (takes_in q.code) q.code) cell q.next 0)
    (pick x.within (raised_by y (takes_in q.code) cell) y)
quick_seen rom x kinds sums p cell y q k =
    let a = k.read x.wide x.within in
    let t = a.0 in
    let f : family_in t.code ≡ plain = ap family_in a.2 ∙ k.plainly in
    let h : takes_here t ≡ takes_in q.code = rw (f, a.2) (omega arith) in
    let l = quiet_leads x kinds cell t q.next false a.3 (rw f) (rw f) in
    let v = own_visit rom x kinds sums p cell t true q.next 0 q.code (takes_in q.code) a.1 a.2 h l in
    record {
      visit = v;
      tally = λ g.
          let b = good_takes rom x kinds sums p cell t a.1 (ap (λ (w : Visit). w.good) (sym v) ∙ g) in
          tells x.within t a.1 (tallied_plain sums y cell t (takes_in q.code) (rw f) (rw f) h b);
    }
  where
    tells : (w : Bool) (t : Token) → read_of rom x.length x.wide x.within p ≡ Ok t
        → raised_by y (takes_in q.code) cell ≡ tallied y t (effect_of (sum_at sums) t) cell
        → pick w (raised_by y (takes_in q.code) cell) y ≡ told_in w sums y cell (read_of rom x.length x.wide x.within p)
    tells true t r e = rw r e
    tells false t r e = refl
