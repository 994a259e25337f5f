-- What is known of a token that may stand where it stands, by the token list and by its bytes. Assumes nothing.
use Prim.Native.Nat.{ℕ, zero, suc, ◌-◌, ◌<◌, ◌≤◌}
use native.Mathlib.Omega.{arith}
use Rattle.std.specs.Prelude.{◌≡◌, refl, Bool, false, not, ◌&&◌, ◌||◌, List, [], ◌∷◌, eqb, Err, None, Ok, Option, Result, Some}
use Rattle.std.proofs.Math.Bool.{true}
use Rattle.std.proofs.Math.Dec.{T}
use Rattle.std.proofs.Common.{eqb→eq}
use Rattle.cells.specs.Choice.{pick, find}
use Rattle.cells.specs.Laws.Facts.{both_hold, either}
use Rattle.rom.specs.Branch.{aim_of, place_in}
use Rattle.rom.specs.Laws.Branch.{AimFits, aim_fits}
use Rattle.tokens.specs.Family.{plain, always, choice, text, divide, pick_up, roll_up, maybe, leave, fetch, store, define, kind, assign}
use Rattle.tokens.specs.Family.{encode_int, encode_string, join, property, titled}
use Rattle.tokens.specs.Row.{offset, head, named_head}
use Rattle.tokens.specs.Row.{outside as outside_bodies}
use Rattle.tokens.specs.Table.{ends, lows, highs, doubles, table, is_program}
use Rattle.tokens.specs.Code.{code_of, family_in, out_of_place_in, form_in, takes_in, gives_in, return_takes_in, return_gives_in}
use Rattle.tokens.specs.Decode.{behind_number, operand_of, formed, is_kind}
use Rattle.tokens.specs.Place.{misplaced_of, read_of}
use Rattle.tokens.specs.Body.{unknown_of, body_onward, after_of, body_from, body_of}
use Rattle.tokens.specs.Laws.Rows.{code_fact}
use Rattle.tokens.specs.Laws.Tokens.{AheadRead, read_ahead}
use Rattle.tokens.specs.Laws.Stands.{Stands}
use Rattle.tokens.specs.declared.decoding.Operand.{Operand}
use Rattle.tokens.specs.declared.decoding.Operand.TheVariants.{Definition}
use Rattle.tokens.specs.declared.decoding.Token.{Token}
use Rattle.tokens.specs.Body.{BodyRead}
use Rattle.tokens.specs.Definition.{new_number}
use Rattle.state.specs.Refusals.{outside_program, leads_out}
use Rattle.state.specs.Effects.{aimed, behind_body}
use Rattle.state.specs.Laws.Keeps.Whole.{Place}

-- ---- what the token list says of every code
-- how many cells a token of a family takes and gives, but those that only reckon and the kinds, which differ
abbrev pub takes_by : ℕ → ℕ
takes_by f =
    find (
    (choice, 1) ∷ (divide, 2) ∷ (pick_up, 1) ∷ (roll_up, 1) ∷ (maybe, 1) ∷ (fetch, 1) ∷ (store, 2) ∷ (assign, 1) ∷ (encode_int, 1) ∷
    (encode_string, 2) ∷
    (join, 4) ∷ (property, 4) ∷ (titled, 2) ∷ []
    ) 0 f

abbrev pub gives_by : ℕ → ℕ
gives_by f =
    find ((text, 2) ∷ (divide, 2) ∷ (pick_up, 1) ∷ (maybe, 1) ∷ (fetch, 1) ∷ (encode_int, 2) ∷ (encode_string, 2) ∷ (join, 2) ∷ []) 0 f

abbrev varied : ℕ → Bool
varied f = eqb f plain || eqb f kind

abbrev shape_fits : ℕ → Bool
shape_fits c = pick (varied (family_in c)) true (eqb (takes_in c) (takes_by (family_in c)) && eqb (gives_in c) (gives_by (family_in c)))

shapes_fit : (n : ℕ) → T (shape_fits (code_of n))
unfolding table ends lows highs doubles
shapes_fit n = code_fact shape_fits tt tt tt n

abbrev returns_fit : ℕ → Bool
returns_fit c = pick (eqb (family_in c) plain) true (eqb (return_takes_in c) 0 && eqb (return_gives_in c) 0)

returns_fit_lem : (n : ℕ) → T (returns_fit (code_of n))
unfolding table ends lows highs doubles
returns_fit_lem n = code_fact returns_fit tt tt tt n

abbrev form_fits : ℕ → Bool
form_fits c =
    pick (eqb (family_in c) always || eqb (family_in c) choice) (eqb (form_in c) offset)
    (pick (eqb (family_in c) define) (eqb (form_in c) head || eqb (form_in c) named_head) true)

forms_fit : (n : ℕ) → T (form_fits (code_of n))
unfolding table ends lows highs doubles
forms_fit n = code_fact form_fits tt tt tt n

abbrev leave_fits : ℕ → Bool
leave_fits c = pick (eqb (family_in c) leave) (eqb (out_of_place_in c) outside_bodies) true

leaves_fit : (n : ℕ) → T (leave_fits (code_of n))
unfolding table ends lows highs doubles
leaves_fit n = code_fact leave_fits tt tt tt n

-- ---- of a code of a family
not_first : (b x y : Bool) → T (not b) → T (pick b x y) → T y
not_first true x y n h = absurd n
not_first false x y n h = h

first_way : (b x y : Bool) → T b → T (pick b x y) → T x
first_way true x y n h = h
first_way false x y n h = absurd n

module _ (c n f : ℕ) (e : c ≡ code_of n) (k : family_in c ≡ f) where
  pub shape : T (not (varied f)) → (takes_in c ≡ takes_by f) × (gives_in c ≡ gives_by f)
  shape v =
      let h : T (shape_fits c) = rw e (shapes_fit n) in
      let r = both_hold (eqb (takes_in c) (takes_by f)) (eqb (gives_in c) (gives_by f)) (not_first (varied f) true _ v (rw k at h)) in
      (eqb→eq (takes_in c) (takes_by f) r.0, eqb→eq (gives_in c) (gives_by f) r.1)

  pub no_returns : T (not (eqb f plain)) → (return_takes_in c ≡ 0) × (return_gives_in c ≡ 0)
  no_returns v =
      let h : T (returns_fit c) = rw e (returns_fit_lem n) in
      let r = both_hold (eqb (return_takes_in c) 0) (eqb (return_gives_in c) 0) (not_first (eqb f plain) true _ v (rw k at h)) in
      (eqb→eq (return_takes_in c) 0 r.0, eqb→eq (return_gives_in c) 0 r.1)

  branch_form : T (eqb f always || eqb f choice) → form_in c ≡ offset
  branch_form v =
      let h : T (form_fits c) = rw e (forms_fit n) in
      eqb→eq (form_in c) offset (first_way (eqb f always || eqb f choice) _ _ v (rw k at h))

  head_form : T (eqb f define) → T (eqb (form_in c) head || eqb (form_in c) named_head)
  head_form v =
      let h : T (form_fits c) = rw e (forms_fit n) in
      let g = rw k at h in
      let i = rw (eqb→eq f define v) at g in
      i

  leave_place : T (eqb f leave) → out_of_place_in c ≡ outside_bodies
  leave_place v =
      let h : T (leave_fits c) = rw e (leaves_fit n) in
      eqb→eq (out_of_place_in c) outside_bodies (first_way (eqb f leave) _ true v (rw k at h))

-- ---- where a branch that does not lead out leads
fit : (size : ℕ) (a : Option ℕ) → AimFits size a → T (not (outside_program a)) → Place size (place_in a)
fit size (Some to) f h = let l = f.1 in record { from = f.0; to = omega arith }
fit size None f h = absurd h

module _ (rom : List ℕ) (size : ℕ) (wide : Bool) (at : ℕ) (form : ℕ) where
  branch_aims : (o : Operand) → o ≡ operand_of rom size wide at form → form ≡ offset → T (not (leads_out o)) → Place size (aimed o)
  unfolding operand_of
  branch_aims o e f h =
      let g = rw f at e in
      rw g (fit size (aim_of rom size wide at) (aim_fits rom size wide at) (rw g at h))

  head_names : (o : Operand) → o ≡ operand_of rom size wide at form → T (formed o) → T (eqb form head || eqb form named_head)
      → T (is_program (new_number o))
  unfolding operand_of
  head_names o e w h =
      either (eqb form head) (eqb form named_head) (T (is_program (new_number o))) h
      (λ t. let g = rw (eqb→eq form head t) at e in by _ _ g)
      (λ t. let g = rw (eqb→eq form named_head t) at e in by _ _ g)
    where
      by : (n k : ℕ) → o ≡ Definition n k → T (is_program (new_number o))
      by n k g = let v = rw g at w in rw g (both_hold (is_program n) (is_kind k) v).0

within_body : (c : ℕ) (within : Bool) → out_of_place_in c ≡ outside_bodies → T (not (misplaced_of c within)) → within ≡ true
unfolding misplaced_of
within_body c true e h = refl
within_body c false e h = absurd (rw e at h)

module _ (rom : List ℕ) (size : ℕ) (wide within : Bool) (p : ℕ) (t : Token) (s : Stands rom size wide within p t) where
  pub branch_place : (f : ℕ) → family_in t.code ≡ f → T (eqb f always || eqb f choice) → T (not (leads_out t.operand))
      → Place size (aimed t.operand)
  branch_place f k v h =
      branch_aims rom size wide (behind_number rom p) (form_in t.code) t.operand s.operand
      (branch_form t.code t.number f s.code k v) h

  pub new_number_lem : family_in t.code ≡ define → T (is_program (new_number t.operand))
  new_number_lem k =
      head_names rom size wide (behind_number rom p) (form_in t.code) t.operand s.operand s.formed
      (head_form t.code t.number define s.code k tt)

  pub leave_open : family_in t.code ≡ leave → within ≡ true
  leave_open k = within_body t.code within (leave_place t.code t.number leave s.code k tt) s.placed

-- ---- reading a body ends at a place
module _ (rom : List ℕ) (size : ℕ) (wide : Bool) (kinds : List ℕ) where
  abbrev Behind : ℕ → BodyRead → Type 0
  Behind p b = (p ≤ behind_body b) × (behind_body b ≤ size)

  onward_behind : (ends unknown : Bool) (p q : ℕ) (go : ℕ → BodyRead) → p < q → q ≤ size → Behind q (go q)
      → Behind p (body_onward ends unknown p go q)
  onward_behind true unknown p q go l m h = (omega arith, omega arith)
  onward_behind false true p q go l m h = (omega arith, omega arith)
  onward_behind false false p q go l m h = (omega arith, h.1)

  after_behind : (p : ℕ) (r : Result Token ℕ) (go : ℕ → BodyRead) → AheadRead size p r → p ≤ size → ((q : ℕ) → q ≤ size → Behind q (go q))
      → Behind p (after_of kinds p r go)
  after_behind p (Err why) go a l h = (omega arith, omega arith)
  after_behind p (Ok t) go a l h = onward_behind (eqb t.number 0xC2) (unknown_of kinds t) p t.next go a.0 a.1
      (h t.next a.1)

  from_behind : (k p : ℕ) → p ≤ size → Behind p (body_from rom size wide kinds k p)
  unfolding body_from
  from_behind zero p l = (omega arith, omega arith)
  from_behind (suc k) p l =
      after_behind p (read_of rom size wide true p) (λ q. body_from rom size wide kinds k q) (read_ahead rom size wide true p) l
      (λ q m. from_behind k q m)

  pub behind_body_lem : (p : ℕ) → p ≤ size → (p ≤ behind_body (body_of rom size wide kinds p))
      × (behind_body (body_of rom size wide kinds p) ≤ size)
  behind_body_lem p l = from_behind (size - p) p l
