-- What is known of a token that was read, by what the token list says of its family.
-- Assumes nothing.
use Rattle.std.specs.Prelude.{ℕ, ◌<◌, ◌≤◌, ◌≡◌, refl, Bool, true, false, not, ◌&&◌, ◌||◌, List, [], ◌≢◌, T, None, Ok, Option, Some}
use Rattle.std.proofs.Common.{sym, ◌∙◌, subst, eqb→eq, ne_eqb}
use Rattle.std.proofs.Math.Dec.{eqb}
use Rattle.cells.specs.Laws.Tests.{neqb→ne}
use Rattle.cells.specs.Laws.Facts.{both_hold, follows, fails, is_false, never_true, neither, either, denied}
use Rattle.rom.specs.Branch.{aim_of}
use Rattle.rom.specs.Laws.Branch.{AimFits, aim_fits}
use Rattle.tokens.specs.Family.{finish, always, choice, widen, leave, define, assign, call, new_device, finish_device}
use Rattle.tokens.specs.Row.{offset, head, named_head, inside, outside}
use Rattle.tokens.specs.Table.{ends, lows, highs, doubles, table, is_program, row_of}
use Rattle.tokens.specs.Code.{code_of, family_in, out_of_place_in, form_in, gives_in, return_takes_in, return_gives_in}
use Rattle.tokens.specs.Decode.{behind_number, number_of, behind_of, operands, operand_of, is_kind, decode_of}
use Rattle.tokens.specs.Place.{misplaced_of, read_of}
use Rattle.tokens.specs.Laws.Rows.{code_fact}
use Rattle.tokens.specs.Laws.Tokens.{find_is}
use Rattle.tokens.specs.Definition.{new_number, kind_in}
use Rattle.tokens.specs.declared.decoding.Operand.{Operand}
use Rattle.tokens.specs.declared.decoding.Operand.TheVariants.{Nothing, Definition}
use Rattle.tokens.specs.declared.decoding.Token.{Token}
use Rattle.tokens.specs.Laws.Stands.{stands}
use Rattle.screen.specs.Effect.{is_a, fixes, is_branch, landings, aims, astray, names}
use Rattle.screen.specs.Reach.{In, here, there, Setting, after}

-- ---- what the token list says of every code
-- the families of tokens that are met exactly once, of branches, of ends, and all of these
abbrev fixes_code : ℕ → Bool
fixes_code c = eqb (family_in c) define || eqb (family_in c) widen || eqb (family_in c) new_device || eqb (family_in c) finish_device

abbrev branch_code : ℕ → Bool
branch_code c = eqb (family_in c) always || eqb (family_in c) choice

abbrev stop_code : ℕ → Bool
stop_code c = eqb (family_in c) finish || eqb (family_in c) leave || eqb (family_in c) always || eqb (family_in c) choice || fixes_code c

-- an offset stands behind a branch and nothing else
abbrev offset_fits : ℕ → Bool
offset_fits c = not (eqb (form_in c) offset) || branch_code c

offsets_fit : (n : ℕ) → T (offset_fits (code_of n))
unfolding table ends lows highs doubles
offsets_fit n = code_fact offset_fits tt tt tt n

-- a head stands behind a defining token
abbrev head_fits : ℕ → Bool
head_fits c = not (eqb (family_in c) define) || (eqb (form_in c) head || eqb (form_in c) named_head)

heads_fit : (n : ℕ) → T (head_fits (code_of n))
unfolding table ends lows highs doubles
heads_fit n = code_fact head_fits tt tt tt n

-- what is met exactly once, and what finishes, is out of place within bodies
abbrev inside_fits : ℕ → Bool
inside_fits c = not (fixes_code c || eqb (family_in c) finish) || eqb (out_of_place_in c) inside

insides_fit : (n : ℕ) → T (inside_fits (code_of n))
unfolding table ends lows highs doubles
insides_fit n = code_fact inside_fits tt tt tt n

-- what leaves a body is out of place outside of bodies
abbrev outside_fits : ℕ → Bool
outside_fits c = not (eqb (family_in c) leave) || eqb (out_of_place_in c) outside

outsides_fit : (n : ℕ) → T (outside_fits (code_of n))
unfolding table ends lows highs doubles
outsides_fit n = code_fact outside_fits tt tt tt n

-- what ends, branches or is met exactly once gives nothing
abbrev stop_fits : ℕ → Bool
stop_fits c = not (stop_code c) || (eqb (gives_in c) 0 && (eqb (return_gives_in c) 0 && eqb (return_takes_in c) 0))

stops_fit : (n : ℕ) → T (stop_fits (code_of n))
unfolding table ends lows highs doubles
stops_fit n = code_fact stop_fits tt tt tt n

-- nothing is in no list
pub none_in : {X : Type 0} {q : ℕ} → In q [] → X
none_in = elim [ ]

-- ---- families
-- a token is of one family
pub one_family : (a b : ℕ) (t : Token) → T (is_a a t) → T (not (eqb a b)) → is_a b t ≡ false
one_family a b t h n = rw (eqb→eq (family_in t.code) a h) (is_false (eqb a b) n)

-- what holds of the families of what is met exactly once holds of the token's
pub fixes_is : (Q : ℕ → Type 0) (t : Token) → Q define → Q widen → Q new_device → Q finish_device → T (fixes t) → Q (family_in t.code)
fixes_is Q t d w n f h =
    let k = family_in t.code in
    either (is_a define t || is_a widen t || is_a new_device t) (is_a finish_device t) (Q k) h
    (λ a. either (is_a define t || is_a widen t) (is_a new_device t) (Q k) a
    (λ b. either (is_a define t) (is_a widen t) (Q k) b (λ c. subst Q (sym (eqb→eq k define c)) d)
    (λ c. subst Q (sym (eqb→eq k widen c)) w))
    (λ b. subst Q (sym (eqb→eq k new_device b)) n))
    (λ a. subst Q (sym (eqb→eq k finish_device a)) f)

-- what is met exactly once is no branch
pub fixes_no_branch : (t : Token) → T (fixes t) → T (not (is_branch t))
fixes_no_branch t h = fixes_is (λ k. T (not (eqb k always || eqb k choice))) t tt tt tt tt h

-- no end
pub fixes_no_end : (t : Token) → T (fixes t) → T (not (is_a finish t || is_a leave t))
fixes_no_end t h = fixes_is (λ k. T (not (eqb k finish || eqb k leave))) t tt tt tt tt h

-- and names no number
pub fixes_no_name : (t : Token) → T (fixes t) → T (not (names t))
fixes_no_name t h = fixes_is (λ k. T (not (eqb k call || eqb k assign))) t tt tt tt tt h

-- ---- only an offset hangs on the width: any other operand, the place behind it, and the token are the same with either
same_operand : (rom : List ℕ) (len : ℕ) (v w : Bool) (p form : ℕ) → form ≢ offset
    → operand_of rom len v p form ≡ operand_of rom len w p form
unfolding operand_of
same_operand rom len v w p form n = rw (ne_eqb form offset n)

same_behind : (rom : List ℕ) (v w : Bool) (p form : ℕ) → form ≢ offset → behind_of rom v p form ≡ behind_of rom w p form
unfolding behind_of
same_behind rom v w p form n = rw (ne_eqb form offset n)

same_decode : (rom : List ℕ) (len : ℕ) (v w : Bool) (p : ℕ) → form_in (code_of (number_of rom p)) ≢ offset
    → decode_of rom len v p ≡ decode_of rom len w p
unfolding decode_of
same_decode rom len v w p n =
    let q = behind_number rom p in
    let f = form_in (code_of (number_of rom p)) in
    rw (same_operand rom len v w q f n, same_behind rom v w q f n)

same_read : (rom : List ℕ) (len : ℕ) (v w within : Bool) (p : ℕ) → form_in (code_of (number_of rom p)) ≢ offset
    → read_of rom len v within p ≡ read_of rom len w within p
unfolding read_of
same_read rom len v w within p n = rw (same_decode rom len v w p n)

-- ---- where a token is out of place
inside_out : (c : ℕ) → out_of_place_in c ≡ inside → T (not (misplaced_of c true)) → ⊥
unfolding misplaced_of
inside_out c e h = rw e at h

outside_out : (c : ℕ) → out_of_place_in c ≡ outside → T (not (misplaced_of c false)) → ⊥
unfolding misplaced_of
outside_out c e h = rw e at h

-- ---- the end of a body
end_leaves : T (eqb (family_in (code_of 0xC2)) leave)
unfolding code_of row_of table ends lows highs doubles
end_leaves = tt

-- ---- what is in force
-- what is not met exactly once leaves the setting as it is
pub after_same : (t : Token) (s : Setting) → T (not (fixes t)) → after t s ≡ s
after_same t s n =
    let a = neither (is_a define t || is_a widen t || is_a new_device t) (is_a finish_device t) n in
    let b = neither (is_a define t || is_a widen t) (is_a new_device t) a.0 in
    let c = neither (is_a define t) (is_a widen t) b.0 in
    rw (
      is_false (is_a define t) c.0,
      is_false (is_a widen t) c.1,
      is_false (is_a new_device t) b.1,
      is_false (is_a finish_device t) a.1,
    )

module _ (rom : List ℕ) (len : ℕ) (wide within : Bool) (p : ℕ) (t : Token) (e : read_of rom len wide within p ≡ Ok t) where
  -- a test of every code is a test of the token's
  coded_so : (f : ℕ → Bool) → ((n : ℕ) → T (f (code_of n))) → T (f t.code)
  coded_so f h = rw (stands rom len wide within p t e).code (h t.number)

  -- ---- branches
  abbrev Lands : Operand → Type 0
  Lands o = (q : ℕ) → In q (aims o) → (8 ≤ q) × (q < len)

  landed : (a : Option ℕ) → AimFits len a → (q : ℕ) → In q (landings a) → (8 ≤ q) × (q < len)
  landed (Some to) f q here = f
  landed (Some to) f q (there i) = none_in i
  landed None f q i = none_in i

  -- a branch leads to a place of the program
  pub aims_fit : (q : ℕ) → In q (aims t.operand) → (8 ≤ q) × (q < len)
  unfolding operand_of
  aims_fit =
      rw (stands rom len wide within p t e).operand
      (find_is Lands (operands rom len wide (behind_number rom p)) Nothing (form_in t.code) (
        (λ q i. none_in i),
        (
          (λ q i. none_in i),
          (
            landed (aim_of rom len wide (behind_number rom p)) (aim_fits rom len wide (behind_number rom p)),
            ((λ q i. none_in i), ((λ q i. none_in i), ((λ q i. none_in i), tt))),
          ),
        ),
      )
      (λ q i. none_in i))

  -- only a branch has an offset
  pub no_offset : T (not (is_branch t)) → form_in t.code ≢ offset
  no_offset n = neqb→ne (form_in t.code) offset (denied (eqb (form_in t.code) offset) (is_branch t) (coded_so offset_fits offsets_fit) n)

  -- ---- heads
  abbrev Heads : Operand → Type 0
  Heads o = T (is_program (new_number o)) × T (is_kind (kind_in o))

  head_is : (n k : ℕ) → t.operand ≡ Definition n k → Heads t.operand
  head_is n k g = let v = rw g at (stands rom len wide within p t e).formed in rw g (both_hold (is_program n) (is_kind k) v)

  -- a defining token has a new number and a kind
  pub heads : T (is_a define t) → T (is_program (new_number t.operand)) × T (is_kind (kind_in t.operand))
  unfolding operand_of
  heads d =
      let o = (stands rom len wide within p t e).operand in
      either (eqb (form_in t.code) head) (eqb (form_in t.code) named_head) (Heads t.operand)
      (follows (is_a define t) (eqb (form_in t.code) head || eqb (form_in t.code) named_head) (coded_so head_fits heads_fit) d)
      (λ f. let g = rw (eqb→eq (form_in t.code) head f) at o in head_is _ _ g)
      (λ f. let g = rw (eqb→eq (form_in t.code) named_head f) at o in head_is _ _ g)

  -- ---- what gives nothing
  -- what ends, branches or is met exactly once gives nothing, and takes nothing from the return stack
  pub stops_quiet : T (is_a finish t || is_a leave t || is_a always t || is_a choice t || fixes t)
      → (gives_in t.code ≡ 0) × (return_gives_in t.code ≡ 0) × (return_takes_in t.code ≡ 0)
  stops_quiet h =
      let c = t.code in
      let a = follows (stop_code c) (eqb (gives_in c) 0 && (eqb (return_gives_in c) 0 && eqb (return_takes_in c) 0))
      (coded_so stop_fits stops_fit) h in
      let b = both_hold (eqb (gives_in c) 0) (eqb (return_gives_in c) 0 && eqb (return_takes_in c) 0) a in
      let d = both_hold (eqb (return_gives_in c) 0) (eqb (return_takes_in c) 0) b.1 in
      (eqb→eq (gives_in c) 0 b.0, eqb→eq (return_gives_in c) 0 d.0, eqb→eq (return_takes_in c) 0 d.1)

  -- ---- what has no offset reads the same with either width
  -- a token that is no branch
  pub wide_same : T (not (is_branch t)) → (v : Bool) → read_of rom len v within p ≡ Ok t
  wide_same n v =
      let s = stands rom len wide within p t e in
      let f = rw (s.code, s.number) at (no_offset n) in
      same_read rom len v wide within p f ∙ e

  -- a token that is met exactly once
  pub fixed_wide : T (fixes t) → (v : Bool) → read_of rom len v within p ≡ Ok t
  fixed_wide h v = wide_same (fixes_no_branch t h) v

  -- ---- the end of a body
  -- C2 leaves the body, names no number and is no branch
  pub end_is : t.number ≡ 0xC2 → T (is_a leave t) × (names t ≡ false) × (astray t ≡ false)
  end_is n =
      let l : T (is_a leave t) = rw ((stands rom len wide within p t e).code, n) end_leaves in
      let f = eqb→eq (family_in t.code) leave l in
      (l, rw f refl, rw f refl)

-- ---- a token within a body, and outside of bodies
module _ (rom : List ℕ) (len : ℕ) (wide : Bool) (p : ℕ) (t : Token) where
  -- within a body nothing is met exactly once, and nothing finishes
  pub fixes_outside : read_of rom len wide true p ≡ Ok t → (fixes t ≡ false) × (is_a finish t ≡ false)
  fixes_outside e =
      let c = t.code in
      let m = coded_so rom len wide true p t e inside_fits insides_fit in
      let out =
      never_true (fixes t || is_a finish t)
      (λ h. inside_out c (eqb→eq (out_of_place_in c) inside (follows (fixes t || is_a finish t) (eqb (out_of_place_in c) inside) m h))
      (stands rom len wide true p t e).placed) in
      let n = neither (fixes t) (is_a finish t) (fails (fixes t || is_a finish t) out) in
      (is_false (fixes t) n.0, is_false (is_a finish t) n.1)

  -- outside of bodies nothing leaves one
  pub leave_inside : read_of rom len wide false p ≡ Ok t → is_a leave t ≡ false
  leave_inside e =
      let c = t.code in
      let m = coded_so rom len wide false p t e outside_fits outsides_fit in
      never_true (is_a leave t)
      (λ h. outside_out c (eqb→eq (out_of_place_in c) outside (follows (is_a leave t) (eqb (out_of_place_in c) outside) m h))
      (stands rom len wide false p t e).placed)
