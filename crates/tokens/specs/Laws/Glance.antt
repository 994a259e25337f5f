-- Laws that whoever goes by glances needs: which token `read_of` has at a place, by what a glance at that place says. For each form of
-- operand there is a law that gives the token whole. Assumes nothing.
use Rattle.std.specs.Prelude.{ℕ, ◌+◌, ◌-◌, ◌*◌, ◌≤◌, ◌<◌, ◌≡◌, Bool, true, false, not, ◌&&◌, ◌||◌, List, T, eqb, ltb, leb, Err, Ok}
use Rattle.std.proofs.Math.Path.{refl, ap}
use Rattle.std.proofs.Common.{sym, subst, ◌∙◌, le-ltb, leb-true, eqb→eq}
use Rattle.std.proofs.Math.Bool.{or-false}
use native.Mathlib.Omega.{arith}
use Rattle.cells.specs.Choice.{pick}
use Rattle.cells.specs.Laws.Tests.{neqb→ne}
use Rattle.cells.specs.Laws.Facts.{both_hold, and_first}
use Rattle.rom.specs.Bytes.{byte_of, word32_of}
use Rattle.rom.specs.Branch.{offset_of, aim_of, place_in}
use Rattle.tokens.specs.Row.{none, literal, string, offset, number, head, named_head}
use Rattle.tokens.specs.Table.{ends, lows, highs, doubles, table, is_program, row_of}
use Rattle.tokens.specs.Code.{packed, code_of, form_in}
use Rattle.tokens.specs.Decode.{is_double, number_of, behind_number, behind_of, operand_of, is_kind, formed, listed, token_of, decode_of}
use Rattle.tokens.specs.Place.{judged, misplaced_of, read_of}
use Rattle.tokens.specs.Definition.{kind_in}
use Rattle.tokens.specs.Joints.Glance.{about_of, aim_in, nothing_seen, seen_in, glanced, glance_of}
use Rattle.tokens.specs.Laws.Rows.{rows_pass}
use Rattle.tokens.specs.Laws.Tokens.{AheadIn, decoded_is, decode_ahead}
use Rattle.tokens.specs.declared.decoding.Operand.{Operand}
use Rattle.tokens.specs.declared.decoding.Operand.TheVariants.{Nothing, Literal, Text, Branch, Number, Definition}
use Rattle.tokens.specs.declared.decoding.Token.{Token}
use Rattle.tokens.specs.declared.decoding.Decoded.{Decoded}
use Rattle.tokens.specs.declared.decoding.Decoded.TheVariants.{Cut, Unlisted, Whole}
use Rattle.tokens.specs.declared.glance.Glance.{Glance}

-- ---- no number of two bytes has an operand
pub double_plain : (n : ℕ) → 0x100 ≤ n → form_in (code_of n) ≡ none
unfolding code_of table ends lows highs doubles
double_plain n h =
    let r = rows_pass (λ m r. eqb (form_in (packed r)) none || ltb m 0x100) tt (λ m. tt) (λ m. tt) n in
    eqb→eq (form_in (packed (row_of n))) none (rw (le-ltb n 0x100 h, or-false (eqb (form_in (packed (row_of n))) none)) at r)

-- ---- the token at a place, and a glance at it
module _ (rom : List ℕ) (size : ℕ) (wide : Bool) (p : ℕ) where
  -- the one that stands there if there is one
  abbrev token_here : Token
  token_here =
      let n = number_of rom p in
      token_of n (code_of n) (operand_of rom size wide (behind_number rom p) (form_in (code_of n)))
      (behind_of rom wide (behind_number rom p) (form_in (code_of n)))

  record TokenThere (t : Token) : Type 0 where
    is : t ≡ token_here
    coded : t.code ≡ 0 → ⊥
    formed : T (formed t.operand)

  abbrev Here : Decoded → Type 0
  Here Cut = Unit {0}
  Here (Unlisted code) = Unit {0}
  Here (Whole t) = TokenThere t

  here : Here (decode_of rom size wide p)
  here = decoded_is Here rom size wide p tt (λ h l. stands l) (λ h. tt)
    where
      stands : T (listed token_here.code token_here.operand) → TokenThere token_here
      stands l =
          let b = both_hold (not (eqb token_here.code 0)) (formed token_here.operand) l in
          record { is = refl; coded = neqb→ne token_here.code 0 b.0; formed = b.1 }

-- of what was decoded
abbrev code_in : Glance → ℕ
code_in g = g.code

seen : (g : Glance) (d : Decoded) → glanced d ≡ g → (g.code ≡ 0 → ⊥) → (t : Token) × (d ≡ Whole t) × (seen_in t ≡ g)
seen g Cut e z = absurd (z (ap code_in (sym e)))
seen g (Unlisted code) e z = absurd (z (ap code_in (sym e)))
seen g (Whole t) e z = (t, refl, e)

refuses : (within : Bool) (g : Glance) (d : Decoded) → glanced d ≡ g → g.code ≡ 0 → ((t : Token) → d ≡ Whole t → t.code ≡ 0 → ⊥)
    → (why : ℕ) × (judged within d ≡ Err why)
refuses within g Cut e z l = (10, refl)
refuses within g (Unlisted code) e z l = (pick (misplaced_of code within) 18 11, refl)
refuses within g (Whole t) e z l = absurd (l t refl (ap code_in e ∙ z))

nothing_misplaced : (within : Bool) (g : Glance) → nothing_seen ≡ g → misplaced_of g.code within ≡ true → ⊥
unfolding misplaced_of
nothing_misplaced within g e m = subst T (sym (rw (ap code_in (sym e)) at m)) tt

displaced : (within : Bool) (g : Glance) (d : Decoded) → glanced d ≡ g → misplaced_of g.code within ≡ true → judged within d ≡ Err 18
displaced within g Cut e m = absurd (nothing_misplaced within g e m)
displaced within g (Unlisted code) e m = absurd (nothing_misplaced within g e m)
displaced within g (Whole t) e m = rw (ap code_in e, m)

well_placed : (within : Bool) (t : Token) → misplaced_of t.code within ≡ false → judged within (Whole t) ≡ Ok t
well_placed within t m = rw m

-- ---- by parts
same_token : (n m c k : ℕ) (o q : Operand) (x y : ℕ) → n ≡ m → c ≡ k → o ≡ q → x ≡ y → token_of n c o x ≡ token_of m k q y
same_token n m c k o q x y e f g h = rw (e, f, g, h)

-- ---- what `read_of` says at a place where a glance was taken
module _ (rom : List ℕ) (size : ℕ) (wide within : Bool) (p : ℕ) (g : Glance) (e : glance_of rom size wide p ≡ g) where
  -- no token of the list: one of the refusals 10, 18 and 11
  pub glance_refused : g.code ≡ 0 → (why : ℕ) × (read_of rom size wide within p ≡ Err why)
  unfolding glance_of read_of
  glance_refused z =
      refuses within g (decode_of rom size wide p) e z (λ t f. (subst (Here rom size wide p) f (here rom size wide p)).coded)

  -- one out of place
  pub glance_misplaced : misplaced_of g.code within ≡ true → read_of rom size wide within p ≡ Err 18
  unfolding glance_of read_of
  glance_misplaced m = displaced within g (decode_of rom size wide p) e m

  abbrev this : Token
  this = token_here rom size wide p

  module _ (z : g.code ≡ 0 → ⊥) where
    decoded_here : (decode_of rom size wide p ≡ Whole this) × (seen_in this ≡ g)
    unfolding glance_of
    decoded_here =
        let s = seen g (decode_of rom size wide p) e z in
        let i = (subst (Here rom size wide p) s.1 (here rom size wide p)).is in
        (s.1 ∙ ap Whole i, ap seen_in (sym i) ∙ s.2)

    formed_here : T (formed this.operand)
    formed_here = (subst (Here rom size wide p) decoded_here.0 (here rom size wide p)).formed

    same_code : code_of (number_of rom p) ≡ g.code
    same_code = ap code_in decoded_here.1

    -- the code is that of the number at the place: what the list says of every code holds of it
    pub glance_coded : g.code ≡ code_of (number_of rom p)
    glance_coded = sym same_code

    same_next : this.next ≡ g.next
    same_next = ap (λ (x : Glance). x.next) decoded_here.1

    about : about_of (number_of rom p) this.operand ≡ g.number
    about = ap (λ (x : Glance). x.number) decoded_here.1

    pub glance_ahead : (p < g.next) × (g.next ≤ size)
    glance_ahead =
        subst (λ (q : ℕ). (p < q) × (q ≤ size)) same_next (subst (AheadIn size p) decoded_here.0 (decode_ahead rom size wide p))

    -- the operand, where its form is known
    operand_is : (form : ℕ) → form_in g.code ≡ form
        → this.operand ≡ operand_of rom size wide (behind_number rom p) form
    operand_is form k = ap (λ (f : ℕ). operand_of rom size wide (behind_number rom p) f) (ap form_in same_code ∙ k)

    -- where there is one, the token's number is one byte
    one_byte : (form : ℕ) → form_in g.code ≡ form → (form ≡ none → ⊥) → is_double (byte_of rom p) ≡ false
    one_byte form k n = by (is_double (byte_of rom p)) refl
      where
        by : (d : Bool) → is_double (byte_of rom p) ≡ d → is_double (byte_of rom p) ≡ false
        by true h =
            let l = leb-true 1 (byte_of rom p) (and_first (leb 1 (byte_of rom p)) (leb (byte_of rom p) 0xF) h) in
            let w : number_of rom p ≡ byte_of rom p * 256 + byte_of rom (p + 1) = rw h in
            let x : 0x100 ≤ number_of rom p = rw w (omega arith) in
            absurd (n (sym k ∙ ap form_in (sym same_code) ∙ double_plain (number_of rom p) x))
        by false h = h

    module _ (m : misplaced_of g.code within ≡ false) where
      read_here : read_of rom size wide within p ≡ Ok this
      unfolding read_of
      read_here = ap (judged within) decoded_here.0 ∙ well_placed within this (rw same_code m)

      -- the token that is read, whatever its form
      pub glance_read : (t : Token) × (read_of rom size wide within p ≡ Ok t) × (seen_in t ≡ g)
      glance_read = (this, read_here, decoded_here.1)

      -- and by its form
      read_as : (n : ℕ) (o : Operand) → number_of rom p ≡ n → this.operand ≡ o
          → read_of rom size wide within p ≡ Ok (token_of n g.code o g.next)
      read_as n o a b = read_here ∙ ap Ok (same_token _ _ _ _ _ _ _ _ a same_code b same_next)

      own_number : (o : Operand) → this.operand ≡ o → about_of (number_of rom p) o ≡ g.number
      own_number o b = ap (about_of (number_of rom p)) (sym b) ∙ about

      pub read_plain : form_in g.code ≡ none → read_of rom size wide within p ≡ Ok (token_of g.number g.code Nothing g.next)
      unfolding operand_of
      read_plain k = let o = operand_is none k in read_as g.number Nothing (own_number Nothing o) o

      -- b(lit)
      pub read_literal : form_in g.code ≡ literal
          → read_of rom size wide within p ≡ Ok (token_of g.number g.code (Literal (word32_of rom (p + 1))) g.next)
      unfolding operand_of
      read_literal k =
          let d = one_byte literal k (λ z. omega arith) in
          let o : this.operand ≡ Literal (word32_of rom (p + 1)) = operand_is literal k ∙ rw d in
          read_as g.number (Literal (word32_of rom (p + 1))) (own_number (Literal (word32_of rom (p + 1))) o) o

      -- b("): its bytes lie from behind the length byte up to the next place
      text_ends : form_in g.code ≡ string → p + 2 + byte_of rom (p + 1) ≡ g.next
      unfolding behind_of
      text_ends k =
          let d = one_byte string k (λ z. omega arith) in
          let x : behind_of rom wide (behind_number rom p) (form_in g.code) ≡ p + 1 + 1 + byte_of rom (p + 1) = rw (k, d) in
          let y = same_next in
          let w = rw same_code at y in
          omega (arith, x, w)

      pub text_fits : form_in g.code ≡ string → p + 2 ≤ g.next
      text_fits k = let e = text_ends k in omega arith

      pub read_text : form_in g.code ≡ string
          → read_of rom size wide within p ≡ Ok (token_of g.number g.code (Text (p + 2) (g.next - (p + 2))) g.next)
      unfolding operand_of
      read_text k =
          let d = one_byte string k (λ z. omega arith) in
          let e = text_ends k in
          let a : p + 1 + 1 ≡ p + 2 = omega arith in
          let b : byte_of rom (p + 1) ≡ g.next - (p + 2) = omega arith in
          let o : this.operand ≡ Text (p + 2) (g.next - (p + 2)) = operand_is string k ∙ rw (d, a, b) in
          read_as g.number (Text (p + 2) (g.next - (p + 2))) (own_number (Text (p + 2) (g.next - (p + 2))) o) o

      -- bbranch and b?branch
      abbrev branch : Operand
      branch = Branch (offset_of rom wide (p + 1)) (aim_of rom size wide (p + 1))

      branch_is : form_in g.code ≡ offset → this.operand ≡ branch
      unfolding operand_of
      branch_is k = let d = one_byte offset k (λ z. omega arith) in operand_is offset k ∙ rw d

      pub read_branch : form_in g.code ≡ offset
          → read_of rom size wide within p
          ≡ Ok (token_of g.number g.code (Branch (offset_of rom wide (p + 1)) (aim_of rom size wide (p + 1))) g.next)
      read_branch k = let o = branch_is k in read_as g.number branch (own_number branch o) o

      pub branch_aim : form_in g.code ≡ offset → place_in (aim_of rom size wide (p + 1)) ≡ g.aim
      branch_aim k = ap aim_in (sym (branch_is k)) ∙ ap (λ (x : Glance). x.aim) decoded_here.1

      -- b(to)
      pub read_number : form_in g.code ≡ number
          → read_of rom size wide within p ≡ Ok (token_of (byte_of rom p) g.code (Number g.number) g.next)
      unfolding operand_of
      read_number k =
          let d = one_byte number k (λ z. omega arith) in
          let o : this.operand ≡ Number (number_of rom (behind_number rom p)) = operand_is number k in
          read_as (byte_of rom p) (Number g.number) (rw d) (o ∙ ap Number (own_number (Number (number_of rom (behind_number rom p))) o))

      -- new-token, and with a name: named-token and external-token
      module _ (form n k : ℕ) (f : form_in g.code ≡ form) (q : operand_of rom size wide (behind_number rom p) form ≡ Definition n k) where
        definition_is : this.operand ≡ Definition g.number g.kind
        definition_is =
            let o : this.operand ≡ Definition n k = operand_is form f ∙ q in
            let a : n ≡ g.number = own_number (Definition n k) o in
            let b : k ≡ g.kind = ap kind_in (sym o) ∙ ap (λ (x : Glance). x.kind) decoded_here.1 in
            o ∙ rw (a, b)

        a_definition : (form ≡ none → ⊥)
            → (read_of rom size wide within p ≡ Ok (token_of (byte_of rom p) g.code (Definition g.number g.kind) g.next))
            × T (is_program g.number && is_kind g.kind)
        a_definition y =
            let d = one_byte form f y in (
              read_as (byte_of rom p) (Definition g.number g.kind) (rw d) definition_is,
              subst (λ (o : Operand). T (formed o)) definition_is formed_here,
            )

      pub read_head : form_in g.code ≡ head
          → (read_of rom size wide within p ≡ Ok (token_of (byte_of rom p) g.code (Definition g.number g.kind) g.next))
          × T (is_program g.number && is_kind g.kind)
      unfolding operand_of
      read_head k = a_definition head _ _ k refl (λ z. omega arith)

      pub read_named : form_in g.code ≡ named_head
          → (read_of rom size wide within p ≡ Ok (token_of (byte_of rom p) g.code (Definition g.number g.kind) g.next))
          × T (is_program g.number && is_kind g.kind)
      unfolding operand_of
      read_named k = a_definition named_head _ _ k refl (λ z. omega arith)
