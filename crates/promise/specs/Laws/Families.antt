-- Every token that may stand where it stands has a family of which the evaluator knows what it does. Assumes nothing.
use Rattle.std.specs.Prelude.{ℕ, ◌≡◌, refl, Bool, true, false, not, ◌||◌, List, [], ◌∷◌, T, eqb, Err, Ok, Result}
use Rattle.std.proofs.Common.{subst, T_not, eqb-true}
use Rattle.cells.specs.Choice.{pick, find}
use Rattle.cells.specs.Laws.Tests.{pick_is}
use Rattle.cells.specs.Laws.Facts.{is_true, both_hold, either}
use Rattle.tokens.specs.Row.{everywhere}
use Rattle.tokens.specs.Table.{ends, lows, highs, doubles, table}
use Rattle.tokens.specs.Code.{code_of, family_in, out_of_place_in, form_in}
use Rattle.tokens.specs.Decode.{behind_number, number_of, operand_of, formed, decode_of}
use Rattle.tokens.specs.Place.{judged, misplaced_of, read_of}
use Rattle.tokens.specs.Laws.Rows.{code_fact}
use Rattle.tokens.specs.Laws.Tokens.{decoded_is}
use Rattle.tokens.specs.declared.decoding.Token.{Token}
use Rattle.tokens.specs.declared.decoding.Decoded.{Decoded}
use Rattle.tokens.specs.declared.decoding.Decoded.TheVariants.{Cut, Unlisted, Whole}
use Rattle.tokens.specs.Laws.Stands.{stands}
use Rattle.state.specs.Effects.{effects}
use Rattle.state.specs.Laws.Keeps.Tests.{EachAt}

-- ---- an entry of a table that has the number
abbrev pub has_entry : {A : Type 0} → ℕ → List (ℕ × A) → Bool
has_entry n [] = false
has_entry n (x ∷ xs) = eqb n x.0 || has_entry n xs

pub find_in : {A : Type 0} (Q : A → Type 0) (t : List (ℕ × A)) (d : A) (n : ℕ) → EachAt Q n t → T (has_entry n t) → Q (find t d n)
find_in Q [] d n e h = absurd h
find_in Q (x ∷ xs) d n e h = by (eqb n x.0) refl h (λ i. find_in Q xs d n e.1 i)
  where
    by : (b : Bool) → eqb n x.0 ≡ b → T (b || has_entry n xs) → (T (has_entry n xs) → Q (find xs d n)) → Q (pick b x.1 (find xs d n))
    by true k i r = e.0 (eqb-true n x.0 k)
    by false k i r = r i

-- ---- a token that is read is in the list
module _ (rom : List ℕ) (len : ℕ) (wide within : Bool) (p : ℕ) where
  abbrev ListedTo : Decoded → Type 0
  ListedTo Cut = Unit {0}
  ListedTo (Unlisted code) = Unit {0}
  ListedTo (Whole t) = T (not (eqb t.code 0))

  decodes : ListedTo (decode_of rom len wide p)
  decodes =
      let o = operand_of rom len wide (behind_number rom p) (form_in (code_of (number_of rom p))) in
      decoded_is ListedTo rom len wide p tt
      (λ h l. (both_hold (not (eqb (code_of (number_of rom p)) 0)) (formed o) l).0) (λ h. tt)

  abbrev ListedAs : Result Token ℕ → Type 0
  ListedAs (Err why) = Unit {0}
  ListedAs (Ok t) = T (not (eqb t.code 0))

  judged_listed : (d : Decoded) → ListedTo d → ListedAs (judged within d)
  judged_listed Cut h = tt
  judged_listed (Unlisted code) h = tt
  judged_listed (Whole t) h = pick_is ListedAs (misplaced_of t.code within) (Err 18) (Ok t) (λ m. tt) (λ m. h)

  read_listed : ListedAs (read_of rom len wide within p)
  unfolding read_of
  read_listed = judged_listed (decode_of rom len wide p) decodes

-- ---- what is in the list and not out of place everywhere has such a family
abbrev known_fits : ℕ → Bool
known_fits c = eqb c 0 || (eqb (out_of_place_in c) everywhere || has_entry (family_in c) effects)

known_fit : (n : ℕ) → T (known_fits (code_of n))
unfolding table ends lows highs doubles effects
known_fit n = code_fact known_fits tt tt tt n

always_out : (c : ℕ) (within : Bool) → out_of_place_in c ≡ everywhere → T (not (misplaced_of c within)) → ⊥
unfolding misplaced_of
always_out c within e h = rw e at h

pub family_known : (rom : List ℕ) (len : ℕ) (wide within : Bool) (p : ℕ) (t : Token) → read_of rom len wide within p ≡ Ok t
    → T (has_entry (family_in t.code) effects)
family_known rom len wide within p t e =
    let s = stands rom len wide within p t e in
    let k : T (known_fits t.code) = rw s.code (known_fit t.number) in
    let n = subst (ListedAs rom len wide within p) e (read_listed rom len wide within p) in
    let X = T (has_entry (family_in t.code) effects) in
    either (eqb t.code 0) (eqb (out_of_place_in t.code) everywhere || has_entry (family_in t.code) effects) X k
    (λ z. absurd (T_not (eqb t.code 0) n z))
    (λ r. either (eqb (out_of_place_in t.code) everywhere) (has_entry (family_in t.code) effects) X r
    (λ z. absurd (always_out t.code within (eqb-true _ _ (is_true _ z)) s.placed)) (λ z. z))
