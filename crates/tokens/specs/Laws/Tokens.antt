-- Laws that whoever reads tokens goes by: a whole token has a next place, past its own and not past the length; and reading a body goes
-- from token to token. Assumes nothing.
use Prim.Native.Nat.{ℕ, zero, suc, ◌+◌, ◌-◌, ◌≤◌, ◌<◌}
use Rattle.std.specs.Prelude.{◌≡◌, Bool, false, List, [], ◌∷◌, T, ltb, eqb, Err, Ok, Result}
use Rattle.std.proofs.Math.Path.{refl}
use Rattle.std.proofs.Common.{◌∙◌, subst, lt-ltb, eq-eqb, ne_eqb}
use Rattle.std.proofs.Math.Bool.{true}
use native.Mathlib.Omega.{arith}
use Rattle.cells.specs.Choice.{pick, find}
use Rattle.cells.specs.Laws.Tests.{tests, pick_is}
use Rattle.tokens.specs.Code.{code_of, form_in}
use Rattle.tokens.specs.Decode.{is_double, number_of, behind_number, behind_string, behinds, behind_of, operand_of, listed, token_of}
use Rattle.tokens.specs.Decode.{token_if_whole, decode_of}
use Rattle.rom.specs.Bytes.{byte_of}
use Rattle.tokens.specs.Place.{judged, misplaced_of, read_of}
use Rattle.tokens.specs.Body.{unknown_of, body_onward, after_of, body_from, body_of}
use Rattle.tokens.specs.declared.decoding.Token.{Token}
use Rattle.tokens.specs.declared.decoding.Decoded.{Decoded}
use Rattle.tokens.specs.declared.decoding.Decoded.TheVariants.{Cut, Unlisted, Whole}
use Rattle.tokens.specs.Body.{BodyRead, Ends, Stops}

-- ---- a table's entries
-- what holds of each entry of a table and of its default holds of what is found
abbrev pub Every : {A : Type 0} → (A → Type 0) → List (ℕ × A) → Type 0
Every Q [] = Unit {0}
Every Q (x ∷ xs) = Q x.1 × Every Q xs

pub find_is : {A : Type 0} (Q : A → Type 0) (t : List (ℕ × A)) (d : A) (n : ℕ) → Every Q t → Q d → Q (find t d n)
find_is Q [] d n e q = q
find_is Q (x ∷ xs) d n e q = pick_is Q (eqb n x.0) x.1 (find xs d n) (λ t. e.0) (λ t. find_is Q xs d n e.1 q)

-- ---- the next place
pub number_ahead : (rom : List ℕ) (p : ℕ) → p < behind_number rom p
number_ahead rom p = pick_is (λ n. p < p + n) (is_double (byte_of rom p)) 2 1 (λ t. omega arith) (λ t. omega arith)

pub behind_ahead : (rom : List ℕ) (wide : Bool) (p form : ℕ) → p ≤ behind_of rom wide p form
unfolding behind_of
behind_ahead rom wide p form =
    let n = number_ahead rom p in
    let m = number_ahead rom (behind_string rom p) in
    find_is (λ q. p ≤ q) (behinds rom wide p) p form (
      omega arith,
      (
        omega arith,
        (
          pick_is (λ n. p ≤ p + n) wide 2 1 (λ t. omega arith) (λ t. omega arith),
          (omega arith, (omega arith, (omega arith, tt))),
        ),
      ),
    )
    (omega arith)

-- the next place is past the token's own and not past the length
abbrev pub Follows : ℕ → ℕ → Token → Type 0
Follows length p t = (p < t.next) × (t.next ≤ length)

-- of what was decoded at a place
abbrev pub AheadIn : ℕ → ℕ → Decoded → Type 0
AheadIn length p Cut = Unit {0}
AheadIn length p (Unlisted code) = Unit {0}
AheadIn length p (Whole t) = Follows length p t

-- what is decoded at a place, by where the token ends and whether it is in the list
pub decoded_is : (Q : Decoded → Type 0) (rom : List ℕ) (length : ℕ) (wide : Bool) (p : ℕ)
    → let n = number_of rom p in
    let o = operand_of rom length wide (behind_number rom p) (form_in (code_of n)) in
    let next = behind_of rom wide (behind_number rom p) (form_in (code_of n)) in
    Q Cut → (next ≤ length → T (listed (code_of n) o) → Q (Whole (token_of n (code_of n) o next)))
    → (next ≤ length → Q (Unlisted (code_of n)))
    → Q (decode_of rom length wide p)
unfolding decode_of token_if_whole
decoded_is Q rom length wide p cut whole unlisted =
    let n = number_of rom p in
    let o = operand_of rom length wide (behind_number rom p) (form_in (code_of n)) in
    let next = behind_of rom wide (behind_number rom p) (form_in (code_of n)) in
    pick_is Q (ltb length next) Cut (pick (listed (code_of n) o) (Whole (token_of n (code_of n) o next)) (Unlisted (code_of n))) (λ t. cut)
    (λ t. pick_is Q (listed (code_of n) o) (Whole (token_of n (code_of n) o next)) (Unlisted (code_of n))
    (λ u. whole (omega (arith, tests)) u)
    (λ u. unlisted (omega (arith, tests))))

pub decode_ahead : (rom : List ℕ) (length : ℕ) (wide : Bool) (p : ℕ) → AheadIn length p (decode_of rom length wide p)
decode_ahead rom length wide p =
    let n = number_ahead rom p in
    let b = behind_ahead rom wide (behind_number rom p) (form_in (code_of (number_of rom p))) in
    decoded_is (AheadIn length p) rom length wide p tt (λ h l. (omega arith, h)) (λ h. tt)

-- of what was read there
abbrev pub AheadRead : ℕ → ℕ → Result Token ℕ → Type 0
AheadRead length p (Err why) = Unit {0}
AheadRead length p (Ok t) = Follows length p t

judged_ahead : (length p : ℕ) (within : Bool) (d : Decoded) → AheadIn length p d → AheadRead length p (judged within d)
judged_ahead length p within Cut a = tt
judged_ahead length p within (Unlisted code) a = tt
judged_ahead length p within (Whole t) a =
    pick_is (AheadRead length p) (misplaced_of t.code within) (Err 18) (Ok t) (λ m. tt) (λ m. a)

pub read_ahead : (rom : List ℕ) (length : ℕ) (wide within : Bool) (p : ℕ) → AheadRead length p (read_of rom length wide within p)
unfolding read_of
read_ahead rom length wide within p = judged_ahead length p within (decode_of rom length wide p) (decode_ahead rom length wide p)

pub next_ahead : (rom : List ℕ) (length : ℕ) (wide within : Bool) (p : ℕ) (t : Token) → read_of rom length wide within p ≡ Ok t
    → Follows length p t
next_ahead rom length wide within p t e = subst (AheadRead length p) e (read_ahead rom length wide within p)

-- no token starts at the length or past it
pub none_starts : (rom : List ℕ) (length : ℕ) (wide within : Bool) (p : ℕ) → length ≤ p → read_of rom length wide within p ≡ Err 10
unfolding read_of decode_of token_if_whole
none_starts rom length wide within p h =
    let n = number_ahead rom p in
    let b = behind_ahead rom wide (behind_number rom p) (form_in (code_of (number_of rom p))) in
    let l : length < behind_of rom wide (behind_number rom p) (form_in (code_of (number_of rom p))) = omega arith in
    rw (lt-ltb _ _ l)

-- ---- reading a body
module _ (rom : List ℕ) (length : ℕ) (wide : Bool) (kinds : List ℕ) where
  same_onward : (p : ℕ) (f g : ℕ → BodyRead) (ends unknown : Bool) (q : ℕ) → f q ≡ g q
      → body_onward ends unknown p f q ≡ body_onward ends unknown p g q
  same_onward p f g true unknown q e = refl
  same_onward p f g false true q e = refl
  same_onward p f g false false q e = e

  same_after : (p : ℕ) (f g : ℕ → BodyRead) (r : Result Token ℕ) → AheadRead length p r → ((q : ℕ) → p < q → f q ≡ g q)
      → after_of kinds p r f ≡ after_of kinds p r g
  same_after p f g (Err why) a e = refl
  same_after p f g (Ok t) a e = same_onward p f g (eqb t.number 0xC2) (unknown_of kinds t) t.next (e t.next a.0)

  -- more tokens than can start change nothing
  enough : (k j p : ℕ) → length - p ≤ k → length - p ≤ j → body_from rom length wide kinds k p ≡ body_from rom length wide kinds j p
  unfolding body_from
  enough zero zero p a b = refl
  enough zero (suc j) p a b = let l : length ≤ p = omega arith in rw (none_starts rom length wide true p l)
  enough (suc k) zero p a b = let l : length ≤ p = omega arith in rw (none_starts rom length wide true p l)
  enough (suc k) (suc j) p a b =
      same_after p (λ q. body_from rom length wide kinds k q) (λ q. body_from rom length wide kinds j q) (read_of rom length wide true p)
      (read_ahead rom length wide true p) (λ q h. enough k j q (omega arith) (omega arith))

  -- a body from p on: its first token, and then the body from the next place on
  pub body_is : (p : ℕ) → body_of rom length wide kinds p ≡ after_of kinds p (read_of rom length wide true p)
      (λ q. body_of rom length wide kinds q)
  unfolding body_from
  body_is p =
      enough (length - p) (suc (length - p)) p (omega arith) (omega arith)
      ∙ same_after p (λ q. body_from rom length wide kinds (length - p) q) (λ q. body_of rom length wide kinds q)
      (read_of rom length wide true p)
      (read_ahead rom length wide true p) (λ q h. enough (length - p) (length - q) q (omega arith) (omega arith))

  pub body_stops : (p why : ℕ) → read_of rom length wide true p ≡ Err why → body_of rom length wide kinds p ≡ Stops p why
  body_stops p why e = body_is p ∙ rw e

  module _ (p : ℕ) (t : Token) (e : read_of rom length wide true p ≡ Ok t) where
    pub body_ends : t.number ≡ 0xC2 → body_of rom length wide kinds p ≡ Ends p
    body_ends n = body_is p ∙ rw (e, eq-eqb _ _ n)

    pub body_goes : (t.number ≡ 0xC2 → ⊥) → unknown_of kinds t ≡ false
        → body_of rom length wide kinds p ≡ body_of rom length wide kinds t.next
    body_goes n u = body_is p ∙ rw (e, ne_eqb _ _ n, u)
