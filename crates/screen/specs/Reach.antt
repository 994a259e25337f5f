-- "The reachable tokens are the least set from position 8, or from the first byte of a reachable b(:)'s body, by falling through, by
-- bbranch's destination and by both ways of b?branch; finishing, leaving a body and a token giving 10, 11, 12 (by rule 5's numbers), 18 or
-- 19 have no successor or body. The offset width in force travels with the place. A token reached from position 8 itself counts as outside
-- bodies wherever it lies". Assumes nothing.
use Rattle.std.specs.Prelude.{ℕ, zero, suc, ◌-◌, ◌≤◌, ◌≡◌, Bool, true, false, not, ◌||◌, List, ◌∷◌, T, Ok, Result}
use Rattle.rom.specs.Header.{length_of, wide_of}
use Rattle.rom.specs.Sizes.{first_place}
use Rattle.cells.specs.Choice.{pick}
use Rattle.tokens.specs.Family.{widen, define, assign, call, new_device, finish_device}
use Rattle.tokens.specs.Place.{read_of}
use Rattle.tokens.specs.Body.{number_in}
use Rattle.tokens.specs.Definition.{value, new_number, kind_in}
use Rattle.tokens.specs.declared.decoding.Token.{Token}
use Rattle.screen.specs.Effect.{is_a, is_colon, leads_of, names}

pub data In (q : ℕ) : List ℕ → Type 0 where
  here : {qs : List ℕ} → In q (q ∷ qs)
  there : {r : ℕ} {qs : List ℕ} → In q qs → In q (r ∷ qs)

-- What is in force where a token is met: the offset width (wide where it is 16), and how many children are open, how many nodes there are
-- and how many numbers are defined.
pub record Setting : Type 0 where
  pub wide : Bool
  pub children : ℕ
  pub nodes : ℕ
  pub numbers : ℕ

-- "The offset width in force travels with the place", and so does the rest
abbrev pub children_after : Token → ℕ → ℕ
children_after t k = pick (is_a new_device t) (suc k) (pick (is_a finish_device t) (k - 1) k)

abbrev pub nodes_after : Token → ℕ → ℕ
nodes_after t k = pick (is_a new_device t) (suc k) k

abbrev pub numbers_after : Token → ℕ → ℕ
numbers_after t k = pick (is_a define t) (suc k) k

abbrev pub after : Token → Setting → Setting
after t s =
    record {
      wide = is_a widen t || s.wide;
      children = children_after t s.children;
      nodes = nodes_after t s.nodes;
      numbers = numbers_after t s.numbers;
    }

-- at place 8 there are the root and its child, which is not open to be finished
abbrev pub setting : Bool → Setting
setting wide = record { wide = wide; children = 0; nodes = 2; numbers = 0 }

-- Texts: 0 is what is outside bodies, `suc d` the body of the b(:) at d.
abbrev pub in_body : ℕ → Bool
in_body zero = false
in_body (suc d) = true

-- the token at a place of a text, with the offset width in force there; 10, 18 and 11 are no token
abbrev pub token_at : List ℕ → ℕ → Bool → ℕ → Result Token ℕ
token_at rom x wide p = read_of rom (length_of rom) wide (in_body x) p

-- a token defines a number
pub record Defining (t : Token) (n : ℕ) : Type 0 where
  pub is : T (is_a define t)
  pub number : new_number t.operand ≡ n

-- a token names a number that is defined so: 12 is "program number undefined, or not a value after b(to)"
pub data Named (t u : Token) : Type 0 where
  calls : T (is_a call t) → Defining u t.number → Named t u
  assigns : T (is_a assign t) → Defining u (number_in t.operand) → kind_in u.operand ≡ value → Named t u

-- What the least set is told of: the sentences hang on each other, so that they are one family.
pub data Claim : Type 0 where
  -- the token at a place of a text is reachable, met in this setting
  reached : ℕ → Setting → ℕ → Claim
  -- the token at this place names no number but one that is defined "by a reachable token that lies wholly before it"
  known : ℕ → Token → Claim
  -- a body that is read from this place on, with this width, ends with the C2 there: up to it no token gives 10, 18, 11 or 12
  reads : Bool → ℕ → ℕ → Claim
  -- the token, met with this width, reaches up to this place; "a b(:) reaches through its C2"
  extends : Bool → Token → ℕ → Claim
  -- the token at the first place, met with this width, has the successor behind it
  leads : Bool → ℕ → Token → ℕ → Claim

pub data Holds (rom : List ℕ) : Claim → Type 0 where
  -- "from position 8"
  first : Holds rom (reached 0 (setting (wide_of rom)) first_place)
  -- "or from the first byte of a reachable b(:)'s body"
  body : {s : Setting} {d c : ℕ} {t : Token} → Holds rom (reached 0 s d) → token_at rom 0 s.wide d ≡ Ok t → T (is_colon t)
      → Holds rom (reads s.wide t.next c) → Holds rom (reached (suc d) s t.next)
  -- a token's successor is met in the setting that the token leaves
  next : {x : ℕ} {s : Setting} {p q : ℕ} {t : Token} → Holds rom (reached x s p) → token_at rom x s.wide p ≡ Ok t
      → Holds rom (leads s.wide p t q) → Holds rom (reached x (after t s) q)
  -- "by falling through, by bbranch's destination and by both ways of b?branch"; a token giving 12 has no successor
  by_itself : {w : Bool} {p q : ℕ} {t : Token} → Holds rom (known p t) → In q (leads_of t) → Holds rom (leads w p t q)
  -- a b(:) leads past its C2
  past_body : {w : Bool} {p q : ℕ} {t : Token} → T (is_colon t) → Holds rom (extends w t q) → Holds rom (leads w p t q)
  -- "each number used is defined by a reachable token that lies wholly before it"
  unnamed : {p : ℕ} {t : Token} → T (not (names t)) → Holds rom (known p t)
  named : {p : ℕ} {t : Token} {s : Setting} {d e : ℕ} {u : Token} → Holds rom (reached 0 s d) → token_at rom 0 s.wide d ≡ Ok u
      → Named t u
      → Holds rom (extends s.wide u e) → e ≤ p → Holds rom (known p t)
  -- a token reaches up to the place behind it, a b(:) through its C2
  to_next : {w : Bool} {t : Token} → T (not (is_colon t)) → Holds rom (extends w t t.next)
  through_body : {w : Bool} {t : Token} {c : ℕ} → T (is_colon t) → Holds rom (reads w t.next c) → Holds rom (extends w t (suc c))
  -- a body's tokens, up to the first C2 that starts one: text 1 stands for any body, whose tokens are read alike
  last : {w : Bool} {p : ℕ} {t : Token} → token_at rom 1 w p ≡ Ok t → t.number ≡ 0xC2 → Holds rom (reads w p p)
  more : {w : Bool} {p c : ℕ} {t : Token} → token_at rom 1 w p ≡ Ok t → (t.number ≡ 0xC2 → ⊥) → Holds rom (known p t)
      → Holds rom (reads w t.next c) → Holds rom (reads w p c)

abbrev pub Reach : List ℕ → ℕ → Setting → ℕ → Type 0
Reach rom x s p = Holds rom (reached x s p)

-- a reachable token
pub record Met (rom : List ℕ) (x : ℕ) (s : Setting) (p : ℕ) (t : Token) : Type 0 where
  pub reach : Reach rom x s p
  pub is : token_at rom x s.wide p ≡ Ok t

-- a reachable b(:), with the number that it defines and the place of its C2
pub record Body (rom : List ℕ) (s : Setting) (d : ℕ) (t : Token) (n c : ℕ) : Type 0 where
  pub met : Met rom 0 s d t
  pub colon : T (is_colon t)
  pub number : new_number t.operand ≡ n
  pub reads : Holds rom (reads s.wide t.next c)

-- the token starts of the body that starts at e, its C2 the last
pub data Starts (rom : List ℕ) (w : Bool) (e : ℕ) : ℕ → Type 0 where
  entry : Starts rom w e e
  behind : {p : ℕ} {t : Token} → Starts rom w e p → token_at rom 1 w p ≡ Ok t → (t.number ≡ 0xC2 → ⊥) → Starts rom w e t.next
