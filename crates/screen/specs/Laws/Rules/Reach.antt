-- What the sentences of the least set come down to, one by one. Assumes nothing.
use Rattle.std.specs.Prelude.{ℕ, suc, ◌≤◌, ◌<◌, ◌≡◌, Bool, true, false, not, List, T, Ok, Result}
use Rattle.std.proofs.Common.{arith}
use Rattle.rom.specs.Header.{length_of}
use Rattle.tokens.specs.Laws.Tokens.{next_ahead}
use Rattle.tokens.specs.declared.decoding.Token.{Token}
use Rattle.screen.specs.Effect.{is_colon, leads_of}
use Rattle.screen.specs.Reach.{In, Setting, token_at, known, reads, extends, leads, Holds, Met, Starts}
use Rattle.screen.specs.Reach.{by_itself, past_body, to_next, through_body, last, more}

pub data LeadsBy (rom : List ℕ) (w : Bool) (p : ℕ) (t : Token) (q : ℕ) : Type 0 where
  itself : Holds rom (known p t) → In q (leads_of t) → LeadsBy rom w p t q
  behind : T (is_colon t) → Holds rom (extends w t q) → LeadsBy rom w p t q

pub leads_by : {rom : List ℕ} {w : Bool} {p q : ℕ} {t : Token} → Holds rom (leads w p t q) → LeadsBy rom w p t q
leads_by (by_itself k i) = itself k i
leads_by (past_body c e) = behind c e

pub data ExtendsBy (rom : List ℕ) (w : Bool) (t : Token) : ℕ → Type 0 where
  short : T (not (is_colon t)) → ExtendsBy rom w t t.next
  long : {c : ℕ} → T (is_colon t) → Holds rom (reads w t.next c) → ExtendsBy rom w t (suc c)

pub extends_by : {rom : List ℕ} {w : Bool} {e : ℕ} {t : Token} → Holds rom (extends w t e) → ExtendsBy rom w t e
extends_by (to_next n) = short n
extends_by (through_body c r) = long c r

-- ---- tokens
-- one place has one token
pub one_good : {r : Result Token ℕ} {t u : Token} → r ≡ Ok t → r ≡ Ok u → t ≡ u
one_good e f = cc (e, f)

-- ---- the token starts of a body
-- a start of a body is its first place, or a start of what is behind its first token
data Split (rom : List ℕ) (w : Bool) (p : ℕ) (t : Token) : ℕ → Type 0 where
  here : Split rom w p t p
  further : {q : ℕ} → (t.number ≡ 0xC2 → ⊥) → Starts rom w t.next q → Split rom w p t q

split : {rom : List ℕ} {w : Bool} {p q : ℕ} {t : Token} → token_at rom 1 w p ≡ Ok t → Starts rom w p q → Split rom w p t q
split e Starts.entry = here
split {rom} {w} {p} {q} {t} e (Starts.behind {t = u} s f n) = onto (split e s) f
  where
    onto : {r : ℕ} → Split rom w p t r → token_at rom 1 w r ≡ Ok u → Split rom w p t u.next
    onto here f = let d : u ≡ t = cc (e, f) in rw d (further (λ z. n (rw d z)) Starts.entry)
    onto (further m s') f = further m (Starts.behind s' f n)

-- what holds of the first place, and of the starts behind its token, holds of every start
pub by_start : {rom : List ℕ} {w : Bool} {p q : ℕ} {t : Token} (Q : ℕ → Type 0) → token_at rom 1 w p ≡ Ok t → Starts rom w p q → Q p
    → ((t.number ≡ 0xC2 → ⊥) → Starts rom w t.next q → Q q) → Q q
by_start {rom} {w} {p} {q} {t} Q e s h f = by (split e s) h f
  where
    by : {r : ℕ} → Split rom w p t r → Q p → ((t.number ≡ 0xC2 → ⊥) → Starts rom w t.next r → Q r) → Q r
    by here h f = h
    by (further m s') h f = f m s'

-- a start of what is behind the first token is a start
pub prepend : {rom : List ℕ} {w : Bool} {p q : ℕ} {t : Token} → token_at rom 1 w p ≡ Ok t → (t.number ≡ 0xC2 → ⊥)
    → Starts rom w t.next q
    → Starts rom w p q
prepend {rom} {w} {p} {q} {t} e n s = onto s
  where
    onto : {r : ℕ} → Starts rom w t.next r → Starts rom w p r
    onto Starts.entry = Starts.behind Starts.entry e n
    onto (Starts.behind s' f m) = Starts.behind (onto s') f m

-- ---- where a body ends
-- the C2 that ends a body is a start of it, and is before the length
pub record EndIs (rom : List ℕ) (w : Bool) (p c : ℕ) : Type 0 where
  pub low : p ≤ c
  pub high : c < length_of rom
  pub start : Starts rom w p c
  pub token : Token
  pub is : token_at rom 1 w c ≡ Ok token
  pub number : token.number ≡ 0xC2

-- it is so of every body that ends
pub end_is : {rom : List ℕ} {w : Bool} {p c : ℕ} → Holds rom (reads w p c) → EndIs rom w p c
end_is {rom} {w} {p} (last {t = t} e n) =
    let a = next_ahead rom (length_of rom) w true p t e in
    record { low = omega arith; high = omega arith; start = Starts.entry; token = t; is = e; number = n }
end_is {rom} {w} {p} (more {t = t} e n k r) =
    let a = next_ahead rom (length_of rom) w true p t e in
    let y = end_is r in
    record { low = omega arith; high = y.high; start = prepend e n y.start; token = y.token; is = y.is; number = y.number }

-- each of its starts is a whole token, not behind it
pub record Within (rom : List ℕ) (w : Bool) (p c q : ℕ) : Type 0 where
  pub low : p ≤ q
  pub high : q ≤ c
  pub token : Token
  pub is : token_at rom 1 w q ≡ Ok token

-- it is so of every start
pub start_within : {rom : List ℕ} {w : Bool} {p c q : ℕ} → Holds rom (reads w p c) → Starts rom w p q → Within rom w p c q
start_within {rom} {w} {p} (last {t = t} e n) s =
    by_start (Within rom w p p) e s (record { low = omega arith; high = omega arith; token = t; is = e }) (λ m s'. absurd (m n))
start_within {rom} {w} {p} {c} (more {t = t} e n k r) s =
    let a = next_ahead rom (length_of rom) w true p t e in
    by_start (Within rom w p c) e s (let y = end_is r in record { low = omega arith; high = omega arith; token = t; is = e })
    (λ m s'. let y = start_within r s' in record { low = omega arith; high = y.high; token = y.token; is = y.is })

-- a body has one end
pub one_end : {rom : List ℕ} {w : Bool} {p c d : ℕ} → Holds rom (reads w p c) → Holds rom (reads w p d) → c ≡ d
one_end r s = let a = start_within r (end_is s).start in let b = start_within s (end_is r).start in omega arith

-- ---- how far a token reaches
-- a token reaches past its own place
pub extends_ahead : {rom : List ℕ} {s : Setting} {p e : ℕ} {t : Token} → Met rom 0 s p t → Holds rom (extends s.wide t e) → p < e
extends_ahead {rom} {s} {p} {e} {t} m h = by (extends_by h)
  where
    ahead : (p < t.next) × (t.next ≤ length_of rom)
    ahead = next_ahead rom (length_of rom) s.wide false p t m.is

    by : {k : ℕ} → ExtendsBy rom s.wide t k → p < k
    by (short n) = let l = ahead in omega arith
    by (long c r) = let l = ahead in let m = (end_is r).low in omega arith
