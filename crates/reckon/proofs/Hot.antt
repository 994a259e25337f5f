-- A token that is done in place, as the step reads it: its number is one byte, it is never out of place, and its form is none, a literal or
-- an offset. Assumes nothing.
use Rattle.std.proofs.Common.{Err, Ok, Result}
use Prim.Native.Nat.{ℕ, ◌+◌, ◌*◌, ◌<◌, ◌≤◌}
use mathlib.Core.Path.{◌≡◌, refl, ◌∙◌, ap}
use mathlib.Core.Bool.{Bool, true, false, not, ◌&&◌, ◌||◌}
use mathlib.Core.List.{List, [], ◌∷◌}
use native.Mathlib.Omega.{arith}
use borrow.Author.Tests.{eqb-true, leb-true, lt-ltb}
use lib.Dec.{T, ltb, leb, eqb, eqb→eq}
use Rattle.cells.specs.Choice.{pick, among}
use Rattle.cells.specs.Laws.Tests.{pick_is, tests}
use Rattle.cells.specs.Laws.Facts.{is_false, holds, both_hold, follows, never_true}
use Rattle.rom.specs.Bytes.{byte_of}
use Rattle.tokens.specs.Row.{Row}
use Rattle.tokens.specs.Table.{ends, lows, highs, doubles, table, row_of}
use Rattle.tokens.specs.Code.{packed, code_of, family_in, out_of_place_in, form_in}
use Rattle.tokens.specs.Decode.{is_double, number_of, behind_number, behind_string, behind_of, operand_of, formed, token_if_whole}
use Rattle.tokens.specs.Decode.{decode_of}
use Rattle.tokens.specs.Decode.{token_of as token_made}
use Rattle.tokens.specs.Place.{judged, misplaced_of, read_of}
use Rattle.tokens.specs.declared.decoding.Operand.{Operand}
use Rattle.tokens.specs.declared.decoding.Decoded.TheVariants.{Cut, Whole}
use Rattle.tokens.specs.Laws.Rows.{rows_pass, Beside, none_left}
use Rattle.state.specs.State.{is_open}
use Rattle.state.specs.Scene.{Scene, refuse}
use Rattle.state.specs.Step.{read_turn, done_of, token_turn}
use Rattle.state.specs.Joints.Hot.{hot_family}
use Rattle.tokens.specs.declared.decoding.Token.{Token}

-- ---- what the list says of every hot number
abbrev fits : ℕ → ℕ → Bool
fits m c =
    not (is_double m) &&
    (ltb m 256 && (not (eqb c 0) && (eqb (out_of_place_in c) 0 && (eqb (form_in c) 0 || (eqb (form_in c) 1 || eqb (form_in c) 3)))))

hot_fits : (n : ℕ) → T (hot_family (family_in (code_of n))) → T (fits n (code_of n))
unfolding code_of table ends lows highs doubles
hot_fits n h =
    follows (hot_family (family_in (packed (row_of n)))) (fits n (packed (row_of n)))
    (rows_pass (λ m r. not (hot_family (family_in (packed r))) || fits m (packed r)) tt (λ m. tt) (λ m. tt) n) h

record HotToken (n : ℕ) : Type 0 where
  single : is_double n ≡ false
  byte : n < 256
  named : eqb (code_of n) 0 ≡ false
  anywhere : out_of_place_in (code_of n) ≡ 0
  form : T (eqb (form_in (code_of n)) 0 || (eqb (form_in (code_of n)) 1 || eqb (form_in (code_of n)) 3))

hot_token : (n : ℕ) → T (hot_family (family_in (code_of n))) → HotToken n
hot_token n h =
    let a = both_hold (not (is_double n)) _ (hot_fits n h) in
    let b = both_hold (ltb n 256) _ a.1 in
    let c = both_hold (not (eqb (code_of n) 0)) _ b.1 in
    let d = both_hold (eqb (out_of_place_in (code_of n)) 0) _ c.1 in
    let l = b.0 in
    record {
      single = is_false (is_double n) a.0;
      byte = omega (arith, tests);
      named = is_false (eqb (code_of n) 0) c.0;
      anywhere = eqb→eq _ _ d.0;
      form = d.1;
    }

-- an operand of such a form is no definition
form_formed : (rom : List ℕ) (size : ℕ) (wide : Bool) (q form : ℕ) → T (eqb form 0 || (eqb form 1 || eqb form 3))
    → formed (operand_of rom size wide q form) ≡ true
unfolding operand_of
form_formed rom size wide q form h = by (eqb form 0) (eqb form 1) (eqb form 3) refl refl refl h
  where
    by : (a b c : Bool) → eqb form 0 ≡ a → eqb form 1 ≡ b → eqb form 3 ≡ c → T (a || (b || c))
        → formed (operand_of rom size wide q form) ≡ true
    by true b c x y z t = rw (eqb-true form 0 x)
    by false true c x y z t = rw (eqb-true form 1 y)
    by false false true x y z t = rw (eqb-true form 3 z)
    by false false false x y z t = absurd t

module _ (rom : List ℕ) (size : ℕ) (wide within : Bool) (p : ℕ) (n : ℕ) (e : n ≡ byte_of rom p)
    (hot : T (hot_family (family_in (code_of n))))
  where
    abbrev next_of : ℕ
    next_of = behind_of rom wide (p + 1) (form_in (code_of n))

    abbrev operand_here : Operand
    operand_here = operand_of rom size wide (p + 1) (form_in (code_of n))

    hot_decoded : decode_of rom size wide p ≡ token_if_whole size n (code_of n) operand_here next_of
    unfolding decode_of
    hot_decoded =
        let s : is_double (byte_of rom p) ≡ false = rw (← e) (hot_token n hot).single in
        rw (s, ← e)

    judged_hot : (b : Bool) → judged within (pick b Cut (Whole (token_made n (code_of n) operand_here next_of)))
        ≡ pick b (Err 10) (Ok (token_made n (code_of n) operand_here next_of))
    unfolding misplaced_of
    judged_hot true = refl
    judged_hot false = rw (hot_token n hot).anywhere

    -- what is read there
    pub hot_read : read_of rom size wide within p ≡ pick (ltb size next_of) (Err 10)
        (Ok (token_made n (code_of n) operand_here next_of))
    unfolding read_of token_if_whole
    hot_read =
        rw (hot_decoded, (hot_token n hot).named, form_formed rom size wide (p + 1) (form_in (code_of n)) (hot_token n hot).form)
        (judged_hot (ltb size next_of))

-- ---- a turn with such a token: cut off, or done
pub hot_turn : (s : Scene) (n : ℕ) → n ≡ byte_of s.rom s.state.place → T (hot_family (family_in (code_of n)))
    → token_turn s ≡ pick (ltb s.state.length (behind_of s.rom s.state.wide (s.state.place + 1) (form_in (code_of n))))
    (refuse 10 s)
    (done_of s (token_made n (code_of n) (operand_of s.rom s.state.length s.state.wide (s.state.place + 1) (form_in (code_of n)))
    (behind_of s.rom s.state.wide (s.state.place + 1) (form_in (code_of n)))))
unfolding token_turn
hot_turn s n e hot =
    ap (λ (r : Result Token ℕ). read_turn s r) (hot_read s.rom s.state.length s.state.wide (is_open s.state.calls)
    s.state.place n e hot)
    ∙ by (ltb s.state.length (behind_of s.rom s.state.wide (s.state.place + 1) (form_in (code_of n))))
  where
    by : (b : Bool)
        → read_turn s
        (pick b (Err 10)
        (Ok (token_made n (code_of n) (operand_of s.rom s.state.length s.state.wide (s.state.place + 1) (form_in (code_of n)))
        (behind_of s.rom s.state.wide (s.state.place + 1) (form_in (code_of n))))))
        ≡ pick b (refuse 10 s)
        (done_of s
        (token_made n (code_of n) (operand_of s.rom s.state.length s.state.wide (s.state.place + 1) (form_in (code_of n)))
        (behind_of s.rom s.state.wide (s.state.place + 1) (form_in (code_of n)))))
    by true = refl
    by false = refl

-- ---- a number of two bytes is none of these
pub double_cold : (rom : List ℕ) (p : ℕ) → is_double (byte_of rom p) ≡ true → hot_family (family_in (code_of (number_of rom p))) ≡ false
double_cold rom p e = by (hot_family (family_in (code_of (number_of rom p)))) refl
  where
    large : 256 ≤ number_of rom p
    large = rw e (over (byte_of rom p) (byte_of rom (p + 1))
        (leb-true 1 (byte_of rom p) (first (leb 1 (byte_of rom p)) (leb (byte_of rom p) 15) e)))
      where
        over : (a b : ℕ) → 1 ≤ a → 256 ≤ a * 256 + b
        over a b h = omega arith

        first : (a b : Bool) → (a && b) ≡ true → a ≡ true
        first true b e = refl
        first false b e = e

    by : (b : Bool) → hot_family (family_in (code_of (number_of rom p))) ≡ b → b ≡ false
    by true h = absurd (let k = (hot_token (number_of rom p) (holds _ h)).byte in let l = large in omega arith)
    by false h = refl

-- ---- nor is a number that is none of theirs
-- the numbers of the rows that pass a test, in the list's order
abbrev numbers_of : (Row → Bool) → List (ℕ × Row) → List ℕ
numbers_of f [] = []
numbers_of f (x ∷ xs) = pick (f x.1) (x.0 ∷ numbers_of f xs) (numbers_of f xs)

abbrev hot_row : Row → Bool
hot_row r = hot_family (family_in (packed r))

unfoldable pub hot_numbers : List ℕ
unfolding table ends lows highs doubles
hot_numbers = numbers_of hot_row table

hot_listed : (n : ℕ) → T (hot_family (family_in (code_of n))) → T (among n hot_numbers)
unfolding code_of hot_numbers table ends lows highs doubles
hot_listed n t =
    follows (hot_row (row_of n)) (among n hot_numbers) (rows_pass (λ m r. not (hot_row r) || among m hot_numbers) tt (λ m. tt) (λ m. tt) n)
    t

pub none_hot : (n : ℕ) → Beside (Unit {0}) hot_numbers n → hot_family (family_in (code_of n)) ≡ false
none_hot n r = never_true (hot_family (family_in (code_of n))) (λ t. none_left (Unit {0}) hot_numbers n r (hot_listed n t))

-- ---- a token that would start behind the program is cut off, whatever it is
behind_form : (rom : List ℕ) (wide : Bool) (p form : ℕ) → p ≤ behind_of rom wide p form
unfolding behind_of
behind_form rom wide p form =
    pick_is (λ x. p ≤ x) (eqb form 1) _ _ (λ t. omega arith)
    (λ t. pick_is (λ x. p ≤ x) (eqb form 2) _ _ (λ t. string p)
    (λ t. pick_is (λ x. p ≤ x) (eqb form 3) _ _ (λ t. pick_is (λ x. p ≤ p + x) wide 2 1 (λ t. omega arith) (λ t. omega arith))
    (λ t. pick_is (λ x. p ≤ x) (eqb form 4) _ _ (λ t. number p)
    (λ t. pick_is (λ x. p ≤ x) (eqb form 5) _ _ (λ t. let a = number p in omega arith)
    (λ t. pick_is (λ x. p ≤ x) (eqb form 6) _ _ (λ t. let a = number (behind_string rom p) in let b = string p in omega arith)
    (λ t. omega arith))))))
  where
    string : (q : ℕ) → q ≤ behind_string rom q
    string q = omega arith

    number : (q : ℕ) → q ≤ behind_number rom q
    number q = pick_is (λ x. q ≤ q + x) (is_double (byte_of rom q)) 2 1 (λ t. omega arith) (λ t. omega arith)

pub cut_off : (s : Scene) → s.state.length ≤ s.state.place → token_turn s ≡ refuse 10 s
unfolding token_turn read_of decode_of token_if_whole
cut_off s l = rw (lt-ltb s.state.length _ beyond)
  where
    first : s.state.place < behind_number s.rom s.state.place
    first = pick_is (λ x. s.state.place < s.state.place + x) (is_double (byte_of s.rom s.state.place)) 2 1 (λ t. omega arith)
        (λ t. omega arith)

    beyond : s.state.length
        < behind_of s.rom s.state.wide (behind_number s.rom s.state.place)
        (form_in (code_of (number_of s.rom s.state.place)))
    beyond =
        let a = first in
        let b = behind_form s.rom s.state.wide (behind_number s.rom s.state.place)
        (form_in (code_of (number_of s.rom s.state.place))) in
        omega arith
